use Rattle.members.proofs.MemberLaws.{told-inside}
use Rattle.members.proofs.FillLaws.{kept_out, put_in}
use native.Mathlib.Omega.{arith}
use Rattle.members.proofs.add.Goals as goal

pub returns-then-find_attribute-eq0 : goal.returns-then-find_attribute-eq0
returns-then-find_attribute-eq0 c = (
  omega arith,
  omega arith,
  λ ms g h a k e fg fh w. put_in c.args.text.now ms c.args.rows.now c.args.total k
      c.args.q a e g h c.args.hand.now c.args.n fh _ _ _ c.member.ensures.0 c.member-then-n-lt-MOST.ensures.0
      (c.find_attribute.ensures.1 ms g k fg) c.if-find_attribute-eq0.true _
      c.member-then-find_attribute-eq0.ensures.0 (omega arith) (omega arith),
)

pub returns-else-find_attribute-eq0 : goal.returns-else-find_attribute-eq0
returns-else-find_attribute-eq0 c = (
  omega arith,
  omega arith,
  λ ms g h a k e fg fh w. kept_out c.args.text.now ms c.args.rows.now c.args.total k
      c.args.q a e g h c.args.hand.now c.args.n fh _ _ _ c.member.ensures.0 c.member-then-n-lt-MOST.ensures.0
      (c.find_attribute.ensures.1 ms g k fg) c.if-find_attribute-eq0.false,
)

pub returns-else-name-text : goal.returns-else-name-text
returns-else-name-text c = (
  omega arith,
  omega arith,
  λ ms g h a k e fg fh w.
      let v = told-inside c.args.text.now a _ c.args.text.now (k.tells c.args.q a e) _ _
      c.member.ensures.0 c.member-then-n-lt-MOST.ensures.0 in
      absurd (omega (arith, c.if-name-text.false)),
)
