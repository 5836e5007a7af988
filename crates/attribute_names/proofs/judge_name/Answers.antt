use mathlib.Core.Path.{sym}
use Rattle.std.proofs.lemmas.Result.{err_from_is_err_and, IfOk-weaker}
use Rattle.rules.specs.Judge.{has_extended}
use Rattle.attribute_names.proofs.GivenLaws.{is-meant}
use Rattle.attribute_names.proofs.BondLaws.{no_own, within-are, name-broken, element-broken, bonds-are}
use native.Mathlib.Omega.{arith}
use Rattle.attribute_names.proofs.judge_name.Goals as goal

pub returns-in_err-slot-clause-bonds : goal.returns-in_err-slot-clause-bonds
returns-in_err-slot-clause-bonds c =
    let e = err_from_is_err_and c.from_residual.result c.from_residual.ensures.1 in
    rw (e.1, e.2) (
      tt,
      λ q d n p w o k ec g.
          name-broken q d n (has_extended p) w.type c.args.desk.now.hand.now c.args.st.context.in_hand _
          (c.in_err-slot.ensures.1 q d n p w o c.args.desk.now.scratch.now k ec g),
    )

pub returns-in_err-element_ruling-clause-bonds : goal.returns-in_err-element_ruling-clause-bonds
returns-in_err-element_ruling-clause-bonds c =
    let e = err_from_is_err_and c.from_residual-in_err-element_ruling.result
    c.from_residual-in_err-element_ruling.ensures.1 in
    rw (e.1, e.2) (
      tt,
      λ q d n p w o k ec g.
          element-broken q d n (has_extended p) w.type c.args.desk.now.hand.now c.args.st.context.in_hand
          (c.in_ok-slot.ensures.1 q d n p w o c.args.desk.now.scratch.now k ec g).0 _
          (sym (c.in_err-element_ruling.ensures w.type
          (is-meant c.args.desk.now.text.now n p w c.args.desk.now.scratch.now c.args.a g)
          g.scratched)),
    )

pub returns-clause-bonds : goal.returns-clause-bonds
returns-clause-bonds c = (
  within-are c.args.st c.in_ok-slot.slot c.in_ok-slot.ensures.0 c.reach.result c.reach.ensures.0,
  λ q d n p w o k ec g.
      let (u, v) = c.in_ok-slot.ensures.1 q d n p w o c.args.desk.now.scratch.now k ec g in
      bonds-are q d n (has_extended p) w.type c.args.desk.now.hand.now c.args.st.context.in_hand u
      (sym (c.in_ok-element_ruling.ensures w.type
      (is-meant c.args.desk.now.text.now n p w c.args.desk.now.scratch.now c.args.a g)
      g.scratched))
      c.in_ok-slot.slot v c.reach.result (IfOk-weaker c.reach.result _ _ (λ _ h. h.0) c.reach.ensures.0)
      (c.reach.ensures.1 q d n p w o c.args.desk.now.scratch.now k ec g (no_own d n (has_extended p) u) v),
)
