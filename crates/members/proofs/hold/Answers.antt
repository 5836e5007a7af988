use Prim.Native.Nat.{◌<◌}
use Rattle.members.specs.Members.{most}
use Rattle.members.proofs.OpenLaws.{hold-new, hold-old}
use native.Mathlib.Omega.{arith}
use Rattle.members.proofs.hold.Goals as goal

pub returns-then-r-eq0 : goal.returns-then-r-eq0
returns-then-r-eq0 c =
    let a = c.args in
    let v : a.n < most = c.requires.2 c.if-r-eq0.true in (
      omega arith,
      λ ms h b e k t f.
          hold-new ms a.hand.now a.n h b a.q a.number a.r e k t f c.if-r-eq0.true v c.requires.5,
    )

pub returns : goal.returns
returns c =
    let a = c.args in (
      omega arith,
      λ ms h b e k t f. hold-old ms a.hand.now a.n h b a.q a.number a.r e k t f c.if-r-eq0.false
          (omega arith) (omega arith) c.requires.5,
    )
