use Rattle.attribute_names.proofs.NameLaws.{no_slot, at_slot, slot-within}
use native.Mathlib.Omega.{arith}
use mathlib.Core.Path.{refl}
use Rattle.attribute_names.proofs.found_at.Goals as goal

pub returns-then-slot-eq0 : goal.returns-then-slot-eq0
returns-then-slot-eq0 c = (omega arith, λ ms h k n et f e. no_slot ms h _ k n f c.args.slot e c.if-slot-eq0.true)

pub returns-then-q-total : goal.returns-then-q-total
returns-then-q-total c = (
  omega (arith, c.if-q-total.true),
  λ ms h k n et f e. at_slot ms h _ k n f c.args.slot e c.if-slot-eq0.false _ refl,
)

pub returns-else-q-total : goal.returns-else-q-total
returns-else-q-total c = (
  omega arith,
  λ ms h k n et f e.
      let v = slot-within ms h _ k n f c.args.slot e c.if-slot-eq0.false _ refl in
      absurd (omega (arith, c.if-q-total.false)),
)
