use mathlib.Core.Path.{refl}
use Rattle.attributes.proofs.HeadLaws.{no-base, base-in-slot}
use Rattle.attributes.proofs.base_number.Goals as goal

pub returns-then-slot-eq0 : goal.returns-then-slot-eq0
returns-then-slot-eq0 c = λ ms h k n f e. no-base ms h _ k n f c.args.slot e c.if-slot-eq0.true

pub returns-else-slot-eq0 : goal.returns-else-slot-eq0
returns-else-slot-eq0 c =
    λ ms h k n f e. base-in-slot ms h _ k n f c.args.slot e c.if-slot-eq0.false _ refl
