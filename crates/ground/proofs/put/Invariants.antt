use mathlib.Core.Path.{◌≡◌}
use lib.Seq.{paste}
use Rattle.ground.proofs.put.Given as goal

abbrev pub invariant-loop-i : goal.invariant-loop-i
invariant-loop-i g l = l.out ≡ paste l.initial.out l.at l.src l.i
