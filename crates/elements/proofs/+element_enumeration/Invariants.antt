use Rattle.std.proofs.Common.{◌+◌, ◌*◌, length, ◌-◌}
use Rattle.elements.proofs.LoopLaws.{Loop}
use Rattle.elements.proofs.+element_enumeration.Given as goal

abbrev pub decreases-element : goal.decreases-element
decreases-element l = 2 * l.nesting + 1

abbrev pub decreases-enumeration : goal.decreases-enumeration
decreases-enumeration l = 2 * l.nesting

abbrev pub invariant-enumeration-loop-scratch : goal.invariant-enumeration-loop-scratch
invariant-enumeration-loop-scratch l =
    Loop l.text l.start l.nesting l.initial.scratch l.initial.z l.initial.at l.scratch l.z l.at

abbrev pub decreases-enumeration-loop-scratch : goal.decreases-enumeration-loop-scratch
decreases-enumeration-loop-scratch l = length l.text - l.z.place
