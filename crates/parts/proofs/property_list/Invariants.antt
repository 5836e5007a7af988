use Prim.Native.Nat.{◌-◌}
use Rattle.parts.proofs.PropertyLaws.{Loop}
use lib.ListN.{length}
use Rattle.parts.proofs.property_list.Given as goal

abbrev pub invariant-loop-owner : goal.invariant-loop-owner
invariant-loop-owner l = Loop l.text l.owner l.initial.have l.initial.z l.have l.z

abbrev pub decreases-loop-owner : goal.decreases-loop-owner
decreases-loop-owner l = length l.text - l.z.place
