use Prim.Native.Nat.{◌-◌}
use lib.ListN.{length}
use Rattle.state.specs.Desks.{Stays}
use Rattle.running.specs.Running.{Runs}
use Rattle.running.proofs.run.Given as goal

abbrev pub invariant-loop-next : goal.invariant-loop-next
invariant-loop-next l =
    Stays l.initial.desk l.desk × Runs l.desk l.stage

abbrev pub decreases-loop-next : goal.decreases-loop-next
decreases-loop-next l =
    length l.desk.text.now - l.stage.next.place
