use Prim.Native.Nat.{◌-◌, ◌≤◌}
use lib.ListN.{length}
use Rattle.records.specs.Finding.{Listed}
use Rattle.lines.proofs.list.Given as goal

abbrev pub invariant-loop-end : goal.invariant-loop-end
invariant-loop-end g l =
    (l.beginning ≤ length l.book) × (l.number ≤ l.beginning) × Listed l.book l.number l.beginning

abbrev pub decreases-loop-end : goal.decreases-loop-end
decreases-loop-end g l = length l.book - l.beginning
