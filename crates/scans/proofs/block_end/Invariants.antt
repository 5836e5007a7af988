use Prim.Native.Nat.{◌-◌}
use mathlib.Core.Path.{◌≡◌}
use lib.ListN.{length, drop}
use Rattle.scans.specs.Scans.{close_of}
use Rattle.scans.proofs.block_end.Given as goal

abbrev pub invariant-loop-i : goal.invariant-loop-i
invariant-loop-i l = close_of l.text (drop l.at l.text) l.at l.initial.on ≡ close_of l.text (drop l.i l.text) l.i l.on

abbrev pub decreases-loop-i : goal.decreases-loop-i
decreases-loop-i l = length l.text - l.i
