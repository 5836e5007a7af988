use mathlib.Core.Path.{◌≡◌}
use Prim.Native.Nat.{◌+◌, ◌-◌, ◌≤◌, ◌<◌}
use lib.ListN.{length, drop}
use Rattle.rules.specs.Symbols.{quote}
use Rattle.symbols.proofs.string.Given as goal

abbrev pub invariant-loop-i : goal.invariant-loop-i
invariant-loop-i l =
    (l.at < l.i) × (l.i ≤ length l.text)
    × (quote (drop (l.at + 1) l.text) 0 0 ≡ quote (drop l.i l.text) 0 (l.i - (l.at + 1)))

abbrev pub decreases-loop-i : goal.decreases-loop-i
decreases-loop-i l = length l.text - l.i
