use mathlib.Core.Path.{◌≡◌}
use Prim.Native.Nat.{◌-◌}
use lib.ListN.{length}
use Rattle.symbols.specs.Cut.{next_of}
use Rattle.symbols.proofs.Cursor.next.Given as goal

abbrev pub invariant-loop-at : goal.invariant-loop-at
invariant-loop-at l =
    next_of l.text (record { at = l.initial.at; line = l.initial.line })
    ≡ next_of l.text (record { at = l.at; line = l.line })

abbrev pub decreases-loop-at : goal.decreases-loop-at
decreases-loop-at l = length l.text - l.at
