use mathlib.Core.Path.{◌≡◌}
use Prim.Native.Nat.{ℕ, ◌-◌, ◌≤◌, ◌<◌}
use lib.ListN.{length}
use Rattle.enumerations.specs.Lists.{end_from}
use Rattle.enumerations.specs.declared.End.{End}
use Rattle.enumerations.proofs.list_end.Given as goal

abbrev pub invariant-loop-at : goal.invariant-loop-at
invariant-loop-at l =
    (l.list ≤ l.at) × (l.inner ≤ l.at) × (l.records ≤ l.at) × (l.records ≤ length l.s)
    × ((r : End) → ((g : ℕ) → length l.s - l.at < g → r ≡ end_from g l.s l.at l.inner l.records) → (f : ℕ)
    → length l.s - l.list < f → r ≡ end_from f l.s l.list 0 0)

abbrev pub decreases-loop-at : goal.decreases-loop-at
decreases-loop-at l = length l.s - l.at
