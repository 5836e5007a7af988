use mathlib.Core.Path.{◌≡◌}
use mathlib.Core.List.{List}
use Prim.Native.Nat.{ℕ, ◌≤◌}
use Rattle.rules.specs.Declarations.{Def}
use Rattle.rules.specs.Judge.{bases_of, is_among}
use Rattle.names.specs.Index.{entry, Known, Chained}
use Rattle.names.proofs.descends.Given as goal

abbrev pub invariant-loop-at : goal.invariant-loop-at
invariant-loop-at l = (l.at ≤ l.p)
    × ((t : List ℕ) (ks : List Def) → Known t ks l.index l.count → Chained ks l.index
    → is_among l.number (bases_of (entry ks l.p)) ≡ is_among l.number (bases_of (entry ks l.at)))

abbrev pub decreases-loop-at : goal.decreases-loop-at
decreases-loop-at l = l.at
