use mathlib.Core.Path.{◌≡◌}
use mathlib.Core.List.{List, ◌++◌}
use Prim.Native.Nat.{◌+◌, ◌-◌, ◌≤◌}
use lib.ListN.{length, take, drop}
use Rattle.rules.specs.Declarations.{Attribute}
use Rattle.members.specs.Members.{Members, Unlike, Filled, nearest_to, most, Hand}
use Rattle.members.proofs.add_own.Given as goal

abbrev pub invariant-loop-q : goal.invariant-loop-q
invariant-loop-q l = (l.n ≤ most) × (l.count ≤ l.n) × Hand l.hand
    × ((ms g own more : List Attribute) → Members l.text ms l.rows l.total
    → Filled ms l.initial.hand l.count g → drop l.first ms ≡ own ++ more
    → l.last ≡ l.first + length own → Unlike own → length (nearest_to g own) ≤ most
    → Filled ms l.hand l.n (nearest_to g (take (l.q - l.first) own)))
