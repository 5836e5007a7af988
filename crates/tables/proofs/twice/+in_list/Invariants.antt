use Rattle.std.proofs.Common.{◌≡◌, List, ◌≤◌, length, ◌-◌}
use Rattle.rules.specs.Enumerations.{Enum}
use Rattle.enumerations.specs.Standing.{Deep, ListAt}
use Rattle.tables.specs.Tables.{Entry, Filled, InGrid}
use Rattle.tables.proofs.CheckedLaws.{Going}
use Rattle.tables.proofs.twice.+in_list.Given as goal

abbrev pub decreases-in_list : goal.decreases-in_list
decreases-in_list l = l.left

abbrev pub invariant-loop-g : goal.invariant-loop-g
invariant-loop-g l =
    (l.list ≤ l.at) × (l.at ≤ length l.s) × (length l.table ≡ length l.initial.table)
    × ((e : Enum) (es : List Entry) → ListAt l.text l.s e l.list → Deep l.left e
    → InGrid l.g e l.list → Filled l.text l.s l.g l.initial.table es l.list
    → Going l.text l.s l.g l.left e es l.list l.table l.at)

abbrev pub decreases-loop-g : goal.decreases-loop-g
decreases-loop-g l = length l.s - l.at
