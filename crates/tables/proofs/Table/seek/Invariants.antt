use Rattle.std.proofs.Common.{List, ℕ, ◌<◌}
use Rattle.tables.specs.Tables.{Entry, number_of, Filled}
use Rattle.tables.proofs.TableLaws.{Behind}
use Rattle.tables.proofs.Table.seek.Given as goal

abbrev pub invariant-loop-at : goal.invariant-loop-at
invariant-loop-at l =
    (number_of l.at < 4294967296)
    × ((es : List Entry) (p : ℕ) → Filled l.self.text.now l.self.s.now l.self.grid l.self.numbers.now es p
    → Behind l.self.text.now l.self.s.now l.self.grid l.self.numbers.now l.list l.name es (number_of l.at))

abbrev pub decreases-loop-at : goal.decreases-loop-at
decreases-loop-at l = number_of l.at
