use Rattle.std.proofs.Common.{length, ◌-◌, Some}
use Rattle.rules.specs.Enumerations.{Enum}
use Rattle.enumerations.specs.Standing.{Deep}
use Rattle.holding.specs.Holding.{Reads}
use Rattle.tables.specs.Tables.{Gathered}
use Rattle.holding.proofs.HoldLaws.{Rest}
use Rattle.holding.proofs.+fits_in.Given as goal

abbrev pub decreases-fits_in : goal.decreases-fits_in
decreases-fits_in l = l.left

abbrev pub invariant-loop-held : goal.invariant-loop-held
invariant-loop-held l =
    Gathered l.table.text.now l.table.s.now l.table.grid l.table.numbers.now → (e b : Enum)
    → Reads l.table.text.now l.table.s.now e (Some l.own) → Reads l.table.text.now l.table.s.now b l.base
    → Deep l.left e → Rest l.table.text.now l.table.s.now l.left e b l.at

abbrev pub decreases-loop-held : goal.decreases-loop-held
decreases-loop-held l = length l.table.s.now - l.at
