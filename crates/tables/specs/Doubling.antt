-- Doubled elements, as the code answers them.
use Rattle.std.specs.Prelude.{◌≡◌, List, [], ℕ, ◌≤◌, Some, None, Result, Ok, Err}
use Rattle.std.specs.Prelude.{Option as code·Option}
use Rattle.std.proofs.Math.Option.{Option, none, some}
use Rattle.rules.specs.Enumerations.{Enum, twice}
use Rattle.enumerations.specs.Standing.{end_of}
use Rattle.tables.specs.declared.Grid.{Grid}
use Rattle.tables.specs.Tables.{Entry, Grown}
use Rattle.tables.specs.declared.twice.Repeated.{Repeated}

abbrev pub checked_of : Option ℕ → ℕ → Result ℕ Repeated
checked_of none q = Ok q
checked_of (some p) q = Err (record { place = p })

-- the end of a list lies behind its start, within n bytes
abbrev pub PastIn : Result ℕ Repeated → ℕ → ℕ → Type 0
PastIn (Err d) l n = Unit {0}
PastIn (Ok q) l n = (l ≤ q) × (q ≤ n)

abbrev pub found_of : Option ℕ → code·Option ℕ
found_of none = None
found_of (some p) = Some p

-- a list's answer is its first doubled element, or where it ends; then its elements have joined those of the table
abbrev pub CheckedAs : List ℕ → List ℕ → Grid → List Entry → Enum → ℕ → List ℕ → Result ℕ Repeated → Type 0
CheckedAs t s g es e list z r =
    (r ≡ checked_of (twice e []) (end_of e list)) × (twice e [] ≡ none → Grown t s g es z list (end_of e list))
