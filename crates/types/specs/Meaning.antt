-- The records of a type by value.
use Rattle.std.specs.Prelude.{List, [], ◌∷◌, ℕ, Option, Some, None}
use Rattle.rules.specs.Book.{Record}
use Rattle.book.specs.Forms.{length_form, range_form}
use Rattle.fitting.specs.declared.Typing.{Typing}
use Rattle.fitting.specs.declared.Typing.TheVariants.{Text, Range, Numeric, Enumeration, Structure}

-- the record of a unit, by its record number
abbrev pub unit_records_by : Option ℕ → List Record
unit_records_by None = []
unit_records_by (Some n) = length_form 19 n ∷ []

-- what is written of a text without a greatest length is 0
abbrev pub written_limit : Option ℕ → ℕ
written_limit None = 0
written_limit (Some n) = n

-- the records of a type other than an enumeration
abbrev pub plain_records : Typing → List Record
plain_records (Text k n) = length_form k (written_limit n) ∷ []
plain_records (Range d l h u) = range_form d l h ∷ unit_records_by u
plain_records (Numeric u) = (11 ∷ []) ∷ unit_records_by u
plain_records (Enumeration p) = []
plain_records Structure = []
