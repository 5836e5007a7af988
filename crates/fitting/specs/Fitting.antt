-- What the code makes of types by value.
use Rattle.std.specs.Prelude.{Bool, true, false, ◌&&◌, ℕ, eqb, leb, Option, Some, None}
use Rattle.numbers.specs.Bounds.{low_fits, high_fits}
use Rattle.fitting.specs.declared.Typing.{Typing}
use Rattle.fitting.specs.declared.Typing.TheVariants.{Text, Range, Numeric, Enumeration, Structure}
use Rattle.fitting.specs.declared.Sort as code
use Rattle.fitting.specs.declared.Sort.TheVariants as sort

abbrev pub is_numeric_by : Typing → Bool
is_numeric_by (Text k n) = false
is_numeric_by (Range d l h u) = false
is_numeric_by (Numeric u) = true
is_numeric_by (Enumeration p) = false
is_numeric_by Structure = false

abbrev pub unit_by : Typing → Option ℕ
unit_by (Text k n) = None
unit_by (Range d l h u) = u
unit_by (Numeric u) = u
unit_by (Enumeration p) = None
unit_by Structure = None

abbrev pub text_sort : Bool → code.Sort
text_sort true = sort.Lines
text_sort false = sort.Line

abbrev pub sort_of : Typing → code.Sort
sort_of (Text k n) = text_sort (eqb k 9)
sort_of (Range d l h u) = sort.Number
sort_of (Numeric u) = sort.Number
sort_of (Enumeration p) = sort.Enumeration
sort_of Structure = sort.Structure

-- ---- 17
abbrev pub limit_fits : Option ℕ → Option ℕ → Bool
limit_fits n None = true
limit_fits None (Some m) = false
limit_fits (Some n) (Some m) = leb n m

-- of types of one kind, but for enumerations
abbrev pub fits_by : Typing → Typing → Bool
fits_by (Text k n) (Text j m) = limit_fits n m
fits_by (Range d l h u) (Range e b c v) = low_fits d e l b && high_fits d e h c
fits_by (Numeric u) c = is_numeric_by c
fits_by c d = true
