-- Types by value, as the code holds them.
use Rattle.std.specs.Prelude.{◌≡◌, List, ℕ, ◌≤◌, ◌<◌, nat_abs, Some, None, Option as code·Option}
use Rattle.std.proofs.Math.Option.{Option, none, some}
use Rattle.rules.specs.Numbers as N
use Rattle.rules.specs.Numbers.{most_decimals, magnitude_limit}
use Rattle.rules.specs.Types.{Measure, Ty, text, numeric, structure, enum, unit_of}
use Rattle.rules.specs.All.{AnyIs}
use Rattle.book.specs.Forms.{text_kind}
use Rattle.enumerations.specs.Standing.{Stands}
use Rattle.wellformed.specs.Fairness.{Fair}
use Rattle.fitting.specs.declared.Typing.{Typing}
use Rattle.fitting.specs.declared.Typing.TheVariants.{Text, Range, Numeric, Enumeration, Structure}

-- the unit's record number
abbrev pub unit_number : Option Measure → code·Option ℕ
unit_number none = None
unit_number (some u) = Some u.number

-- the greatest length of a text
abbrev pub limit_by : Option ℕ → code·Option ℕ
limit_by none = None
limit_by (some n) = Some n

abbrev pub number_by : Option N.Range → Option Measure → Typing
number_by none u = Numeric (unit_number u)
number_by (some r) u = Range r.decimals r.low r.high (unit_number u)

-- of an enumeration it says nothing more
abbrev pub Valued : Ty → Typing → Type 0
Valued (text m n) c = c ≡ Text (text_kind m) (limit_by n)
Valued (numeric r u) c = c ≡ number_by r u
Valued (enum e) c = (p : ℕ) × (c ≡ Enumeration p)
Valued structure c = c ≡ Structure

-- the value of a type of the text t, whose enumeration stands in the book b
abbrev pub Typed : List ℕ → List ℕ → Ty → Typing → Type 0
Typed t b (text m n) c = c ≡ Text (text_kind m) (limit_by n)
Typed t b (numeric r u) c = c ≡ number_by r u
Typed t b (enum e) c = (p : ℕ) × (c ≡ Enumeration p) × Stands t b e p
Typed t b structure c = c ≡ Structure

-- decimals and bounds are within the limits
abbrev pub Sized : Typing → Type 0
Sized (Text k n) = Unit {0}
Sized (Range d l h u) = (d ≤ most_decimals) × (nat_abs l < magnitude_limit) × (nat_abs h < magnitude_limit)
Sized (Numeric u) = Unit {0}
Sized (Enumeration p) = Unit {0}
Sized Structure = Unit {0}

-- the unit's record number takes four bytes
abbrev pub UnitNumbered : Ty → Type 0
UnitNumbered x = AnyIs (λ (u : Measure). u.number < 4294967296) (unit_of x)

-- a type that gives values, or none
abbrev pub FairOrNone : List ℕ → Ty → Type 0
FairOrNone t (text m n) = Fair t (text m n)
FairOrNone t (numeric r u) = Fair t (numeric r u)
FairOrNone t (enum e) = Fair t (enum e)
FairOrNone t structure = Unit {0}
