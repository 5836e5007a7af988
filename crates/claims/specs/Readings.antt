-- Document 01, "Types and bases", and document 02, No. 1 (units), as claims: 17 and 22 together refuse exactly the
-- types of which some legal value has an illegal reading at the base; 17 judges its number alone, 22 its unit.
use Rattle.std.specs.Prelude.{◌≡◌, ◌↔◌, Bool, true, false, ◌&&◌, List, [], ◌∷◌, ℕ}
use Rattle.std.proofs.Math.Option.{Option, none, some}
use Rattle.std.specs.Int.Signed.{le_z}
use Rattle.rules.specs.Numbers.{Range}
use Rattle.rules.specs.Enumerations.{Enum}
use Rattle.rules.specs.Types.{Measure, unit_fits, Ty, text, numeric, structure, enum, kind_of, unit_of, Value, string}
use Rattle.rules.specs.Types.{number, path, legal, reading, fits, keeps_unit}

-- ---- readings: there is one, and it is legal
abbrev pub is_legal : Ty → Option Value → Bool
is_legal b none = false
is_legal b (some w) = legal b w

abbrev pub readable : Ty → Value → Bool
readable b v = is_legal b (reading b v)

-- the reading at the last of some types, one step after the other
abbrev pub through : List Ty → Value → Option Value
through [] v = some v
through (b ∷ l) v = onward (reading b v) (through l)
  where
    onward : Option Value → (Value → Option Value) → Option Value
    onward none k = none
    onward (some w) k = k w

-- there is a reading at each of them, and each is legal
abbrev pub reads : List Ty → Value → Bool
reads [] v = true
reads (b ∷ l) v = onward (reading b v) (legal b) (reads l)
  where
    onward : Option Value → (Value → Bool) → (Value → Bool) → Bool
    onward none p k = false
    onward (some w) p k = p w && k w

-- ---- all values of t read legally at b, or one does not: that one is at hand
abbrev pub Inside : Ty → Ty → Type 0
Inside t b = (v : Value) → legal t v ≡ true → readable b v ≡ true

abbrev pub Outside : Ty → Ty → Type 0
Outside t b = (v : Value) × (legal t v ≡ true) × (readable b v ≡ false)

-- ---- the number alone and the unit alone: the unit of a value, and the same number with another unit, or none
abbrev pub unit_in : Value → Option Measure
unit_in (string s) = none
unit_in (number d v u) = u
unit_in (path p) = none

abbrev pub in_unit : Option Measure → Value → Value
in_unit u (string s) = string s
in_unit u (number d v w) = number d v u
in_unit u (path p) = path p

-- all values of t would read legally in b's unit; or one, in t's own unit, reads illegally whatever unit it had
abbrev pub NumberInside : Ty → Ty → Type 0
NumberInside t b = (v : Value) → legal t v ≡ true → readable b (in_unit (unit_of b) v) ≡ true

abbrev pub NumberOutside : Ty → Ty → Type 0
NumberOutside t b =
    (v : Value) × (legal t v ≡ true) × (unit_in v ≡ unit_of t)
    × ((u : Option Measure) → readable b (in_unit u v) ≡ false)

-- all values of t have a unit that b allows; or there is one in t's own unit, which b does not allow
abbrev pub UnitInside : Ty → Ty → Type 0
UnitInside t b = (v : Value) → legal t v ≡ true → unit_fits (unit_in v) (unit_of b) ≡ true

abbrev pub UnitOutside : Ty → Ty → Type 0
UnitOutside t b =
    (v : Value) × (legal t v ≡ true) × (unit_in v ≡ unit_of t) × (unit_fits (unit_in v) (unit_of b) ≡ false)

-- ---- what 17 and 22 say is so, in both directions and for both answers
abbrev pub Says : Bool → Type 0 → Type 0 → Type 0
Says x A B = ((x ≡ true) ↔ A) × ((x ≡ false) ↔ B)

pub record Judged (t b : Ty) : Type 0 where
  pub both : Says (fits t b && keeps_unit t b) (Inside t b) (Outside t b)
  pub by_17 : Says (fits t b) (NumberInside t b) (NumberOutside t b)
  pub by_22 : Says (keeps_unit t b) (UnitInside t b) (UnitOutside t b)

-- a range's first bound is not greater: by 14 no other comes to 17. One whose first bound is greater has no legal
-- value, and its bounds would be judged all the same
abbrev pub proper : Ty → Bool
proper (text m n) = true
proper (numeric none u) = true
proper (numeric (some r) u) = le_z r.low r.high
proper (enum e) = true
proper structure = true

-- ---- the claims: for each kind, and for all
abbrev pub TextsJudged : Type 0
TextsJudged = (m : Bool) (n l : Option ℕ) → Judged (text m n) (text m l)

abbrev pub NumbersJudged : Type 0
NumbersJudged =
    (r b : Option Range) (u w : Option Measure) → proper (numeric r u) ≡ true → Judged (numeric r u) (numeric b w)

abbrev pub EnumerationsJudged : Type 0
EnumerationsJudged = (e b : Enum) → Judged (enum e) (enum b)

abbrev pub TypesJudged : Type 0
TypesJudged = (t b : Ty) → proper t ≡ true → kind_of t ≡ kind_of b → Judged t b

-- kinds have to be alike, as they are after 16: TEXT over MTEXT does not fit, though every value has a legal reading
abbrev pub KindsTold : Type 0
KindsTold = (n : Option ℕ) → (fits (text false n) (text true n) ≡ false) × Inside (text false n) (text true n)

-- ---- a unit may stand for itself, and for all that what it stands for may stand for: so a unit that is kept all the
-- way up is legal at every base; and two that stand for one another are one
pub record UnitsDescend : Type 0 where
  pub itself : (u : Option Measure) → unit_fits u u ≡ true
  pub onward : (u v w : Option Measure) → unit_fits u v ≡ true → unit_fits v w ≡ true → unit_fits u w ≡ true
  pub one : (u v : Option Measure) → unit_fits u v ≡ true → unit_fits v u ≡ true → u ≡ v

-- a reading has the value's own unit: nothing is converted
abbrev pub UnitsKept : Type 0
UnitsKept = (b : Ty) (v w : Value) → reading b v ≡ some w → unit_in w ≡ unit_in v

-- ---- along types of which each fits the next in number and unit, a legal value of the first has a legal reading at
-- each, one step after the other
abbrev pub Stair : Ty → List Ty → Type 0
Stair t [] = Unit
Stair t (b ∷ l) = (fits t b ≡ true) × (keeps_unit t b ≡ true) × Stair b l

abbrev pub StairsRead : Type 0
StairsRead = (t : Ty) (l : List Ty) → Stair t l → (v : Value) → legal t v ≡ true → reads l v ≡ true
