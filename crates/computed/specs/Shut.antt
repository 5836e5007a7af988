-- Document 01, "What a reader may rely on" and "Errors that look right": ways to check a text, and to read a number,
-- that the promises shut out.
use Rattle.std.specs.Prelude.{◌≡◌, List, ℕ, ◌-◌, ◌≤◌, ◌<◌, ◌^◌, length, take, replicate, ℤ, nat_abs}
use Rattle.std.specs.Int.Signed.{shr_z}
use Rattle.rules.specs.Numbers.{most_decimals, magnitude_limit, Read, reads, read_number}
use Rattle.rules.specs.Book.{definitions}
use Rattle.rules.specs.Show.{records_from}
use Rattle.rules.specs.Check.{lent, Refusal, refusal, accepting, refusing, Checked}
use Rattle.computed.specs.Cases.{model_of}
use Rattle.rules.specs.Promise.{Promise}

-- what is answered for a text and a lent buffer, and what the buffer then holds
abbrev pub Way : Type 0
Way = List ℕ → List ℕ → Checked

abbrev pub Keeps : Way → Type 0
Keeps f = (t b : List ℕ) → Promise t (lent (length b)) (f t b).answer (f t b).buffer

abbrev pub ShutOut : (Way → Type 0) → Type 0
ShutOut P = (f : Way) → P f → ¬ Keeps f

-- ---- ways that are none
abbrev pub RefusesAll : Way → Type 0
RefusesAll f = (t b : List ℕ) → (r : Refusal) × ((f t b).answer ≡ refusal r)

abbrev pub FixedBook : Way → Type 0
FixedBook f = (x : List ℕ) × ((t b : List ℕ) (n k : ℕ) → (f t b).answer ≡ accepting n k → take n (f t b).buffer ≡ x)

-- of some text the count is not that of the definitions among the records in the buffer
abbrev pub InventedCount : Way → Type 0
InventedCount f =
    (t b : List ℕ) × (n k : ℕ) × ((f t b).answer ≡ accepting n k)
    × (¬ (k ≡ definitions (records_from 0 (f t b).buffer)))

-- the buffer is left as it was lent
abbrev pub IdleRefusing : Way → Type 0
IdleRefusing f = (t b : List ℕ) (n p : ℕ) → (f t b).answer ≡ refusing t n p → (f t b).buffer ≡ b

abbrev pub IdleAccepting : Way → Type 0
IdleAccepting f = (t b : List ℕ) (n k : ℕ) → (f t b).answer ≡ accepting n k → (f t b).buffer ≡ b

-- the line, or the column, is given by the place alone: always 1, or counted from the text's front
abbrev pub LineOfPlace : Way → Type 0
LineOfPlace f = (l : ℕ → ℕ) × ((t b : List ℕ) (r : Refusal) → (f t b).answer ≡ refusal r → r.line ≡ l r.place)

abbrev pub ColumnOfPlace : Way → Type 0
ColumnOfPlace f = (c : ℕ → ℕ) × ((t b : List ℕ) (r : Refusal) → (f t b).answer ≡ refusal r → r.column ≡ c r.place)

-- ---- what is done with one text, where 256 bytes are lent
abbrev pub Accepts : List ℕ → Way → Type 0
Accepts t f = (n k : ℕ) × ((f t (replicate 256 0)).answer ≡ accepting n k)

abbrev pub Refuses : List ℕ → Way → Type 0
Refuses t f = (r : Refusal) × ((f t (replicate 256 0)).answer ≡ refusal r)

-- the first extension is right and a later one is not: of domains, and of an attribute
abbrev pub later_domain : List ℕ
later_domain = model_of "DOMAIN A=1..7;B EXTENDS A=1..7;C EXTENDS B=0..7;"

abbrev pub later_attribute : List ℕ
later_attribute =
    model_of "CLASS A=a:1..7;END A;CLASS B EXTENDS A=a(EXTENDED):1..7;END B;CLASS C EXTENDS B=a(EXTENDED):0..7;END C;"

-- the same of units: the first extension has a descendant, a later one goes back to the unit of the first base
abbrev pub later_unit : List ℕ
later_unit = model_of "UNIT a;b EXTENDS a;DOMAIN A=1..7[a];B EXTENDS A=1..7[b];C EXTENDS B=1..7[a];"

-- every step is right, and straight from the first to the last is not: 0.45 would read 0; of domains, and of an
-- attribute through domains
abbrev pub stepwise_domain : List ℕ
stepwise_domain = model_of "DOMAIN A=1..7;B EXTENDS A=0.5..7.0;C EXTENDS B=0.45..7.00;"

abbrev pub stepwise_attribute : List ℕ
stepwise_attribute = model_of
    "DOMAIN A=1..7;B EXTENDS A=0.5..7.0;C EXTENDS B=0.45..7.00;CLASS P=a:A;END P;CLASS Q EXTENDS P=a(EXTENDED):C;END Q;"

-- the same step taken straight
abbrev pub straight_domain : List ℕ
straight_domain = model_of "DOMAIN A=1..7;C EXTENDS A=0.45..7.00;"

-- ---- what is answered for a number with its decimals, read at a base's decimals
abbrev pub ReadingWay : Type 0
ReadingWay = ℤ → ℕ → ℕ → Read

abbrev pub KeepsReading : ReadingWay → Type 0
KeepsReading f = (v : ℤ) (d b : ℕ) → f v d b ≡ read_number v d b

-- where the base has fewer decimals, the digits stay as they are, or those too many are left away
abbrev pub Unrounded : ReadingWay → Type 0
Unrounded f = (v : ℤ) (d b : ℕ) → b < d → d ≤ most_decimals → nat_abs v < magnitude_limit → f v d b ≡ reads v

abbrev pub CutOff : ReadingWay → Type 0
CutOff f =
    (v : ℤ) (d b : ℕ) → b < d → d ≤ most_decimals → nat_abs v < magnitude_limit
    → f v d b ≡ reads (shr_z v (10 ^ (d - b)))

pub record Shut : Type 0 where
  -- there is a way that keeps it
  pub open_way : (f : Way) × Keeps f
  pub refusing : ShutOut RefusesAll
  pub one_book : ShutOut FixedBook
  pub invented_count : ShutOut InventedCount
  pub idle_refusing : ShutOut IdleRefusing
  pub idle_accepting : ShutOut IdleAccepting
  pub placed_line : ShutOut LineOfPlace
  pub placed_column : ShutOut ColumnOfPlace
  pub a_later_domain : ShutOut (Accepts later_domain)
  pub a_later_attribute : ShutOut (Accepts later_attribute)
  pub a_later_unit : ShutOut (Accepts later_unit)
  pub domain_stepwise : ShutOut (Refuses stepwise_domain)
  pub attribute_stepwise : ShutOut (Refuses stepwise_attribute)
  pub domain_straight : ShutOut (Accepts straight_domain)
  pub unrounded : (f : ReadingWay) → Unrounded f → ¬ KeepsReading f
  pub cut_off : (f : ReadingWay) → CutOff f → ¬ KeepsReading f
