-- Document 01, "Types and bases", and document 02, No. 1 (units) and No. 2 (classes over structures), as claims about
-- `check`: what is accepted reads legally all the way up, in number and unit; 17 and 22 refuse only where a value shows
-- it, 17 by its number and 22 by its unit, and nothing is accepted where one does. A unit of the text, a declaration,
-- is a U.Unit; the unit of a number is a Measure.
use Rattle.std.specs.Prelude.{◌≡◌, false, ◌&&◌, List, ℕ, ◌≤◌}
use Rattle.std.proofs.Math.Option.{none, some}
use Rattle.rules.specs.Grammar.{Written}
use Rattle.rules.specs.Units as U
use Rattle.rules.specs.Types.{Ty, kind_of}
use Rattle.rules.specs.Declarations.{Use, ty_of, Attribute, Def, State}
use Rattle.rules.specs.Judge as J
use Rattle.rules.specs.Judge.{judge, resolved, domain_type, attribute_use, target_in, is_naming, descends}
use Rattle.rules.specs.Check.{Given, kept, run, accepting, refusing, check}
use Rattle.claims.specs.Readings.{Outside, NumberOutside, UnitOutside, UnitsDescend, UnitsKept}
use Rattle.claims.specs.Steps.{Inherits, EveryReading, BookedBases, RecordNumbers, SortsKept, UnitsDeclared}
use Rattle.claims.specs.Reached.{Judges}
use Rattle.claims.specs.Ranking.{rank}

-- ---- accepted: the text declares a state, with every class closed; every legal value reads legally at every base;
-- the bases are the book's and of sorts that may be extended, and the units of numbers are declared
pub record ModelReads (t : List ℕ) (g : Given) : Type 0 where
  pub state : State
  pub runs : run t g ≡ kept state
  pub closed : state.open_class ≡ none
  pub reads : EveryReading state
  pub bases : BookedBases state
  pub sorts : SortsKept state
  pub numbers : RecordNumbers state
  pub units : UnitsDeclared state

abbrev pub AcceptedReads : Type 0
AcceptedReads = (t : List ℕ) (g : Given) (n k : ℕ) → (check t g).answer ≡ accepting n k → ModelReads t g

-- ---- what is written, read in the state s: the type over a base's, b; and what types an attribute over its base a
abbrev pub type_over : State → Written → Ty → Ty
type_over s w b = domain_type w.type (target_in s w) b

abbrev pub use_over : State → Written → Attribute → Use
use_over s w a = attribute_use w.type (target_in s w) a.use_of

-- ---- 17 and 22: the declaration u, judged in the state s, puts the type t over the base's type b, and they judge
-- that step: a domain over what it extends; an attribute over the nearest inherited one, unless it names the base's
-- domain or structure or a descendant: its steps are then those of the domains between, each judged where
-- that domain was declared
abbrev pub Extends : State → U.Unit → Ty → Ty → Type 0
Extends s (U.header v) t b = ⊥
Extends s (U.model n q) t b = ⊥
Extends s (U.topic n) t b = ⊥
Extends s (U.class c n p r) t b = ⊥
Extends s (U.domain n p r w) t b =
    (d : Def) × (resolved s r ≡ some d) × (t ≡ type_over s w d.type) × (b ≡ d.type)
Extends s (U.attribute n p w) t b =
    (c : Def) × (a : Attribute) × (s.open_class ≡ some c) × Inherits s n.bytes a c
    × ((is_naming w.type && descends (use_over s w a) a.use_of) ≡ false)
    × (t ≡ ty_of (use_over s w a)) × (b ≡ ty_of a.use_of)
Extends s (U.unit n p r) t b = ⊥
Extends s (U.close n) t b = ⊥

-- a declaration that the number k refuses: of its type, which is of the base's kind, there is a legal value with an
-- illegal reading at the base; what shows it is said by Shown
pub record Misfit (t : List ℕ) (g : Given) (k p : ℕ) (Shown : Ty → Ty → Type 0) : Type 0 where
  pub state : State
  pub unit : U.Unit
  pub judges : Judges t g state unit
  pub refuses : judge state unit ≡ J.refused k p
  pub type : Ty
  pub base : Ty
  pub extends : Extends state unit type base
  pub kind : kind_of type ≡ kind_of base
  pub outside : Outside type base
  pub shown : Shown type base

-- 17: a legal value's number reads illegally, in whatever unit
abbrev pub Misnumbered : List ℕ → Given → ℕ → Type 0
Misnumbered t g p = Misfit t g 17 p NumberOutside

-- 22: a legal value's unit is neither the base's nor descends from it, or one of the two has none
abbrev pub Mismeasured : List ℕ → Given → ℕ → Type 0
Mismeasured t g p = Misfit t g 22 p UnitOutside

abbrev pub RefusedHasNumber : Type 0
RefusedHasNumber = (t : List ℕ) (g : Given) (p : ℕ) → (check t g).answer ≡ refusing t 17 p → Misnumbered t g p

abbrev pub RefusedHasUnit : Type 0
RefusedHasUnit = (t : List ℕ) (g : Given) (p : ℕ) → (check t g).answer ≡ refusing t 22 p → Mismeasured t g p

-- where there is a value with an illegal reading, the text is refused at that declaration: by 17 or a number before it
-- where the value's number shows it, by 22 or a number before it where only its unit does
pub record RefusedThere (t : List ℕ) (g : Given) (s : State) (u : U.Unit) (k : ℕ) : Type 0 where
  pub number : ℕ
  pub place : ℕ
  pub answers : (check t g).answer ≡ refusing t number place
  pub refuses : judge s u ≡ J.refused number place
  pub by : rank number ≤ rank k

abbrev pub ValueRefuses : Type 0
ValueRefuses =
    (t : List ℕ) (g : Given) (s : State) (u : U.Unit) → Judges t g s u → (x b : Ty) → Extends s u x b
    → Outside x b → RefusedThere t g s u 22

abbrev pub NumberRefuses : Type 0
NumberRefuses =
    (t : List ℕ) (g : Given) (s : State) (u : U.Unit) → Judges t g s u → (x b : Ty) → Extends s u x b
    → NumberOutside x b → RefusedThere t g s u 17

pub record Demand3 : Type 0 where
  pub accepted_reads : AcceptedReads
  pub refused_has_number : RefusedHasNumber
  pub refused_has_unit : RefusedHasUnit
  pub value_refuses : ValueRefuses
  pub number_refuses : NumberRefuses
  -- units descend from one another as 22 asks, and reading a number leaves it in its unit
  pub descend : UnitsDescend
  pub unit_kept : UnitsKept
