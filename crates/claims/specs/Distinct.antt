-- Document 01, "Types and bases" and "Refusals in order", 9 and 17: no list of an enumeration that a text declares has
-- an element twice, so that 17 refuses an enumeration written over it exactly where it adds to a FINAL list or leaf.
use Rattle.std.specs.Prelude.{◌≡◌, Bool, true, List, [], ℕ}
use Rattle.std.proofs.Math.Option.{none, some}
use Rattle.rules.specs.Enumerations.{Enum, twice}
use Rattle.rules.specs.Types.{Ty, text, numeric, structure, enum, fits}
use Rattle.rules.specs.Units.{Where}
use Rattle.rules.specs.Declarations.{ty_of, Attribute, Def, attributes_of, State}
use Rattle.rules.specs.Judge.{merged_into}
use Rattle.rules.specs.Merged.{distinct, adds_nothing}
use Rattle.rules.specs.Check.{Given}
use Rattle.rules.specs.All.{In}
use Rattle.claims.specs.Steps.{Declared}
use Rattle.claims.specs.Reached.{Reaches}

abbrev pub distinct_in : Ty → Bool
distinct_in (text m n) = true
distinct_in (numeric r u) = true
distinct_in (enum e) = distinct e
distinct_in structure = true

-- of a type: its elements, and what 17 says of elements e that are written over it and pass 9
pub record Distinct (t : Ty) : Type 0 where
  pub elements : distinct_in t ≡ true
  pub added : (b e : Enum) → t ≡ enum b → twice e [] ≡ none → fits (merged_into t e) t ≡ adds_nothing e b

-- of all that is declared before a unit is judged, or at the end: definitions, their attributes, and those of the
-- class that is being read
pub record DistinctAt (s : State) : Type 0 where
  pub definition : (d : Def) → Declared s d → Distinct d.type
  pub attribute : (d : Def) → Declared s d → (a : Attribute) → In a (attributes_of d) → Distinct (ty_of a.use_of)
  pub member : (c : Def) → s.open_class ≡ some c → (a : Attribute)
      → In a (attributes_of c) → Distinct (ty_of a.use_of)

abbrev pub AllDistinct : Type 0
AllDistinct = (t : List ℕ) (g : Given) (f : ℕ) (w : Where) (s : State) (at : ℕ) → Reaches t g f w s at → DistinctAt s
