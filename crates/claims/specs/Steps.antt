-- Document 01, "Types and bases": the base steps of what a text declares, and what a value reads as along them. A step
-- is read off the declarations by record number, as the book gives it; no step asks how a declaration was judged.
use Rattle.std.specs.Prelude.{◌≡◌, ◌⊎◌, ◌↔◌, true, false, List, [], ◌∷◌, ◌++◌, ℕ, length, eqb}
use Rattle.std.proofs.Math.Option.{Option, none, some}
use Rattle.rules.specs.All.{AnyIs, In}
use Rattle.rules.specs.Types.{Measure, unit_fits, Ty, unit_of, Value, legal, reading}
use Rattle.rules.specs.Declarations.{Link, Use, inline, of_domain, of_structure, ty_of, Attribute, Def, def, State}
use Rattle.rules.specs.Declarations.{known}
use Rattle.rules.specs.Declarations.{lookup, attribute_at, struct, unit, is_sort, measure_of}
use Rattle.rules.specs.Book.{Record, base_number, records, decl_records, attribute_records}
use Rattle.rules.specs.Judge.{is_domain, may_extend}

abbrev pub Declared : State → Def → Type 0
Declared s d = In d (known s.decls)

-- the definition that has a record number
abbrev pub numbered : State → ℕ → Option Def
numbered s k = lookup (λ d. eqb d.number k) (known s.decls)

abbrev pub first_of : State → List Link → Option Def
first_of s [] = none
first_of s (l ∷ bs) = numbered s l.number

-- what a domain, class, structure or unit extends: the definition with the record number that EXTENDS resolved
-- to where it was judged
abbrev pub base_of : State → Def → Option Def
base_of s d = first_of s d.bases

-- ---- domains: the base is what EXTENDS names
-- the value v of d reads at d's base, that reading at the base's base, and so on, one step at a time, as w at b
pub data Climbs (s : State) (d : Def) (v : Value) : Def → Value → Type 0 where
  start : Climbs s d v d v
  up : {b : Def} {w : Value} → Climbs s d v b w → (c : Def) (x : Value) → base_of s b ≡ some c
      → reading c.type w ≡ some x → Climbs s d v c x

-- w is legal at b, and where b has a base, w has a legal reading there
pub record DomainHolds (s : State) (b : Def) (w : Value) : Type 0 where
  pub here : legal b.type w ≡ true
  pub onward : (c : Def) → base_of s b ≡ some c
      → (x : Value) × (reading c.type w ≡ some x) × (legal c.type x ≡ true)

-- ---- attributes: the base is the nearest inherited one
-- a is the own attribute with the name n of the first class or structure that has one, from the base of c on
pub data Inherits (s : State) (n : List ℕ) (a : Attribute) : Def → Type 0 where
  near : {c : Def} (b : Def) → base_of s c ≡ some b → attribute_at n b.own ≡ some a → Inherits s n a c
  far : {c : Def} (b : Def) → base_of s c ≡ some b → attribute_at n b.own ≡ none → Inherits s n a b → Inherits s n a c

pub record Nearest (s : State) (a b : Attribute) : Type 0 where
  pub class : Def
  pub declared : Declared s class
  pub own : In a class.own
  pub inherits : Inherits s a.name.bytes b class

-- the domain that types an attribute, if one is named
abbrev pub domain_in : State → Use → Option Def
domain_in s (inline t) = none
domain_in s (of_domain l bs) = numbered s l.number
domain_in s (of_structure l bs) = none

-- the value v at a reads as w at its base b: if a names a domain, then so does b, and the steps run from the one domain
-- through every one between to the other; else it is the reading at b's type
pub data Passes (s : State) (a b : Attribute) (v w : Value) : Type 0 where
  through : (d e : Def) → domain_in s a.use_of ≡ some d → domain_in s b.use_of ≡ some e
      → Climbs s d v e w → Passes s a b v w
  straight : is_domain a.use_of ≡ false → reading (ty_of b.use_of) v ≡ some w → Passes s a b v w

-- the value v of a reads at a's base, that reading at the base's base, and so on, as w at b
pub data Rises (s : State) (a : Attribute) (v : Value) : Attribute → Value → Type 0 where
  start : Rises s a v a v
  up : {b : Attribute} {w : Value} → Rises s a v b w → (c : Attribute) (x : Value) → Nearest s b c
      → Passes s b c w x → Rises s a v c x

-- w is legal at b; where b names a domain, at that domain and all the way up from it; and where b has a base, w
-- has a legal reading there
pub record AttributeHolds (s : State) (b : Attribute) (w : Value) : Type 0 where
  pub here : legal (ty_of b.use_of) w ≡ true
  pub between : (d : Def) → domain_in s b.use_of ≡ some d → (e : Def) (x : Value)
      → Climbs s d w e x → DomainHolds s e x
  pub onward : (c : Attribute) → Nearest s b c → (x : Value) × Passes s b c w x × (legal (ty_of c.use_of) x ≡ true)

-- ---- all of it
pub record EveryReading (s : State) : Type 0 where
  pub domains : (d : Def) → Declared s d → (v : Value) → legal d.type v ≡ true → (b : Def) (w : Value)
      → Climbs s d v b w → DomainHolds s b w
  pub attributes : (c : Def) → Declared s c → (a : Attribute) → In a c.own → (v : Value)
      → legal (ty_of a.use_of) v ≡ true → (b : Attribute) (w : Value) → Rises s a v b w → AttributeHolds s b w

-- the steps are those of the book: what it gives as a base is the base's number, and there is a base where it gives
-- one; an attribute has one exactly if it is EXTENDED
pub record BookedBases (s : State) : Type 0 where
  pub definition : (d b : Def) → Declared s d → base_of s d ≡ some b → base_number d.bases ≡ b.number
  pub based : (d : Def) → Declared s d → (d.bases ≡ []) ⊎ ((b : Def) × (base_of s d ≡ some b))
  pub attribute : (a b : Attribute) → Nearest s a b → a.base ≡ some b.number
  pub nearest : (c : Def) → Declared s c → (a : Attribute) → In a c.own → (k : ℕ) → a.base ≡ some k
      → (b : Attribute) × Nearest s a b × (b.number ≡ k)
  pub flagged : (c : Def) → Declared s c → (a : Attribute) → In a c.own
      → (a.extended ≡ true) ↔ ((b : Attribute) × Nearest s a b)

-- and a definition's or attribute's number is that of its first record: so many records stand before those
-- that the book has of it
pub record StandsAt (s : State) (k : ℕ) (l : List Record) : Type 0 where
  pub before : List Record
  pub behind : List Record
  pub split : records s ≡ before ++ (l ++ behind)
  pub count : length before ≡ k

pub record RecordNumbers (s : State) : Type 0 where
  pub definition : (d : Def) → Declared s d → StandsAt s d.number (decl_records (def d))
  pub attribute : (c : Def) → Declared s c → (a : Attribute) → In a c.own
      → StandsAt s a.number (attribute_records a)

-- ---- from a definition up along what it extends
pub data Descends (s : State) (d : Def) : Def → Type 0 where
  itself : Descends s d d
  up : {b : Def} → Descends s d b → (c : Def) → base_of s b ≡ some c → Descends s d c

-- what it extends is of a sort that its own may extend; so a structure descends from structures alone
pub record SortsKept (s : State) : Type 0 where
  pub bases : (d b : Def) → Declared s d → base_of s d ≡ some b → may_extend d.sort b.sort ≡ true
  pub structures : (d e : Def) → Declared s d → is_sort struct d.sort ≡ true → Descends s d e
      → is_sort struct e.sort ≡ true

-- ---- units of numbers: the one of a type, if it has one, is a declared unit's
abbrev pub Measured : State → Ty → Type 0
Measured s t =
    AnyIs (λ (u : Measure). (d : Def) × Declared s d × (is_sort unit d.sort ≡ true) × (measure_of d ≡ u)) (unit_of t)

-- and one may stand where another is asked for exactly if it is that one or descends from it
pub record UnitsDeclared (s : State) : Type 0 where
  pub domains : (d : Def) → Declared s d → Measured s d.type
  pub attributes : (c : Def) → Declared s c → (a : Attribute) → In a c.own → Measured s (ty_of a.use_of)
  pub descent : (d e : Def) → Declared s d → Declared s e
      → (unit_fits (some (measure_of d)) (some (measure_of e)) ≡ true) ↔ Descends s d e
