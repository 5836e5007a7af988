-- Where an enumeration stands as records in the bytes s, with its names in the text t.
use Rattle.std.specs.Prelude.{◌≡◌, Bool, true, false, cond, not, List, [], ◌∷◌, ◌++◌, ℕ, ◌+◌, ◌-◌, ◌≤◌, ◌<◌, length}
use Rattle.std.specs.Prelude.{get_or, drop, Option, Some, None}
use Rattle.std.proofs.Math.Option.{none}
use Rattle.rules.specs.Names.{Name}
use Rattle.rules.specs.Symbols.{is_name_text}
use Rattle.rules.specs.Enumerations.{Enum, end, elem, final, twice}
use Rattle.rules.specs.Book.{bit, open_record, element_records, bytes}
use Rattle.ground.specs.Parts.{part}
use Rattle.ground.specs.declared.Name as code
use Rattle.enumerations.specs.Lists.{is_element, is_opening, written}
use Rattle.book.specs.Sizes.{element_size, list_size}

-- ---- what is said of an enumeration
-- a name is a part of the text, as a record holds it, and a word that is no reserved word
pub record InText (t : List ℕ) (n : Name) : Type 0 where
  pub fits : n.offset + length n.bytes ≤ length t
  pub there : part t n.offset (length n.bytes) ≡ n.bytes
  pub low : n.offset < 4294967296
  pub short : length n.bytes < 256
  pub text : is_name_text n.bytes ≡ true

abbrev pub Named : List ℕ → Enum → Type 0
Named t (end f) = Unit {0}
Named t (elem n i r) = InText t n × Named t i × Named t r

-- what is inside an element has no records
abbrev pub plain : Enum → Bool
plain (end f) = not f
plain (elem n i r) = false

-- nested at most k deep inside
abbrev pub DeepIn : Bool → ℕ → Type 0 → Type 0
DeepIn true k d = Unit {0}
DeepIn false k d = (0 < k) × d

abbrev pub Deep : ℕ → Enum → Type 0
Deep k (end f) = Unit {0}
Deep k (elem n i r) = DeepIn (plain i) k (Deep (k - 1) i) × Deep k r

-- the records of the whole enumeration e stand at p; it is nested at most 8 deep
pub record Stands (t s : List ℕ) (e : Enum) (p : ℕ) : Type 0 where
  pub more : List ℕ
  pub here : drop p s ≡ bytes (open_record e ∷ element_records e) ++ more
  pub named : Named t e
  pub deep : Deep 7 e

-- it can be a base: names in the text, nested at most 8 deep, no element twice
pub record Kept (t : List ℕ) (e : Enum) : Type 0 where
  pub named : Named t e
  pub deep : Deep 7 e
  pub once : twice e [] ≡ none

-- ---- of its lists
abbrev pub part_of : Name → code.Name
part_of n = record { offset = n.offset; len = length n.bytes }

pub record ElementAt (t s : List ℕ) (n : Name) (p : ℕ) : Type 0 where
  pub there : is_element s p ≡ true
  pub name : written s p ≡ part_of n
  pub in_text : InText t n

-- where a list that stands at p ends, past its close
abbrev pub end_of : Enum → ℕ → ℕ
end_of (end f) p = p + 1
end_of (elem n i r) p = end_of r (cond (plain i) (p + element_size) (end_of i (p + element_size + list_size)))

abbrev pub InsideBy : Bool → List ℕ → Bool → ℕ → Type 0 → Type 0
InsideBy true s f m l = is_opening s m ≡ false
InsideBy false s f m l = (is_opening s m ≡ true) × (get_or s (m + 1) 0 ≡ bit f 1) × l

-- the list e stands at p, with its close
abbrev pub ListAt : List ℕ → List ℕ → Enum → ℕ → Type 0
ListAt t s (end f) p = (p < length s) × (get_or s p 0 ≡ 15)
ListAt t s (elem n i r) p =
    ElementAt t s n p × InsideBy (plain i) s (final i) (p + element_size) (ListAt t s i (p + element_size + list_size))
    × ListAt t s r (cond (plain i) (p + element_size) (end_of i (p + element_size + list_size)))

-- what is inside an element stands at m
abbrev pub InsideAt : List ℕ → List ℕ → Enum → ℕ → Type 0
InsideAt t s i m = InsideBy (plain i) s (final i) m (ListAt t s i (m + 2))

-- the elements of the list e stand at p, and behind them no element
abbrev pub ElementsAt : List ℕ → List ℕ → Enum → ℕ → Type 0
ElementsAt t s (end f) p = is_element s p ≡ false
ElementsAt t s (elem n i r) p =
    ElementAt t s n p × InsideAt t s i (p + element_size)
    × ElementsAt t s r (cond (plain i) (p + element_size) (end_of i (p + element_size + list_size)))

-- the same in a list, if there is one
abbrev pub IsEmpty : Enum → Type 0
IsEmpty (end f) = Unit {0}
IsEmpty (elem n i r) = ⊥

abbrev pub ElementsOf : List ℕ → List ℕ → Enum → Option ℕ → Type 0
ElementsOf t s e None = IsEmpty e
ElementsOf t s e (Some p) = ElementsAt t s e p

-- what is inside an element stands at a place, or it has no records and there is none
abbrev pub InsideOf : List ℕ → List ℕ → Enum → Option ℕ → Type 0
InsideOf t s i None = plain i ≡ true
InsideOf t s i (Some m) = InsideAt t s i m
