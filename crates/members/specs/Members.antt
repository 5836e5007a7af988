-- What the code holds of attributes: a row of numbers for each, in text order; and in hand those of the open class, of
-- each name the nearest.
use Rattle.std.specs.Prelude.{◌≡◌, false, cond, List, [], ◌∷◌, ◌++◌, ℕ, ◌+◌, ◌*◌, ◌≤◌, length, get_or, drop}
use Rattle.std.proofs.Math.Option.{none, some}
use Rattle.rules.specs.Bytes.{same}
use Rattle.rules.specs.Declarations.{Attribute, Def, attributes_of, attribute_at, is_found, name_count}
use Rattle.rules.specs.Book.{flags}
use Rattle.names.specs.Index.{nth, entry, row, Named, Known, Chained, definition_width, first_column, last_column}

-- how many attributes a class has at most
abbrev pub most : ℕ
most = 256

-- ---- rows
-- how many numbers an attribute's row has
abbrev pub attribute_width : ℕ
attribute_width = 6

-- where a row has the place of its record, and the position of the definition that it names; the rest `Tells` lists
abbrev pub attribute_place_column : ℕ
attribute_place_column = 3

abbrev pub use_column : ℕ
use_column = 5

-- there are rows of attributes up to the position q
abbrev pub AttributeRows : List ℕ → ℕ → Type 0
AttributeRows y q = q * attribute_width + attribute_width ≤ length y

pub record Tells (t : List ℕ) (a : Attribute) (r : List ℕ) : Type 0 where
  pub named : Named t a.name
  pub offset : get_or r 0 0 ≡ a.name.offset
  pub size : get_or r 1 0 ≡ length a.name.bytes
  pub number : get_or r 2 0 ≡ a.number
  pub flagged : get_or r 4 0 ≡ flags false a.final a.extended a.mandatory

-- the rows y are those of the attributes ms
pub record Members (t : List ℕ) (ms : List Attribute) (y : List ℕ) (total : ℕ) : Type 0 where
  pub all : total ≡ length ms
  pub tells : (q : ℕ) (a : Attribute) → entry ms q ≡ some a → Tells t a (row attribute_width y q)

-- ---- names in one list
abbrev pub Unlike : List Attribute → Type 0
Unlike [] = Unit
Unlike (a ∷ l) = (attribute_at a.name.bytes l ≡ none) × Unlike l

-- the own attributes of a class stand behind one another, from its row's position on; their names differ, and with
-- those inherited they are not too many
pub record Owns (ms : List Attribute) (d : Def) (r : List ℕ) : Type 0 where
  pub last : get_or r last_column 0 ≡ get_or r first_column 0 + length d.own
  pub within : get_or r last_column 0 ≤ length ms
  pub more : List Attribute
  pub own : drop (get_or r first_column 0) ms ≡ d.own ++ more
  pub unlike : Unlike d.own
  pub few : name_count (attributes_of d) ≤ most

abbrev pub Owned : List Attribute → List Def → List ℕ → Type 0
Owned ms ks x = (p : ℕ) (d : Def) → entry ks p ≡ some d → Owns ms d (row definition_width x p)

-- the rows x are those of the definitions ks, the rows y those of the attributes ms
pub record Indexed (t : List ℕ) (ks : List Def) (ms : List Attribute) (x : List ℕ) (count : ℕ)
    (y : List ℕ) (total : ℕ) : Type 0 where
  pub known : Known t ks x count
  pub chained : Chained ks x
  pub owned : Owned ms ks x
  pub members : Members t ms y total

-- ---- the open class
-- the first of a name, counted from i + 1; 0 if there is none
abbrev pub slot_from : List ℕ → ℕ → List Attribute → ℕ
slot_from n i [] = 0
slot_from n i (a ∷ l) = let r = slot_from n (i + 1) l in cond (same n a.name.bytes) (i + 1) r

abbrev pub slot_of : List ℕ → List Attribute → ℕ
slot_of n l = slot_from n 0 l

-- behind those in hand, the attributes whose names are not among them
abbrev pub nearest_to : List Attribute → List Attribute → List Attribute
nearest_to h [] = h
nearest_to h (a ∷ l) =
    let r = nearest_to h l in
    let s = nearest_to (h ++ (a ∷ [])) l in
    cond (is_found (attribute_at a.name.bytes h)) r s

-- one more, unless its name is among g
abbrev pub unless_in : List Attribute → List Attribute → Attribute → List Attribute
unless_in g h a = cond (is_found (attribute_at a.name.bytes g)) h (h ++ (a ∷ []))

-- the attribute a in the place of the first of its name, or behind all
abbrev pub replaced : List Attribute → Attribute → List Attribute
replaced [] a = []
replaced (b ∷ l) a = let r = b ∷ replaced l a in cond (same a.name.bytes b.name.bytes) (a ∷ l) r

abbrev pub with_nearest : List Attribute → Attribute → List Attribute
with_nearest h a = cond (is_found (attribute_at a.name.bytes h)) (replaced h a) (h ++ (a ∷ []))

-- of each name the first
abbrev pub nearest : List Attribute → List Attribute
nearest l = nearest_to [] l

-- the hand has so many record numbers, and behind them as many positions
abbrev pub Hand : List ℕ → Type 0
Hand hs = length hs ≡ most + most

-- the first n of the hand are the attributes h
pub record Filled (ms : List Attribute) (hs : List ℕ) (n : ℕ) (h : List Attribute) : Type 0 where
  pub all : n ≡ length h
  pub at_position : (i : ℕ) (a : Attribute) → nth h i ≡ some a → entry ms (get_or hs (most + i) 0) ≡ some a
  pub at_number : (i : ℕ) (a : Attribute) → nth h i ≡ some a → get_or hs i 0 ≡ a.number
