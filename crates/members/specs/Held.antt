-- What the code holds of a state as a whole: every row says what its definition or attribute is, and where its
-- records stand in the book.
use Rattle.std.specs.Prelude.{◌≡◌, List, [], ◌∷◌, ◌++◌, ℕ, ◌≤◌, ◌<◌, length, get_or, drop}
use Rattle.std.proofs.Math.Option.{Option, none, some}
use Rattle.rules.specs.All.{All}
use Rattle.rules.specs.Types.{Ty}
use Rattle.rules.specs.Declarations as D
use Rattle.rules.specs.Declarations.{Use, inline, ty_of, Attribute, Sort, Def, attributes_of, attribute_at, name_count}
use Rattle.rules.specs.Declarations.{State, known}
use Rattle.rules.specs.Book.{Record, name_record, def_record, type_records, attribute_records, book}
use Rattle.rules.specs.Judge.{naming}
use Rattle.names.specs.Index.{entry, row, Says, Based, definition_width, place_column, first_column}
use Rattle.members.specs.Members.{Tells, Unlike, Owns, Filled, attribute_width, attribute_place_column, use_column}
use Rattle.members.specs.Members.{most}
use Rattle.book.specs.Places.{Stands}

-- the record of a definition, and a domain's type
abbrev pub heading : Sort → Def → List Record
heading D.topic d = name_record 2 d.name ∷ []
heading D.class d = def_record 4 d ∷ []
heading D.struct d = def_record 5 d ∷ []
heading D.domain d = def_record 7 d ∷ type_records d.type
heading D.unit d = def_record 18 d ∷ []

-- what a domain or structure gives as a type; else the type t in place
abbrev pub use_for : Option Def → Ty → Use
use_for none t = inline t
use_for (some d) t = naming d

-- ---- rows
pub record DefRow (t b : List ℕ) (ks : List Def) (ms : List Attribute) (p : ℕ) (d : Def) (r : List ℕ) : Type 0 where
  pub says : Says t d r
  pub based : Based ks p d r
  pub owns : Owns ms d r
  pub stands : Stands b (get_or r place_column 0) (heading d.sort d)

pub record AttributeRow (t b : List ℕ) (ks : List Def) (a : Attribute) (r : List ℕ) : Type 0 where
  pub tells : Tells t a r
  pub stands : Stands b (get_or r attribute_place_column 0) (attribute_records a)
  pub use_known : get_or r use_column 0 ≤ length ks
  pub uses : use_for (entry ks (get_or r use_column 0)) (ty_of a.use_of) ≡ a.use_of

-- ---- the relation: text, book, definitions, attributes; rows of definitions and their count, rows
-- of attributes and theirs
pub record Held (t b : List ℕ) (ks : List Def) (ms : List Attribute) (x : List ℕ) (count : ℕ)
    (y : List ℕ) (total : ℕ) : Type 0 where
  pub all_defs : count ≡ length ks
  pub all_attributes : total ≡ length ms
  pub def_rows : (p : ℕ) (d : Def) → entry ks p ≡ some d → DefRow t b ks ms p d (row definition_width x p)
  pub attribute_rows : (q : ℕ) (a : Attribute) → entry ms q ≡ some a → AttributeRow t b ks a (row attribute_width y q)

-- ---- the open class: its row, which tells nothing of its own attributes' end yet, and the hand
pub record OpenRow (t b : List ℕ) (ks : List Def) (ms : List Attribute) (p : ℕ) (c : Def) (r : List ℕ) : Type 0 where
  pub says : Says t c r
  pub based : Based ks p c r
  pub within : get_or r first_column 0 ≤ length ms
  pub own : drop (get_or r first_column 0) ms ≡ c.own
  pub unlike : Unlike c.own
  pub few : name_count (attributes_of c) ≤ most
  pub stands : Stands b (get_or r place_column 0) (heading c.sort c)

pub record Opened (ms : List Attribute) (hs : List ℕ) (n : ℕ) (c : Def) : Type 0 where
  pub hand : List Attribute
  pub filled : Filled ms hs n hand
  pub finds : (m : List ℕ) → attribute_at m hand ≡ attribute_at m (attributes_of c)
  pub counts : n ≡ name_count (attributes_of c)

-- the attributes of a definition, if there is one, are in hand
abbrev pub InHand : List Attribute → List ℕ → ℕ → Option Def → Type 0
InHand ms hs n none = Unit
InHand ms hs n (some d) = Opened ms hs n d

-- a fact of every state that is reached: the records of a class's own attributes stand behind its own, those
-- of inherited ones before
pub record Apart (c : Def) : Type 0 where
  pub own_behind : All (λ (a : Attribute). c.number < a.number) c.own
  pub inherited_before : All (λ (a : Attribute). a.number < c.number) c.inherited

-- ---- of a state
abbrev pub owns_of : List Def → List Attribute
owns_of [] = []
owns_of (d ∷ l) = d.own ++ owns_of l

abbrev pub open_own : Option Def → List Attribute
open_own none = []
open_own (some c) = c.own

-- all attributes so far, in text order
abbrev pub attributes_in : State → List Attribute
attributes_in s = owns_of (known s.decls) ++ open_own s.open_class

abbrev pub HeldIn : List ℕ → State → List ℕ → ℕ → List ℕ → ℕ → Type 0
HeldIn t s x count y total = Held t (book s) (known s.decls) (attributes_in s) x count y total
