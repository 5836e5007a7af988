-- What the code holds of a state: for each definition and each attribute a row of numbers, in text order. A position is
-- counted from 1, and 0 is none.
use Rattle.std.specs.Prelude.{◌≡◌, Bool, false, ◌&&◌, ◌||◌, List, [], ◌∷◌, ℕ, zero, suc, ◌+◌, ◌*◌, ◌≤◌, ◌<◌, length}
use Rattle.std.specs.Prelude.{get_or, eqb}
use Rattle.std.proofs.Math.Option.{Option, none, some}
use Rattle.rules.specs.Bytes.{same}
use Rattle.rules.specs.Names.{Name}
use Rattle.rules.specs.Declarations.{sort_number, Def, attributes_of}
use Rattle.rules.specs.Book.{flags}
use Rattle.rules.specs.Judge.{or_no_def, bases_of}
use Rattle.ground.specs.Parts.{part}

-- ---- positions and rows
abbrev pub nth : {A : Type 0} → List A → ℕ → Option A
nth [] i = none
nth (a ∷ l) zero = some a
nth (a ∷ l) (suc i) = nth l i

abbrev pub entry : {A : Type 0} → List A → ℕ → Option A
entry l zero = none
entry l (suc i) = nth l i

-- the row of w numbers with position p
abbrev pub row : ℕ → List ℕ → ℕ → List ℕ
row w x p = part x (p * w) w

-- how many numbers a definition's row has
abbrev pub definition_width : ℕ
definition_width = 10

-- where a row has the place of its record, the position of its base, and those of its own attributes, from the first
-- to behind the last; before them it has what `Says` lists
abbrev pub place_column : ℕ
place_column = 6

abbrev pub base_column : ℕ
base_column = 7

abbrev pub first_column : ℕ
first_column = 8

abbrev pub last_column : ℕ
last_column = 9

-- there are rows of definitions up to the position p
abbrev pub Rows : List ℕ → ℕ → Type 0
Rows x p = p * definition_width + definition_width ≤ length x

-- ---- what a row says
-- the topic around a definition
abbrev pub home_number : Option ℕ → ℕ
home_number none = 0
home_number (some k) = k + 1

-- a name's bytes are those of the text
pub record Named (t : List ℕ) (n : Name) : Type 0 where
  pub within : n.offset + length n.bytes ≤ length t
  pub same_bytes : part t n.offset (length n.bytes) ≡ n.bytes

pub record Says (t : List ℕ) (d : Def) (r : List ℕ) : Type 0 where
  pub named : Named t d.name
  pub offset : get_or r 0 0 ≡ d.name.offset
  pub size : get_or r 1 0 ≡ length d.name.bytes
  pub home : get_or r 2 0 ≡ home_number d.home
  pub number : get_or r 3 0 ≡ d.number
  pub sort : get_or r 4 0 ≡ sort_number d.sort
  pub flagged : get_or r 5 0 ≡ flags d.abstract d.final false d.mandatory

-- the rows x are those of the definitions ks
pub record Known (t : List ℕ) (ks : List Def) (x : List ℕ) (count : ℕ) : Type 0 where
  pub all : count ≡ length ks
  pub says : (p : ℕ) (d : Def) → entry ks p ≡ some d → Says t d (row definition_width x p)

-- ---- looking up
-- a definition with a name and one of two homes
abbrev pub defined_at : List ℕ → ℕ → ℕ → Def → Bool
defined_at n low high d = same n d.name.bytes && (eqb (home_number d.home) low || eqb (home_number d.home) high)

-- ---- bases
-- the base stands before; what d has of its bases is what that has
pub record Based (ks : List Def) (p : ℕ) (d : Def) (r : List ℕ) : Type 0 where
  pub before : get_or r base_column 0 < p
  pub bases : bases_of (entry ks (get_or r base_column 0)) ≡ d.bases
  pub inherits : attributes_of (or_no_def (entry ks (get_or r base_column 0))) ≡ d.inherited

abbrev pub Chained : List Def → List ℕ → Type 0
Chained ks x = (p : ℕ) (d : Def) → entry ks p ≡ some d → Based ks p d (row definition_width x p)
