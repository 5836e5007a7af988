-- What a reader of the code promises of a reader of the rules. A fault goes on as a faulty symbol,
-- which no reader takes.
use Rattle.std.specs.Prelude.{◌≡◌, cond, List, [], ℕ, ◌≤◌, ◌<◌, length, eqb}
use Rattle.rules.specs.Names as rules-names
use Rattle.rules.specs.Symbols as rules
use Rattle.rules.specs.Symbols.{Fault, fault, symbol, end_of, Real}
use Rattle.rules.specs.Readers.{Result, done, refused, Reader}
use Rattle.ground.specs.Parts.{part}
use Rattle.symbols.specs.declared.Symbol.{Symbol}
use Rattle.places.specs.Standing.{line_at}
use Rattle.symbols.specs.Cut.{faulty_as, length_at, cut, next_of, Sound}
use Rattle.ground.specs.declared.Name.{Name}

-- ---- symbols
-- a symbol that is at fault by itself
abbrev pub fault_at : Fault → ℕ → rules.Symbol
fault_at f p = symbol (fault f) p []

-- z stands in the text t, on one line
pub record Stands (t : List ℕ) (z : rules.Symbol) : Type 0 where
  pub coded : Sound z.kind z.bytes
  pub ends : end_of z ≤ length t
  pub solid : Real z.kind → 0 < length z.bytes
  pub written : z.bytes ≡ part t z.place (length z.bytes)
  pub level : line_at t (end_of z) ≡ line_at t z.place

-- y is the symbol z of the text t
pub record Cuts (t : List ℕ) (z : rules.Symbol) (y : Symbol) : Type 0 where
  pub cuts : y ≡ cut t z
  pub stands : Stands t z

-- y is a symbol of the text t
abbrev pub Held : List ℕ → Symbol → Type 0
Held t y = (z : rules.Symbol) × Cuts t z y

-- the symbol behind y if y has the code k, and else y as a faulty one
abbrev pub passed : List ℕ → Symbol → ℕ → Symbol
passed t y k = cond (eqb y.code k) (next_of t y.next) (faulty_as y.refusal y)

abbrev pub named : Symbol → Name
named y = record { offset = y.place; len = length_at y }

abbrev pub name_cut : rules-names.Name → Name
name_cut n = record { offset = n.offset; len = length n.bytes }

-- ---- readers
-- the symbol that is left: a faulty one where reading is refused
abbrev pub rest : {A : Type 0} → Result A → rules.Symbol
rest (done a z) = z
rest (refused f p) = fault_at f p

-- Q holds of what is read, if anything is
abbrev pub On : {A : Type 0} → (A → Type 0) → Result A → Type 0
On Q (done a z) = Q a
On Q (refused f p) = Unit {0}

pub record Gives {A : Type 0} (t : List ℕ) (m : Result A) (Q : A → Type 0) (n : Symbol) : Type 0 where
  pub next : Cuts t (rest m) n
  pub value : On Q m

-- from the symbol y on, the code reads what R reads from it: Q holds of what is read, and n is the symbol that is left.
-- A faulty y is left as it is
pub record Reads {A : Type 0} (t : List ℕ) (R : Reader A) (Q : A → Type 0) (y n : Symbol) : Type 0 where
  pub reads : (z : rules.Symbol) → Cuts t z y → Gives t (R t z) Q n
  pub passes : (f : Fault) (p : ℕ) → Cuts t (fault_at f p) y → Cuts t (fault_at f p) n
