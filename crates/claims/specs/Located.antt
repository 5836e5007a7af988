-- Document 02, No. 6: what a refusal has for its line and column; how lines and columns are counted, which allows one
-- definition; where a line begins; that they determine a place; and that they keep the order of places.
use Rattle.std.specs.Prelude.{◌≡◌, ◌⊎◌, List, ℕ, suc, ◌-◌, ◌≤◌, ◌<◌, length, get_or}
use Rattle.rules.specs.Lines.{Position, position, position_of}
use Rattle.rules.specs.Check.{Given, Refusal, refusal, refusal_of, check}

-- ---- refusals
-- the line and the column are those of the place
pub record AtItsPlace (t : List ℕ) (r : Refusal) : Type 0 where
  pub line : r.line ≡ (position_of t r.place).line
  pub column : r.column ≡ (position_of t r.place).column

-- ---- counting
-- the byte at a place is the last of a line: LF, or CR without LF behind it
abbrev pub Ends : List ℕ → ℕ → Type 0
Ends t p = (get_or t p 0 ≡ 10) ⊎ ((get_or t p 0 ≡ 13) × ¬ (get_or t (suc p) 0 ≡ 10))

-- the text's front is at line 1 and column 1; behind a byte that ends a line the next line begins, and behind any
-- other the line goes on, a column for each byte
pub record Counts (f : List ℕ → ℕ → Position) : Type 0 where
  pub front : (t : List ℕ) → f t 0 ≡ position 1 1
  pub below : (t : List ℕ) (p : ℕ) → p < length t → Ends t p → f t (suc p) ≡ position (suc (f t p).line) 1
  pub beside : (t : List ℕ) (p : ℕ) → p < length t → ¬ Ends t p
      → f t (suc p) ≡ position (f t p).line (suc (f t p).column)

-- an earlier line, or the same line and a smaller column
abbrev pub Before : Position → Position → Type 0
Before a b = (a.line < b.line) ⊎ ((a.line ≡ b.line) × (a.column < b.column))

-- from 1, and at most one more than the place
abbrev pub Within : ℕ → ℕ → Type 0
Within p n = (1 ≤ n) × (n ≤ suc p)

pub record Located : Type 0 where
  pub refused : (t : List ℕ) (g : Given) (r : Refusal) → (check t g).answer ≡ refusal r → AtItsPlace t r
  -- a text that is too long is refused by 1 at line 1 and column 1, and no other is refused by 1
  pub long : (t : List ℕ) (g : Given) → 65535 < length t → (check t g).answer ≡ refusal_of 1 0 1 1
  pub only_long : (t : List ℕ) (g : Given) (r : Refusal) → (check t g).answer ≡ refusal r → r.number ≡ 1
      → 65535 < length t
  -- so are lines and columns counted, up to the end of the text, which is the last position; and in no other way
  pub counts : Counts position_of
  pub end : (t : List ℕ) (p : ℕ) → length t ≤ p → position_of t p ≡ position_of t (length t)
  pub only : (f : List ℕ → ℕ → Position) → Counts f → (t : List ℕ) (p : ℕ) → p ≤ length t → f t p ≡ position_of t p
  pub line_within : (t : List ℕ) (p : ℕ) → Within p (position_of t p).line
  pub column_within : (t : List ℕ) (p : ℕ) → Within p (position_of t p).column
  -- the line of a place begins as many places before it as it has columns before it
  pub begins : (t : List ℕ) (p c : ℕ) → p ≤ length t → (position_of t p).column ≡ suc c
      → position_of t (p - c) ≡ position (position_of t p).line 1
  -- later places stand later, so that no two have the same line and column
  pub ordered : (t : List ℕ) (p q : ℕ) → p < q → q ≤ length t → Before (position_of t p) (position_of t q)
  pub determined : (t : List ℕ) (p q : ℕ) → p ≤ length t → q ≤ length t → position_of t p ≡ position_of t q → p ≡ q
