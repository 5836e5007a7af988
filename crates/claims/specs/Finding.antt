-- Document 02, No. 3: finding a record and showing its name, one after the other, give for every input what document
-- 01, "The book", has as one operation; that definition stands here, to say so.
use Rattle.std.specs.Prelude.{◌≡◌, List, [], ◌∷◌, ℕ, zero, suc, ◌+◌, ◌≤◌, ◌<◌, length, drop}
use Rattle.std.proofs.Math.Option.{Option, none, some}
use Rattle.rules.specs.Book.{Record}
use Rattle.rules.specs.Show.{records_from, records_at, Part, no_part, name_in, find_record, show_name}

abbrev pub name_at : List ℕ → List Record → ℕ → Part
name_at t [] k = no_part
name_at t (r ∷ l) zero = name_in t r
name_at t (r ∷ l) (suc k) = name_at t l k

-- the name of the record with number k
unfoldable pub name_of : List ℕ → List ℕ → ℕ → Part
name_of t b k = name_at t (records_from 0 b) k

-- what was found is shown; the empty part at the text's start where nothing was
abbrev pub shown_at : List ℕ → List ℕ → Option ℕ → Part
shown_at t b none = no_part
shown_at t b (some i) = show_name t b i

-- a place that was found behind another
abbrev pub behind : ℕ → Option ℕ → Option ℕ
behind i none = none
behind i (some j) = some (i + j)

pub record FoundShown : Type 0 where
  -- the two in a row; and from any byte the name of the first record there
  pub in_a_row : (t b : List ℕ) (k : ℕ) → shown_at t b (find_record b k) ≡ name_of t b k
  pub anywhere : (t b : List ℕ) (i : ℕ) → show_name t b i ≡ name_of t (drop i b) 0
  -- every record is found, with a name or without, where it and those behind it are read
  pub there : (b : List ℕ) (k : ℕ) → k < length (records_from 0 b) → (i : ℕ) × (find_record b k ≡ some i)
  pub reads : (b : List ℕ) (k i : ℕ) → find_record b k ≡ some i → records_at b i ≡ drop k (records_from 0 b)
  -- what is found is a byte of the book, and from its end on nothing is shown
  pub inside : (b : List ℕ) (k i : ℕ) → find_record b k ≡ some i → i < length b
  pub outside : (t b : List ℕ) (i : ℕ) → length b ≤ i → show_name t b i ≡ no_part
  -- from a record that was found the next ones are found as from a book's front: a listing walks it once
  pub onward : (b : List ℕ) (k m i : ℕ) → find_record b k ≡ some i
      → find_record b (k + m) ≡ behind i (find_record (drop i b) m)
