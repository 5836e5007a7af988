-- The user's three demands, of what the program answers. `check_text` promises Gives: of a text t and a lent buffer of
-- m bytes, r is its answer, in the program's own type, and b is the buffer when it returns. It has no precondition:
-- every text and every buffer gets an answer (`answer` in this crate's code has the promise in these words). `run` is
-- document 01 with No. 1 and No. 2 of document 02 as a definition (crate rules): it keeps a state where no unit is
-- refused; `check` adds the line and the column of a refusal (No. 6).
use Rattle.std.specs.Prelude.{◌≡◌, ◌↔◌, true, false, List, ℕ, ◌^◌, ◌≤◌, ◌<◌, length, ℤ, Ok}
use Rattle.std.proofs.Math.Option.{Option, some}
use Rattle.rules.specs.Numbers.{Range}
use Rattle.rules.specs.Units as U
use Rattle.rules.specs.Types.{Measure, Ty, numeric, number, legal, reading}
use Rattle.rules.specs.Declarations.{ty_of, Attribute, Def, State}
use Rattle.rules.specs.Judge.{is_domain, judge, refused}
use Rattle.rules.specs.Lines.{position, position_of}
use Rattle.rules.specs.Check.{lent, kept, run, check}
use Rattle.rules.specs.Show.{find_record, show_name}
use Rattle.rules.specs.Promise.{Promise}
use Rattle.rules.specs.All.{All}
use Rattle.computed.specs.Cases.{Holds}
use Rattle.computed.specs.Marked.{marked}
use Rattle.claims.specs.Promise.{Zeros, Booked}
use Rattle.claims.specs.Ranking as R
use Rattle.claims.specs.Ranking.{rank, UnitsRanked}
use Rattle.claims.specs.Numbered.{Numbered, Small}
use Rattle.claims.specs.Located.{Located}
use Rattle.claims.specs.Readings.{Outside, NumberOutside, UnitsDescend, UnitsKept}
use Rattle.claims.specs.Steps.{Declared, base_of, Nearest}
use Rattle.claims.specs.Reached.{Judges}
use Rattle.claims.specs.Demand3.{ModelReads, Extends, Misnumbered, Mismeasured}
use Rattle.claims.specs.Distinct.{AllDistinct}
use Rattle.claims.specs.Finding.{name_of, FoundShown}
use Rattle.computed.specs.Shut.{Shut}
use Rattle.numbers.specs.Answer.{Reading, Promised}
use Rattle.answers.specs.Answers.{Coded, accepted_as, refused_as, answer_of}
use Rattle.answers.specs.Handing.{handed, taken}
use Rattle.records.specs.Packing.{packed_found, packed_part, unpacked_found, unpacked_part}

abbrev pub Gives : List ℕ → ℕ → Coded → List ℕ → Type 0
Gives t m r b = Promise t (lent m) (answer_of r) b

-- l and c are the line and the column of the place p of the text t, and of no other place of it
pub record Locates (t : List ℕ) (p l c : ℕ) : Type 0 where
  pub line : l ≡ (position_of t p).line
  pub column : c ≡ (position_of t p).column
  pub only : (q : ℕ) → q ≤ length t → position_of t q ≡ position l c → q ≡ p

-- ---- 1: every text, with a buffer of every length, gets one answer: accepted, or one numbered refusal with its place
-- and this place's line and column; after a refusal the whole buffer is zero
pub record Demand1 (t : List ℕ) (m : ℕ) : Type 0 where
  pub answered : (r : Coded) × (b : List ℕ) × Gives t m r b
  pub one : (r s : Coded) (b c : List ℕ) → Gives t m r b → Gives t m s c → (r ≡ s) × (b ≡ c)
  pub numbered : (n p l c : ℕ) (b : List ℕ) → Gives t m (refused_as n p l c) b → Numbered t n p
  pub located : (n p l c : ℕ) (b : List ℕ) → Gives t m (refused_as n p l c) b → Locates t p l c
  pub zeros : (n p l c : ℕ) (b : List ℕ) → Gives t m (refused_as n p l c) b → (length b ≡ m) × Zeros b
  pub small : (n k : ℕ) (b : List ℕ) → Gives t m (accepted_as n k) b → Small n k
  -- `auzuplens_check` leaves `handed` of the definition's answer in the caller's eight numbers, and from them the
  -- program's answer can be taken back
  pub taken_back : (r : Coded) (b : List ℕ) → Gives t m r b → taken (handed (check t (lent m)).answer) ≡ answer_of r

-- ---- 2: accepted exactly when the text follows document 01, else refused by the first in the stated order; the book
-- is the one the text means
-- R.Refused: too long a text; else, behind units that all passed, one that cannot be read, at the symbol where its
-- reader stops (rules `Readers`), or the first rule that a unit breaks, in the ranking of the numbers; of one number
-- the first symbol is named
pub record Demand2 (t : List ℕ) (m : ℕ) : Type 0 where
  pub follows : ((n k : ℕ) × (b : List ℕ) × Gives t m (accepted_as n k) b) ↔ ((s : State) × (run t (lent m) ≡ kept s))
  pub first : (n p : ℕ) → ((l c : ℕ) × (b : List ℕ) × Gives t m (refused_as n p l c) b) ↔ R.Refused t (lent m) n p
  pub book : (n k : ℕ) (b : List ℕ) → Gives t m (accepted_as n k) b → Booked t (lent m) n k b

-- ---- numbers: of two ranges, `read_number`, which promises Promised, answers a legal number of x, in a unit or
-- without one, with its reading at y, which has the same unit; and never 20 or 21
abbrev pub ReadBy : Ty → Ty → Type 0
ReadBy x y =
    (r q : Range) (i j : Option Measure) → x ≡ numeric (some r) i → y ≡ numeric (some q) j
    → (v : ℤ) (u : Option Measure) → legal x (number r.decimals v u) ≡ true
    → (a : Reading) → Promised v r.decimals q.decimals a
    → (w : ℤ) × (a ≡ Ok w) × (reading y (number r.decimals v u) ≡ some (number q.decimals w u))
    × (legal y (number q.decimals w u) ≡ true)

-- the numbers of a state's domains, and of its attributes with a type in place, each read at its base
pub record NumbersRead (s : State) : Type 0 where
  pub domains : (d b : Def) → Declared s d → base_of s d ≡ some b → ReadBy d.type b.type
  pub attributes : (a b : Attribute) → Nearest s a b → is_domain a.use_of ≡ false
      → ReadBy (ty_of a.use_of) (ty_of b.use_of)

-- ---- 3: what is accepted reads legally at every base, step by step, in number and unit; 17 is answered only if a
-- legal value's number has an illegal reading, 22 only if a legal value's unit is illegal at the base; and where a
-- legal value has an illegal reading, what puts it there is refused: by 17 or what comes before it where the value's
-- number shows it, by 22 or what comes before it where only its unit does
pub record Demand3 (t : List ℕ) (m : ℕ) : Type 0 where
  pub reads : (n k : ℕ) (b : List ℕ) → Gives t m (accepted_as n k) b → ModelReads t (lent m)
  pub numbers : (s : State) → run t (lent m) ≡ kept s → NumbersRead s
  pub number_witness : (p l c : ℕ) (b : List ℕ) → Gives t m (refused_as 17 p l c) b → Misnumbered t (lent m) p
  pub unit_witness : (p l c : ℕ) (b : List ℕ) → Gives t m (refused_as 22 p l c) b → Mismeasured t (lent m) p
  pub refuses : (s : State) (u : U.Unit) → Judges t (lent m) s u → (x y : Ty) → Extends s u x y → Outside x y →
      (r : Coded) (b : List ℕ) → Gives t m r b
      → (n p l c : ℕ) × (r ≡ refused_as n p l c) × (judge s u ≡ refused n p) × (rank n ≤ rank 22)
  pub number_refuses : (s : State) (u : U.Unit) → Judges t (lent m) s u → (x y : Ty) → Extends s u x y
      → NumberOutside x y → (r : Coded) (b : List ℕ) → Gives t m r b
      → (n p l c : ℕ) × (r ≡ refused_as n p l c) × (judge s u ≡ refused n p) × (rank n ≤ rank 17)

-- ---- all of it; and what the definitions are held to: every unit's rules stand in order, lines and columns are
-- counted in one way, the marked examples, elements stand once, units of numbers descend as 22 asks and a reading keeps
-- its own, and what is shut out
pub record Demands : Type 0 where
  pub demand1 : (t : List ℕ) (m : ℕ) → Demand1 t m
  pub demand2 : (t : List ℕ) (m : ℕ) → Demand2 t m
  pub demand3 : (t : List ℕ) (m : ℕ) → Demand3 t m
  pub ranked : UnitsRanked
  pub lines : Located
  pub marked_hold : All Holds marked
  pub distinct : AllDistinct
  pub descend : UnitsDescend
  pub unit_kept : UnitsKept
  pub shut : Shut
  -- finding a record and showing its name, one after the other, give what document 01 has as one operation, `name_of`;
  -- so do the exports, where 2^64 - 1, for one that is not there, is handed on untested: a slice has fewer bytes
  pub found_shown : FoundShown
  pub exports : (t b : List ℕ) (k : ℕ) → length b < 2 ^ 64
      → show_name t b (packed_found (find_record b k)) ≡ name_of t b k
  -- what these exports pack into one number can be taken out again
  pub beginnings : (b : List ℕ) (k : ℕ) → length b < 2 ^ 64
      → unpacked_found (packed_found (find_record b k)) ≡ find_record b k
  pub parts : (t b : List ℕ) (i : ℕ) → All (λ (x : ℕ). x < 256) b
      → unpacked_part (packed_part (show_name t b i)) ≡ show_name t b i
