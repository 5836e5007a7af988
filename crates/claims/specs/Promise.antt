-- Document 01, "Refusals in order" and "What a reader may rely on": what is promised of checking a text allows one
-- outcome; after a refusal the buffer is zero, and on acceptance it holds the book.
use Rattle.std.specs.Prelude.{◌≡◌, List, ℕ, ◌≤◌, length, take, drop}
use Rattle.rules.specs.Declarations.{State}
use Rattle.rules.specs.Book.{records, book, definitions}
use Rattle.rules.specs.Show.{records_from}
use Rattle.rules.specs.Check.{Given, kept, run, Refusal, Answer, refusal, accepting}
use Rattle.rules.specs.Promise.{Promise}
use Rattle.rules.specs.All.{In}

-- ---- for every text and what is given there is an answer and a buffer, and no other
pub record OnlyOne (t : List ℕ) (g : Given) : Type 0 where
  pub answer : Answer
  pub buffer : List ℕ
  pub promised : Promise t g answer buffer
  pub only : (a : Answer) (b : List ℕ) → Promise t g a b → (a ≡ answer) × (b ≡ buffer)

abbrev pub OneOutcome : Type 0
OneOutcome = (t : List ℕ) (g : Given) → OnlyOne t g

-- ---- after a refusal the whole buffer is zero
abbrev pub Zeros : List ℕ → Type 0
Zeros b = (x : ℕ) → In x b → x ≡ 0

abbrev pub RefusedZeros : Type 0
RefusedZeros =
    (t : List ℕ) (g : Given) (r : Refusal) (b : List ℕ) → Promise t g (refusal r) b → (length b ≡ g.buffer) × Zeros b

-- ---- on acceptance it holds the book, which fits, and then zeros; read record by record, up to the first zero for a
-- kind, it gives the records again; the answer is the book's length and the count of its definitions
pub record Booked (t : List ℕ) (g : Given) (n k : ℕ) (b : List ℕ) : Type 0 where
  pub state : State
  pub runs : run t g ≡ kept state
  pub size : n ≡ length (book state)
  pub count : k ≡ definitions (records state)
  pub fits : n ≤ g.buffer
  pub short : n ≤ 65535
  pub whole : length b ≡ g.buffer
  pub front : take n b ≡ book state
  pub back : Zeros (drop n b)
  pub again : records_from 0 b ≡ records state

abbrev pub AcceptedBook : Type 0
AcceptedBook = (t : List ℕ) (g : Given) (n k : ℕ) (b : List ℕ) → Promise t g (accepting n k) b → Booked t g n k b
