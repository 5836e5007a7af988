-- What the exports hand out can be taken back: the answers of `check`, in eight numbers, the records that are found and
-- the names that are shown, each in one.
use mathlib.Core.Path.{◌≡◌, refl, ◌∙◌}
use mathlib.Core.Bool.{Bool, true, false, cond}
use mathlib.Core.Option.{Option, none, some}
use mathlib.Core.List.{List, [], ◌∷◌}
use Prim.Native.Nat.{ℕ, zero, suc, ◌+◌, ◌*◌, ◌-◌, ◌^◌, ◌/◌, ◌%◌, ◌<◌}
use native.Mathlib.Omega.{arith}
use lib.ListN.{length, get_or, take, drop}
use lib.Dec.{eqb, leb}
use borrow.Author.Tests.{ne_eqb}
use Rattle.rules.specs.All.{All}
use Rattle.rules.specs.Book.{Record}
use Rattle.rules.specs.Show.{size_of, records_from, records_at, Part, no_part, read4, is_named, name_in, first_name}
use Rattle.rules.specs.Show.{find_record, show_name}
use Rattle.rules.proofs.Tests.{never}
use Rattle.claims.specs.Ranking.{is_in}
use Rattle.claims.specs.Numbered.{table}
use Rattle.claims.specs.Finding.{name_of, shown_at}
use Rattle.claims.proofs.FindingLaws.{found_shown}
use Rattle.std.specs.Prelude.{Ok, Err}
use Rattle.answers.specs.Answers.{Coded, refused_as, answer_of}
use Rattle.answers.specs.Handing.{handed, taken}
use Rattle.records.specs.Packing.{packed_found, packed_part, unpacked_found, unpacked_part}

-- ---- answers
-- 0 is no number of the table
table-from-1 : (n : ℕ) → is_in n table ≡ true → 0 < n
table-from-1 zero h = never h
table-from-1 (suc n) h = omega arith

pub takes-answer : (r : Coded) → ((n p l c : ℕ) → r ≡ refused_as n p l c → is_in n table ≡ true)
    → taken (handed (answer_of r)) ≡ answer_of r
takes-answer (Ok a) h = refl
takes-answer (Err r) h =
    let from-1 = table-from-1 r.number (h r.number r.place r.line r.column refl) in
    rw (ne_eqb r.number 0 (omega arith))

-- ---- parts
unpacks-part : (p : Part) → p.start < 4294967296 → p.length < 256 → unpacked_part (packed_part p) ≡ p
unpacks-part p h k =
    let e : (p.start % 4294967296 * 256 + p.length % 256) / 256 ≡ p.start = omega arith in
    let f : (p.start % 4294967296 * 256 + p.length % 256) % 256 ≡ p.length = omega arith in
    λ i. record { start = e i; length = f i }

-- what a book of bytes gives is small enough
abbrev Byte : ℕ → Type 0
Byte x = x < 256

abbrev Bytes : List ℕ → Type 0
Bytes l = All Byte l

byte_at : (l : List ℕ) (i : ℕ) → Bytes l → get_or l i 0 < 256
byte_at [] i h = omega arith
byte_at (x ∷ l) zero h = h.0
byte_at (x ∷ l) (suc i) h = byte_at l i h.1

bytes-front : (n : ℕ) (l : List ℕ) → Bytes l → Bytes (take n l)
bytes-front zero l h = tt
bytes-front (suc n) [] h = tt
bytes-front (suc n) (x ∷ l) h = (h.0, bytes-front n l h.1)

records-bytes : (n : ℕ) (l : List ℕ) → Bytes l → All Bytes (records_from n l)
unfolding records_from
records-bytes n [] h = tt
records-bytes (suc n) (b ∷ l) h = records-bytes n l h.1
records-bytes zero (b ∷ l) h =
    go (eqb (size_of b) 0) (leb (size_of b) (length (b ∷ l))) (records-bytes (size_of b - 1) l h.1)
  where
    go : (x y : Bool) → All Bytes (records_from (size_of b - 1) l)
        → All Bytes (cond x [] (cond y (take (size_of b) (b ∷ l) ∷ records_from (size_of b - 1) l) []))
    go true y r = tt
    go false true r = (bytes-front (size_of b) (b ∷ l) h, r)
    go false false r = tt

abbrev Unpacks : Part → Type 0
Unpacks p = unpacked_part (packed_part p) ≡ p

no-part : Unpacks no_part
no-part = unpacks-part no_part (omega arith) (omega arith)

name-unpacks : (t : List ℕ) (r : Record) → Bytes r → Unpacks (name_in t r)
name-unpacks t r h = go (is_named (get_or r 0 0)) (leb (read4 r 1 + get_or r 5 0) (length t))
  where
    whole : Part
    whole = record { start = read4 r 1; length = get_or r 5 0 }

    go : (x y : Bool) → Unpacks (cond x (cond y whole no_part) no_part)
    go true true =
        unpacks-part whole (omega (arith, byte_at r 1 h, byte_at r 2 h, byte_at r 3 h, byte_at r 4 h)) (byte_at r 5 h)
    go true false = no-part
    go false y = no-part

names-unpack : (t : List ℕ) (l : List Record) → All Bytes l → Unpacks (first_name t l)
names-unpack t [] h = no-part
names-unpack t (r ∷ l) h = name-unpacks t r h.0

bytes-behind : (i : ℕ) (l : List ℕ) → Bytes l → Bytes (drop i l)
bytes-behind zero l h = h
bytes-behind (suc i) [] h = tt
bytes-behind (suc i) (x ∷ l) h = bytes-behind i l h.1

pub unpacks-name : (t b : List ℕ) (i : ℕ) → Bytes b → Unpacks (show_name t b i)
unfolding show_name
unpacks-name t b i h = names-unpack t (records_at b i) (records-bytes 0 (drop i b) (bytes-behind i b h))

-- ---- what is found
unpacks-place : (i : ℕ) → i < 2 ^ 64 - 1 → unpacked_found (packed_found (some i)) ≡ some i
unpacks-place i h = rw (ne_eqb i (2 ^ 64 - 1) (λ e. omega arith))

-- a book is shorter than 2^64 bytes
pub unpacks-found : (b : List ℕ) (k : ℕ) → length b < 2 ^ 64
    → unpacked_found (packed_found (find_record b k)) ≡ find_record b k
unpacks-found b k h = pick (find_record b k) refl
  where
    pick : (f : Option ℕ) → find_record b k ≡ f → unpacked_found (packed_found f) ≡ f
    pick none e = refl
    pick (some i) e = unpacks-place i (omega (arith, found_shown.inside b k i e))

-- the two in a row, by the numbers that the exports hand on
pub shows-found : (t b : List ℕ) (k : ℕ) → length b < 2 ^ 64
    → show_name t b (packed_found (find_record b k)) ≡ name_of t b k
shows-found t b k h = pick (find_record b k) refl ∙ found_shown.in_a_row t b k
  where
    pick : (f : Option ℕ) → find_record b k ≡ f → show_name t b (packed_found f) ≡ shown_at t b (find_record b k)
    pick none e = found_shown.outside t b (2 ^ 64 - 1) (omega arith) ∙ rw e
    pick (some i) e = rw e
