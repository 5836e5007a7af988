-- Finding and showing one after the other give what showing by number gave.
use mathlib.Core.Path.{◌≡◌, refl, sym, ap, ◌∙◌}
use mathlib.Core.Logic.{⊎_elim}
use mathlib.Core.Option.{some, some-injective, some-ne-none}
use mathlib.Core.List.{List, [], ◌∷◌}
use Prim.Native.Nat.{ℕ, zero, suc, ◌+◌, ◌≤◌, ◌<◌}
use native.Mathlib.Nat.{add-zero, zero-add, add_assoc, suc-add}
use native.Mathlib.Omega.{arith}
use lib.ListN.{length, drop}
use Rattle.rules.specs.Book.{Record}
use Rattle.rules.specs.Show.{records_at, beginning_in, no_part, first_name, find_record, show_name}
use Rattle.rules.proofs.RecordLaws.{Whole, none-behind, look, begin-none, begin-here, begin-suc}
use Rattle.claims.specs.Finding.{name_at, name_of, shown_at, behind, FoundShown}

-- ---- by number
row : (t b : List ℕ) (k i : ℕ) → shown_at t b (beginning_in i (records_at b i) k) ≡ name_at t (records_at b i) k
unfolding show_name
row t b zero i = ⊎_elim (λ e. rw e) (λ (n, w). ap (shown_at t b) (begin-here w) ∙ rw w.first) (look b i)
row t b (suc k) i = ⊎_elim (λ e. rw e) (λ (n, w). next n w (row t b k (i + n))) (look b i)
  where
    next : (n : ℕ) → Whole b i n
        → shown_at t b (beginning_in (i + n) (records_at b (i + n)) k) ≡ name_at t (records_at b (i + n)) k
        → shown_at t b (beginning_in i (records_at b i) (suc k)) ≡ name_at t (records_at b i) (suc k)
    next n w again =
        ap (shown_at t b) (begin-suc k w) ∙ again ∙ sym (ap (λ (l : List Record). name_at t l (suc k)) w.first)

in_a_row : (t b : List ℕ) (k : ℕ) → shown_at t b (find_record b k) ≡ name_of t b k
unfolding find_record name_of
in_a_row t b k = row t b k 0

anywhere : (t b : List ℕ) (i : ℕ) → show_name t b i ≡ name_of t (drop i b) 0
unfolding show_name name_of
anywhere t b i = pick (records_at b i)
  where
    pick : (l : List Record) → first_name t l ≡ name_at t l 0
    pick [] = refl
    pick (r ∷ l) = refl

-- ---- places
there : (l : List Record) (k j : ℕ) → k < length l → (i : ℕ) × (beginning_in j l k ≡ some i)
there [] k j h = absurd (omega arith)
there (r ∷ l) zero j h = (j, refl)
there (r ∷ l) (suc k) j h = there l k (j + length r) (omega arith)

-- the record m behind one that is found, of records one after the other
found-onward : (l : List Record) (m k j i : ℕ) → beginning_in j l k ≡ some i
    → beginning_in j l (k + m) ≡ beginning_in i (drop k l) m
found-onward [] m k j i f = absurd (some-ne-none i (sym f))
found-onward (r ∷ l) m zero j i f = rw (zero-add m, some-injective j i f)
found-onward (r ∷ l) m (suc k) j i f = rw (suc-add k m) (found-onward l m k (j + length r) i f)

-- counted from another place
shifted : (i j : ℕ) (l : List Record) (m : ℕ) → beginning_in (i + j) l m ≡ behind i (beginning_in j l m)
shifted i j [] m = refl
shifted i j (r ∷ l) zero = refl
shifted i j (r ∷ l) (suc m) = rw (add_assoc i j (length r)) (shifted i (j + length r) l m)

-- what is found from the place j on lies in the book, and the records behind it are read there
abbrev FoundAt : List ℕ → ℕ → ℕ → ℕ → Type 0
FoundAt b k j i = (i < length b) × (records_at b i ≡ drop k (records_at b j))

-- nothing is found where nothing stands
nothing : {A : Type 0} (b : List ℕ) (k j i : ℕ) → records_at b j ≡ [] → beginning_in j (records_at b j) k ≡ some i → A
nothing b k j i e f = absurd (some-ne-none i (sym f ∙ begin-none j (records_at b j) k e))

found : (b : List ℕ) (k j i : ℕ) → beginning_in j (records_at b j) k ≡ some i → FoundAt b k j i
found b zero j i f = ⊎_elim (λ e. nothing b 0 j i e f) (λ (n, w). here n w) (look b j)
  where
    here : (n : ℕ) → Whole b j n → FoundAt b 0 j i
    here n w =
        let e : j ≡ i = some-injective j i (sym (begin-here w) ∙ f) in
        (omega (arith, w.some, w.within, e), ap (records_at b) (sym e))
found b (suc k) j i f =
    ⊎_elim (λ e. nothing b (suc k) j i e f)
    (λ (n, w). next n w (found b k (j + n) i (sym (begin-suc k w) ∙ f))) (look b j)
  where
    next : (n : ℕ) → Whole b j n → FoundAt b k (j + n) i → FoundAt b (suc k) j i
    next n w (h, e) = (h, e ∙ sym (ap (λ (l : List Record). drop (suc k) l) w.first))

onward : (b : List ℕ) (k m i : ℕ) → find_record b k ≡ some i
    → find_record b (k + m) ≡ behind i (find_record (drop i b) m)
unfolding find_record
onward b k m i f =
    found-onward (records_at b 0) m k 0 i f
    ∙ ap (λ (l : List Record). beginning_in i l m) (sym (found b k 0 i f).1)
    ∙ ap (λ (j : ℕ). beginning_in j (records_at b i) m) (sym (add-zero i)) ∙ shifted i 0 (records_at b i) m

outside : (t b : List ℕ) (i : ℕ) → length b ≤ i → show_name t b i ≡ no_part
unfolding show_name
outside t b i h = ap (first_name t) (none-behind b i h)

pub found_shown : FoundShown
unfolding find_record
found_shown = record {
  in_a_row = in_a_row;
  anywhere = anywhere;
  there = λ b k h. there (records_at b 0) k 0 h;
  reads = λ b k i f. (found b k 0 i f).1;
  inside = λ b k i f. (found b k 0 i f).0;
  outside = outside;
  onward = onward;
}
