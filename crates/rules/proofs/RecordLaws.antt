-- A book read record by record: at a place there is none, or a whole one, and where a record begins.
use mathlib.Core.Path.{◌≡◌, refl, sym, ap, ◌∙◌}
use mathlib.Core.Bool.{Bool, true, false, cond}
use mathlib.Core.Logic.{◌⊎◌, inl, inr}
use mathlib.Core.Option.{none, some}
use mathlib.Core.List.{List, [], ◌∷◌}
use Prim.Native.Nat.{ℕ, zero, suc, ◌+◌, ◌-◌, ◌≤◌, ◌<◌}
use native.Mathlib.Nat.{add-zero}
use native.Mathlib.Numerals.{sub-one}
use native.Mathlib.Omega.{arith}
use lib.ListN.{length, get_or, take, drop, length-drop}
use lib.Seq.{get_or-drop, drop-drop, length-take-le}
use lib.Dec.{eqb, leb, ltb}
use borrow.Author.Tests.{ltb-true, ltb-false, eqb-false, leb-true, leb-false, le-leb, lt-leb, ne_eqb}
use Rattle.rules.specs.Book.{Record}
use Rattle.rules.specs.Show.{size_of, records_from, records_at, beginning_in}

-- ---- the records in front of some bytes
-- bytes that are passed are dropped
records-skip : (n : ℕ) (l : List ℕ) → records_from n l ≡ records_from 0 (drop n l)
unfolding records_from
records-skip zero l = refl
records-skip (suc n) [] = refl
records-skip (suc n) (b ∷ l) = records-skip n l

drop-first : (n x : ℕ) (l : List ℕ) → 0 < n → drop n (x ∷ l) ≡ drop (n - 1) l
drop-first zero x l h = absurd (omega arith)
drop-first (suc n) x l h = rw sub-one

-- a whole record of n bytes
pub front : (l : List ℕ) (n : ℕ) → size_of (get_or l 0 0) ≡ n → 0 < n → n ≤ length l
    → records_from 0 l ≡ take n l ∷ records_from 0 (drop n l)
unfolding records_from
front [] n e z h = absurd (omega arith)
front (x ∷ l) n e z h =
    let some : ¬ (size_of x ≡ 0) = λ q. omega arith in
    rw (ne_eqb (size_of x) 0 some, e, le-leb n (suc (length l)) h, records-skip (n - 1) l, drop-first n x l z)

-- no kind, or cut off
pub no_front : (l : List ℕ) → (0 < length l → 0 < size_of (get_or l 0 0) → length l < size_of (get_or l 0 0))
    → records_from 0 l ≡ []
unfolding records_from
no_front [] h = refl
no_front (x ∷ l) h = pick (eqb (size_of x) 0) refl
  where
    pick : (q : Bool) → eqb (size_of x) 0 ≡ q →
        cond q []
        (cond (leb (size_of x) (suc (length l))) (take (size_of x) (x ∷ l) ∷ records_from (size_of x - 1) l) [])
        ≡ []
    pick true e = refl
    pick false e =
        let some : ¬ (size_of x ≡ 0) = eqb-false (size_of x) 0 e in
        rw (lt-leb (size_of x) (suc (length l)) (h (omega arith) (omega arith)))

-- ---- the record at a place
-- a place at which a whole record of n bytes begins
pub record Whole (b : List ℕ) (i n : ℕ) : Type 0 where
  pub some : 0 < n
  pub size : n ≡ size_of (get_or b i 0)
  pub within : i + n ≤ length b
  pub first : records_at b i ≡ take n (drop i b) ∷ records_at b (i + n)
  pub long : length (take n (drop i b)) ≡ n

pub whole : (b : List ℕ) (i n : ℕ) → n ≡ size_of (get_or (drop i b) 0 0) → 0 < n → n ≤ length (drop i b) → Whole b i n
whole b i n e z s = record {
  some = z;
  size = e ∙ rw (get_or-drop, add-zero);
  within = omega (arith, length-drop i b);
  first = rw (← drop-drop n i b) (front (drop i b) n (sym e) z s);
  long = length-take-le n (drop i b) s;
}

-- behind the book there is none
pub none-behind : (b : List ℕ) (i : ℕ) → length b ≤ i → records_at b i ≡ []
none-behind b i h = no_front (drop i b) (λ z. absurd (omega (arith, simp length-drop at z)))

-- there is none, or a whole one
pub look : (b : List ℕ) (i : ℕ) → (records_at b i ≡ []) ⊎ ((n : ℕ) × Whole b i n)
look b i = pick (ltb 0 n) (leb n (length (drop i b))) refl refl
  where
    n : ℕ
    n = size_of (get_or (drop i b) 0 0)

    pick : (p q : Bool) → ltb 0 n ≡ p → leb n (length (drop i b)) ≡ q →
        (records_at b i ≡ []) ⊎ ((n : ℕ) × Whole b i n)
    pick true true ep eq = inr (n, whole b i n refl (ltb-true _ _ ep) (leb-true _ _ eq))
    pick true false ep eq = inl (no_front (drop i b) (λ _ _. leb-false _ _ eq))
    pick false q ep eq = inl (no_front (drop i b) (λ _ z. absurd (omega (arith, ltb-false 0 n ep))))

-- ---- where a record begins
pub begin-none : (i : ℕ) (l : List Record) (k : ℕ) → l ≡ [] → beginning_in i l k ≡ none
begin-none i l k e = rw e

pub begin-here : {b : List ℕ} {i n : ℕ} → Whole b i n → beginning_in i (records_at b i) 0 ≡ some i
begin-here w = rw w.first

pub begin-suc : {b : List ℕ} {i n : ℕ} (k : ℕ) → Whole b i n
    → beginning_in i (records_at b i) (suc k) ≡ beginning_in (i + n) (records_at b (i + n)) k
begin-suc {b} {i} {n} k w =
    ap (λ (l : List Record). beginning_in i l (suc k)) w.first
    ∙ ap (λ (m : ℕ). beginning_in (i + m) (records_at b (i + n)) k) w.long
