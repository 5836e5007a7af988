-- Strings, step by step.
use mathlib.Core.Path.{◌≡◌, refl, ap, ◌∙◌}
use Rattle.std.specs.Prelude.{Option, Some, None}
use mathlib.Core.Bool.{Bool, true, false, cond}
use mathlib.Core.List.{List, [], ◌∷◌}
use Prim.Native.Nat.{ℕ, zero, suc, ◌+◌, ◌-◌, ◌≤◌, ◌<◌}
use native.Mathlib.Nat.{add-zero}
use native.Mathlib.Numerals.{add-one}
use native.Mathlib.Omega.{arith}
use lib.ListN.{length, drop, get_or, length-drop, drop_of_length-le}
use lib.Seq.{drop-cons, drop-drop, length-take-le}
use lib.Dec.{eqb, ltb}
use borrow.Author.Tests.{ne_eqb}
use Rattle.rules.specs.Bytes.{is}
use Rattle.rules.specs.Symbols.{Quote, closed, bad, escape, quote, a_string}
use Rattle.symbols.specs.declared.Symbol.{Symbol}
use Rattle.symbols.specs.Cut.{made, cut_on}
use Rattle.places.specs.declared.Line.{Line}
use Rattle.scans.specs.Scans.{step_at}
use Rattle.scans.proofs.EscapeLaws.{escape-le}

quote-pass : (s : List ℕ) (n k : ℕ) → n ≤ length s → quote s n k ≡ quote (drop n s) 0 (k + n)
quote-pass [] zero k h = refl
quote-pass [] (suc n) k h = absurd (omega arith)
quote-pass (b ∷ s) zero k h = rw (add-zero k)
quote-pass (b ∷ s) (suc n) k h =
    let m : k + suc n ≡ suc k + n = omega arith in
    let go = quote-pass s n (suc k) (omega arith) in
    rw m go

-- ---- a step of the scan, over its tests: a byte below 32, a backslash, that begins no form
abbrev step_by : Bool → Bool → Bool → ℕ → Option ℕ
step_by low back none n = cond low None (cond back (cond none None (Some (1 + n))) (Some 1))

module _ {A : Type 0} (b x y : A) (n : ℕ) where
  abbrev by : Bool → Bool → Bool → A
  by low back none = cond low b (cond back (cond none b x) y)

  no_step : (low back none : Bool) → step_by low back none n ≡ None → by low back none ≡ b
  no_step true back none e = refl
  no_step false true true e = refl
  no_step false true false e = cc
  no_step false false none e = cc

  a-step : (f : ℕ → A) → x ≡ f (1 + n) → y ≡ f 1 → (low back none : Bool) (m : ℕ) → step_by low back none n ≡ Some m
      → by low back none ≡ f m
  a-step f p q true back none m h = cc
  a-step f p q false true true m h = cc
  a-step f p q false true false m h = let e : 1 + n ≡ m = cc in p ∙ ap f e
  a-step f p q false false none m h = let e : 1 ≡ m = cc in q ∙ ap f e

step_fits : (l n : ℕ) → 0 < l → 1 + n ≤ l → (low back none : Bool) (m : ℕ) → step_by low back none n ≡ Some m
    → (0 < m) × (m ≤ l)
step_fits l n h k true back none m e = cc
step_fits l n h k false true true m e = cc
step_fits l n h k false true false m e = let f : 1 + n ≡ m = cc in (omega arith, omega arith)
step_fits l n h k false false none m e = let f : 1 ≡ m = cc in (omega arith, omega arith)

pub step_in : (t : List ℕ) (i m : ℕ) → i < length t → step_at t i ≡ Some m → (0 < m) × (i + m ≤ length t)
unfolding step_at
step_in t i m h e =
    let l : escape (drop (i + 1) t) ≤ length t - (i + 1) = rw (length-drop (i + 1) t) at (escape-le (drop (i + 1) t)) in
    let (a, b) = step_fits (length t - i) (escape (drop (i + 1) t)) (omega arith) (omega arith) (ltb (get_or t i 0) 32)
    (is "\\" (get_or t i 0)) (eqb (escape (drop (i + 1) t)) 0) m e in
    (a, omega arith)

module _ (t : List ℕ) (i k : ℕ) (h : i < length t) where
  pub quote-closed : get_or t i 0 ≡ 34 → quote (drop i t) 0 k ≡ closed k
  quote-closed e = rw (drop-cons t i 0 h, e)

  pub quote-bad : ¬ (get_or t i 0 ≡ 34) → step_at t i ≡ None → quote (drop i t) 0 k ≡ bad k
  unfolding step_at
  quote-bad e z =
      rw (drop-cons t i 0 h, ne_eqb _ _ e)
      (no_step (bad k) _ _ (escape (drop (suc i) t)) (ltb (get_or t i 0) 32) (is "\\" (get_or t i 0))
      (eqb (escape (drop (suc i) t)) 0) (rw (add-one i) at z))

  abbrev from : ℕ → Quote
  from n = quote (drop (i + n) t) 0 (k + n)

  escaped : quote (drop (suc i) t) (escape (drop (suc i) t)) (suc k) ≡ from (1 + escape (drop (suc i) t))
  escaped =
      let n = escape (drop (suc i) t) in
      let p : suc k + n ≡ k + (1 + n) = omega arith in
      let q : suc i + n ≡ i + (1 + n) = omega arith in
      quote-pass (drop (suc i) t) n (suc k) (escape-le (drop (suc i) t)) ∙ rw (drop-drop n (suc i) t, p, q)

  pub quote-step : (m : ℕ) → ¬ (get_or t i 0 ≡ 34) → step_at t i ≡ Some m → quote (drop i t) 0 k ≡ from m
  unfolding step_at
  quote-step m e z =
      rw (drop-cons t i 0 h, ne_eqb _ _ e)
      (a-step (bad k) _ _ (escape (drop (suc i) t)) from escaped (rw (add-one k, add-one i)) (ltb (get_or t i 0) 32)
      (is "\\" (get_or t i 0)) (eqb (escape (drop (suc i) t)) 0) m (rw (add-one i) at z))

-- ---- strings as symbols: the bytes from the opening quote at `at` up to i are passed
module _ (t : List ℕ) (at i : ℕ) (x : Line) (h : at < i)
    (q : quote (drop (at + 1) t) 0 0 ≡ quote (drop i t) 0 (i - (at + 1))) where
  abbrev Is : Symbol → Type 0
  Is y = cut_on x (a_string at (drop at t) (quote (drop (at + 1) t) 0 0)) ≡ y

  pub string-closed : i < length t → get_or t i 0 ≡ 34 → Is (made 3 5 at (i + 1 - at) x)
  string-closed l e =
      let n : suc (suc (i - (at + 1))) ≡ i + 1 - at = omega arith in
      rw (
        q,
        quote-closed t i (i - (at + 1)) l e,
        length-take-le (suc (suc (i - (at + 1)))) (drop at t) (rw length-drop (omega arith)),
        n,
      )

  pub string-bad : i < length t → ¬ (get_or t i 0 ≡ 34) → step_at t i ≡ None → Is (made 5 2 i 0 x)
  string-bad l e z =
      let n : suc (at + (i - (at + 1))) ≡ i = omega arith in
      rw (q, quote-bad t i (i - (at + 1)) l e z, n)

  pub string-open : length t ≤ i → Is (made 5 3 at 0 x)
  string-open l = rw (q, drop_of_length-le t l)

  pub string-on : (m : ℕ) → i < length t → ¬ (get_or t i 0 ≡ 34) → step_at t i ≡ Some m
      → quote (drop (at + 1) t) 0 0 ≡ quote (drop (i + m) t) 0 (i + m - (at + 1))
  string-on m l e z =
      let n : i - (at + 1) + m ≡ i + m - (at + 1) = omega arith in
      q ∙ rw n at (quote-step t i (i - (at + 1)) l m e z)
