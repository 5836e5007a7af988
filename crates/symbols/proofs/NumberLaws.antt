-- Numbers: their digits, counted by the ends of their runs.
use mathlib.Core.Path.{◌≡◌, refl, sym, ◌∙◌}
use mathlib.Core.Bool.{Bool, true, false, ◌&&◌}
use mathlib.Core.List.{List, [], ◌∷◌, ◌++◌}
use Prim.Native.Nat.{ℕ, suc, ◌+◌, ◌-◌, ◌≤◌, ◌<◌}
use native.Mathlib.Nat.{zero-add}
use native.Mathlib.Numerals.{add-one}
use native.Mathlib.Omega.{arith}
use lib.ListN.{length, take, drop, get_or, length-drop}
use lib.Seq.{drop-cons, drop-drop, get_or-drop, take-add}
use lib.Dec.{ltb}
use borrow.Author.Tests.{eqb-true}
use Rattle.rules.specs.Bytes.{part, is, is_digit, span}
use Rattle.rules.specs.Symbols.{unsigned_length, most_digits, digit_count, a_number}
use Rattle.rules.proofs.Tests.{split, not-both}
use Rattle.symbols.specs.Cut.{cut_on}
use Rattle.ground.specs.Parts.{run_end}
use Rattle.places.specs.declared.Line.{Line}
use Rattle.scans.specs.Scans.{fraction_end}
use Rattle.symbols.specs.Begins.{number_cut}
use Rattle.ground.proofs.TableLaws.{test}
use Rattle.rules.proofs.PartLaws.{length_part}
use Rattle.ground.proofs.ScanLaws.{span-le}
use Rattle.scans.proofs.EscapeLaws.{stands}

count-append : (x y : List ℕ) → digit_count (x ++ y) ≡ digit_count x + digit_count y
count-append [] y = sym (omega arith)
count-append (b ∷ x) y =
    let go = count-append x y in
    test (is_digit b) (λ e. rw (e, go) (omega arith)) (λ e. rw (e, go))

count-run : (s : List ℕ) → digit_count (take (span is_digit s) s) ≡ span is_digit s
count-run [] = refl
count-run (b ∷ s) = let go = count-run s in test (is_digit b) (λ e. rw (e, e, go)) (λ e. rw e)

-- the number's bytes, as the code has them
pub number_cut_lem : (at n d : ℕ) (x : Line) (b : List ℕ) → length b ≡ n → digit_count b ≡ d
    → cut_on x (a_number at b) ≡ number_cut at n d x
number_cut_lem at n d l b e f = rw (← e, ← f) (test (ltb most_digits (digit_count b)) (λ x. rw x) (λ x. rw x))

module _ (t : List ℕ) (at sign : ℕ) where
  abbrev digits : ℕ
  digits = span is_digit (drop (at + sign) t)

  abbrev pub dot_at : ℕ → Bool
  dot_at e = is "." (get_or t e 0) && is_digit (get_or t (e + 1) 0)

  unsigned : unsigned_length (drop (at + sign) t) ≡ fraction_end t (run_end is_digit t (at + sign)) - (at + sign)
  unsigned =
      let m : at + sign + suc digits ≡ at + sign + digits + 1 = omega arith in
      rw (
        get_or-drop (at + sign) t digits 0,
        get_or-drop (at + sign) t (suc digits) 0,
        drop-drop (suc digits) (at + sign) t,
        m,
      )
      (test (dot_at (at + sign + digits)) (λ e. rw e (omega arith)) (λ e. rw e (omega arith)))

  -- the digits of what is behind the sign
  count : digit_count (part t at sign) ≡ 0 → (u : ℕ)
      → digit_count (part t at (sign + u)) ≡ digit_count (part t (at + sign) u)
  count z u = rw (take-add sign u (drop at t), count-append, drop-drop sign at t, z, zero-add)

  -- behind a dot at e
  abbrev behind : ℕ → ℕ
  behind e = span is_digit (drop (suc e) t)

  count-dotted : (e : ℕ) → at + sign + digits ≡ e → dot_at e ≡ true
      → digit_count (part t (at + sign) (digits + suc (behind e))) ≡ digits + behind e
  count-dotted e q d =
      let b : get_or t e 0 ≡ 46 = eqb-true (get_or t e 0) 46 (split {x = is "." (get_or t e 0)} d).0 in
      let h : e < length t = stands t e (λ z. omega arith) in
      rw (
        take-add digits (suc (behind e)) (drop (at + sign) t),
        count-append,
        drop-drop digits (at + sign) t,
        q,
        drop-cons t e 0 h,
        b,
        count-run (drop (at + sign) t),
        count-run (drop (suc e) t),
      )

  module _ (l : Line) (h : at + sign ≤ length t) (z : digit_count (part t at sign) ≡ 0) (e f : ℕ)
      (p : e ≡ run_end is_digit t (at + sign)) (q : f ≡ fraction_end t e) where
    abbrev Cut : ℕ → Type 0
    Cut n =
        cut_on l (a_number at (part t at (sign + unsigned_length (drop (at + sign) t)))) ≡ number_cut at (f - at) n l

    fits : (n : ℕ) → f ≤ length t → at + sign ≤ f → digit_count (part t (at + sign) (f - (at + sign))) ≡ n → Cut n
    fits n m g c =
        let u : unsigned_length (drop (at + sign) t) ≡ f - (at + sign) = unsigned ∙ rw (← p, ← q) in
        let k : sign + (f - (at + sign)) ≡ f - at = omega arith in
        rw u
        (number_cut_lem at (f - at) n l (part t at (sign + (f - (at + sign)))) (length_part t at _ (omega arith) ∙ k)
        (count z (f - (at + sign)) ∙ c))

    pub number-whole : f ≤ e → cut_on l (a_number at (part t at (sign + unsigned_length (drop (at + sign) t))))
        ≡ number_cut at (e - at) (e - (at + sign)) l
    number-whole g =
        test (dot_at e)
        (λ d.
        let x : f ≡ run_end is_digit t (e + 1) = q ∙ rw d in
        absurd (omega arith))
        (λ d.
        let x : f ≡ e = q ∙ rw d in
        let y : f - (at + sign) ≡ digits = omega arith in
        rw (← x)
        (fits (f - (at + sign)) (omega (arith, span-le is_digit (drop (at + sign) t), length-drop (at + sign) t))
        (omega arith) (rw y (count-run (drop (at + sign) t)))))

    pub number-dotted : e < f → Cut (f - (at + sign) - 1)
    number-dotted g =
        test (dot_at e)
        (λ d.
        let x : f ≡ e + 1 + span is_digit (drop (e + 1) t) = q ∙ rw d in
        let v : e + 1 ≡ suc e = add-one e in
        let w : f ≡ suc e + behind e = rw v at x in
        let y : f - (at + sign) ≡ digits + suc (behind e) = omega arith in
        let b : get_or t (e + 1) 0 ≡ 0 → is_digit (get_or t (e + 1) 0) ≡ false = λ o. rw o in
        let k : e + 1 < length t = stands t (e + 1) (λ o. not-both (split {x = is "." (get_or t e 0)} d).1 (b o)) in
        fits (f - (at + sign) - 1) (omega (arith, span-le is_digit (drop (suc e) t), length-drop (suc e) t))
        (omega arith)
        (rw y (count-dotted e (sym p) d ∙ omega arith)))
        (λ d.
        let x : f ≡ e = q ∙ rw d in
        absurd (omega arith))
