-- Bytes among which no line ends.
use Rattle.std.proofs.Common.{◌≡◌, ℕ, zero, suc, ◌+◌, ◌-◌, ◌≤◌, Bool, true, false, ltb, ◌⊎◌, List, [], ◌∷◌, length}
use Rattle.std.proofs.Common.{get_or, take, drop, refl, ap, ◌∙◌, subst, inl, inr, arith, drop_of_length-le, drop-cons}
use Rattle.std.proofs.Common.{ltb-false, ltb-true, eqb-true}
use lib.ListN.{get_or-eq_default}
use Rattle.rules.specs.Bytes.{is, is_line_end, span}
use Rattle.rules.specs.All.{All}
use Rattle.rules.proofs.Tests.{is_false, not-both, or_split, or-fails}
use Rattle.ground.proofs.TableLaws.{test}
use Rattle.places.specs.declared.Line.{Line}
use Rattle.places.specs.Standing.{behind_byte, lines_on, line_to}

abbrev pub Level : List ℕ → Type 0
Level s = All (λ (b : ℕ). is_line_end b ≡ false) s

-- ---- bytes that pass a test which CR and LF fail
module _ (p : ℕ → Bool) (cr : p 13 ≡ false) (lf : p 10 ≡ false) where
  pub no_end : (b : ℕ) → p b ≡ true → is_line_end b ≡ false
  no_end b e = is_false (λ q. go (or_split {x = is "\r" b} q))
    where
      go : (is "\r" b ≡ true) ⊎ (is "\n" b ≡ true) → ⊥
      go (inl q) = not-both (subst (λ (x : ℕ). p x ≡ true) (eqb-true b 13 q) e) cr
      go (inr q) = not-both (subst (λ (x : ℕ). p x ≡ true) (eqb-true b 10 q) e) lf

  pub level-run : (s : List ℕ) → Level (take (span p s) s)
  level-run [] = tt
  level-run (b ∷ s) = let h = level-run s in test (p b) (λ e. rw e (no_end b e, h)) (λ e. rw e tt)

pub level-two : (s : List ℕ) → is_line_end (get_or s 0 0) ≡ false
    → is_line_end (get_or s 1 0) ≡ false → Level (take 2 s)
level-two [] h k = tt
level-two (b ∷ []) h k = (h, tt)
level-two (b ∷ c ∷ s) h k = (h, (k, tt))

-- over a byte
pub level-over : (n m : ℕ) (s : List ℕ) → Level (take n s) → is_line_end (get_or s n 0) ≡ false
    → Level (take m (drop (suc n) s)) → Level (take (suc (n + m)) s)
level-over n m [] h e k = tt
level-over zero m (b ∷ s) h e k = let z : zero + m ≡ m = omega arith in rw z (e, k)
level-over (suc n) m (b ∷ s) h e k =
    let z : suc n + m ≡ suc (n + m) = omega arith in rw z (h.0, level-over n m s h.1 e k)

-- ---- the line stays
module _ (t : List ℕ) where
  stays : (i : ℕ) (x : Line) → is_line_end (get_or t i 0) ≡ false → behind_byte t i x ≡ x
  unfolding behind_byte
  stays i x h = let (c, l) = or-fails {x = is "\r" (get_or t i 0)} h in rw (l, c)

  on-level : (i n : ℕ) (x : Line) → Level (take n (drop i t)) → lines_on t i n x ≡ x
  on-level i zero x h = refl
  on-level i (suc n) x h =
      test (ltb i (length t))
      (λ e.
      let k : Level (get_or t i 0 ∷ take n (drop (suc i) t)) = rw (drop-cons t i 0 (ltb-true _ _ e)) at h in
      ap (lines_on t (suc i) n) (stays i x k.0) ∙ on-level (suc i) n x k.1)
      (λ e.
      let l : length t ≤ i = ltb-false _ _ e in
      let k : length t ≤ suc i = omega arith in
      let z : is_line_end (get_or t i 0) ≡ false = rw (get_or-eq_default t 0 l) in
      ap (lines_on t (suc i) n) (stays i x z) ∙ on-level (suc i) n x (rw (drop_of_length-le t k) (none n)))
    where
      none : (n : ℕ) → Level (take n [])
      none zero = tt
      none (suc n) = tt

  pub to_level : (i j : ℕ) (x : Line) → Level (take (j - i) (drop i t)) → line_to t i j x ≡ x
  to_level i j x h = on-level i (j - i) x h
