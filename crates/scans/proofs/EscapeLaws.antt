-- What belongs to a backslash.
use Rattle.std.proofs.Common.{◌≡◌, ◌<◌, ◌≤◌, ◌⊎◌, inl, inr, ℕ, Bool, true, false, ◌&&◌, ◌||◌, List, length, get_or}
use Rattle.std.proofs.Common.{ltb, ltb-true, ltb-false, ne_eqb, arith}
use lib.ListN.{get_or-eq_default}
use Rattle.rules.specs.Bytes.{is, is_hexadecimal}
use Rattle.rules.specs.Symbols.{escape}
use Rattle.rules.proofs.Tests.{fail-r, not-both}
use Rattle.rules.proofs.SymbolLaws.{either}
use Rattle.ground.proofs.TableLaws.{test, second}

-- a byte that is not 0 stands in the text
pub stands : (t : List ℕ) (i : ℕ) → ¬ (get_or t i 0 ≡ 0) → i < length t
stands t i h =
    test (ltb i (length t)) (λ e. ltb-true _ _ e) (λ e. absurd (h (get_or-eq_default t 0 (ltb-false _ _ e))))

module _ (s : List ℕ) where
  abbrev hex : ℕ → Bool
  hex i = is_hexadecimal (get_or s i 0)

  fifth : (is "u" (get_or s 0 0) && (hex 1 && (hex 2 && (hex 3 && hex 4)))) ≡ true → 4 < length s
  fifth p =
      let q : hex 4 ≡ true = second (hex 3) (second (hex 2) (second (hex 1) (second (is "u" (get_or s 0 0)) p))) in
      let f : get_or s 4 0 ≡ 0 → hex 4 ≡ false = λ o. rw o in
      stands s 4 (λ o. not-both q (f o))

  first : (is "\"" (get_or s 0 0) || is "\\" (get_or s 0 0)) ≡ true → 0 < length s
  first p =
      let f : get_or s 0 0 ≡ 0 → (is "\"" (get_or s 0 0) || is "\\" (get_or s 0 0)) ≡ false = λ o. rw o in
      stands s 0 (λ o. not-both p (f o))

  -- what belongs to a backslash stands in the text
  pub escape-le : escape s ≤ length s
  escape-le =
      either (λ n. n ≤ length s) (is "\"" (get_or s 0 0) || is "\\" (get_or s 0 0)) (λ p. omega (arith, first p))
      (λ _.
      either (λ n. n ≤ length s) (is "u" (get_or s 0 0) && (hex 1 && (hex 2 && (hex 3 && hex 4))))
      (λ p. omega (arith, fifth p)) (λ _. omega arith))

  short : length s < 5 → hex 4 ≡ false
  short h = let l : length s ≤ 4 = omega arith in rw (get_or-eq_default s 0 l)

  -- of four bytes or fewer only a quote or another backslash does
  pub escape_short : length s < 5 → ((get_or s 0 0 ≡ 34) ⊎ (get_or s 0 0 ≡ 92) → ⊥) → 0 ≡ escape s
  escape_short h p =
      rw (
        ne_eqb (get_or s 0 0) 34 (λ e. p (inl e)),
        ne_eqb (get_or s 0 0) 92 (λ e. p (inr e)),
        fail-r (is "u" (get_or s 0 0)) (fail-r (hex 1) (fail-r (hex 2) (fail-r (hex 3) (short h)))),
      )
