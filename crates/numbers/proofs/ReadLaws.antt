-- "Reading a number", case by case, and that its promise allows only one answer.
use mathlib.Core.Path.{◌≡◌, refl, sym, ap, ◌∙◌}
use mathlib.Core.Bool.{Bool, true, false, cond, ◌||◌}
use Prim.Native.Nat.{ℕ, suc, ◌-◌, ◌*◌, ◌/◌, ◌^◌, ◌≤◌, ◌<◌, max}
use Rattle.std.proofs.lemmas.Bool.Decides.{nat_tests}
use native.Mathlib.Nat.{div-lt_iff_lt-mul, div-le_self}
use native.Mathlib.Omega.{arith}
use borrow.Author.Tests.{lt-ltb, le-ltb, le-leb, lt-leb}
use lib.IntN.{ℤ, pos, negsuc, nat_abs, ◌*ℤ◌}
use lib.Signed.{shr_z}
use lib.Dec.{ltb}
use Rattle.rules.specs.Numbers.{most_decimals, magnitude_limit, reads, not_read, rounded, reading, too_great}
use Rattle.rules.specs.Numbers.{read_number}
use Rattle.rules.proofs.Tests.{or_r}
use Rattle.std.specs.Prelude.{Ok, Err}
use Rattle.numbers.specs.declared.Unreadable.TheVariants.{OutOfScope, TooGreat}
use Rattle.numbers.specs.Answer.{Reading, number_of, reading_of, Promised}
use Rattle.numbers.proofs.PowerLaws.{ten-most}
use Rattle.numbers.proofs.SignedLaws.{abs-mul}

-- ---- only one answer
same_answer : (r s : Reading) → number_of r ≡ number_of s → reading_of r ≡ reading_of s → r ≡ s
same_answer (Ok v) (Ok w) p q = ap Ok q
same_answer (Ok v) (Err OutOfScope) p q = absurd (omega arith)
same_answer (Ok v) (Err TooGreat) p q = absurd (omega arith)
same_answer (Err OutOfScope) (Ok w) p q = absurd (omega arith)
same_answer (Err OutOfScope) (Err OutOfScope) p q = refl
same_answer (Err OutOfScope) (Err TooGreat) p q = absurd (omega arith)
same_answer (Err TooGreat) (Ok w) p q = absurd (omega arith)
same_answer (Err TooGreat) (Err OutOfScope) p q = absurd (omega arith)
same_answer (Err TooGreat) (Err TooGreat) p q = refl

pub one_answer : (v : ℤ) (d db : ℕ) (r s : Reading) → Promised v d db r → Promised v d db s → r ≡ s
one_answer v d db r s p q = same_answer r s (p.number ∙ sym q.number) (p.value ∙ sym q.value)

-- ---- a number below the limit is rounded to one
module _ (m : ℕ) (h : 1 < m) where
  shr-small : (a : ℕ) → a < magnitude_limit * m → a / m < magnitude_limit
  shr-small a k = (div-lt_iff_lt-mul {k = m} (omega arith)).1 k

  sub_small : (a : ℕ) → suc a < magnitude_limit → (t : Bool)
      → nat_abs (shr_z (cond t (negsuc (suc a - suc (m / 2))) (pos (m / 2 - suc a))) m) < magnitude_limit
  sub_small a k true = omega (arith, div-le_self (suc a - suc (m / 2)) m)
  sub_small a k false = shr-small _ (omega arith)

  rounded-small : (v : ℤ) → nat_abs v < magnitude_limit → nat_abs (rounded v m) < magnitude_limit
  rounded-small (pos a) k = shr-small _ (omega arith)
  rounded-small (negsuc a) k = sub_small a k (ltb (m / 2) (suc a))

-- ---- the answer in each case
module _ (v : ℤ) (d db : ℕ) where
  out : (ltb most_decimals d || (ltb most_decimals db || too_great v)) ≡ true → Promised v d db (Err OutOfScope)
  unfolding read_number
  out p = record { number = rw p; value = rw p }

  pub over-decimals : most_decimals < max d db → Promised v d db (Err OutOfScope)
  over-decimals h = out (grind (arith, nat_tests))

  pub over-value : magnitude_limit ≤ nat_abs v → Promised v d db (Err OutOfScope)
  over-value h = out (or_r (ltb most_decimals d) (or_r (ltb most_decimals db) (le-leb magnitude_limit (nat_abs v) h)))

  module _ (h : (d ≤ most_decimals) × (db ≤ most_decimals) × (nat_abs v < magnitude_limit)) where
    in_scope : read_number v d db ≡ cond (too_great (reading d db v)) (not_read 21) (reads (reading d db v))
    unfolding read_number
    in_scope = rw (le-ltb most_decimals d h.0, le-ltb most_decimals db h.1, lt-leb magnitude_limit (nat_abs v) h.2)

    read : {w : ℤ} → reading d db v ≡ w → nat_abs w < magnitude_limit → Promised v d db (Ok w)
    read {w} e k =
        let q = lt-leb magnitude_limit (nat_abs w) k in
        record { number = rw (in_scope, e, q); value = rw (in_scope, e, q) }

    pub rounds : db < d → {p : ℕ} {w : ℤ} → p ≡ 10 ^ (d - db) → w ≡ rounded v p → Promised v d db (Ok w)
    rounds l e q =
        let k : 1 < 10 ^ (d - db) = omega (arith, ten-most 1 (d - db) (omega arith)) in
        rw (q, e) (read (rw (lt-ltb db d l)) (rounded-small (10 ^ (d - db)) k v h.2))

    module _ (l : d ≤ db) {p : ℕ} (e : p ≡ 10 ^ (db - d)) where
      pub scales : {w : ℤ} → nat_abs v * p < magnitude_limit → w ≡ v *ℤ pos p → Promised v d db (Ok w)
      scales k q = rw q (read (rw (le-ltb db d l, e)) (omega (arith, abs-mul v p)))

      pub is_too_great : magnitude_limit ≤ nat_abs v * p → Promised v d db (Err TooGreat)
      is_too_great k =
          let q : too_great (reading d db v)
          ≡ true =
          rw (le-ltb db d l, ← e) (le-leb magnitude_limit (nat_abs (v *ℤ pos p)) (omega (arith, abs-mul v p))) in
          record { number = rw (in_scope, q); value = rw (in_scope, q) }
