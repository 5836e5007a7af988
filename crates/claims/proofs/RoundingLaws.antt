-- Readings of numbers round as asked, and only they do.
use mathlib.Core.Path.{◌≡◌, refl, ap}
use mathlib.Core.Logic.{◌↔◌}
use mathlib.Core.Bool.{Bool, true, false, cond, ◌||◌}
use Prim.Native.Nat.{ℕ, ◌-◌, ◌/◌, ◌^◌, ◌≤◌, ◌<◌}
use native.Mathlib.Omega.{arith}
use borrow.Author.Tests.{ltb-true, ltb-false}
use lib.IntN.{ℤ, pos, negsuc, ◌+ℤ◌, ◌*ℤ◌}
use lib.Signed.{◌≤ℤ◌, ≤ℤ_refl}
use lib.Dec.{ltb, leb→le}
use Rattle.rules.specs.Numbers as N
use Rattle.rules.specs.Numbers.{most_decimals, rounded, read_number, too_great}
use Rattle.rules.proofs.NumberLaws.{mul→shr, shr→mul, ten-pos}
use Rattle.claims.specs.Rounding.{RoundsTo, Rounding, OtherRoundings, TwoSteps}

module _ (d db : ℕ) (v : ℤ) where
  abbrev picked : Bool → ℤ
  picked t = cond t (rounded v (10 ^ (d - db))) (v *ℤ pos (10 ^ (db - d)))

  rounds : db < d → RoundsTo v (10 ^ (d - db)) (N.reading d db v)
  rounds h a = go (ltb db d) refl
    where
      go : (t : Bool) → ltb db d ≡ t → (a ≤ℤ picked t) ↔ ((a *ℤ pos (10 ^ (d - db))) ≤ℤ (v +ℤ pos (10 ^ (d - db) / 2)))
      go true e = (shr→mul (10 ^ (d - db)) (ten-pos (d - db)) a _, mul→shr (10 ^ (d - db)) (ten-pos (d - db)) a _)
      go false e = absurd (omega (arith, ltb-false db d e))

  adds_zeros : d ≤ db → N.reading d db v ≡ v *ℤ pos (10 ^ (db - d))
  adds_zeros h = go (ltb db d) refl
    where
      go : (t : Bool) → ltb db d ≡ t → picked t ≡ v *ℤ pos (10 ^ (db - d))
      go true e = absurd (omega (arith, ltb-true db d e))
      go false e = refl

≤ℤ-antisym : {a b : ℤ} → a ≤ℤ b → b ≤ℤ a → a ≡ b
≤ℤ-antisym {a = pos a} {b = pos b} h k = ap pos (omega (arith, leb→le))
≤ℤ-antisym {a = pos a} {b = negsuc b} h k = absurd h.le
≤ℤ-antisym {a = negsuc a} {b = pos b} h k = absurd k.le
≤ℤ-antisym {a = negsuc a} {b = negsuc b} h k = ap negsuc (omega (arith, leb→le))

only : (v : ℤ) (m : ℕ) (u w : ℤ) → RoundsTo v m u → RoundsTo v m w → u ≡ w
only v m u w h k = ≤ℤ-antisym ((k u).1 ((h u).0 (≤ℤ_refl u))) ((h w).1 ((k w).0 (≤ℤ_refl w)))

operation : (v : ℤ) (d db : ℕ) (w : ℤ) → read_number v d db ≡ N.reads w → w ≡ N.reading d db v
unfolding read_number
operation v d db w = go (ltb most_decimals d || (ltb most_decimals db || too_great v)) (too_great (N.reading d db v))
  where
    go : (s t : Bool) → cond s (N.not_read 20) (cond t (N.not_read 21) (N.reads (N.reading d db v))) ≡ N.reads w
        → w ≡ N.reading d db v
    go true t p = cc
    go false true p = cc
    go false false p = cc

pub rounding : Rounding
rounding = record { rounds = rounds; only = only; adds_zeros = adds_zeros; operation = operation }

-- 0.5, -0.5 and -1.6
pub other-roundings : OtherRoundings
other-roundings = (
  (pos 5, λ p. let z : ◌≡◌ {A = ℕ} 0 1 = cc in omega arith),
  (negsuc 4, λ p. let z : ◌≡◌ {A = ℕ} 0 1 = cc in omega arith),
  (negsuc 15, λ p. let z : ◌≡◌ {A = ℕ} 0 1 = cc in omega arith),
)

pub two_steps_lem : TwoSteps
two_steps_lem = record { by_steps = (refl, refl); at_once = (refl, refl); judged = (refl, refl, refl) }
