-- Signed numbers in 64 bits: what an operation on magnitudes below the limit gives is what the number calls for.
use mathlib.Core.Path.{◌≡◌, refl, ◌∙◌}
use Prim.Native.Nat.{ℕ, zero, suc, ◌+◌, ◌*◌, ◌^◌, ◌≤◌, ◌<◌}
use native.Mathlib.Omega.{arith}
use lib.IntN.{ℤ, pos, negsuc, neg_ℤ, pred_ℤ, nat_abs, ◌-ℤ◌, ◌*ℤ◌, +ℤ_idl, -ℤ_one}
use lib.Signed.{mag}
use mir.Syntax.{w64}
use mir.Val.{SFits, to_z, of_z}
use mir.Facts.{to_z-of_z, to_z_pos}
use Rattle.rules.specs.Numbers.{magnitude_limit}

-- ---- magnitudes
pub abs_neg : (n : ℕ) → nat_abs (neg_ℤ (pos n)) ≡ n
abs_neg zero = refl
abs_neg (suc n) = refl

pub abs-mul : (v : ℤ) (p : ℕ) → nat_abs (v *ℤ pos p) ≡ nat_abs v * p
abs-mul (pos a) p = refl
abs-mul (negsuc a) p = abs_neg (suc a * p)

abs-pred : (v : ℤ) → nat_abs (pred_ℤ v) ≤ nat_abs v + 1
abs-pred (pos zero) = omega arith
abs-pred (pos (suc a)) = omega arith
abs-pred (negsuc a) = omega arith

fits : (z : ℤ) → nat_abs z < 2 ^ 63 → SFits w64 z
fits (pos a) h = record { sfits = h }
fits (negsuc a) h = record { sfits = omega arith }

-- ---- a signed local that is given z: z fits, and w is read back
abbrev pub held : ℤ → ℤ
held z = to_z w64 (of_z w64 z)

abbrev pub Holds : ℤ → ℤ → Type 0
Holds z w = SFits w64 z × (held z ≡ w)

pub kept : (z : ℤ) → mag z < 2 ^ 63 → held z ≡ z
kept z h = to_z-of_z {w = w64} (record { sfits = h })

pub holds : {z w : ℤ} → z ≡ w → SFits w64 w → Holds z w
holds e f = (rw e f, rw e (to_z-of_z f))

pub plain : (n : ℕ) → n < magnitude_limit → to_z w64 n ≡ pos n
plain n h = to_z_pos w64 (omega arith)

-- of the limit itself too
pub negated : (n : ℕ) → n ≤ magnitude_limit → Holds (pos 0 -ℤ to_z w64 n) (neg_ℤ (pos n))
negated n h = holds (rw (to_z_pos w64 {n = n} (omega arith), +ℤ_idl)) (fits _ (omega (arith, abs_neg n)))

module _ (v : ℤ) (f : SFits w64 v) where
  pub lowered : nat_abs v < magnitude_limit → Holds (held v -ℤ pos 1) (pred_ℤ v)
  lowered k = holds (rw (to_z-of_z f, -ℤ_one)) (fits _ (omega (arith, abs-pred v)))

-- a product that is looked at first
module _ (v : ℤ) (f : SFits w64 v) (p : ℕ) (l : p < magnitude_limit) where
  product : held v *ℤ to_z w64 p ≡ v *ℤ pos p
  product = rw (to_z-of_z f, plain p l)

  pub scaled : {w : ℤ} → SFits w64 (held v *ℤ to_z w64 p) × (w ≡ held v *ℤ to_z w64 p)
      → SFits w64 w × (w ≡ v *ℤ pos p) × (nat_abs (held w) ≡ nat_abs v * p)
  scaled (g, e) = (rw e g, e ∙ product, rw (e, to_z-of_z g, product) (abs-mul v p))

  pub unfit : ¬ SFits w64 (held v *ℤ to_z w64 p) → magnitude_limit ≤ nat_abs v * p
  unfit n =
      let h : nat_abs v * p < magnitude_limit → ⊥ = λ k. n (rw product (fits _ (omega (arith, abs-mul v p)))) in
      omega (arith, h)
