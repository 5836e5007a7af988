-- Powers of ten: they grow, by a factor of ten each, and those of counts of decimals are below the limit.
use mathlib.Core.Path.{◌≡◌}
use Prim.Native.Nat.{ℕ, ◌+◌, ◌*◌, ◌^◌, ◌≤◌, ◌<◌}
use native.Mathlib.Nat.{pow-le-pow_right, pow-suc}
use native.Mathlib.Numerals.{add-one}
use native.Mathlib.Omega.{arith}
use Rattle.rules.specs.Numbers.{most_decimals, magnitude_limit}
use Rattle.rules.proofs.NumberLaws.{ten-pos}

pub ten-most : (n k : ℕ) → n ≤ k → 10 ^ n ≤ 10 ^ k
ten-most n k h = pow-le-pow_right (omega arith) h

pub ten-more : (n : ℕ) → 10 ^ (n + 1) ≡ 10 ^ n * 10
ten-more n = rw (add-one, pow-suc)

pub ten-range : (n : ℕ) {p : ℕ} → n ≤ most_decimals → p ≡ 10 ^ n → (0 < p) × (p < magnitude_limit)
ten-range n h e = omega (arith, ten-pos n, ten-most n most_decimals h)
