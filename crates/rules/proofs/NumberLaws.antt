-- Readings keep the order of numbers: from the order of ℤ and the one law of the floor.
use mathlib.Core.Path.{◌≡◌, refl, ap}
use mathlib.Core.Logic.{◌↔◌}
use mathlib.Core.Bool.{Bool, true, false, cond, not, ◌||◌}
use mathlib.Core.List.{List}
use Prim.Native.Nat.{ℕ, zero, suc, ◌+◌, ◌*◌, ◌-◌, ◌/◌, ◌^◌, ◌≤◌, ◌<◌}
use native.Mathlib.Nat.{le-div_iff_mul-le, div-lt_iff_lt-mul, one-le-pow}
use native.Mathlib.Omega.{arith}
use borrow.Author.Tests.{ltb-true, ltb-false, le-ltb}
use lib.IntN.{ℤ, pos, negsuc, neg_ℤ, one, ◌+ℤ◌, ◌*ℤ◌, *ℤ-one}
use lib.Signed.{le_z, lt_z, shr_z, ◌≤ℤ◌, lt_z_no, ≤ℤ_refl}
use lib.Dec.{eqb, ltb, leb→le, le→leb}
use Rattle.rules.specs.Numbers.{value_of, decimals_of, rounded, reading, Range, range_fits}
use Rattle.rules.proofs.Tests.{both, or-fails, not-false, so, so⁻¹}

-- ---- the order of ℤ, as a record: from `a ≤ℤ b` antt reads off a and b
pub le_z_is : {a b : ℤ} → (le_z a b ≡ true) ↔ (a ≤ℤ b)
le_z_is = (λ p. record { le = so⁻¹ p }, λ h. so h.le)

pub ≤ℤ-trans : {a b c : ℤ} → a ≤ℤ b → b ≤ℤ c → a ≤ℤ c
≤ℤ-trans {a = pos a} {b = pos b} {c = pos c} h k = omega (arith, leb→le, le→leb)
≤ℤ-trans {a = pos a} {b = pos b} {c = negsuc c} h k = absurd k.le
≤ℤ-trans {a = pos a} {b = negsuc b} {c} h k = absurd h.le
≤ℤ-trans {a = negsuc a} {b = pos b} {c = pos c} h k = record { le = tt }
≤ℤ-trans {a = negsuc a} {b = pos b} {c = negsuc c} h k = absurd k.le
≤ℤ-trans {a = negsuc a} {b = negsuc b} {c = pos c} h k = record { le = tt }
≤ℤ-trans {a = negsuc a} {b = negsuc b} {c = negsuc c} h k = omega (arith, leb→le, le→leb)

-- two bounds that keep 14
pub in_order_lem : (x y : List ℕ)
    → (not (eqb (decimals_of x) (decimals_of y)) || lt_z (value_of y) (value_of x)) ≡ false
    → le_z (value_of x) (value_of y) ≡ true
in_order_lem x y h =
    let (p, q) = or-fails {x = not (eqb (decimals_of x) (decimals_of y))} h in
    le_z_is.1 (lt_z_no {a = value_of y} (so⁻¹ (not-false q)))

-- ---- the one law of the floor: a * m ≤ b exactly where a ≤ ⌊b / m⌋
neg-pos : (n : ℕ) → zero < n → neg_ℤ (pos n) ≡ negsuc (n - 1)
neg-pos zero h = absurd (omega arith)
neg-pos (suc n) h = ap negsuc (omega arith)

module _ (m : ℕ) (p : zero < m) where
  mul-neg : (a : ℕ) → negsuc a *ℤ pos m ≡ negsuc (suc a * m - 1)
  mul-neg a = neg-pos (suc a * m) (omega arith)

  pub mul→shr : (a b : ℤ) → (a *ℤ pos m) ≤ℤ b → a ≤ℤ shr_z b m
  mul→shr (pos a) (pos b) h =
      let q : a ≤ b / m = (le-div_iff_mul-le p).1 (leb→le (a * m) b h.le) in omega (arith, le→leb)
  mul→shr (pos a) (negsuc b) h = absurd h.le
  mul→shr (negsuc a) (pos b) h = record { le = tt }
  mul→shr (negsuc a) (negsuc b) h =
      let k : b ≤ suc a * m - 1 = leb→le _ _ (rw (mul-neg a) at h).le in
      let q : b / m < suc a = (div-lt_iff_lt-mul p).1 (omega arith) in
      omega (arith, le→leb)

  pub shr→mul : (a b : ℤ) → a ≤ℤ shr_z b m → (a *ℤ pos m) ≤ℤ b
  shr→mul (pos a) (pos b) h =
      let q : a * m ≤ b = (le-div_iff_mul-le p).0 (leb→le a (b / m) h.le) in omega (arith, le→leb)
  shr→mul (pos a) (negsuc b) h = absurd h.le
  shr→mul (negsuc a) (pos b) h = rw (mul-neg a) (record { le = tt })
  shr→mul (negsuc a) (negsuc b) h =
      let k : b / m ≤ a = leb→le _ _ h.le in
      let q : b < suc a * m = (div-lt_iff_lt-mul p).0 (omega arith) in
      rw (mul-neg a) (omega (arith, le→leb))

  -- so the floor and the product are monotone
  shr_mono : {a b : ℤ} → a ≤ℤ b → shr_z a m ≤ℤ shr_z b m
  shr_mono {a} {b} h = mul→shr (shr_z a m) b (≤ℤ-trans (shr→mul (shr_z a m) a (≤ℤ_refl _)) h)

  mul_mono : {a b : ℤ} → a ≤ℤ b → (a *ℤ pos m) ≤ℤ (b *ℤ pos m)
  mul_mono {a} {b} h = shr→mul a (b *ℤ pos m) (≤ℤ-trans h (mul→shr b (b *ℤ pos m) (≤ℤ_refl _)))

-- ---- adding a number is monotone
sub-le-pos : (k a n : ℕ) → k ≤ n → (t : Bool) → cond t (negsuc (suc a - suc k)) (pos (k - suc a)) ≤ℤ pos n
sub-le-pos k a n h true = record { le = tt }
sub-le-pos k a n h false = omega (arith, le→leb)

sub-mono : (k a b : ℕ) → b ≤ a → (t u : Bool) → ltb k (suc a) ≡ t → ltb k (suc b) ≡ u
    → cond t (negsuc (suc a - suc k)) (pos (k - suc a)) ≤ℤ cond u (negsuc (suc b - suc k)) (pos (k - suc b))
sub-mono k a b h true true e f = omega (arith, le→leb)
sub-mono k a b h true false e f = record { le = tt }
sub-mono k a b h false true e f = absurd (omega (arith, ltb-false k (suc a) e, ltb-true k (suc b) f))
sub-mono k a b h false false e f = omega (arith, le→leb)

add-mono : (k : ℕ) {a b : ℤ} → a ≤ℤ b → (a +ℤ pos k) ≤ℤ (b +ℤ pos k)
add-mono k {a = pos a} {b = pos b} h = omega (arith, leb→le, le→leb)
add-mono k {a = pos a} {b = negsuc b} h = absurd h.le
add-mono k {a = negsuc a} {b = pos b} h = sub-le-pos k a (b + k) (omega arith) (ltb k (suc a))
add-mono k {a = negsuc a} {b = negsuc b} h =
    sub-mono k a b (leb→le b a h.le) (ltb k (suc a)) (ltb k (suc b)) refl refl

-- ---- readings
pub ten-pos : (n : ℕ) → zero < 10 ^ n
ten-pos n = one-le-pow n 10 (omega arith)

module _ (d db : ℕ) where
  read_mono : (t : Bool) {a b : ℤ} → a ≤ℤ b →
      cond t (rounded a (10 ^ (d - db))) (a *ℤ pos (10 ^ (db - d)))
      ≤ℤ cond t (rounded b (10 ^ (d - db))) (b *ℤ pos (10 ^ (db - d)))
  read_mono true h = shr_mono (10 ^ (d - db)) (ten-pos (d - db)) (add-mono (10 ^ (d - db) / 2) h)
  read_mono false h = mul_mono (10 ^ (db - d)) (ten-pos (db - d)) h

  pub reading-mono : (a b : ℤ) → a ≤ℤ b → reading d db a ≤ℤ reading d db b
  reading-mono a b = read_mono (ltb db d)

-- at as many decimals, a number is read as itself, and a range fits itself
pub reading-same : (d : ℕ) (v : ℤ) → reading d d v ≡ v
unfolding one
reading-same d v = let e : d - d ≡ 0 = omega arith in rw (le-ltb d d (omega arith), e) (*ℤ-one v)

pub fits-itself : (r : Range) → le_z r.low r.high ≡ true → range_fits r r ≡ true
fits-itself r h =
    rw (reading-same r.decimals r.low, reading-same r.decimals r.high)
    (both (both (le_z_is.1 (≤ℤ_refl r.low)) h) (both h (le_z_is.1 (≤ℤ_refl r.high))))
