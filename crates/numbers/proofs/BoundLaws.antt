-- A bound fits exactly when its reading does; so two tests, one of each bound, judge 17 of a range whose first
-- bound is not the greater.
use mathlib.Core.Path.{◌≡◌, refl, sym}
use mathlib.Core.Bool.{Bool, true, false, cond, not, ◌&&◌}
use Prim.Native.Nat.{ℕ, zero, suc, ◌-◌, ◌^◌}
use borrow.Author.Tests.{leb-true, leb-false, lt-ltb, le-ltb}
use lib.IntN.{ℤ, pos, negsuc, pred_ℤ, ◌*ℤ◌}
use lib.Signed.{le_z, lt_z, shr_z, ◌≤ℤ◌}
use lib.Dec.{leb, ltb, leb-zero, leb-suc-zero, leb-suc-suc}
use Rattle.rules.specs.Numbers.{Range, rounded, reading, range_fits}
use Rattle.rules.proofs.Tests.{alike, fail-r}
use Rattle.rules.proofs.NumberLaws.{le_z_is, ≤ℤ-trans, mul→shr, shr→mul, ten-pos, reading-mono}
use Rattle.numbers.specs.Bounds.{low_fits, high_fits}

-- ---- less than, in terms of at most
less : (a b : ℕ) → ltb a b ≡ not (leb b a)
less a b = go (leb b a) refl
  where
    go : (t : Bool) → leb b a ≡ t → ltb a b ≡ not t
    go true e = le-ltb a b (leb-true b a e)
    go false e = lt-ltb a b (leb-false b a e)

less-is : (a b : ℤ) → lt_z a b ≡ not (le_z b a)
less-is (pos a) (pos b) = less a b
less-is (pos a) (negsuc b) = refl
less-is (negsuc a) (pos b) = refl
less-is (negsuc a) (negsuc b) = less b a

above : (a b : ℤ) → lt_z (pred_ℤ a) b ≡ le_z a b
above (pos zero) (pos b) = sym (leb-zero b)
above (pos zero) (negsuc b) = leb-suc-zero b
above (pos (suc a)) (pos b) = refl
above (pos (suc a)) (negsuc b) = refl
above (negsuc a) (pos b) = refl
above (negsuc a) (negsuc b) = leb-suc-suc b a

-- ---- bounds
floor : (k : ℕ) (a b : ℤ) → le_z a (shr_z b (10 ^ k)) ≡ le_z (a *ℤ pos (10 ^ k)) b
floor k a b = alike (λ h. le_z_is.1 (shr→mul (10 ^ k) (ten-pos k) a b (le_z_is.0 h)))
    (λ h. le_z_is.1 (mul→shr (10 ^ k) (ten-pos k) a b (le_z_is.0 h)))

module _ (d db : ℕ) (v bound : ℤ) where
  pub low-is : low_fits d db v bound ≡ le_z bound (reading d db v)
  low-is = go (ltb db d)
    where
      go : (t : Bool) → cond t (le_z bound (rounded v (10 ^ (d - db)))) (lt_z (shr_z (pred_ℤ bound) (10 ^ (db - d))) v)
          ≡ le_z bound (cond t (rounded v (10 ^ (d - db))) (v *ℤ pos (10 ^ (db - d))))
      go true = refl
      go false =
          let w = v *ℤ pos (10 ^ (db - d)) in
          rw (
            less-is (shr_z (pred_ℤ bound) (10 ^ (db - d))) v,
            floor (db - d) v (pred_ℤ bound),
            ← less-is (pred_ℤ bound) w,
          )
          (above bound w)

  pub high_is : high_fits d db v bound ≡ le_z (reading d db v) bound
  high_is = go (ltb db d)
    where
      go : (t : Bool) → cond t (le_z (rounded v (10 ^ (d - db))) bound) (le_z v (shr_z bound (10 ^ (db - d)))) ≡
          le_z (cond t (rounded v (10 ^ (d - db))) (v *ℤ pos (10 ^ (db - d)))) bound
      go true = refl
      go false = floor (db - d) v bound

-- ---- ranges
-- a low bound that fits, with the high one above it, and the other way round
ends : (l m n h : Bool) → (l ≡ true → n ≡ true) → (h ≡ true → m ≡ true) → ((l && m) && (n && h)) ≡ (l && h)
ends false m n h f g = refl
ends true m n true f g = rw (f refl, g refl)
ends true m n false f g = fail-r m (fail-r n refl)

pub range-is : (e b : Range) → le_z e.low e.high ≡ true →
    range_fits e b ≡ (low_fits e.decimals b.decimals e.low b.low
    && high_fits e.decimals b.decimals e.high b.high)
range-is e b o =
    let l : ℤ = reading e.decimals b.decimals e.low in
    let h : ℤ = reading e.decimals b.decimals e.high in
    let m : l ≤ℤ h = reading-mono e.decimals b.decimals e.low e.high (le_z_is.0 o) in
    let f : le_z b.low l ≡ true → le_z b.low h ≡ true = λ p. le_z_is.1 (≤ℤ-trans {a = b.low} (le_z_is.0 p) m) in
    let g : le_z h b.high ≡ true → le_z l b.high ≡ true = λ p. le_z_is.1 (≤ℤ-trans {c = b.high} m (le_z_is.0 p)) in
    rw (low-is e.decimals b.decimals e.low b.low, high_is e.decimals b.decimals e.high b.high)
    (ends (le_z b.low l) (le_z l b.high) (le_z b.low h) (le_z h b.high) f g)
