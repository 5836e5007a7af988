-- Document 01, "Types and bases" and "Errors that look right", as claims on reading numbers: the reading is the only
-- one that rounds as asked, and what comes near it is another.
use Rattle.std.specs.Prelude.{◌≡◌, ◌↔◌, true, false, [], ◌∷◌, ℕ, suc, ◌+◌, ◌-◌, ◌/◌, ◌^◌, ◌≤◌, ◌<◌, ℤ, pos, negsuc}
use Rattle.std.specs.Prelude.{neg_ℤ, ◌+ℤ◌, ◌*ℤ◌, ◌≤ℤ◌}
use Rattle.std.proofs.Math.Option.{none, some}
use Rattle.std.specs.Int.Signed.{shr_z, quot_z}
use Rattle.rules.specs.Numbers as N
use Rattle.rules.specs.Numbers.{rounded, read_number}
use Rattle.rules.specs.Types.{Ty, numeric, Value, number, reading, fits}
use Rattle.claims.specs.Readings.{readable, through, reads}

-- ---- v / m rounds to w: w is the greatest whole number that is at most a half above it
abbrev pub RoundsTo : ℤ → ℕ → ℤ → Type 0
RoundsTo v m w = (a : ℤ) → (a ≤ℤ w) ↔ ((a *ℤ pos m) ≤ℤ (v +ℤ pos (m / 2)))

pub record Rounding : Type 0 where
  pub rounds : (d db : ℕ) (v : ℤ) → db < d → RoundsTo v (10 ^ (d - db)) (N.reading d db v)
  pub only : (v : ℤ) (m : ℕ) (u w : ℤ) → RoundsTo v m u → RoundsTo v m w → u ≡ w
  pub adds_zeros : (d db : ℕ) (v : ℤ) → d ≤ db → N.reading d db v ≡ v *ℤ pos (10 ^ (db - d))
  -- the operation gives this reading or none
  pub operation : (v : ℤ) (d db : ℕ) (w : ℤ) → read_number v d db ≡ N.reads w → w ≡ N.reading d db v

-- ---- other ways to come from tenths to a whole number, each with a number of tenths that it takes elsewhere: leaving
-- the rest away, halves away from zero, and dividing towards zero
abbrev pub Elsewhere : (ℤ → ℕ → ℤ) → Type 0
Elsewhere f = (v : ℤ) × (¬ (f v 10 ≡ rounded v 10))

abbrev pub away_from_zero : ℤ → ℕ → ℤ
away_from_zero (pos n) m = pos ((n + m / 2) / m)
away_from_zero (negsuc n) m = neg_ℤ (pos ((suc n + m / 2) / m))

abbrev pub towards_zero : ℤ → ℕ → ℤ
towards_zero v m = quot_z (v +ℤ pos (m / 2)) (pos m)

abbrev pub OtherRoundings : Type 0
OtherRoundings = Elsewhere shr_z × Elsewhere away_from_zero × Elsewhere towards_zero

-- ---- two steps are not one: 0.45 of 0.45..7.00 over 0.5..7.0 over 1..7
abbrev pub ranged : ℕ → ℕ → ℕ → Ty
ranged d l h = numeric (some (record { decimals = d; low = pos l; high = pos h })) none

abbrev pub near : Ty
near = ranged 1 5 70

abbrev pub far : Ty
far = ranged 0 1 7

pub record NotStraight (t : Ty) (v : Value) : Type 0 where
  pub by_steps : (through (near ∷ far ∷ []) v ≡ some (number 0 (pos 1) none)) × (reads (near ∷ far ∷ []) v ≡ true)
  pub at_once : (reading far v ≡ some (number 0 (pos 0) none)) × (readable far v ≡ false)
  pub judged : (fits t near ≡ true) × (fits near far ≡ true) × (fits t far ≡ false)

abbrev pub TwoSteps : Type 0
TwoSteps = NotStraight (ranged 2 45 700) (number 2 (pos 45) none)
