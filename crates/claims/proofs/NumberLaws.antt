-- A range fits another exactly when every number of it has its reading there: readings keep the order of
-- numbers, so the bounds decide.
use mathlib.Core.Path.{◌≡◌}
use mathlib.Core.Logic.{⊎_elim}
use mathlib.Core.Bool.{true, false}
use lib.IntN.{ℤ}
use lib.Signed.{le_z, ◌≤ℤ◌, ≤ℤ_refl}
use Rattle.rules.specs.Numbers.{Range, reading, in_range, range_fits}
use Rattle.rules.proofs.Tests.{both, split, either-fails}
use Rattle.rules.proofs.NumberLaws.{le_z_is, ≤ℤ-trans, reading-mono}

within : (r : Range) (v : ℤ) → in_range r v ≡ true → (r.low ≤ℤ v) × (v ≤ℤ r.high)
within r v h = let (p, q) = split h in (le_z_is.0 p, le_z_is.0 q)

module _ (e b : Range) where
  abbrev pub read_at : ℤ → ℤ
  read_at = reading e.decimals b.decimals

  pub fits-sound : range_fits e b ≡ true → (v : ℤ) → in_range e v ≡ true → in_range b (read_at v) ≡ true
  fits-sound f v h =
      let r : (in_range b (read_at e.low) ≡ true) × (in_range b (read_at e.high) ≡ true) = split f in
      let (s, t) = within e v h in
      both
      (le_z_is.1
      (≤ℤ-trans (within b (read_at e.low) r.0).0 (reading-mono e.decimals b.decimals e.low v s)))
      (le_z_is.1
      (≤ℤ-trans (reading-mono e.decimals b.decimals v e.high t) (within b (read_at e.high) r.1).1))

  -- where it does not fit, one of its two bounds is a number that does not read into the base
  pub fits-complete : le_z e.low e.high ≡ true → range_fits e b ≡ false
      → (v : ℤ) × (in_range e v ≡ true) × (in_range b (read_at v) ≡ false)
  fits-complete o f = ⊎_elim (λ p. (e.low, both (le_z_is.1 (≤ℤ_refl e.low)) o, p))
      (λ p. (e.high, both o (le_z_is.1 (≤ℤ_refl e.high)), p)) (either-fails f)
