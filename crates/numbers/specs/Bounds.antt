-- 17 of a range, bound by bound.
use Rattle.std.specs.Prelude.{Bool, cond, ℕ, ◌-◌, ◌^◌, ℤ, ltb}
use Rattle.std.proofs.Math.IntN.{pred_ℤ}
use Rattle.std.specs.Int.Signed.{le_z, lt_z, shr_z}
use Rattle.rules.specs.Numbers.{rounded}

-- whether the reading of v, which has d decimals, is at least, or at most, a bound with db
-- decimals; nothing is scaled up
abbrev pub low_fits : ℕ → ℕ → ℤ → ℤ → Bool
low_fits d db v bound =
    cond (ltb db d) (le_z bound (rounded v (10 ^ (d - db)))) (lt_z (shr_z (pred_ℤ bound) (10 ^ (db - d))) v)

abbrev pub high_fits : ℕ → ℕ → ℤ → ℤ → Bool
high_fits d db v bound = cond (ltb db d) (le_z (rounded v (10 ^ (d - db))) bound) (le_z v (shr_z bound (10 ^ (db - d))))
