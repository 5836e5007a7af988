use native.Mathlib.Omega.{arith}
use mir.Facts.{to_z-of_z}
use Rattle.numbers.proofs.ReadLaws.{over-decimals, over-value}
use Rattle.numbers.proofs.read_number.Goals as goal

pub returns-then-max-gt-MOST_DECIMALS : goal.returns-then-max-gt-MOST_DECIMALS
returns-then-max-gt-MOST_DECIMALS c = over-decimals c.args.value _ _ (omega arith)

pub returns-then-magnitude_limit-unsigned_abs : goal.returns-then-magnitude_limit-unsigned_abs
returns-then-magnitude_limit-unsigned_abs c =
    let e = rw (to_z-of_z c.ranges.value) at c.unsigned_abs.ensures.value in
    over-value c.args.value _ _ (omega arith)
