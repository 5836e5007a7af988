use native.Mathlib.Omega.{arith}
use Rattle.rules.specs.Numbers.{most_decimals}
use Rattle.numbers.proofs.PowerLaws.{ten-most, ten-more}
use Rattle.numbers.proofs.ten_to.Goals as goal
use mathlib.Core.Path.{◌≡◌, refl}

-- A power of ten by multiplying. What each turn keeps: after `counter` turns, at most n, the product is 10 ^ counter.
-- `counter` is the loop's own count of its turns, which the code does not name.

-- before the first turn the product is 1, which is 10 ^ 0
pub loop-init : goal.loop-init
loop-init c = (refl, omega arith)

-- a turn multiplies a power below the limit, so the product fits
pub overflow_mul-power : goal.overflow_mul-power
overflow_mul-power c = omega (arith, ten-most c.loop.counter most_decimals (omega arith))

-- and after it the product is 10 ^ (counter + 1), which is 10 ^ counter * 10
pub loop-preserved : goal.loop-preserved
loop-preserved c = (omega (arith, ten-more c.loop.counter), omega arith)

-- where the loop ends, counter is n
pub returns : goal.returns
returns c =
    let e : c.loop.counter ≡ c.args.n = omega arith in
    rw (← e) c.loop.invariant.0
