use native.Mathlib.Omega.{arith}
use Rattle.numbers.proofs.PowerLaws.{ten-range}
use Rattle.lines.proofs.BoundDisplay.fmt.Goals as goal

pub nonzero_div-whole : goal.nonzero_div-whole
nonzero_div-whole g c = omega (arith, ten-range _ (omega arith) c.ten_to-power.ensures)

pub nonzero_rem-part : goal.nonzero_rem-part
nonzero_rem-part g c = omega (arith, ten-range _ (omega arith) c.ten_to-power.ensures)
