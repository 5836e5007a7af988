use native.Mathlib.Omega.{arith}
use Rattle.numbers.proofs.PowerLaws.{ten-range}
use Rattle.numbers.proofs.high_fits.Goals as goal

pub rounded-requires-clause-m_nonzero : goal.rounded-requires-clause-m_nonzero
rounded-requires-clause-m_nonzero c = ten-range _ (omega arith) c.ten_to.ensures

pub floor_div-requires : goal.floor_div-requires
floor_div-requires c = ten-range _ (omega arith) c.ten_to-p.ensures
