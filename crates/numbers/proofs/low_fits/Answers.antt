use native.Mathlib.Omega.{arith}
use mir.Facts.{to_z-of_z}
use borrow.Author.Tests.{le-ltb}
use Rattle.numbers.proofs.PowerLaws.{ten-range}
use Rattle.numbers.proofs.SignedLaws.{kept, lowered}
use Rattle.numbers.proofs.low_fits.Goals as goal

-- The answers stand in the order of the code: a comparison that scales up is refused where its product must fit.
pub rounded-requires-clause-m_nonzero : goal.rounded-requires-clause-m_nonzero
rounded-requires-clause-m_nonzero c = ten-range _ (omega arith) c.ten_to.ensures

pub floor_div-requires : goal.floor_div-requires
floor_div-requires c = ten-range _ (omega arith) c.ten_to-p.ensures

pub returns : goal.returns
returns c =
    rw (
      to_z-of_z c.ranges.v,
      kept c.floor_div.result c.floor_div.type_inv,
      c.floor_div.ensures,
      (lowered c.args.bound c.ranges.bound c.requires.v_bound.1).1,
      c.ten_to-p.ensures,
      le-ltb _ _ c.if-base_decimals-decimals.false,
    )
