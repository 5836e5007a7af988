use native.Mathlib.Omega.{arith}
use mir.Facts.{to_z-of_z}
use Rattle.numbers.proofs.PowerLaws.{ten-range}
use Rattle.numbers.proofs.SignedLaws.{kept, scaled, unfit}
use Rattle.numbers.proofs.ReadLaws.{rounds, scales, is_too_great}
use Rattle.numbers.proofs.read_in_scope.Goals as goal

pub rounded-requires-clause-m_nonzero : goal.rounded-requires-clause-m_nonzero
rounded-requires-clause-m_nonzero c = ten-range _ (omega arith) c.ten_to.ensures

pub returns-then-base_decimals-decimals : goal.returns-then-base_decimals-decimals
returns-then-base_decimals-decimals c =
    let e = rw (to_z-of_z c.ranges.value) at c.rounded.ensures in
    rw (kept c.rounded.result c.rounded.type_inv)
    (rounds c.args.value _ _ c.requires c.if-base_decimals-decimals.true c.ten_to.ensures e)

pub overflow_cast-ten_to : goal.overflow_cast-ten_to
overflow_cast-ten_to c = record { sfits = omega (arith, ten-range _ (omega arith) c.ten_to-2.ensures) }

pub returns-in_default : goal.returns-in_default
returns-in_default c =
    let p = ten-range _ (omega arith) c.ten_to-2.ensures in
    let k = unfit c.args.value c.ranges.value _ p.1 c.in_default.ensures in
    is_too_great c.args.value _ _ c.requires c.if-base_decimals-decimals.false c.ten_to-2.ensures k

pub returns-then-unsigned_abs-magnitude_limit : goal.returns-then-unsigned_abs-magnitude_limit
returns-then-unsigned_abs-magnitude_limit c =
    let p = ten-range _ (omega arith) c.ten_to-2.ensures in
    let w = scaled c.args.value c.ranges.value _ p.1 c.in-Some.ensures in
    rw (to_z-of_z w.0)
    (scales c.args.value _ _ c.requires c.if-base_decimals-decimals.false c.ten_to-2.ensures (omega arith) w.1)

pub returns-else-unsigned_abs-magnitude_limit : goal.returns-else-unsigned_abs-magnitude_limit
returns-else-unsigned_abs-magnitude_limit c =
    let p = ten-range _ (omega arith) c.ten_to-2.ensures in
    let w = scaled c.args.value c.ranges.value _ p.1 c.in-Some.ensures in
    is_too_great c.args.value _ _ c.requires c.if-base_decimals-decimals.false c.ten_to-2.ensures (omega arith)
