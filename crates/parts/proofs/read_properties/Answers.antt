use Rattle.parts.proofs.PropertyLaws.{default-flags, list-there, list-absent}
use Rattle.readers.proofs.ReadLaws.{held, expected}
use Rattle.readers.proofs.CodeLaws.{is-mark}
use native.Mathlib.Omega.{arith}
use Rattle.parts.proofs.read_properties.Goals as goal

pub property_list-requires : goal.property_list-requires
property_list-requires c =
    held (expected (is-mark "(" (omega arith) (omega arith)) c.expect-z.ensures) c.requires

pub returns-then-y-eq-ROUND : goal.returns-then-y-eq-ROUND
returns-then-y-eq-ROUND c =
    list-there c.args.owner c.if-y-eq-ROUND.true c.expect-z.ensures c.property_list.ensures

pub returns : goal.returns
returns c =
    list-absent c.args.owner c.if-y-eq-ROUND.false (default-flags c.default.result c.default.ensures)
