use Rattle.parts.proofs.TypeLaws.{range-reads}
use Rattle.readers.proofs.ReadLaws.{held, expected}
use Rattle.readers.proofs.CodeLaws.{is_number, is-dots}
use Rattle.parts.proofs.types.range_type.Goals as goal

pub number-second-requires : goal.number-second-requires
number-second-requires c =
    held (expected is-dots c.expect-bound.ensures) (held (expected is_number c.expect-dots.ensures) c.requires)

pub returns : goal.returns
returns c =
    range-reads c.expect-dots.ensures c.expect-bound.ensures c.expect-behind.ensures
    c.number-first.ensures c.number-second.ensures c.read_unit_reference-unit.ensures
