use Rattle.parts.proofs.ReferenceLaws.{unit-there, no_unit}
use Rattle.parts.proofs.read_unit_reference.Goals as goal

pub returns-then-y-ne-SQUARE : goal.returns-then-y-ne-SQUARE
returns-then-y-ne-SQUARE c = no_unit c.if-y-ne-SQUARE.true

pub returns : goal.returns
returns c =
    unit-there c.if-y-ne-SQUARE.false c.expect.ensures c.read_reference-unit.ensures c.expect-2.ensures
