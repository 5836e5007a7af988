use Rattle.parts.proofs.TypeLaws.{numeric-reads}
use Rattle.parts.proofs.types.numeric_type.Goals as goal

pub returns : goal.returns
returns c = numeric-reads c.expect-behind.ensures c.read_unit_reference-unit.ensures
