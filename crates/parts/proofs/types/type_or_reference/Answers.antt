use Rattle.parts.proofs.TypeLaws.{type-named, type-other}
use Rattle.parts.proofs.types.type_or_reference.Goals as goal

pub returns-then-y-ne-NAME : goal.returns-then-y-ne-NAME
returns-then-y-ne-NAME c =
    type-other c.if-y-ne-NAME.true c.type_of.ensures

pub returns : goal.returns
returns c = type-named c.if-y-ne-NAME.false c.read_reference-named.ensures
