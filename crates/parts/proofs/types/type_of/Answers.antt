use Rattle.parts.proofs.TypeLaws.{type-enum, type-plain}
use Rattle.parts.proofs.types.type_of.Goals as goal

pub returns-then-y-ne-ROUND : goal.returns-then-y-ne-ROUND
returns-then-y-ne-ROUND c = type-plain (c.plain_type.ensures c.if-y-ne-ROUND.true)

pub returns : goal.returns
returns c =
    type-enum c.args.scratch.now c.if-y-ne-ROUND.false c.outermost-list.ensures
