use Rattle.parts.proofs.ReferenceLaws.{one-part, two-parts, three-parts}
use Rattle.parts.proofs.read_reference.Goals as goal

pub returns-then-behind-ne-DOT : goal.returns-then-behind-ne-DOT
returns-then-behind-ne-DOT c = one-part c.expect-behind.ensures c.name_of.ensures c.if-behind-ne-DOT.true

pub returns-then-behind-ne-DOT-2 : goal.returns-then-behind-ne-DOT-2
returns-then-behind-ne-DOT-2 c =
    two-parts c.expect-behind.ensures c.name_of-then-behind-ne-DOT-2.ensures c.if-behind-ne-DOT.false
    c.expect-second.ensures c.expect-behind-2.ensures
    c.name_of-then-behind-ne-DOT-2-2.ensures c.if-behind-ne-DOT-2.true

pub returns : goal.returns
returns c =
    three-parts c.expect-behind.ensures c.name_of-2.ensures c.if-behind-ne-DOT.false c.expect-second.ensures
    c.expect-behind-2.ensures c.name_of-3.ensures c.if-behind-ne-DOT-2.false c.expect-third.ensures
    c.expect.ensures c.name_of-4.ensures
