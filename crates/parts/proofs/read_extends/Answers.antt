use Rattle.parts.proofs.ReferenceLaws.{extended, not_extended}
use Rattle.parts.proofs.read_extends.Goals as goal

pub returns-then-y-ne-EXTENDS : goal.returns-then-y-ne-EXTENDS
returns-then-y-ne-EXTENDS c = not_extended c.if-y-ne-EXTENDS.true

pub returns : goal.returns
returns c =
    extended c.if-y-ne-EXTENDS.false c.expect.ensures c.read_reference-base.ensures
