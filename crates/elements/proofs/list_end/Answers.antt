use Rattle.elements.proofs.ListLaws.{ends-final, ends-plain}
use Rattle.elements.proofs.list_end.Goals as goal

pub returns-then-y-eq-COLON : goal.returns-then-y-eq-COLON
returns-then-y-eq-COLON c =
    ends-final c.if-y-eq-COLON.true c.expect-last.ensures c.close_final.ensures

pub returns : goal.returns
returns c =
    ends-plain c.if-y-eq-COLON.false c.expect.ensures c.put_close.ensures
