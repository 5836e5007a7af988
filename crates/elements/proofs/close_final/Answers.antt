use Rattle.elements.proofs.ListLaws.{closes-final}
use Rattle.elements.proofs.close_final.Goals as goal

pub returns : goal.returns
returns c =
    closes-final c.expect-close.ensures c.expect.ensures c.put_close.ensures
