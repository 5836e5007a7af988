use Rattle.units.proofs.StepLaws.{close-steps}
use Rattle.units.proofs.close.Goals as goal

pub returns : goal.returns
returns c =
    λ o. close-steps o c.args.last c.args.at c.expect-name.ensures c.expect-end.ensures c.name_of.ensures
    (rw c.end_mark.ensures at c.ended.ensures)
