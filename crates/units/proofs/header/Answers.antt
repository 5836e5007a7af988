use Rattle.units.proofs.StepLaws.{header-steps}
use Rattle.units.proofs.header.Goals as goal

pub returns : goal.returns
returns c =
    λ o. header-steps o c.expect-number.ensures c.expect-end.ensures c.name_of.ensures c.ended.ensures
