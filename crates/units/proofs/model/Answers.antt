use Rattle.units.proofs.StepLaws.{model-steps}
use Rattle.units.proofs.model.Goals as goal

pub returns : goal.returns
returns c =
    λ o. model-steps o _ c.expect-name.ensures c.expect-behind.ensures c.name_of.ensures c.language_part-behind.ensures
    c.expect-address.ensures c.expect-behind-2.ensures c.name_of-2.ensures c.expect-version.ensures c.expect-end.ensures
    c.name_of-3.ensures c.ended.ensures
