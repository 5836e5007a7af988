use Rattle.units.proofs.StepLaws.{topic-steps}
use Rattle.units.proofs.topic.Goals as goal

pub returns : goal.returns
returns c =
    λ o. topic-steps o c.expect-name.ensures c.expect-end.ensures c.name_of.ensures c.ended.ensures
