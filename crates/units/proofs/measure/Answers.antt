use Rattle.units.proofs.StepLaws.{measure-steps}
use Rattle.readers.proofs.ReadLaws.{held, expected}
use Rattle.readers.proofs.CodeLaws.{is_name}
use Rattle.units.proofs.measure.Goals as goal

pub read_properties-properties-requires : goal.read_properties-properties-requires
read_properties-properties-requires c = held (expected is_name c.expect-behind.ensures) c.requires

pub returns : goal.returns
returns c =
    λ o. measure-steps o c.args.in_topic c.expect-behind.ensures c.name_of.ensures c.read_properties-properties.ensures
    c.read_extends-base.ensures c.ended.ensures
