use Rattle.units.proofs.StepLaws.{class-steps}
use Rattle.parts.proofs.TypeLaws.{held-behind}
use Rattle.readers.proofs.ReadLaws.{held, expected}
use Rattle.readers.proofs.CodeLaws.{is_name}
use Rattle.units.proofs.class.Goals as goal

pub read_properties-properties-requires : goal.read_properties-properties-requires
read_properties-properties-requires c =
    held (expected is_name c.expect-behind.ensures) (held-behind c.requires c.expect-name.ensures)

pub returns : goal.returns
returns c =
    λ o h. class-steps o c.args.in_topic h c.expect-name.ensures c.expect-behind.ensures c.name_of.ensures
    c.read_properties-properties.ensures c.read_extends-base.ensures c.class_sort.ensures c.ended.ensures
