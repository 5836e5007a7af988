use Rattle.units.proofs.StepLaws.{domain-steps}
use Rattle.readers.proofs.ReadLaws.{held, expected}
use Rattle.readers.proofs.CodeLaws.{is_name, is-mark}
use native.Mathlib.Omega.{arith}
use Rattle.units.proofs.domain.Goals as goal

pub read_properties-properties-requires : goal.read_properties-properties-requires
read_properties-properties-requires c = held (expected is_name c.expect-behind.ensures) c.requires.held

pub read_written-written-requires : goal.read_written-written-requires
read_written-written-requires c = record {
  held = held (expected (is-mark "=" (omega arith) (omega arith)) c.expect-first.ensures)
      (held c.read_extends-base.ensures
      (held c.read_properties-properties.ensures (held (expected is_name c.expect-behind.ensures) c.requires.held)));
  text_in_bounds = c.requires.text_in_bounds;
}

pub returns : goal.returns
returns c =
    domain-steps c.args.in_topic c.expect-behind.ensures c.name_of.ensures c.read_properties-properties.ensures
    c.read_extends-base.ensures c.expect-first.ensures c.is_some.ensures c.read_written-written.ensures c.ended.ensures
