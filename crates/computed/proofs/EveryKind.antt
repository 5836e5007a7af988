-- The book with every kind of record is computed.
use mathlib.Core.Path.{refl}
use Rattle.computed.specs.EveryKind.{EveryKind}
use Rattle.computed.proofs.Computing.{computing}

pub every-kind : EveryKind
unfolding computing
every-kind = record {
  size = refl;
  exact = refl;
  unit = refl;
  unit_name = refl;
  domain = refl;
  domain_name = refl;
  last = refl;
  end = refl;
}
