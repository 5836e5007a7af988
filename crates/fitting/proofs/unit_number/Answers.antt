use Rattle.fitting.proofs.ValueLaws.{unit-there}
use Rattle.fitting.proofs.unit_number.Goals as goal

pub returns : goal.returns
returns c =
    λ t ks n l k. unit-there t ks _ n c.args.unit l k c.if-unit-eq0.false _ c.number_of.ensures.1
