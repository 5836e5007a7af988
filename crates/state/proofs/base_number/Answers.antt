use Rattle.state.proofs.SharedLaws.{number-some}
use Rattle.state.proofs.base_number.Goals as goal

pub returns : goal.returns
returns c = λ t ks n w k. number-some t ks _ n k _ w c.if-base-eq0.false _ (c.number_of.ensures.1 t)
