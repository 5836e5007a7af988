use Rattle.elements.proofs.PutLaws.{close-law}
use Rattle.elements.proofs.put_close.Goals as goal

pub returns-then-fits : goal.returns-then-fits
returns-then-fits c = close-law _ _ _ c.args.is_final _ c.from.ensures
