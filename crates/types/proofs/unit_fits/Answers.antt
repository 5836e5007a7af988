use mathlib.Core.Path.{sym, ◌∙◌}
use Rattle.rules.specs.Types.{unit_of}
use Rattle.types.proofs.UnitLaws.{unit-none, unit-some}
use native.Mathlib.Omega.{arith}
use Rattle.types.proofs.unit_fits.Goals as goal

pub returns-in-None : goal.returns-in-None
returns-in-None c =
    λ t ks k d r b h e. unit-none ks c.args.unit (let a = k.all in omega arith) (unit_of b) (sym c.in-None.is ∙ e)

pub returns-in-Some : goal.returns-in-Some
returns-in-Some c =
    λ t ks k d r b h e. c.descends.ensures t ks k d
    ∙ unit-some ks c.args.unit c.args.index.now d r c.in-Some.number b h (sym c.in-Some.is ∙ e)
