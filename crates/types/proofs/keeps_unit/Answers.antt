use mathlib.Core.Path.{◌∙◌}
use Rattle.fitting.proofs.ValueLaws.{unit-valued}
use Rattle.types.proofs.UnitLaws.{alone-keeps, number-keeps}
use Rattle.types.proofs.keeps_unit.Goals as goal

pub returns-in-Alone : goal.returns-in-Alone
returns-in-Alone c = λ t ks k d r w x b e q h v. alone-keeps b x c.in-Alone.is w e

pub returns-in-Range : goal.returns-in-Range
returns-in-Range c =
    λ t ks k d r w x b e q h v.
    c.unit_fits.ensures t ks k d r b h (c.unit_of.ensures ∙ unit-valued b c.args.base v)
    ∙ rw q (number-keeps b x c.in-Range.is w e)
