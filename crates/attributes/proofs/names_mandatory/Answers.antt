use Rattle.rules.specs.Declarations.{Def}
use mathlib.Core.Bool.{false}
use Rattle.attribute_types.proofs.UseLaws.{of-def}
use Rattle.attributes.proofs.names_mandatory.Goals as goal

pub returns-then-p-ne0 : goal.returns-then-p-ne0
returns-then-p-ne0 c =
    λ t b ks ms n y total h w. of-def t b ks ms _ n y total h (λ (d : Def). d.mandatory) c.args.p w c.if-p-ne0.true _
    (λ d k. c.is_mandatory.ensures d.abstract d.final false d.mandatory (c.flags_of.ensures t d k))
