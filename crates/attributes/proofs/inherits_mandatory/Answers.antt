use Rattle.rules.specs.Declarations.{Attribute}
use mathlib.Core.Bool.{false}
use Rattle.attribute_types.proofs.UseLaws.{of-attribute}
use Rattle.attributes.proofs.inherits_mandatory.Goals as goal

pub returns-then-q-ne0 : goal.returns-then-q-ne0
returns-then-q-ne0 c =
    λ t b ks ms x n total h w. of-attribute t b ks ms x n _ total h (λ (a : Attribute). a.mandatory) c.args.q w
    c.if-q-ne0.true _ (λ a k.
    c.is_mandatory.ensures false a.final a.extended a.mandatory (c.member_flags.ensures t a k))
