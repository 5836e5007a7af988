use mathlib.Core.Path.{refl}
use Rattle.attribute_types.proofs.UseLaws.{named-domain, named-structure}
use Rattle.attribute_types.proofs.named_type.Goals as goal

pub returns-then-sort_of-eq-DOMAIN : goal.returns-then-sort_of-eq-DOMAIN
returns-then-sort_of-eq-DOMAIN c =
    λ t ks ms n y total d r e. named-domain t _ ks ms _ n y total r c.args.p d e _ c.sort_of.ensures
    c.if-sort_of-eq-DOMAIN.true _ c.place_of.ensures.0 _ c.type_behind.ensures

pub returns : goal.returns
returns c =
    λ t ks ms n y total d r e.
    named-structure t _ ks ms _ n y total r c.args.p d e _ c.sort_of.ensures c.if-sort_of-eq-DOMAIN.false _ refl
