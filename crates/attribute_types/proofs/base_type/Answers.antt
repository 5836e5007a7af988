use Rattle.attribute_types.proofs.UseLaws.{type-in-place, type-named}
use Rattle.attribute_types.proofs.base_type.Goals as goal

pub returns-then-u-eq0 : goal.returns-then-u-eq0
returns-then-u-eq0 c =
    λ t ks ms n total r w l e. type-in-place t _ ks ms _ n _ total r c.args.q w c.if-q-eq0.false c.args.u e
    c.if-u-eq0.true _ c.member_place.ensures.0 _ c.type_behind.ensures

pub returns : goal.returns
returns c =
    λ t ks ms n total r w l e. type-named t _ ks ms _ n _ total r c.args.q w c.if-q-eq0.false c.args.u e
    c.if-u-eq0.false _ (λ d q. c.named_type.ensures t ks ms n _ total d r q)
