use mathlib.Core.Path.{◌∙◌}
use mathlib.Core.Bool.{false}
use Rattle.state.proofs.SharedLaws.{ruling-none, ruling-sort, ruling-final, ruling-fine}
use Rattle.state.proofs.extends_ruling.Goals as goal

pub returns-then-base-eq0 : goal.returns-then-base-eq0
returns-then-base-eq0 c = λ t ks n d b w k es q. ruling-none t ks _ n k d b _ _ w q c.if-base-eq0.true

pub returns-then-is_final : goal.returns-then-is_final
returns-then-is_final c =
    λ t ks n d b w k es q. ruling-final t ks _ n k d b _ _ w q c.if-base-eq0.false _ (c.sort_of.ensures t) _
    (λ o. c.may_extend.ensures d o es) c.if-not-may_extend.false _
    (λ d y. c.is_final.ensures d.abstract d.final false d.mandatory (c.flags_of.ensures t d y))
    c.if-is_final.true

pub returns : goal.returns
returns c =
    λ t ks n d b w k es q.
    ruling-fine t ks _ n k d b _ _ w q c.if-base-eq0.false _ (c.sort_of.ensures t) _
    (λ o. c.may_extend.ensures d o es) c.if-not-may_extend.false _
    (λ d y. c.is_final.ensures d.abstract d.final false d.mandatory (c.flags_of.ensures t d y))
    c.if-is_final.false

pub returns-then-not-may_extend : goal.returns-then-not-may_extend
returns-then-not-may_extend c =
    λ t ks n d b w k es q. ruling-sort t ks _ n k d b _ _ w q c.if-base-eq0.false _ (c.sort_of.ensures t) _
    (λ o. c.may_extend.ensures d o es) c.if-not-may_extend.true
