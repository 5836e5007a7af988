use mathlib.Core.Path.{sym, ◌∙◌}
use borrow.Author.Tests.{eqb-true, eqb-false}
use Rattle.rules.proofs.Tests.{never}
use Rattle.attribute_types.proofs.UseLaws.{abstract-domain, no-abstract}
use Rattle.attribute_types.proofs.is_abstract_domain.Goals as goal
use Rattle.attribute_types.proofs.is_abstract_domain.Goals.{then-p-ne0, else-p-ne0}

pub returns-then-sort_of-eq-DOMAIN : goal.returns-then-sort_of-eq-DOMAIN
returns-then-sort_of-eq-DOMAIN c =
    λ t b ks ms n y total h w. elim c.if-p-ne0.branch [
      | then-p-ne0 i ↦
          abstract-domain t b ks ms _ n y total h c.args.p w i.if-p-ne0.true _ i.sort_of.ensures
          (eqb-true _ 3 (sym i.value-is ∙ c.if-sort_of-eq-DOMAIN.true)) _ c.flags_of.ensures _ c.is_abstract.ensures
      | else-p-ne0 i ↦ never (rw i.if-p-ne0.false at (sym i.value-is ∙ c.if-sort_of-eq-DOMAIN.true))
    ]

pub returns-else-sort_of-eq-DOMAIN : goal.returns-else-sort_of-eq-DOMAIN
returns-else-sort_of-eq-DOMAIN c =
    λ t b ks ms n y total h w. elim c.if-p-ne0.branch [
      | then-p-ne0 i ↦ c.if-sort_of-eq-DOMAIN.false ∙ no-abstract t b ks ms _ n y total h c.args.p w i.if-p-ne0.true _
          i.sort_of.ensures (eqb-false _ 3 (sym i.value-is ∙ c.if-sort_of-eq-DOMAIN.false))
      | else-p-ne0 i ↦ c.if-sort_of-eq-DOMAIN.false ∙ rw i.if-p-ne0.false
    ]
