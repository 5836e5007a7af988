use mathlib.Core.Path.{sym, ◌∙◌}
use Rattle.rules.proofs.Tests.{or_l, or_r, not-both}
use Rattle.attributes.proofs.is_mandatory.Goals as goal
use Rattle.attributes.proofs.is_mandatory.Goals.{then-written, else-written}

pub returns-then-names_mandatory : goal.returns-then-names_mandatory
returns-then-names_mandatory c =
    λ t b ks ms n total h u w. c.if-names_mandatory.true ∙ sym (elim c.if-written.branch [
      | then-written i ↦ or_l _ i.if-written.true
      | else-written i ↦ or_r c.args.written (or_l _ (sym (i.names_mandatory.ensures t b ks ms n _ total h w)
          ∙ sym i.value-is ∙ c.if-names_mandatory.true))
    ])

pub returns-else-names_mandatory : goal.returns-else-names_mandatory
returns-else-names_mandatory c =
    λ t b ks ms n total h u w. elim c.if-written.branch [
      | then-written i ↦ not-both i.if-written.true (sym i.value-is ∙ c.if-names_mandatory.false)
      | else-written i ↦ rw (
        i.if-written.false,
        sym (i.names_mandatory.ensures t b ks ms n _ total h w)
            ∙ sym i.value-is ∙ c.if-names_mandatory.false,
      ) (c.inherits_mandatory.ensures t b ks ms _ n total h u)
    ]
