use Rattle.fitting.proofs.ValueLaws.{numeric-valued}
use Rattle.rules.specs.Declarations.{ty_of}
use mathlib.Core.Path.{sym, ◌∙◌}
use mathlib.Core.Bool.{true, false}
use Rattle.rules.proofs.Tests.{or_l, or_r}
use Rattle.names.specs.Index.{entry}
use Rattle.rules.specs.Judge.{attribute_use, or_no_attribute}
use Rattle.attribute_types.proofs.UseLaws.{head-last, head-rest}
use Rattle.attribute_types.proofs.head_ruling.Goals as goal
use Rattle.attribute_types.proofs.head_ruling.Goals.{then-twice-via-then-twice}
use Rattle.attribute_types.proofs.head_ruling.Goals.{then-twice-via-else-twice+then-is_numeric}
use Rattle.attribute_types.proofs.head_ruling.Goals.{then-twice-via-else-twice+else-is_numeric+then-is_abstract_domain}

pub returns-then-is_last : goal.returns-then-is_last
returns-then-is_last c =
    λ t b ks ms n total w h l m r v. head-last c.args.place (or_no_attribute (entry ms c.args.q)).final
    c.args.twice w (entry ks c.args.target) (or_no_attribute (entry ms c.args.q)).use_of r _
    (c.is_last.ensures t b ks ms _ n total h l) c.if-is_last.true

pub returns-then-twice : goal.returns-then-twice
returns-then-twice c =
    λ t b ks ms n total w h l m r v. head-rest c.args.place (or_no_attribute (entry ms c.args.q)).final
    c.args.twice w (entry ks c.args.target) (or_no_attribute (entry ms c.args.q)).use_of r _
    (c.is_last.ensures t b ks ms _ n total h l) c.if-is_last.false true (elim c.then-twice.branch [
      | then-twice-via-then-twice i ↦ or_l _ i.if-twice.true
      | then-twice-via-else-twice+then-is_numeric i ↦
          or_r c.args.twice (or_l _ (sym (i.is_numeric.ensures ∙ numeric-valued
          (ty_of (attribute_use w (entry ks c.args.target) (or_no_attribute (entry ms c.args.q)).use_of)) _ v)
          ∙ i.if-is_numeric.true))
      | then-twice-via-else-twice+else-is_numeric+then-is_abstract_domain i ↦
          or_r c.args.twice (or_r _ (sym (i.is_abstract_domain.ensures t b ks ms n _ total h m)
          ∙ i.if-is_abstract_domain.true))
    ])

pub returns : goal.returns
returns c =
    λ t b ks ms n total w h l m r v. head-rest c.args.place (or_no_attribute (entry ms c.args.q)).final
    c.args.twice w (entry ks c.args.target) (or_no_attribute (entry ms c.args.q)).use_of r _
    (c.is_last.ensures t b ks ms _ n total h l) c.if-is_last.false false
    (rw (
      c.if-twice.false,
      sym (c.is_numeric.ensures ∙ numeric-valued
          (ty_of (attribute_use w (entry ks c.args.target) (or_no_attribute (entry ms c.args.q)).use_of)) _ v)
          ∙ c.if-is_numeric.false,
      sym (c.is_abstract_domain.ensures t b ks ms n _ total h m) ∙ c.if-is_abstract_domain.false,
    ))
