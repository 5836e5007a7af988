use mathlib.Core.Path.{◌∙◌}
use mathlib.Core.Logic.{inl, inr}
use mathlib.Core.Bool.{true, false}
use borrow.Author.Tests.{ne_eqb}
use Rattle.names.specs.Index.{entry}
use Rattle.attribute_names.proofs.NameLaws.{references}
use Rattle.attribute_names.proofs.reference_ruling.Goals as goal

pub returns-then-base-eq0 : goal.returns-then-base-eq0
returns-then-base-eq0 c = λ t ks n ms w k v b e f g.
    references ms c.args.base b c.args.extended c.args.place w (entry ks c.args.target) true
    (rw (c.if-extended.true, c.if-base-eq0.true))

pub returns : goal.returns
returns c = λ t ks n ms w k v b e f g.
    c.target_ruling.ensures t ks n w k v e f g
    ∙ references ms c.args.base b c.args.extended c.args.place w (entry ks c.args.target) false
    (elim c.else-extended.either [ inl e ↦ rw (e.0, ne_eqb _ _ e.1) | inr e ↦ rw e ])
