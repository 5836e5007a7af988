use mathlib.Core.Path.{refl, sym, ◌∙◌}
use Rattle.heads.proofs.UnitLaws.{header-fine, header-other}
use Rattle.heads.proofs.judge_header.Goals as goal

pub returns : goal.returns
returns c =
    λ s v o x z y hs rs k q. header-fine c.args.desk.now.text.now s v c.args.st _ _ _ _ _ rs
    c.args.name k q _ refl (sym c.if-not-is_edition.false ∙ c.is_edition.ensures)

pub returns-then-not-is_edition : goal.returns-then-not-is_edition
returns-then-not-is_edition c =
    λ s v o x z y hs rs k q. header-other c.args.desk.now.text.now s v c.args.st _ _ _ _ _ rs
    c.args.name k q _ refl (sym c.if-not-is_edition.true ∙ c.is_edition.ensures)
