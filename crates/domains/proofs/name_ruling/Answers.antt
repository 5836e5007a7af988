use mathlib.Core.Path.{refl}
use Rattle.domains.proofs.StageLaws.{name-taken, name_free}
use Rattle.domains.proofs.name_ruling.Goals as goal

pub returns-then-is_taken-clause-value : goal.returns-then-is_taken-clause-value
returns-then-is_taken-clause-value c =
    λ s n w o hs k e h m r. name-taken c.args.desk.now.text.now s n w c.args.name e h
    c.is_taken.result (c.is_taken.ensures s c.args.st o hs refl refl k) c.if-is_taken.true

pub returns-clause-value : goal.returns-clause-value
returns-clause-value c =
    λ s n w o hs k e h m r. name_free c.args.desk.now.text.now s n w c.args.name e h c.is_taken.result
    (c.is_taken.ensures s c.args.st o hs refl refl k) c.if-is_taken.false c.element_ruling.result
    (c.element_ruling.ensures w m r)
