use Rattle.units.proofs.StepLaws.{language-there, language-absent}
use Rattle.units.proofs.language_part.Goals as goal

pub returns-then-y-eq-ROUND : goal.returns-then-y-eq-ROUND
returns-then-y-eq-ROUND c =
    language-there c.if-y-eq-ROUND.true c.expect-name.ensures c.expect-close.ensures c.expect.ensures

pub returns : goal.returns
returns c = language-absent c.if-y-eq-ROUND.false
