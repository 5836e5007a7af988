use Rattle.parts.proofs.TypeLaws.{no_length, not-whole, long-length, good_length}
use mathlib.Core.Path.{sym, ◌∙◌}
use Rattle.parts.proofs.types.text_length.Goals as goal

pub returns-in_default-clause-reads : goal.returns-in_default-clause-reads
returns-in_default-clause-reads c =
    λ m q. no_length m (not-whole (sym c.in_default.is ∙ c.count.ensures)) c.no_length.ensures.0

pub returns-then-length-gt-LONGEST-clause-reads : goal.returns-then-length-gt-LONGEST-clause-reads
returns-then-length-gt-LONGEST-clause-reads c =
    λ m q. long-length m (sym c.in-Some.is ∙ c.count.ensures) c.if-length-gt-LONGEST.true
    c.no_length-then-length-gt-LONGEST.ensures.0

pub returns-clause-reads : goal.returns-clause-reads
returns-clause-reads c =
    λ m q. rw q (good_length m (sym c.in-Some.is ∙ c.count.ensures) c.if-length-gt-LONGEST.false c.expect.ensures)
