use Rattle.std.proofs.Common.{◌∙◌, sym, arith}
use Rattle.words.proofs.WordLaws.{row-found, row_next, rows-done}
use Rattle.words.proofs.among.Goals as goal

pub returns-then-eq : goal.returns-then-eq
returns-then-eq c =
    λ l e g.
    let (r, x) = c.loop-row.invariant.3 l e g in
    let s = c.in-Some.ensures.steps in
    row-found _ l _ _ _ s.1.0 (s.1.1 ∙ c.loop-row.invariant.2) r x (sym c.eq.ensures ∙ c.if-eq.true)

pub loop-row-preserved : goal.loop-row-preserved
loop-row-preserved c =
    let s = c.in-Some.ensures.steps in (
      omega arith,
      tt,
      s.0 ∙ c.loop-row.invariant.2,
      λ l e g.
          let (r, x) = c.loop-row.invariant.3 l e g in
          row_next _ l _ _ _ s.1.0 (s.1.1 ∙ c.loop-row.invariant.2) r x (sym c.eq.ensures ∙ c.if-eq.false),
    )

pub returns : goal.returns
returns c =
    λ l e g.
    let (r, x) = c.loop-row.invariant.3 l e g in
    rows-done _ l r _ x (omega (arith, c.in-None.ensures.steps.1.0, c.loop-row.invariant.2))
