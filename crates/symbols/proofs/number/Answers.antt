use mathlib.Core.Path.{sym, ◌∙◌}
use Rattle.symbols.proofs.NumberLaws.{number-whole, number-dotted}
use Rattle.symbols.proofs.number.Goals as goal

pub returns-then-e-f : goal.returns-then-e-f
returns-then-e-f c =
    let a = c.args in
    c.sized.ensures
    ∙ sym (number-dotted a.text.now a.at a.sign a.line c.requires.0 c.requires.1 c.digits_end-e.result
    c.fraction_end-f.result c.digits_end-e.ensures
    c.fraction_end-f.ensures c.if-e-f.true)

pub returns : goal.returns
returns c =
    let a = c.args in
    c.sized-2.ensures
    ∙ sym (number-whole a.text.now a.at a.sign a.line c.requires.0 c.requires.1 c.digits_end-e.result
    c.fraction_end-f.result c.digits_end-e.ensures
    c.fraction_end-f.ensures c.if-e-f.false)
