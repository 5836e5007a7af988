use mathlib.Core.Path.{sym, ap, ◌∙◌}
use Prim.Native.Nat.{◌+◌, ◌-◌, ◌≤◌}
use lib.ListN.{length}
use Rattle.rules.specs.Bytes.{is_word_byte}
use Rattle.symbols.specs.Cut.{made}
use Rattle.ground.proofs.ScanLaws.{run-le}
use Rattle.symbols.proofs.WordLaws.{word-large, word-reserved, word-other}
use native.Mathlib.Omega.{arith}
use Rattle.symbols.proofs.word.Goals as goal

pub returns-then-len-gt255 : goal.returns-then-len-gt255
returns-then-len-gt255 c =
    let a = c.args in
    let l : a.at + (c.word_end.result - a.at)
    ≤ length a.text.now = omega (arith, c.word_end.ensures, run-le is_word_byte a.text.now (a.at + 1) (omega arith)) in
    rw (← c.word_end.ensures)
    (c.make.ensures ∙ sym (word-large a.text.now a.at (c.word_end.result - a.at) a.line l c.if-len-gt255.true))

pub word_code-code-requires : goal.word_code-code-requires
word_code-code-requires c =
    let a = c.args in
    omega (arith, c.word_end.ensures, run-le is_word_byte a.text.now (a.at + 1) (omega arith))

pub returns-then-code-eq46 : goal.returns-then-code-eq46
returns-then-code-eq46 c =
    let a = c.args in
    let l : a.at + (c.word_end.result - a.at)
    ≤ length a.text.now = omega (arith, c.word_end.ensures, run-le is_word_byte a.text.now (a.at + 1) (omega arith)) in
    rw (← c.word_end.ensures)
    (c.make-then-code-eq46.ensures
    ∙ sym (word-reserved a.text.now a.at (c.word_end.result - a.at) a.line l c.if-len-gt255.false
    (sym c.word_code-code.ensures ∙ c.if-code-eq46.true)))

pub returns : goal.returns
returns c =
    let l : c.args.at + (c.word_end.result - c.args.at)
    ≤ length c.args.text.now =
    omega (arith, c.word_end.ensures, run-le is_word_byte c.args.text.now (c.args.at + 1) (omega arith)) in
    rw (← c.word_end.ensures)
    (c.make-2.ensures
    ∙ ap (λ x. made x 5 c.args.at (c.word_end.result - c.args.at) c.args.line)
    (c.from.ensures ∙ c.word_code-code.ensures)
    ∙ sym
    (word-other c.args.text.now c.args.at (c.word_end.result - c.args.at) c.args.line l c.if-len-gt255.false
    (λ q. c.if-code-eq46.false (c.word_code-code.ensures ∙ q))))
