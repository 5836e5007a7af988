use Rattle.std.proofs.Common.{arith}
use Rattle.words.proofs.WordLaws.{no_second, no_last}
use Rattle.words.proofs.word_code.Goals as goal

pub returns-then-last-gt90 : goal.returns-then-last-gt90
returns-then-last-gt90 c =
    let a = c.args in
    no_last a.text.now a.at a.len (omega arith) (omega arith) c.if-last-gt90.true

pub returns-then-text-at-gt90 : goal.returns-then-text-at-gt90
returns-then-text-at-gt90 c =
    let a = c.args in
    no_second a.text.now a.at a.len (omega arith) c.if-text-at-gt90.true
