use mathlib.Core.Path.{sym, ◌∙◌}
use Rattle.running.proofs.RunLaws.{held-now, few-records, unread-ends, over-ends, given}
use Rattle.running.proofs.RunLaws.{was-ok, was-err, turned-on, turned-out}
use Rattle.std.proofs.Common.{rules}
use Rattle.std.proofs.lemmas.Result.{err_from_is_err_and}
use Rattle.running.proofs.step.Goals as goal

pub read_unit-requires-clause-held : goal.read_unit-requires-clause-held
read_unit-requires-clause-held c = held-now c.requires.runs

pub returns-in_err-read-clause-turned : goal.returns-in_err-read-clause-turned
returns-in_err-read-clause-turned c =
    let (y, e, f) = was-err _ _ c.map_err.ensures.cases c.in_err-read.was in
    let p = err_from_is_err_and c.from_residual.result c.from_residual.ensures.1 in
    rw (p.1, p.2) (unread-ends c.requires.runs c.read_unit.ensures c.args.desk.now.book.now
    c.requires.loan.text_short e f)

pub returns-then-is_over-clause-turned : goal.returns-then-is_over-clause-turned
returns-then-is_over-clause-turned c =
    over-ends c.requires.runs c.read_unit.ensures (was-ok _ _ c.map_err.ensures.cases c.in_ok-read.was)
    (sym c.is_over.ensures ∙ c.if-is_over.true)

pub judge-judged-requires-clause-ample : goal.judge-judged-requires-clause-ample
judge-judged-requires-clause-ample c =
    (c.requires.suffice.0 c.args.g.state (few-records c.requires.runs), c.requires.suffice.1)

pub judge-judged-requires-clause-comes : goal.judge-judged-requires-clause-comes
judge-judged-requires-clause-comes c =
    let r = was-ok _ _ c.map_err.ensures.cases c.in_ok-read.was in
    let G = given c.requires.runs c.read_unit.ensures c.requires.loan.text_short r
    (sym c.is_over.ensures ∙ c.if-is_over.false) in
    (c.requires.runs.state, G.unit, c.requires.runs.keeps, G.comes)

pub returns-in_err-state-clause-turned : goal.returns-in_err-state-clause-turned
returns-in_err-state-clause-turned c =
    let r = was-ok _ _ c.map_err.ensures.cases c.in_ok-read.was in
    let G = given c.requires.runs c.read_unit.ensures c.requires.loan.text_short r
    (sym c.is_over.ensures ∙ c.if-is_over.false) in
    let (q, e, f) = was-err _ _ c.map_err-2.ensures.cases c.in_err-state.was in
    let p = err_from_is_err_and c.from_residual-in_err-state.result c.from_residual-in_err-state.ensures.1 in
    let s = c.judge-judged.ensures.stays in
    rw (p.1, p.2) (turned-out c.requires.runs G s.0 s.1.1 e (search rules)
    (c.judge-judged.ensures.judged c.requires.runs.state G.unit c.requires.runs.keeps G.comes))

pub returns-clause-turned : goal.returns-clause-turned
returns-clause-turned c =
    let r = was-ok _ _ c.map_err.ensures.cases c.in_ok-read.was in
    let G = given c.requires.runs c.read_unit.ensures c.requires.loan.text_short r
    (sym c.is_over.ensures ∙ c.if-is_over.false) in
    let s = c.judge-judged.ensures.stays in
    turned-on c.requires.runs G s.0 s.1.1 (was-ok _ _ c.map_err-2.ensures.cases c.in_ok-state.was)
    (c.judge-judged.ensures.judged c.requires.runs.state G.unit c.requires.runs.keeps G.comes)
