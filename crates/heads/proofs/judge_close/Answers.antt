use mathlib.Core.Path.{refl}
use Rattle.heads.proofs.EndLaws.{class-none, topic-none, close-model-fine, close-model-other}
use native.Mathlib.Omega.{arith}
use Rattle.heads.proofs.judge_close.Goals as goal

pub returns-clause-judged : goal.returns-clause-judged
returns-clause-judged c =
    λ s n hs rs k q. close-model-fine c.args.desk.now.text.now s n c.args.st
    _ _ _ _ _ rs c.args.name k q c.requires.text_len_bound.1
    (class-none c.args.desk.now.text.now s c.args.st _ _ _ _ _ k (omega (arith, c.if-st-gt0.false)))
    (topic-none c.args.desk.now.text.now s c.args.st _ _ _ _ _ k (omega (arith, c.if-st-gt0-2.false)))
    _ c.same_name.ensures _ c.if-not-same_name.false refl

pub returns-then-not-same_name-clause-judged : goal.returns-then-not-same_name-clause-judged
returns-then-not-same_name-clause-judged c =
    λ s n hs rs k q. close-model-other c.args.desk.now.text.now s n c.args.st
    _ _ _ _ _ rs c.args.name k q c.requires.text_len_bound.1
    (class-none c.args.desk.now.text.now s c.args.st _ _ _ _ _ k (omega (arith, c.if-st-gt0.false)))
    (topic-none c.args.desk.now.text.now s c.args.st _ _ _ _ _ k (omega (arith, c.if-st-gt0-2.false)))
    _ c.same_name.ensures _ _ _ _ _ c.if-not-same_name.true refl

pub returns-then-st-gt0-2-clause-judged : goal.returns-then-st-gt0-2-clause-judged
returns-then-st-gt0-2-clause-judged c =
    λ s n hs rs k q.
    let j = c.close_topic.ensures.judged s n _ _ _ hs rs k q in
    rw c.close_topic.ensures.only (rw c.close_topic.ensures.only at j)
