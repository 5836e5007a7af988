use mathlib.Core.Path.{refl, ap, ◌∙◌}
use Rattle.rules.specs.Names as R
use Rattle.state.specs.declared.State.{State}
use Rattle.state.specs.Next.{in_topic_by}
use Rattle.state.proofs.JudgeLaws.{small}
use Rattle.heads.proofs.EndLaws.{class-none, topic-there, close-inside, close-topic-other, close-topic-over}
use Rattle.heads.proofs.EndLaws.{close-topic-fine}
use native.Mathlib.Omega.{arith}
use Rattle.heads.proofs.close_topic.Goals as goal

pub grown-requires : goal.grown-requires
grown-requires c =
    let (s, n, x, z, y, hs, rs, k, q) = c.requires.comes in
    let a = small c.args.desk.now.text.now s c.args.st _ _ _ _ _ k in
    let i = c.if-desk-used.false in (
      omega (arith, c.requires.book_len_bound.0, i),
      omega (arith, c.requires.book_len_bound.0, i, a.fewer),
      omega (arith, c.requires.book_len_bound.0, i, a.fewer, a.defined),
    )

pub returns-clause-judged : goal.returns-clause-judged
returns-clause-judged c =
    λ s n x z y hs rs k q.
    let (d, et, ca) = topic-there c.args.desk.now.text.now s c.args.st _ _ _ _ _ k c.requires.book_len_bound.2 in
    close-topic-fine c.args.desk.now.text.now s n c.args.st _ _ _ _ _ rs
    c.args.name k q c.requires.book_len_bound.0
    (class-none c.args.desk.now.text.now s c.args.st _ _ _ _ _ k c.requires.book_len_bound.1)
    c.args.st.context.topic d (ap (λ (u : R.Name). u.bytes) ca.named) et _ c.same_name.ensures _ _ _
    c.if-not-same_name.false c.if-desk-used.false refl
    (c.in_topic.ensures ∙ ap (λ (u : State). in_topic_by u c.args.st.context.topic 0)
    c.grown.ensures) _ refl c.put.ensures

pub returns-then-desk-used-clause-judged : goal.returns-then-desk-used-clause-judged
returns-then-desk-used-clause-judged c =
    λ s n x z y hs rs k q.
    let (d, et, ca) = topic-there c.args.desk.now.text.now s c.args.st _ _ _ _ _ k c.requires.book_len_bound.2 in
    close-topic-over c.args.desk.now.text.now s n c.args.st _ _ _ _ _ rs
    c.args.name k q c.requires.book_len_bound.0
    (class-none c.args.desk.now.text.now s c.args.st _ _ _ _ _ k c.requires.book_len_bound.1)
    c.args.st.context.topic d (ap (λ (u : R.Name). u.bytes) ca.named) et _ c.same_name.ensures _ _
    c.if-not-same_name.false c.if-desk-used.true refl

pub returns-then-not-same_name-clause-judged : goal.returns-then-not-same_name-clause-judged
returns-then-not-same_name-clause-judged c =
    λ s n x z y hs rs k q.
    let (d, et, ca) = topic-there c.args.desk.now.text.now s c.args.st _ _ _ _ _ k c.requires.book_len_bound.2 in
    close-topic-other c.args.desk.now.text.now s n c.args.st _ _ _ _ _ rs
    c.args.name k q c.requires.book_len_bound.0
    (class-none c.args.desk.now.text.now s c.args.st _ _ _ _ _ k c.requires.book_len_bound.1)
    c.args.st.context.topic d (ap (λ (u : R.Name). u.bytes) ca.named) et _ c.same_name.ensures _ _
    c.if-not-same_name.true refl
