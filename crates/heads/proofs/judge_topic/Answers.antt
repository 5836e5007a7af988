use mathlib.Core.Path.{refl, sym, ◌∙◌}
use Rattle.state.proofs.JudgeLaws.{small}
use Rattle.heads.proofs.UnitLaws.{topic-is, topic-open, topic-taken, topic-over, topic-fine}
use Rattle.heads.proofs.judge_topic.Goals as goal

pub returns-then-is_taken-clause-judged : goal.returns-then-is_taken-clause-judged
returns-then-is_taken-clause-judged c =
    λ s n hs rs k q. topic-taken c.args.desk.now.text.now s n c.args.st _ _ _ _ _ rs
    c.args.name k q _ _ _ _ _ refl (sym c.if-is_taken.true ∙ c.is_taken.ensures s c.args.st _ _ refl refl k)

pub declare_topic-requires-clause-topic_size_in_bounds : goal.declare_topic-requires-clause-topic_size_in_bounds
declare_topic-requires-clause-topic_size_in_bounds c =
    let (s, n, hs, rs, k, q) = c.requires.comes in (
      c.if-desk-st.false,
      small c.args.desk.now.text.now s c.args.st _ _ _ _ _ k,
      c.requires.text_len_bound.2,
    )

pub returns-clause-judged : goal.returns-clause-judged
returns-clause-judged c =
    λ s n hs rs k q.
    let e = c.declare_topic.ensures.stays.0 in
    rw e (topic-fine c.args.desk.now.text.now s n c.args.st _ _ _ _ _ rs
    c.args.name k q c.requires.text_len_bound.1
    (sym c.if-is_taken.false ∙ c.is_taken.ensures s c.args.st _ _ refl refl k) _ _ _ _ _ _
    c.if-desk-st.false refl c.declare_topic.ensures.value
    (λ f. rw e at (c.declare_topic.ensures.kept s n hs k
    (topic-is c.args.desk.now.text.now s n c.args.st _ _ _ _ _ rs c.args.name k q) q.fair
    (topic-open c.args.desk.now.text.now s n c.args.st _ _ _ _ _ rs c.args.name k q) f)))

pub returns-then-desk-st-clause-judged : goal.returns-then-desk-st-clause-judged
returns-then-desk-st-clause-judged c =
    λ s n hs rs k q. topic-over c.args.desk.now.text.now s n c.args.st _ _ _ _ _ rs
    c.args.name k q c.requires.text_len_bound.1
    (sym c.if-is_taken.false ∙ c.is_taken.ensures s c.args.st _ _ refl refl k) _ _ _ _ _
    c.if-desk-st.true refl
