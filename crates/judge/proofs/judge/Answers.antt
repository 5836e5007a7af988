use mathlib.Core.Path.{ap}
use Rattle.state.specs.declared.desk.Desk.{Desk}
use Rattle.judge.specs.Judging.{Answers}
use Rattle.judge.proofs.UnitLaws.{by-model, by-topic, by-domain, by-measure, by-close}
use Rattle.judge.proofs.UnitLaws.{a-model, a-topic, a-class, a-domain, an-attribute, a-measure, a-close}
use Rattle.judge.proofs.judge.Goals as goal

pub judge_model-requires-clause-comes : goal.judge_model-requires-clause-comes
judge_model-requires-clause-comes c =
    let (s, v, k, m) = c.requires.comes in
    let (n, q, h) = a-model v m c.in-Model.is in (s, n, q, _, _, _, _, _, k, h)

pub judge_topic-requires-clause-comes : goal.judge_topic-requires-clause-comes
judge_topic-requires-clause-comes c =
    let (s, v, k, m) = c.requires.comes in
    let (n, h) = a-topic v m c.in-Topic.is in (s, n, _, _, k, h)

pub judge_class-requires-clause-comes : goal.judge_class-requires-clause-comes
judge_class-requires-clause-comes c =
    let (s, v, k, m) = c.requires.comes in
    let (q, n, p, b, h) = a-class v m c.in-Class.is in (s, q, n, p, b, _, k, h)

pub judge_domain-requires-clause-comes : goal.judge_domain-requires-clause-comes
judge_domain-requires-clause-comes c =
    let (s, v, k, m) = c.requires.comes in
    let (n, p, b, w, h) = a-domain v m c.in-Domain.is in (s, n, p, b, w, _, k, h)

pub judge_attribute-requires-clause-comes : goal.judge_attribute-requires-clause-comes
judge_attribute-requires-clause-comes c =
    let (s, v, k, m) = c.requires.comes in
    let (n, p, w, h) = an-attribute v m c.in-Attribute.is in (s, n, p, w, k, h)

pub judge_unit-requires-clause-comes : goal.judge_unit-requires-clause-comes
judge_unit-requires-clause-comes c =
    let (s, v, k, m) = c.requires.comes in
    let (n, p, b, h) = a-measure v m c.in-Measure.is in (s, n, p, b, _, _, k, h)

pub judge_close-requires-clause-comes : goal.judge_close-requires-clause-comes
judge_close-requires-clause-comes c =
    let (s, v, k, m) = c.requires.comes in
    let (n, h) = a-close v m c.in-Close.is in (s, n, _, _, k, h)

pub returns-in-Model-clause-judged : goal.returns-in-Model-clause-judged
returns-in-Model-clause-judged c =
    λ s v k m. by-model (Answers _ _ s _) v m c.in-Model.is
    (λ n q h. let j = c.judge_model.ensures.judged s n q _ _ _ _ _ k h in
    let o = c.judge_model.ensures.only in
    record { as_judged = rw o (rw o at j) })

pub returns-in-Topic-clause-judged : goal.returns-in-Topic-clause-judged
returns-in-Topic-clause-judged c =
    λ s v k m. by-topic (Answers _ _ s _) v m c.in-Topic.is
    (λ n h. let e = ap (λ (d : Desk). d.hand.now) c.judge_topic.ensures.only in
    record { as_judged = rw e (c.judge_topic.ensures.judged s n _ _ k h) })

pub returns-in-Domain-clause-judged : goal.returns-in-Domain-clause-judged
returns-in-Domain-clause-judged c =
    λ s v k m. by-domain (Answers _ _ s _) v m c.in-Domain.is
    (λ n p b w h. let e = ap (λ (d : Desk). d.hand.now) c.judge_domain.ensures.only in
    record { as_judged = rw e (c.judge_domain.ensures.judged s n p b w _ k h) })

pub returns-in-Measure-clause-judged : goal.returns-in-Measure-clause-judged
returns-in-Measure-clause-judged c =
    λ s v k m. by-measure (Answers _ _ s _) v m c.in-Measure.is
    (λ n p b h. let e = ap (λ (d : Desk). d.hand.now) c.judge_unit.ensures.only in
    record { as_judged = rw e (c.judge_unit.ensures.judged s n p b _ _ k h) })

pub returns-in-Close-clause-judged : goal.returns-in-Close-clause-judged
returns-in-Close-clause-judged c =
    λ s v k m. by-close (Answers _ _ s _) v m c.in-Close.is
    (λ n h. let e = ap (λ (d : Desk). d.hand.now) c.judge_close.ensures.only in
    record { as_judged = rw e (c.judge_close.ensures.judged s n _ _ k h) })
