use mathlib.Core.Path.{refl}
use Rattle.std.proofs.lemmas.Result.{err_from_is_err_and}
use Rattle.rules.specs.Units as U
use Rattle.rules.specs.Units.{class_sort}
use Rattle.state.proofs.KeepLaws.{none_open}
use Rattle.state.proofs.JudgeLaws.{small}
use Rattle.classes.proofs.ClassLaws.{class-is, class-heads, answer-fair, answer-broken, answer-fine}
use Rattle.classes.proofs.judge_class.Goals as goal

pub returns-in_err-base-clause-judged : goal.returns-in_err-base-clause-judged
returns-in_err-base-clause-judged c =
    let r = err_from_is_err_and c.from_residual.result c.from_residual.ensures.1 in
    rw (r.1, r.2) (
    λ s k n p b rs K q.
    let i = class-is c.args.desk.now.text.now s n p b c.args.head rs k q in
    answer-broken c.args.desk.now.text.now s b (U.class (class_sort k) n p b) _ _ _ _ _ _ _
    (c.in_err-base.ensures.1 s (class_sort k) n p b
    _ _ (U.class (class_sort k) n p b) K refl i q.fair.0 q.fair.1
    (class-heads s n p b (none_open s q.stands) k)))

pub open_class-requires-clause-head_size_in_bounds : goal.open_class-requires-clause-head_size_in_bounds
open_class-requires-clause-head_size_in_bounds c =
    let (s, k, n, p, b, rs, K, q) = c.requires.comes in (
      c.in_ok-base.ensures.0.1,
      small c.args.desk.now.text.now s c.args.st _ _ _ _ _ K,
      c.requires.ample.0,
    )

pub returns-clause-judged : goal.returns-clause-judged
returns-clause-judged c =
    λ s k n p b rs K q.
    let i = class-is c.args.desk.now.text.now s n p b c.args.head rs k q in
    let w = none_open s q.stands in
    let v = U.class (class_sort k) n p b in
    let u = c.in_ok-base.ensures.1 s (class_sort k) n p b _ _ v K refl i q.fair.0
    q.fair.1 (class-heads s n p b w k) in
    let f = answer-fair c.args.desk.now.text.now s b v _ _ u q.fair q.stands K.fair in
    answer-fine _ s b v _ _ _ _ _ _ _ u _ _ c.open_class.ensures.value
    (c.open_class.ensures.kept s k n p b K i q.fair.0 w u.base f)
