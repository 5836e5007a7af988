use mathlib.Core.Path.{refl}
use Rattle.std.proofs.lemmas.Result.{err_from_is_err_and}
use Rattle.rules.specs.Units as U
use Rattle.rules.specs.Declarations.{unit}
use Rattle.state.proofs.KeepLaws.{none_open}
use Rattle.state.proofs.JudgeLaws.{small}
use Rattle.classes.proofs.ClassLaws.{unit-is, unit-heads, answer-fair, answer-broken, answer-fine}
use Rattle.classes.proofs.judge_unit.Goals as goal

pub returns-in_err-base-clause-judged : goal.returns-in_err-base-clause-judged
returns-in_err-base-clause-judged c =
    let r = err_from_is_err_and c.from_residual.result c.from_residual.ensures.1 in
    rw (r.1, r.2) (
    λ s n p b hs rs K q.
    let i = unit-is c.args.desk.now.text.now s n p b c.args.head rs q in
    answer-broken c.args.desk.now.text.now s b (U.unit n p b) _ _ _ _ _ _ _
    (c.in_err-base.ensures.1 s unit n p b _ _ (U.unit n p b) K refl i q.fair.0 q.fair.1
    (unit-heads s n p b (none_open s q.stands))))

pub declare_unit-requires-clause-head_size_in_bounds : goal.declare_unit-requires-clause-head_size_in_bounds
declare_unit-requires-clause-head_size_in_bounds c =
    let (s, n, p, b, hs, rs, K, q) = c.requires.comes in (
      c.in_ok-base.ensures.0.1,
      small c.args.desk.now.text.now s c.args.st _ _ _ _ _ K,
      c.requires.text_len_bound.2,
    )

pub returns-clause-judged : goal.returns-clause-judged
returns-clause-judged c =
    λ s n p b hs rs K q.
    let i = unit-is c.args.desk.now.text.now s n p b c.args.head rs q in
    let w = none_open s q.stands in
    let u = c.in_ok-base.ensures.1 s unit n p b _ _ (U.unit n p b) K refl i q.fair.0 q.fair.1
    (unit-heads s n p b w) in
    let f = answer-fair c.args.desk.now.text.now s b (U.unit n p b) _ _ u q.fair q.stands K.fair in
    answer-fine _ s b (U.unit n p b) _ _ _ _ _ _ _ u _ _
    c.declare_unit.ensures.value (c.declare_unit.ensures.kept s n p b hs K i q.fair.0 w u.base f)
