use mathlib.Core.Path.{ap, ◌∙◌}
use Rattle.std.specs.Prelude.{Err}
use Rattle.std.proofs.Common.{rules}
use Rattle.std.proofs.lemmas.Result.{err_from_is_err_and, MatchResult-at_ok, MatchResult-at_err}
use Rattle.fitting.proofs.ValueLaws.{typed-valued}
use Rattle.written.proofs.WrittenLaws.{laid-early, laid-late}
use Rattle.written.proofs.lay_written.Goals as goal

pub returns-in_err-plain_ruling : goal.returns-in_err-plain_ruling
returns-in_err-plain_ruling c =
    let a = c.args in
    let p = err_from_is_err_and c.from_residual.result c.from_residual.ensures.1 in
    λ v d b m r g s n f u x y h.
    rw (p.1, p.2) (laid-early a.text.now a.over.based a.w.place v d b f r _
    (c.in_err-plain_ruling.ensures a.text.now v d b m g f x (typed-valued _ _ b _ y) h) _ _ _ _)

pub returns : goal.returns
returns c =
    let a = c.args in
    λ v d b m r g s n f u x y h.
    laid-late a.text.now a.over.based a.w.place v d b f r _
    (c.in_ok-plain_ruling.ensures a.text.now v d b m g f x (typed-valued _ _ b _ y) h) u _ _ _ _ c.lay.result
    c.map_err.result (c.lay.ensures v d b m r s n f x y)
    (λ z e. MatchResult-at_ok _ _ z e c.map_err.ensures.cases)
    (λ z e. let p = err_from_is_err_and c.map_err.result (MatchResult-at_err _ _ z e c.map_err.ensures.cases) in
    p.1 ∙ ap Err (search rules))
