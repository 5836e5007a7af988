use mathlib.Core.Path.{ap}
use native.Mathlib.Omega.{arith}
use Rattle.std.proofs.lemmas.Result.{err_from_is_err_and}
use Rattle.units.specs.declared.Head.{Head}
use Rattle.classes.proofs.ClassLaws.{head-broken, head-over, head-fine}
use Rattle.classes.proofs.head_ruling.Goals as goal

pub returns-in_err-base : goal.returns-in_err-base
returns-in_err-base c =
    let r = err_from_is_err_and c.from_residual.result c.from_residual.ensures.1 in
    rw (r.1, r.2) (
      tt,
      λ s k n p b o hs v K eo e h f H.
          head-broken s k n p b v H _ _ (c.in_err-base.ensures.1 s k n p b o hs K e h f),
    )

pub returns-then-desk-st : goal.returns-then-desk-st
returns-then-desk-st c = (
  tt,
  λ s k n p b o hs v K eo e h f H.
      let none-broken = c.in_ok-base.ensures.1 s k n p b o hs K e h f in
      head-over s k n p b v H o (omega (arith, eo, c.requires.inside.2)) _ K.used _ none-broken
      (omega (arith, eo, c.if-desk-st.true)) _ (ap (λ (x : Head). x.name.offset) e),
)

pub returns : goal.returns
returns c = (
  (c.in_ok-base.ensures.0, c.if-desk-st.false),
  λ s k n p b o hs v K eo e h f H.
      head-fine s k n p b v H o (omega (arith, eo, c.requires.inside.2)) _ K.used _
      (c.in_ok-base.ensures.1 s k n p b o hs K e h f)
      (omega (arith, eo, c.if-desk-st.false)),
)
