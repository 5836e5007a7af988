use mathlib.Core.Path.{◌∙◌}
use Rattle.fitting.proofs.ValueLaws.{typed-valued, fits-valued, fair-told}
use Rattle.types.proofs.fits_in_book.Goals.{in_default-via-in-Enumeration+in_default, in_default-via-in_default}
use Rattle.types.proofs.fits_in_book.Goals as goal

pub returns-in_default : goal.returns-in_default
returns-in_default c =
    let a = c.args in
    λ x b f g v u k. c.fits-in_default.ensures
    ∙ fits-valued x b a.own a.base (fair-told a.text.now x f)
    (λ p q d e. elim c.in_default.branch [
      | in_default-via-in-Enumeration+in_default w ↦ w.in_default.not-Enumeration-1 q e
      | in_default-via-in_default w ↦ w.in_default.not-Enumeration-0 p d
    ])
    (typed-valued a.text.now a.book.now x a.own v) (typed-valued a.text.now a.book.now b a.base u) k
