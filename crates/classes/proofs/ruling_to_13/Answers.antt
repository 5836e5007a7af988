use mathlib.Core.Path.{refl, sym, ap, ◌∙◌}
use Rattle.std.proofs.lemmas.Result.{err_from_is_err_and}
use Rattle.units.specs.declared.Head.{Head}
use Rattle.classes.proofs.ClassLaws.{taken-by, ruled-taken, ruled-extends, ruled-mixed, ruled-fine}
use Rattle.classes.proofs.ruling_to_13.Goals as goal

pub returns-then-taken : goal.returns-then-taken
returns-then-taken c = (
  tt,
  λ s k n p b o hs K e h f.
      let free = taken-by c.args.desk.now.text.now s n c.args.head.name _
      (ap (λ (u : Head). u.name) e) h (c.is_taken-taken.ensures s c.args.st o hs refl refl K)
      ∙ c.if-taken.true in
      ruled-taken s k n p b _ (ap (λ (u : Head). u.name.offset) e) free,
)

pub returns-in_err-base : goal.returns-in_err-base
returns-in_err-base c =
    let r = err_from_is_err_and c.from_residual.result c.from_residual.ensures.1 in
    rw (r.1, r.2) (
      tt,
      λ s k n p b o hs K e h f.
          let free = taken-by c.args.desk.now.text.now s n c.args.head.name _
          (ap (λ (u : Head). u.name) e) h (c.is_taken-taken.ensures s c.args.st o hs refl refl K)
          ∙ c.if-taken.false in
          ruled-extends s k n p b free _ (c.in_err-base.ensures.1 s k b o hs K (ap (λ (u : Head). u.sort) e)
          (ap (λ (u : Head). u.base) e) f),
    )

pub returns-then-mixed : goal.returns-then-mixed
returns-then-mixed c = (
  tt,
  λ s k n p b o hs K e h f.
      let free = taken-by c.args.desk.now.text.now s n c.args.head.name _
      (ap (λ (u : Head). u.name) e) h (c.is_taken-taken.ensures s c.args.st o hs refl refl K)
      ∙ c.if-taken.false in
      let x = c.in_ok-base.ensures.1 s k b o hs K (ap (λ (u : Head). u.sort) e) (ap (λ (u : Head). u.base) e) f in
      ruled-mixed s k n p b free x.0
      (sym c.if-mixed.true ∙ c.are_mixed-mixed.ensures p (ap (λ (u : Head). u.properties) e)) _
      (ap (λ (u : Head). u.name.offset) e),
)

pub returns : goal.returns
returns c = (
  c.in_ok-base.ensures.0,
  λ s k n p b o hs K e h f.
      let free = taken-by c.args.desk.now.text.now s n c.args.head.name _
      (ap (λ (u : Head). u.name) e) h (c.is_taken-taken.ensures s c.args.st o hs refl refl K)
      ∙ c.if-taken.false in
      let x = c.in_ok-base.ensures.1 s k b o hs K (ap (λ (u : Head). u.sort) e) (ap (λ (u : Head). u.base) e) f in
      ruled-fine s k n p b free x.0
      (sym c.if-mixed.false ∙ c.are_mixed-mixed.ensures p (ap (λ (u : Head). u.properties) e)) _ x.1,
)
