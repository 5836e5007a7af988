use mathlib.Core.Path.{refl, sym, ap, ◌∙◌, subst}
use Prim.Native.Nat.{ℕ}
use Rattle.std.specs.Prelude.{Result}
use Rattle.std.proofs.lemmas.Result.{err_from_is_err_and, IfOk-at_ok}
use Rattle.ground.specs.declared.Ruling.{Ruling}
use Rattle.rules.specs.Declarations.{domain, known}
use Rattle.rules.specs.Judge.{reference_in, resolved}
use Rattle.units.specs.declared.DomainUnit.{DomainUnit}
use Rattle.members.proofs.HeldLaws.{indexed}
use Rattle.state.proofs.TargetLaws.{reference-fair, earlier-off}
use Rattle.domains.proofs.StageLaws.{Extends, domain-is, leads}
use native.Mathlib.Omega.{arith}
use Rattle.domains.proofs.reach.Goals as goal

pub returns-in_err-base : goal.returns-in_err-base
returns-in_err-base c =
    let p = err_from_is_err_and c.from_residual.result c.from_residual.ensures.1 in
    rw (p.1, p.2) (
      tt,
      λ s n p b w o hs rs k h.
          let e = c.extends-extended.ensures.1 s domain b o hs k refl (ap (λ (u : DomainUnit). u.base) (domain-is h))
          h.fair.1 in
          let r = ap (λ (u : DomainUnit). u.written.reference) (domain-is h) in
          let g = c.target-target.ensures.1 s (reference_in w.type) o hs k r
          (reference-fair c.args.desk.now.text.now w.type h.fair.2.type) in
          let q = c.target_ruling-of_type.ensures c.args.desk.now.text.now (known s.decls)
          c.args.st.listing.count
          w.type (indexed k.held).known c.target-target.ensures.0
          (ap (λ (u : DomainUnit). u.written.meant) (domain-is h)) r (λ z. g ∙ ap (resolved s) z) in
          subst (λ (z : Result ℕ Ruling). Extends s b w z) (sym c.in_err-base.ensures)
          (leads s b w c.extends-extended.result c.target_ruling-of_type.result c.target-target.result e g q),
    )

pub returns : goal.returns
returns c = (
  (
    IfOk-at_ok _ (earlier-off c.extends-extended.result c.target_ruling-of_type.result _ (sym c.in_ok-base.ensures)).0
        c.extends-extended.ensures.0,
    c.target-target.ensures.0,
  ),
  λ s n p b w o hs rs k h.
      let e = c.extends-extended.ensures.1 s domain b o hs k refl (ap (λ (u : DomainUnit). u.base) (domain-is h))
      h.fair.1 in
      let r = ap (λ (u : DomainUnit). u.written.reference) (domain-is h) in
      let g = c.target-target.ensures.1 s (reference_in w.type) o hs k r
      (reference-fair c.args.desk.now.text.now w.type h.fair.2.type) in
      let q = c.target_ruling-of_type.ensures c.args.desk.now.text.now (known s.decls)
      c.args.st.listing.count
      w.type (indexed k.held).known c.target-target.ensures.0
      (ap (λ (u : DomainUnit). u.written.meant) (domain-is h)) r (λ z. g ∙ ap (resolved s) z) in
      let f = subst (λ (z : Result ℕ Ruling). Extends s b w z) (sym c.in_ok-base.ensures)
      (leads s b w c.extends-extended.result c.target_ruling-of_type.result c.target-target.result e g q) in
      (f.0, record { base = f.1; target = g }),
)
