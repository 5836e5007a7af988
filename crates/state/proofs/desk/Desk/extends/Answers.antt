use mathlib.Core.Path.{sym, ◌∙◌}
use Rattle.rules.specs.Declarations.{known}
use Rattle.members.proofs.HeldLaws.{indexed}
use Rattle.state.proofs.SharedLaws.{leads-nowhere, leads-to}
use Rattle.state.proofs.SharedLaws.{extends-nothing, extends-base}
use native.Mathlib.Omega.{arith}
use Rattle.std.proofs.lemmas.Result.{err_from_is_err_and}
use Rattle.state.proofs.desk.Desk.extends.Goals as goal

pub returns-in-None : goal.returns-in-None
returns-in-None c = (
  omega arith,
  λ s d b o hs k es e f. (
    sym (extends-nothing s b c.args.base e d c.in-None.is),
    leads-nowhere s b c.args.base e c.in-None.is,
  ),
)

pub returns-in_err-extends_ruling-in-Some : goal.returns-in_err-extends_ruling-in-Some
returns-in_err-extends_ruling-in-Some c =
    let p = err_from_is_err_and c.from_residual.result c.from_residual.ensures.1 in
    rw (p.1, p.2) (
      tt,
      λ q d b o hs k es e f.
          let i = leads-to q b c.args.base e c.args.self.now.text.now _ c.in-Some.is f _
          (λ r u v. c.named-p.ensures.1 q r o hs k u v) in
          sym (extends-base q b c.args.base e d _ c.in-Some.is _ i _ c.first_place.ensures _
          (λ r u. c.in_err-extends_ruling-in-Some.ensures c.args.self.now.text.now (known q.decls)
          c.args.st.listing.count d r c.named-p.ensures.0 (indexed k.held).known es u)),
    )

pub returns-in_ok-extends_ruling-in-Some : goal.returns-in_ok-extends_ruling-in-Some
returns-in_ok-extends_ruling-in-Some c = (
  c.named-p.ensures.0,
  λ q d b o hs k es e f.
      let i = leads-to q b c.args.base e c.args.self.now.text.now _ c.in-Some.is f _
      (λ r u v. c.named-p.ensures.1 q r o hs k u v) in (
        sym (extends-base q b c.args.base e d _ c.in-Some.is _ i _ c.first_place.ensures _
            (λ r u. c.in_ok-extends_ruling-in-Some.ensures c.args.self.now.text.now (known q.decls)
            c.args.st.listing.count d r c.named-p.ensures.0 (indexed k.held).known es u)),
        i,
      ),
)
