use Rattle.std.proofs.Common.{ℕ, ◌≡◌, sym, ap, subst, ◌∙◌}
use Rattle.rules.specs.Declarations.{is_found, known}
use Rattle.names.specs.Index.{Known}
use Rattle.members.proofs.HeldLaws.{indexed}
use Rattle.state.specs.declared.Listing.{Listing}
use Rattle.state.proofs.JudgeLaws.{home-number}
use Rattle.state.proofs.SharedLaws.{entry_found}
use native.Mathlib.Omega.{arith}
use Rattle.state.proofs.desk.Desk.is_taken.Goals as goal

pub returns : goal.returns
returns c =
    λ s t o hs e g k.
    let n = k.held.all_defs in
    let m : t.listing.count ≡ c.args.st.listing.count = ap (λ (l : Listing). l.count) e in
    entry_found (known s.decls) c.find_bare.result (omega (arith, c.find_bare.ensures.0))
    ∙ ap is_found (c.find_bare.ensures.1 s
    (subst (λ (i : ℕ). Known c.args.self.now.text.now (known s.decls) c.args.self.now.index.now i) m
    (indexed k.held).known) k.chained (sym g ∙ home-number _ s _ _ _ _ _ _ k))
