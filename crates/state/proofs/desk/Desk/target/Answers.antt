use Rattle.state.proofs.SharedLaws.{leads-to}
use Rattle.state.proofs.desk.Desk.target.Goals as goal

pub returns-in-Some : goal.returns-in-Some
returns-in-Some c = (
  c.named.ensures.0,
  λ s b o hs k e f. leads-to s b c.args.reference e c.args.self.now.text.now _ c.in-Some.is f _
      (λ r u v. c.named.ensures.1 s r o hs k u v),
)
