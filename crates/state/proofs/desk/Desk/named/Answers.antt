use Rattle.std.proofs.Common.{ap, ◌∙◌}
use Rattle.rules.specs.Names.{Name}
use Rattle.rules.specs.Declarations.{resolve}
use Rattle.members.proofs.HeldLaws.{indexed}
use Rattle.state.proofs.JudgeLaws.{home-number}
use Rattle.state.proofs.SharedLaws.{reference-cut}
use Rattle.state.proofs.desk.Desk.named.Goals as goal

pub returns : goal.returns
returns c = (
  c.resolve.ensures.0,
  λ s b o hs k e g. c.resolve.ensures.1 s (indexed k.held).known k.chained
      (home-number _ s _ _ _ _ _ _ k) (ap (λ (n : Name). n.bytes) k.model.named)
      ∙ ap (resolve s) (reference-cut c.args.self.now.text.now b c.args.r e g),
)
