use mathlib.Core.Path.{ap, refl, sym, subst, ◌∙◌}
use lib.ListN.{length}
use Rattle.answers.specs.Answers.{Coded}
use Rattle.answers.proofs.AnswerLaws.{accepted-is}
use Rattle.symbols.proofs.CutLaws.{next-first}
use Rattle.state.proofs.DeskLaws.{stays-trans}
use Rattle.running.specs.Running.{Ended}
use Rattle.running.proofs.RunLaws.{begins, end-turn, on-turn, stays-same, loan-stays, suffices, ended}
use Rattle.std.specs.declared.result.Result.TheVariants.{Ok}
use Rattle.running.proofs.run.Goals as goal

pub loop-next-init : goal.loop-next-init
loop-next-init c =
    let (n, e) = c.requires.zero in (
      stays-same _,
      begins c.args.desk.now _ n c.requires.loan.text_short e refl
          (rw c.start.ensures at c.next.ensures ∙ next-first _) (c.nothing.ensures.1 _ _ _ _ _ n),
    )

pub step-requires-clause-loan : goal.step-requires-clause-loan
step-requires-clause-loan c = loan-stays _ _ c.loop-next.invariant.0 c.requires.loan

pub step-requires-clause-suffice : goal.step-requires-clause-suffice
step-requires-clause-suffice c =
    let s = c.loop-next.invariant.0 in (suffices _ _ s c.requires.suffice.0, s.5.1 ∙ c.requires.suffice.1)

pub loop-next-preserved : goal.loop-next-preserved
loop-next-preserved c =
    let i = c.loop-next.invariant in
    let (R, p, q) = on-turn _ c.loop-next.stage c.step.ensures.turned (c.in_ok-next.was ∙ ap Ok c.in-Some.is) in
    (stays-trans _ _ _ i.0 c.step.ensures.stays, R)

pub returns-clause-ended : goal.returns-clause-ended
returns-clause-ended c =
    let i = c.loop-next.invariant in
    let st = c.loop-next.stage.state in
    let R = i.1 in
    let d = c.step.new.desk in
    ended _ d (stays-trans _ _ _ i.0 c.step.ensures.stays) (Ok c.of.result)
    (subst (λ (y : Coded). Ended d.text.now (length d.book.now) y d.book.now)
    (accepted-is st R.state _ _ _ _ _ _ R.keeps ∙ sym (c.of.ensures st R.state _ _ _ _ _ _ refl R.keeps))
    (end-turn _ c.loop-next.stage c.step.ensures.turned (c.in_ok-next.was ∙ ap Ok c.in_default.is)))
