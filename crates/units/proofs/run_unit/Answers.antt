use Rattle.units.proofs.StepLaws.{run-domain, run-measure, run-close}
use Rattle.units.proofs.run_unit.Goals.{in_default-via-in-Domains+else-y-eq-NAME}
use Rattle.units.proofs.run_unit.Goals.{in_default-via-in-Units+else-y-eq-NAME-2, in_default-via-in_default}
use Rattle.units.proofs.run_unit.Goals as goal

pub returns-in-Domains : goal.returns-in-Domains
returns-in-Domains c = run-domain c.args.in_topic c.args.run c.in-Domains.is c.if-y-eq-NAME.true c.domain.ensures

pub returns-in-Units : goal.returns-in-Units
returns-in-Units c =
    run-measure c.args.in_topic c.args.run c.in-Units.is c.if-y-eq-NAME-2.true (c.measure.ensures _)

pub returns-in_default : goal.returns-in_default
returns-in_default c =
    let a = c.args in
    elim c.in_default.branch [
      | in_default-via-in-Domains+else-y-eq-NAME w ↦
          run-close a.in_topic a.run (λ _. w.if-y-eq-NAME.false) (λ _. w.if-y-eq-NAME.false) (c.body_end.ensures _)
      | in_default-via-in-Units+else-y-eq-NAME-2 w ↦
          run-close a.in_topic a.run (λ _. w.if-y-eq-NAME-2.false) (λ _. w.if-y-eq-NAME-2.false) (c.body_end.ensures _)
      | in_default-via-in_default w ↦
          run-close a.in_topic a.run (λ h. absurd (w.in_default.not-Domains h)) (λ h. absurd (w.in_default.not-Units h))
          (c.body_end.ensures _)
    ]
