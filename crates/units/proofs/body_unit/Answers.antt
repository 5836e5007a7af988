use Rattle.units.proofs.StepLaws.{body-topic, body-class, body-domains, body-units, body_run, mark-steps}
use Rattle.units.proofs.StepLaws.{where-place, domain-word, unit-word, class-code}
use Rattle.units.specs.declared.Run.TheVariants.{Domains, Units}
use Rattle.units.specs.declared.Where.TheVariants.{Body}
use Rattle.rules.specs.Bytes.{ascii}
use Rattle.rules.proofs.Tests.{never}
use native.Mathlib.Omega.{arith}
use Rattle.units.proofs.body_unit.Goals.{in_default-via-in-68+else-not-in_topic}
use Rattle.units.proofs.body_unit.Goals.{in_default-via-in_default+then-y-lt68}
use Rattle.units.proofs.body_unit.Goals.{in_default-via-in_default+else-y-lt68+else-y-lt71}
use Rattle.units.proofs.body_unit.Goals as goal

pub returns-in-68 : goal.returns-in-68
returns-in-68 c = body-topic c.args.in_topic c.args.run c.if-not-in_topic.true c.in-68.is (c.topic.ensures _)

pub returns-in-69 : goal.returns-in-69
returns-in-69 c =
    body-class c.args.in_topic c.args.run (omega arith) (omega arith)
    (c.class.ensures _ (class-code c.args.y.code (omega arith) (omega arith)))

pub returns-in-74 : goal.returns-in-74
returns-in-74 c =
    body-domains c.args.in_topic c.args.run c.in-74.is
    (mark-steps _ (ascii "DOMAIN") 74 _ (where-place (Body c.args.in_topic Domains)) domain-word c.ended.ensures)

pub returns-in-82 : goal.returns-in-82
returns-in-82 c =
    body-units c.args.in_topic c.args.run c.in-82.is
    (mark-steps _ (ascii "UNIT") 82 _ (where-place (Body c.args.in_topic Units)) unit-word c.ended-in-82.ensures)

pub returns-in_default : goal.returns-in_default
returns-in_default c =
    let a = c.args in
    elim c.in_default.branch [
      | in_default-via-in-68+else-not-in_topic w ↦
          body_run a.in_topic a.run (λ h k. never (rw w.if-not-in_topic.false at h))
          (omega arith) (omega arith) (omega arith) (omega arith) c.run_unit.ensures
      | in_default-via-in_default+then-y-lt68 w ↦
          body_run a.in_topic a.run (λ _. omega arith)
          (omega arith) (omega arith) (omega arith) (omega arith) c.run_unit.ensures
      | in_default-via-in_default+else-y-lt68+else-y-lt71 w ↦
          body_run a.in_topic a.run (λ _. omega arith)
          (omega arith) (omega arith) (omega arith) (omega arith) c.run_unit.ensures
    ]
