use Rattle.units.proofs.StepLaws.{members-open, members-attribute, members-close, mark-steps, where-place}
use Rattle.readers.proofs.CodeLaws.{is_word_lem}
use Rattle.units.specs.declared.Where.TheVariants.{Members}
use Rattle.rules.specs.Bytes.{ascii}
use Rattle.rules.proofs.Tests.{never}
use mathlib.Core.Path.{sym, refl, ◌∙◌}
use mathlib.Core.Bool.{false}
use native.Mathlib.Omega.{arith}
use Rattle.units.proofs.member_unit.Goals.{in_default-via-in-75+else-first, in_default-via-in_default-1}
use Rattle.units.proofs.member_unit.Goals as goal

pub returns-in-75 : goal.returns-in-75
returns-in-75 c =
    members-open c.args.in_topic c.args.first c.if-first.true c.in-75.is
    (mark-steps _ (ascii "ATTRIBUTE") 75 _ (where-place (Members c.args.in_topic false))
    (is_word_lem (ascii "ATTRIBUTE") 75 refl) c.ended.ensures)

pub returns-in-1 : goal.returns-in-1
returns-in-1 c =
    members-attribute c.args.in_topic c.args.first c.in-1.is c.attribute.ensures

pub returns-in_default : goal.returns-in_default
returns-in_default c =
    elim c.in_default.branch [
      | in_default-via-in-75+else-first w ↦
          members-close c.args.in_topic c.args.first (λ h k. never (sym w.if-first.false ∙ h))
          (omega (arith, w.in-75.is)) (c.close.ensures _)
      | in_default-via-in_default-1 w ↦
          members-close c.args.in_topic c.args.first (λ _. omega arith) (omega arith) (c.close.ensures _)
    ]
