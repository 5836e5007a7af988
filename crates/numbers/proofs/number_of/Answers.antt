use mathlib.Core.Path.{◌∙◌}
use native.Mathlib.Omega.{arith}
use Rattle.numbers.proofs.SignedLaws.{plain, negated}
use Rattle.numbers.proofs.WrittenLaws.{written_small, value-is, minus}
use Rattle.numbers.proofs.number_of.Goals as goal
use Rattle.numbers.proofs.number_of.Goals.{then-starts_with, else-starts_with}

pub overflow_cast-size : goal.overflow_cast-size
overflow_cast-size c = record { sfits = omega (arith, written_small c.args.part.now c.requires) }

pub overflow_sub-value : goal.overflow_sub-value
overflow_sub-value c =
    (negated c.digits-size.result (omega (arith, written_small c.args.part.now c.requires))).0

pub returns : goal.returns
returns c =
    let s = c.args.part.now in
    let n = c.digits-size.result in
    let h = written_small s c.requires in
    let d = c.digits-size.ensures in
    let m = c.starts_with.ensures.value ∙ minus s in (
      elim c.if-starts_with.branch [
        | then-starts_with w ↦ w.value-is ∙ (negated n (omega arith)).1 ∙ rw w.if-starts_with.true at (value-is s m d)
        | else-starts_with w ↦ w.value-is ∙ plain n (omega arith) ∙ rw w.if-starts_with.false at (value-is s m d)
      ],
      c.decimals.ensures,
    )
