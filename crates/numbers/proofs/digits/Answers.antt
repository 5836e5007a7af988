use mathlib.Core.Path.{◌≡◌, sym, ap, ◌∙◌}
use mathlib.Core.Bool.{true, false}
use Prim.Native.Nat.{ℕ, ◌+◌, ◌*◌}
use native.Mathlib.Omega.{arith}
use lib.ListN.{get_or, drop_of_length-le}
use Rattle.rules.specs.Bytes.{is_digit}
use Rattle.numbers.proofs.WrittenLaws.{scanned-first, scanned-small, scanned-next, scanned-whole}
use Rattle.numbers.proofs.digits.Goals as goal
use Rattle.numbers.proofs.digits.Goals.{then-is_ascii_digit, else-is_ascii_digit}

pub loop-b-init : goal.loop-b-init
loop-b-init c = scanned-first c.args.part.now c.requires

pub overflow_mul-value : goal.overflow_mul-value
overflow_mul-value c = omega (arith, scanned-small c.loop-b.invariant)

pub overflow_add-value : goal.overflow_add-value
overflow_add-value c = omega (arith, scanned-small c.loop-b.invariant, c.type_inv.part c.loop-b.b-index)

pub loop-b-preserved : goal.loop-b-preserved
loop-b-preserved c =
    let s = c.args.part.now in
    let k = c.loop-b in
    let b = get_or s k.b-index 0 in
    let v = sym c.is_ascii_digit.ensures.value in
    elim c.if-is_ascii_digit.branch [
      | then-is_ascii_digit w ↦
          let d : is_digit b ≡ true = v ∙ w.if-is_ascii_digit.true in
          let e = w.value-is ∙ ap (λ (x : ℕ). k.value * 10 + x) w.from.ensures in
          scanned-next s k.b-index k.value c.loop-b-test.true k.invariant (rw d e)
      | else-is_ascii_digit w ↦
          let d : is_digit b ≡ false = v ∙ w.if-is_ascii_digit.false in
          scanned-next s k.b-index k.value c.loop-b-test.true k.invariant (rw d w.value-is)
    ]

pub returns : goal.returns
returns c = scanned-whole (rw (drop_of_length-le c.args.part.now c.loop-b-test.false) at c.loop-b.invariant)
