use mathlib.Core.Path.{◌≡◌, refl, sym, ap, ◌∙◌}
use Prim.Native.Nat.{ℕ}
use Rattle.rules.specs.Judge.{bases_of, is_among}
use Rattle.names.specs.Index.{entry}
use Rattle.names.proofs.BaseLaws.{among-here, among_next, base-before}
use native.Mathlib.Omega.{arith}
use Rattle.names.proofs.descends.Goals as goal

pub loop-at-init : goal.loop-at-init
loop-at-init c = (omega arith, λ t ks k h. refl)

pub returns-then-number_of-number : goal.returns-then-number_of-number
returns-then-number_of-number c =
    λ t ks k h. among-here t ks c.args.index.now c.args.count k h c.args.number c.loop-at.at (omega arith)
    c.loop-at-test.true _ (c.number_of.ensures.1 t) c.if-number_of-number.true
    ∙ sym (c.loop-at.invariant.1 t ks k h)

pub returns-then-at-b : goal.returns-then-at-b
returns-then-at-b c =
    λ t ks k h.
    let w = base-before t ks c.args.index.now c.args.count k h c.args.number c.loop-at.at (omega arith)
    c.loop-at-test.true _ c.field-b.ensures.0 in
    absurd (omega (arith, c.if-at-b.true))

pub loop-at-preserved : goal.loop-at-preserved
loop-at-preserved c = (
  omega arith,
  λ t ks k h. c.loop-at.invariant.1 t ks k h
      ∙ among_next t ks c.args.index.now c.args.count k h c.args.number c.loop-at.at (omega arith)
      c.loop-at-test.true _ (c.number_of.ensures.1 t) c.if-number_of-number.false _ c.field-b.ensures.0,
)

pub returns : goal.returns
returns c =
    λ t ks k h.
    let z : c.loop-at.at ≡ 0 = omega arith in
    sym (c.loop-at.invariant.1 t ks k h ∙ ap (λ (i : ℕ). is_among c.args.number (bases_of (entry ks i))) z)
