use mathlib.Core.Path.{◌∙◌}
use Rattle.members.proofs.FillLaws.{base-few, chain_next, chain-end, last_within, base-less}
use native.Mathlib.Omega.{arith}
use Rattle.members.proofs.fill.Goals as goal

pub returns-then-total-last : goal.returns-then-total-last
returns-then-total-last c = (
  c.loop-c.invariant.1,
  λ ks ms k.
      let v = last_within c.args.text.now ks ms c.args.index.now c.args.count c.args.rows.now
      c.args.total k c.loop-c.c c.loop-c-test.true (omega arith) in
      absurd (omega (arith, c.if-total-last.true, c.field-last.ensures.0)),
)

pub returns-then-c-b : goal.returns-then-c-b
returns-then-c-b c = (
  c.add_own-n.ensures.0,
  λ ks ms k.
      let v = base-less c.args.text.now ks ms c.args.index.now c.args.count c.args.rows.now
      c.args.total k c.loop-c.c c.loop-c-test.true (omega arith) _ c.field-b.ensures.0 in
      absurd (omega (arith, c.if-c-b.true)),
)

pub loop-c-preserved : goal.loop-c-preserved
loop-c-preserved c = (
  omega arith,
  c.add_own-n.ensures.0,
  c.add_own-n.auto.hand ∙ c.loop-c.invariant.2,
  λ ks ms k w. chain_next c.args.text.now ks ms c.args.index.now c.args.count c.args.rows.now
      c.args.total k c.args.base c.loop-c.c c.loop-c-test.true (omega arith) w _ _
      (c.loop-c.invariant.3 ks ms k w) _ _ _ c.field-first.ensures.0 c.field-last.ensures.0 c.field-b.ensures.0 _ _
      (λ g own more. c.add_own-n.ensures.1 ms g own more k.members),
)

pub returns : goal.returns
returns c = (
  c.loop-c.invariant.1,
  λ ks ms k. chain-end ks ms c.args.base _ _ c.loop-c.c (omega arith)
      (c.loop-c.invariant.3 ks ms k (base-few _ ks ms _ _ _ _ k c.args.base (omega (arith, c.requires.0)))),
)
