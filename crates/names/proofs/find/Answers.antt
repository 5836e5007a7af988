use mathlib.Core.Path.{ap, ◌∙◌}
use Prim.Native.Nat.{ℕ}
use lib.ListN.{get_or}
use Rattle.names.specs.Chains.{key_of}
use Rattle.names.specs.References.{bytes_of}
use Rattle.names.proofs.ChainLaws.{behind-start, behind-none, chain-within, chain-hit, chain-on}
use Rattle.names.proofs.ChainLaws.{chain-up, key_below}
use native.Mathlib.Omega.{arith}
use Rattle.names.proofs.find.Goals as goal

pub loop-p-init : goal.loop-p-init
loop-p-init c =
    λ ks k z. behind-start ks (bytes_of c.args.text.now c.args.name) c.args.low c.args.high _
    (c.from-p.ensures ∙ ap (λ (i : ℕ). get_or c.args.chains.now i 0) c.key_of.ensures.0
    ∙ z.heads (key_of (bytes_of c.args.text.now c.args.name))
    (key_below _ _ c.key_of.ensures.0 c.key_of.ensures.1))

pub returns-then-count-p : goal.returns-then-count-p
returns-then-count-p c = (
  omega arith,
  λ ks k z.
      let w = chain-within c.args.text.now ks c.args.index.now c.args.count k
      c.args.chains.now z (bytes_of c.args.text.now c.args.name) c.args.low c.args.high
      c.loop-p.p (c.loop-p.invariant ks k z) c.loop-p-test.true in
      absurd (omega (arith, c.if-count-p.true)),
)

pub returns-then-is_hit : goal.returns-then-is_hit
returns-then-is_hit c = (
  omega (arith, c.if-count-p.false),
  λ ks k z. chain-hit c.args.text.now ks c.args.index.now c.args.count k c.args.chains.now z
      (bytes_of c.args.text.now c.args.name) c.args.low c.args.high c.loop-p.p (c.loop-p.invariant ks k z)
      c.loop-p-test.true _ c.is_hit.ensures c.if-is_hit.true,
)

pub returns-then-next-p : goal.returns-then-next-p
returns-then-next-p c = (
  omega arith,
  λ ks k z. behind-none ks (bytes_of c.args.text.now c.args.name) c.args.low c.args.high _
      (chain-on c.args.text.now ks c.args.index.now c.args.count k c.args.chains.now z
      (bytes_of c.args.text.now c.args.name) c.args.low c.args.high c.loop-p.p (c.loop-p.invariant ks k z)
      c.loop-p-test.true _ c.is_hit.ensures c.if-is_hit.false c.from-next.result
      c.from-next.ensures)
      (chain-up c.args.text.now ks c.args.index.now c.args.count k c.args.chains.now z
      (bytes_of c.args.text.now c.args.name) c.args.low c.args.high c.loop-p.p (c.loop-p.invariant ks k z)
      c.loop-p-test.true _ c.is_hit.ensures c.if-is_hit.false c.from-next.result
      c.from-next.ensures c.if-next-p.true),
)

pub loop-p-preserved : goal.loop-p-preserved
loop-p-preserved c =
    λ ks k z. chain-on c.args.text.now ks c.args.index.now c.args.count k c.args.chains.now z
    (bytes_of c.args.text.now c.args.name) c.args.low c.args.high c.loop-p.p (c.loop-p.invariant ks k z)
    c.loop-p-test.true _ c.is_hit.ensures c.if-is_hit.false c.from-next.result c.from-next.ensures

pub returns : goal.returns
returns c = (
  omega arith,
  λ ks k z. behind-none ks (bytes_of c.args.text.now c.args.name) c.args.low c.args.high
      c.loop-p.p (c.loop-p.invariant ks k z) (omega arith),
)
