use Rattle.names.proofs.KnownLaws.{known-first, known-last, known-not}
use native.Mathlib.Omega.{arith}
use Rattle.names.proofs.make_known.Goals as goal

pub returns-then-last-eq0 : goal.returns-then-last-eq0
returns-then-last-eq0 c =
    λ ks d z e k. known-first ks c.args.chains.now d c.args.key c.from-last.result c.args.p z e k
    c.requires.0 c.requires.1 c.from-last.ensures c.if-last-eq0.true

pub returns-then-last-p : goal.returns-then-last-p
returns-then-last-p c =
    λ ks d z e k. known-last ks c.args.chains.now d c.args.key c.from-last.result c.args.p z e k c.requires.0
    c.requires.1 c.from-last.ensures c.if-last-eq0.false

pub returns-else-last-p : goal.returns-else-last-p
returns-else-last-p c =
    λ ks d z e k. absurd
    (known-not ks c.args.chains.now d c.args.key c.from-last.result c.args.p z e k c.requires.0 c.requires.1
    c.from-last.ensures (omega (arith, c.if-last-p.false)))
