use Rattle.names.specs.Index.{entry}
use Rattle.members.proofs.OpenLaws.{opened-start, opened-held}
use native.Mathlib.Omega.{arith}
use Rattle.members.proofs.inherit.Goals as goal

pub returns-then-base-gt0 : goal.returns-then-base-gt0
returns-then-base-gt0 c = (
  c.requires.1,
  λ ks ms d k h eo ei.
      let a = k.known.all in
      opened-held ms _ _ ks c.args.base c.args.held.class d c.if-base-held.true c.if-base-gt0.true
      (omega (arith, c.requires.0)) eo ei h,
)

pub returns : goal.returns
returns c = (
  c.fill.ensures.0,
  λ ks ms d k h eo ei. opened-start ms _ _ (entry ks c.args.base) d eo ei (c.fill.ensures.1 ks ms k),
)
