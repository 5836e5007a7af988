use mathlib.Core.Path.{◌∙◌}
use Rattle.members.proofs.FillLaws.{own-next, own-done}
use native.Mathlib.Omega.{arith}
use Rattle.members.proofs.add_own.Goals as goal

pub loop-q-preserved : goal.loop-q-preserved
loop-q-preserved c = (
  c.add-n.ensures.1,
  omega (arith, c.add-n.ensures.0),
  c.add-n.auto.hand ∙ c.loop-q.invariant.2,
  λ ms g own more k f e l u w. own-next ms g own more c.args.first c.args.last c.loop-q.q e l u w
      c.loop-q.auto.q (omega arith) _ c.loop-q.n c.args.count f.all
      (c.loop-q.invariant.3 ms g own more k f e l u w) _ _ (λ h a. c.add-n.ensures.2 ms g h a k),
)

pub returns : goal.returns
returns c = (
  c.loop-q.invariant.0,
  λ ms g own more k f e l u w. own-done ms g own c.args.first c.args.last c.loop-q.q _ _ l
      (omega arith) (c.loop-q.invariant.3 ms g own more k f e l u w),
)
