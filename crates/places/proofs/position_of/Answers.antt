use Rattle.std.proofs.Common.{◌≡◌, sym, ◌∙◌, arith}
use Rattle.places.proofs.StandingLaws.{line-next, position-by}
use Rattle.places.proofs.position_of.Goals as goal

pub loop-at-preserved : goal.loop-at-preserved
loop-at-preserved c = c.behind-line.ensures ∙ rw c.loop-at.invariant (sym (line-next _ _))

pub returns : goal.returns
returns c =
    let e : c.loop-at.at ≡ c.min-end.result = omega arith in
    c.position_on.ensures ∙ rw (c.loop-at.invariant, e) (position-by _ _ _ c.min-end.ensures c.requires)
