use mathlib.Core.Path.{◌∙◌}
use Rattle.ground.proofs.BufferLaws.{put-fits}
use Rattle.types.proofs.LayLaws.{copied-laid, copied-not}
use native.Mathlib.Omega.{arith}
use Rattle.types.proofs.laying.copied.Goals as goal

pub returns-then-s-scratch : goal.returns-then-s-scratch
returns-then-s-scratch c =
    let args = c.args in
    λ t e k. copied-laid t args.scratch.now args.out.now _ args.at _ e k (c.size_of-s.ensures t e k)
    (λ w. c.put_if.ensures ∙ put-fits _ _ _ w)

pub returns-else-s-scratch : goal.returns-else-s-scratch
returns-else-s-scratch c =
    λ t e k. copied-not t c.args.scratch.now _ e k (c.size_of-s.ensures t e k) (omega arith)
