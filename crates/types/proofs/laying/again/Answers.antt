use Rattle.types.proofs.LayLaws.{again-laid}
use Rattle.types.proofs.laying.again.Goals as goal

pub returns : goal.returns
returns c =
    let args = c.args in
    λ t e k. again-laid t args.out.now _ args.used args.at args.from _ e c.requires.1 k
    (c.size_of-s.ensures t e k) c.copy_if.ensures
