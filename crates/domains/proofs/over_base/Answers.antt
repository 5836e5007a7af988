use Rattle.domains.proofs.StageLaws.{over-is}
use Rattle.domains.proofs.over_base.Goals as goal

pub returns : goal.returns
returns c =
    λ s n p b w hs rs d em h.
    over-is h c.requires.3 c.requires.4 c.requires.1 c.args.m em c.base_type-base.result
    c.base_type-base.ensures c.unit_number.result c.unit_number.ensures c.meant-own.result c.meant-own.ensures
    c.keeps_unit-keeps.result c.keeps_unit-keeps.ensures
