use Rattle.domains.proofs.StageLaws.{base_there}
use native.Mathlib.Omega.{arith}
use Rattle.domains.proofs.base_type.Goals as goal

pub returns : goal.returns
returns c =
    λ t ks ms n y m l h f. base_there t _ ks ms c.args.desk.now.index.now n y m c.args.base
    (omega (arith, c.if-base-eq0.false)) l h f c.place_of.result c.place_of.ensures.0
    c.type_behind.result c.type_behind.ensures
