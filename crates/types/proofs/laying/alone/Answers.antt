use Rattle.types.proofs.LayLaws.{again-type}
use Rattle.merging.specs.Merging.{LaidAs}
use mathlib.Core.Bool.{true}
use Rattle.std.specs.Prelude.{Ok}
use lib.ListN.{take}
use Rattle.types.proofs.laying.alone.Goals as goal

pub returns-in-Enumeration : goal.returns-in-Enumeration
returns-in-Enumeration c =
    let args = c.args in
    λ t b v u. again-type (λ l. LaidAs true l args.at args.out.now c.again.new.out (Ok c.again.result)) t
    (take args.used args.out.now) b args.base c.in-Enumeration.place c.in-Enumeration.is u c.again.ensures
