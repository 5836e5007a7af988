-- The units of numbers: each text is computed.
use mathlib.Core.Path.{refl}
use Rattle.rules.specs.All.{All}
use Rattle.computed.specs.Cases.{Holds}
use Rattle.computed.specs.Units.{runs, written, named, domains, attributes, readings}
use Rattle.computed.proofs.Computing.{computing}

pub runs-hold : All Holds runs
unfolding computing
runs-hold = (refl, (refl, (refl, (refl, (refl, (refl, (refl, (refl, tt))))))))

pub written-hold : All Holds written
unfolding computing
written-hold = (refl, (refl, (refl, (refl, (refl, (refl, (refl, (refl, (refl, (refl, (refl, tt)))))))))))

pub named-hold : All Holds named
unfolding computing
named-hold = (refl, (refl, (refl, (refl, (refl, (refl, (refl, (refl, (refl, (refl, tt))))))))))

pub domains-hold : All Holds domains
unfolding computing
domains-hold = (refl, (refl, (refl, (refl, (refl, (refl, (refl, (refl, (refl, tt)))))))))

pub attributes-hold : All Holds attributes
unfolding computing
attributes-hold = (refl, (refl, (refl, (refl, (refl, (refl, tt))))))

pub readings-hold : All Holds readings
unfolding computing
readings-hold = (
  (refl, refl, refl),
  (
    (refl, refl, refl),
    (
      (refl, refl, refl),
      (
        (refl, refl, refl),
        ((refl, refl), ((refl, refl), ((refl, refl), ((refl, refl), tt)))),
      ),
    ),
  ),
)
