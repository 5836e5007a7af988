-- Each number by itself and its near misses hold: each is computed.
use mathlib.Core.Path.{refl}
use Rattle.rules.specs.All.{All}
use Rattle.computed.specs.Cases.{Holds}
use Rattle.computed.specs.Pinned.{unreadable, placed, sizes, taken, references, flagged, bases, ends}
use Rattle.computed.proofs.Computing.{computing}

pub unreadable-hold : All Holds unreadable
unfolding computing
unreadable-hold = (
  refl,
  (refl, (refl, (refl, (refl, (refl, (refl, (refl, (refl, (refl, (refl, (refl, (refl, (refl, (refl, tt)))))))))))))),
)

pub placed-hold : All Holds placed
unfolding computing
placed-hold = (refl, (refl, (refl, (refl, (refl, tt)))))

pub sizes-hold : All Holds sizes
unfolding computing
sizes-hold = (refl, (refl, (refl, (refl, (refl, (refl, (refl, (refl, tt))))))))

pub taken-hold : All Holds taken
unfolding computing
taken-hold = (refl, (refl, (refl, (refl, (refl, (refl, (refl, (refl, (refl, (refl, tt))))))))))

pub references-hold : All Holds references
unfolding computing
references-hold = (refl, (refl, (refl, (refl, (refl, (refl, (refl, (refl, (refl, (refl, (refl, (refl, tt))))))))))))

pub flagged-hold : All Holds flagged
unfolding computing
flagged-hold = (refl, (refl, (refl, (refl, (refl, (refl, (refl, (refl, (refl, (refl, (refl, (refl, tt))))))))))))

pub bases-hold : All Holds bases
unfolding computing
bases-hold = (
  refl,
  (refl, (refl, (refl, (refl, (refl, (refl, (refl, (refl, (refl, (refl, (refl, (refl, (refl, (refl, tt)))))))))))))),
)

pub ends-hold : All Holds ends
unfolding computing
ends-hold = (refl, (refl, (refl, (refl, (refl, (refl, (refl, (refl, (refl, tt)))))))))
