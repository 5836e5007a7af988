-- A class over a structure: each text is computed.
use mathlib.Core.Path.{refl}
use Rattle.rules.specs.All.{All}
use Rattle.computed.specs.Cases.{Holds}
use Rattle.computed.specs.OverStructures.{sorts, other_sorts, classes, attributes, Exact}
use Rattle.computed.proofs.Computing.{computing}

pub sorts-hold : All Holds sorts
unfolding computing
sorts-hold = (refl, (refl, (refl, (refl, (refl, (refl, (refl, (refl, (refl, (refl, tt))))))))))

pub other-sorts-hold : All Holds other_sorts
unfolding computing
other-sorts-hold = (refl, (refl, (refl, (refl, (refl, (refl, (refl, (refl, (refl, (refl, tt))))))))))

pub classes-hold : All Holds classes
unfolding computing
classes-hold = (refl, (refl, (refl, (refl, (refl, (refl, tt))))))

pub attributes-hold : All Holds attributes
unfolding computing
attributes-hold = (refl, (refl, (refl, (refl, (refl, (refl, (refl, (refl, (refl, (refl, tt))))))))))

pub exact : Exact
unfolding computing
exact = refl
