-- A step across sorts, in the state that the text declares: computed.
use mathlib.Core.Path.{refl}
use Rattle.rules.specs.All.{first, later}
use Rattle.rules.specs.Declarations.{State}
use Rattle.rules.specs.Check.{Outcome, kept, unread, ruled_out}
use Rattle.claims.specs.Steps.{Nearest, near, straight, Rises}
use Rattle.computed.specs.Cases.{outcome, defined}
use Rattle.computed.specs.AcrossStep.{units, attribute_of, AcrossStep}
use Rattle.computed.proofs.Computing.{computing}

abbrev state_of : Outcome → State
state_of (kept s) = s
state_of (unread s f p) = s
state_of (ruled_out s k p) = s

abbrev declared : State
declared = state_of (outcome units 65535)

step : Nearest declared (attribute_of (defined declared "C")) (attribute_of (defined declared "S"))
unfolding computing
step = record {
  class = defined declared "C";
  declared = later first;
  own = first;
  inherits = near (defined declared "S") refl refl;
}

pub across-step : AcrossStep
unfolding computing
across-step = record {
  state = declared;
  runs = refl;
  from = refl;
  to = refl;
  value = refl;
  nearest = step;
  rises = Rises.up Rises.start _ _ step (straight refl refl);
}
