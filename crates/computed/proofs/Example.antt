-- The example, its readings, its records and its names hold: each is computed.
use mathlib.Core.Path.{refl}
use Rattle.rules.specs.Lines.{position_of}
use Rattle.computed.specs.Example.{Checks, Reads, Finds, Shows}
use Rattle.computed.proofs.Computing.{computing}

pub example : Checks
unfolding computing position_of
example = record {
  size = refl;
  exact = refl;
  longer = refl;
  short = refl;
  empty = refl;
  no_text = refl;
  version = refl;
}

pub readings : Reads
unfolding computing
readings = record {
  is_too_great = refl;
  greatest = refl;
  half = refl;
  half_below = refl;
  below_half = refl;
  decimals_at_most = refl;
  decimals = refl;
  base_decimals = refl;
  most_magnitude = refl;
  magnitude = refl;
  nothing = refl;
}

pub found : Finds
unfolding computing
found = record {
  model = refl;
  domain = refl;
  range = refl;
  fourth = refl;
  empty = refl;
  cut = refl;
  unknown = refl;
  ended = refl;
  before_cut = refl;
  before_unknown = refl;
}

pub names : Shows
unfolding computing
names = record {
  model = refl;
  domain = refl;
  range = refl;
  end = refl;
  behind = refl;
  nameless = refl;
  middle_past = refl;
  middle = refl;
  cut = refl;
  unknown = refl;
  last = refl;
  past = refl;
  bare = refl;
  bare_end = refl;
  bare_past = refl;
}
