-- The lines and columns are computed.
use mathlib.Core.Path.{refl}
use Rattle.rules.specs.Lines.{position_of}
use Rattle.computed.specs.Lines.{Places, Refusals}
use Rattle.computed.proofs.Computing.{computing}

pub placed : Places
unfolding position_of
placed = record {
  empty = refl;
  one_line = refl;
  lf = refl;
  cr = refl;
  cr_lf = refl;
  lf_cr = refl;
  cr_cr = refl;
  lf_lf = refl;
  cr_cr_lf = refl;
  lf_cr_lf = refl;
  cr_lf_cr = refl;
  cr_lf_lf = refl;
  last_lf = refl;
  last_cr = refl;
  near = refl;
  above = refl;
  beyond = refl;
}

pub refused : Refusals
unfolding computing position_of
refused = record {
  no_text = refl;
  starts_first_line = refl;
  separators = refl;
  line_comments = refl;
  comment = refl;
  cr_in_string = refl;
  lf_in_string = refl;
  never_closed = refl;
  before_all = refl;
  end_cr_lf = refl;
  end_cr = refl;
  end_lf_cr = refl;
  end_comment = refl;
  end_line = refl;
  version = refl;
  other_end = refl;
  doubled = refl;
  misfit = refl;
  room = refl;
}
