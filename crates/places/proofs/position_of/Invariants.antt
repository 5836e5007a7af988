use Rattle.std.proofs.Common.{◌≡◌}
use Rattle.places.specs.Standing.{line_at}
use Rattle.places.proofs.position_of.Given as goal

abbrev pub invariant-loop-at : goal.invariant-loop-at
invariant-loop-at l = l.line ≡ line_at l.text l.at
