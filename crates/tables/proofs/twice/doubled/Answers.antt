use native.Mathlib.Omega.{arith}
use Rattle.tables.proofs.twice.doubled.Goals as goal

pub entered-requires : goal.entered-requires
entered-requires c = (
  record { some = c.grid_of.ensures.some; fits = omega (arith, c.grid_of.ensures.small, c.requires.1) },
  c.requires.0,
  c.grid_of.ensures,
)

pub returns : goal.returns
returns c = λ e u. (c.entered.ensures e u).0
