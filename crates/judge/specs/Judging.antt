-- A unit, or a mark, that comes in a state, and the answer of judging it.
use Rattle.std.specs.Prelude.{◌≡◌, List, ℕ, Result}
use Rattle.std.proofs.Math.Option.{Option, none, some}
use Rattle.rules.specs.Units as U
use Rattle.rules.specs.Declarations.{State}
use Rattle.rules.specs.Check.{lent, judged}
use Rattle.units.specs.declared.Unit.{Unit}
use Rattle.units.specs.declared.Unit.TheVariants.{Mark}
use Rattle.state.specs.declared.State as code
use Rattle.state.specs.declared.desk.Desk.{Desk}
use Rattle.ground.specs.declared.Ruling.{Ruling}
use Rattle.state.specs.Keeping.{Answered, Comes}

-- DOMAIN, UNIT, ATTRIBUTE and the end of the text are marks
abbrev pub ComesAny : List ℕ → State → Option U.Unit → Unit → List ℕ → Type 0
ComesAny t s none u rs = u ≡ Mark
ComesAny t s (some v) u rs = Comes t s v u rs

-- with a buffer of m bytes, r is the answer to the unit v in the state s, and the desk d has what the code then holds
pub record Answers (d : Desk) (m : ℕ) (s : State) (r : Result code.State Ruling) (v : Option U.Unit) : Type 0 where
  pub as_judged : Answered d (judged (lent m) s v) r
