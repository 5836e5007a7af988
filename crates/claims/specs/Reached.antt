-- Document 01, "Refusals in order": where the run of `check` judges a unit, and in which state.
use Rattle.std.specs.Prelude.{◌≡◌, false, List, ℕ, suc, length, ltb}
use Rattle.std.proofs.Math.Option.{some}
use Rattle.rules.specs.Symbols.{Symbol, symbol_at}
use Rattle.rules.specs.Readers.{done}
use Rattle.rules.specs.Grammar.{enough}
use Rattle.rules.specs.Units as U
use Rattle.rules.specs.Units.{Where, start, Step, unit_at}
use Rattle.rules.specs.Declarations.{State}
use Rattle.rules.specs.Judge.{ok}
use Rattle.rules.specs.Check.{Given, judged, is_over, nothing}

-- checking the text t with what is given, g, comes, after units that were not refused, to a place, what may stand
-- there, and a state; f bounds the units that follow
pub data Reaches (t : List ℕ) (g : Given) : ℕ → Where → State → ℕ → Type 0 where
  begin : ltb 65535 (length t) ≡ false → Reaches t g (enough t) start nothing 0
  pass : {f : ℕ} {w : Where} {s : State} {at : ℕ} → Reaches t g (suc f) w s at → is_over w ≡ false
      → (q : Step) (y : Symbol) (x : State)
      → unit_at w t (symbol_at t at) ≡ done q y → judged g s q.unit ≡ ok x → Reaches t g f q.next x q.behind

-- it judges the unit u in the state s
pub record Judges (t : List ℕ) (g : Given) (s : State) (u : U.Unit) : Type 0 where
  pub left : ℕ
  pub stands : Where
  pub place : ℕ
  pub reaches : Reaches t g (suc left) stands s place
  pub more : is_over stands ≡ false
  pub step : Step
  pub after : Symbol
  pub reads : unit_at stands t (symbol_at t place) ≡ done step after
  pub unit : step.unit ≡ some u
