-- The walk through a merged enumeration, on bytes: its open lists, and its run to the end.
use Rattle.std.specs.Prelude.{◌≡◌, cond, List, [], ◌++◌, ℕ, zero, suc, ◌+◌, ◌-◌, ◌≤◌}
use Rattle.std.specs.Prelude.{length, get_or, set, eqb, ltb, Option, None, Result, Ok, Err}
use Rattle.rules.specs.Book.{Record, bytes}
use Rattle.ground.specs.Parts.{splice}
use Rattle.merging.specs.Steps.{emitted, goes, size_with, look_move}
use Rattle.enumerations.specs.Lists.{list_of}
use Rattle.enumerations.specs.declared.Inner.{Inner}
use Rattle.enumerations.specs.declared.Size.{Size}
use Rattle.merging.specs.declared.Turn.{Turn}
use Rattle.merging.specs.declared.Turn.TheVariants.{Go, Enter, Leave}
use Rattle.merging.specs.declared.Position.{Position}
use Rattle.merging.specs.declared.Position.TheVariants.{Copying, Adding}
use Rattle.merging.specs.declared.Move.{Move}
use Rattle.merging.specs.declared.Walk.{Walk}
use Rattle.merging.specs.declared.Misfit.{Misfit}

abbrev pub no_position : Position
no_position = Adding None None

-- the innermost open list
unfoldable pub top_of : Walk → Position
top_of w = get_or w.places (w.depth - 1) no_position

abbrev pub gone : Walk → Position → Walk
gone w p = record { places = set w.places (w.depth - 1) p; depth = w.depth }

abbrev pub turned : Turn → Walk → Walk
turned (Go next) w = gone w next
turned (Enter next child) w =
    cond (ltb w.depth 8)
    (record { places = set (set w.places (w.depth - 1) next) w.depth child; depth = w.depth + 1 }) (gone w next)
turned Leave w = record { places = w.places; depth = w.depth - 1 }

unfoldable pub moved_by : Walk → Turn → Walk
moved_by w u = turned u w

-- what a run writes, or that something is added where nothing may be
pub data Ran : Type 0 where
  wrote : List Record → Ran
  barred : Ran

abbrev pub before : List Record → Ran → Ran
before l (wrote m) = wrote (l ++ m)
before l barred = barred

abbrev pub after_move : Move → Ran → Ran
after_move m r = cond (goes m.emit) (before (emitted m.emit) r) barred

unfoldable pub run_from : ℕ → List ℕ → List ℕ → List ℕ → Walk → Ran
run_from zero t b x w = wrote []
run_from (suc k) t b x w =
    let m = look_move t b x (top_of w) in
    let r = run_from k t b x (moved_by w m.turn) in
    cond (eqb w.depth 0) (wrote []) (after_move m r)

-- the answer r and the buffer o₁ are those of a run whose records go to the buffer o, behind what has the
-- size s from the place i on
abbrev pub RanTo : Ran → ℕ → Size → List ℕ → List ℕ → Result Size Misfit → Type 0
RanTo (wrote l) i s o o₁ r =
    (r ≡ Ok (size_with s l)) × (i + s.bytes + length (bytes l) ≤ length o → o₁ ≡ splice o (i + s.bytes) (bytes l))
RanTo barred i s o o₁ r = r ≡ Err (record {})

-- a walk that starts with these two lists
pub record Starts (b x : Option Inner) (w : Walk) : Type 0 where
  pub depth : w.depth ≡ 1
  pub eight : length w.places ≡ 8
  pub first : get_or w.places 0 no_position
      ≡ Copying b (list_of b) (list_of x)
