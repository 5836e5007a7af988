use Rattle.std.proofs.Common.{◌≡◌, ℕ, Bool}
use Rattle.ground.specs.Parts.{run_end}
use Rattle.ground.specs.Runs.{Answers}
use Rattle.ground.proofs.runs.run_end.Given as goal

abbrev pub invariant-loop-i : goal.invariant-loop-i
invariant-loop-i g l =
    (p : ℕ → Bool) → Answers (goal.F-post g l.passes) p → run_end p l.text l.at ≡ run_end p l.text l.i
