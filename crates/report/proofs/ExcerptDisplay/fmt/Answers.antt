use mathlib.Core.Path.{◌≡◌}
use mathlib.Core.List.{List}
use Prim.Native.Nat.{ℕ, ◌≤◌}
use lib.ListN.{length}
use Rattle.ground.specs.Parts.{run_end}
use Rattle.scans.specs.Scans.{not_line_end}
use Rattle.ground.proofs.ScanLaws.{run-le}
use native.Mathlib.Omega.{arith}
use Rattle.report.proofs.ExcerptDisplay.fmt.Goals as goal

-- a line ends within the text
line-in : (t : List ℕ) (i e : ℕ) → e ≡ run_end not_line_end t i → i ≤ length t → e ≤ length t
line-in t i e p h = rw p (run-le not_line_end t i h)

pub slice_bounds-line-end : goal.slice_bounds-line-end
slice_bounds-line-end g c =
    omega (arith, line-in _ _ _ c.line_end-end.ensures (omega (arith, c.min-at.ensures)))
