use mathlib.Core.Path.{◌≡◌}
use Prim.Native.Nat.{ℕ, ◌-◌, ◌<◌}
use lib.ListN.{length}
use Rattle.std.specs.Prelude.{Option}
use Rattle.enumerations.specs.Lists.{find_from}
use Rattle.enumerations.proofs.find.Given as goal

abbrev pub invariant-loop-name : goal.invariant-loop-name
invariant-loop-name l = (r : Option ℕ) → ((g : ℕ) → length l.s - l.at < g → r ≡ find_from g l.text l.s l.at l.name)
    → (f : ℕ) → length l.s - l.list < f → r ≡ find_from f l.text l.s l.list l.name

abbrev pub decreases-loop-name : goal.decreases-loop-name
decreases-loop-name l = length l.s - l.at
