use mathlib.Core.Path.{◌≡◌}
use Prim.Native.Nat.{◌-◌, ◌≤◌, ◌^◌}
use Rattle.numbers.proofs.ten_to.Given as goal

abbrev pub invariant-loop : goal.invariant-loop
invariant-loop l = (l.power ≡ 10 ^ l.counter) × (l.counter ≤ l.n)

abbrev pub decreases-loop : goal.decreases-loop
decreases-loop l = l.n - l.counter
