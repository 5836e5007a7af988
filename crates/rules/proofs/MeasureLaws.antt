-- A unit may stand for itself.
use mathlib.Core.Path.{◌≡◌, refl}
use mathlib.Core.Bool.{true}
use mathlib.Core.Option.{Option, none, some}
use mathlib.Core.List.{List, [], ◌∷◌}
use Prim.Native.Nat.{ℕ}
use Rattle.rules.specs.Types.{Measure, line, leads_to, unit_fits}
use Rattle.rules.proofs.ByteLaws.{same_refl}
use Rattle.rules.proofs.Tests.{or_l}

pub leads-itself : (k : List ℕ) → leads_to k k ≡ true
leads-itself [] = refl
leads-itself (n ∷ k) = or_l (leads_to k (n ∷ k)) (same_refl (n ∷ k))

pub unit-itself : (u : Option Measure) → unit_fits u u ≡ true
unit-itself none = refl
unit-itself (some u) = leads-itself (line u)
