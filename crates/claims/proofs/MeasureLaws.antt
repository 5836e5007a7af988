-- A unit stands for itself; descent carries over steps; and two units that stand for one another are one.
use mathlib.Core.Path.{◌≡◌, refl, sym, ap, subst}
use mathlib.Core.Logic.{⊎_elim}
use mathlib.Core.Bool.{true}
use mathlib.Core.Option.{Option, none, some}
use mathlib.Core.List.{List, [], ◌∷◌}
use Prim.Native.Nat.{ℕ, ◌≤◌}
use native.Mathlib.Omega.{arith}
use lib.ListN.{length}
use Rattle.rules.specs.Bytes.{same}
use Rattle.rules.specs.Types.{Measure, line, leads_to, unit_fits}
use Rattle.rules.proofs.Tests.{never, or_r, or_split}
use Rattle.rules.proofs.ByteLaws.{same-eq}
use Rattle.rules.proofs.MeasureLaws.{unit-itself}
use Rattle.claims.specs.Readings.{UnitsDescend}

-- ---- lines
leads-onward : (k l m : List ℕ) → leads_to k l ≡ true → leads_to l m ≡ true → leads_to k m ≡ true
leads-onward [] l m h i = subst (λ (j : List ℕ). leads_to j m ≡ true) (sym (same-eq [] l h)) i
leads-onward (n ∷ k) l m h i =
    ⊎_elim (λ e. subst (λ (j : List ℕ). leads_to j m ≡ true) (sym (same-eq (n ∷ k) l e)) i)
    (λ e. or_r (same (n ∷ k) m) (leads-onward k l m e i)) (or_split h)

leads-shorter : (k l : List ℕ) → leads_to k l ≡ true → length l ≤ length k
leads-shorter [] l h = let e = ap length (same-eq [] l h) in omega arith
leads-shorter (n ∷ k) l h =
    ⊎_elim (λ e. let q = ap length (same-eq (n ∷ k) l e) in omega arith)
    (λ e. let q = leads-shorter k l e in omega arith) (or_split h)

leads_one : (k l : List ℕ) → leads_to k l ≡ true → leads_to l k ≡ true → k ≡ l
leads_one [] l h i = same-eq [] l h
leads_one (n ∷ k) l h i =
    ⊎_elim (same-eq (n ∷ k) l)
    (λ e. let p = leads-shorter k l e in let q = leads-shorter l (n ∷ k) i in absurd (omega arith)) (or_split h)

-- ---- units
pub unit-onward : (u v w : Option Measure) → unit_fits u v ≡ true → unit_fits v w ≡ true → unit_fits u w ≡ true
unit-onward none none w h i = i
unit-onward none (some v) w h i = never h
unit-onward (some u) none w h i = never h
unit-onward (some u) (some v) none h i = never i
unit-onward (some u) (some v) (some w) h i = leads-onward (line u) (line v) (line w) h i

measure-line : (u v : Measure) → line u ≡ line v → u ≡ v
measure-line u v e =
    let p : u.number ≡ v.number = cc in
    let q : u.bases ≡ v.bases = cc in
    λ i. record { number = p i; bases = q i }

unit-one : (u v : Option Measure) → unit_fits u v ≡ true → unit_fits v u ≡ true → u ≡ v
unit-one none none h i = refl
unit-one none (some v) h i = never h
unit-one (some u) none h i = never h
unit-one (some u) (some v) h i = ap some (measure-line u v (leads_one (line u) (line v) h i))

pub units-descend : UnitsDescend
units-descend = record { itself = unit-itself; onward = unit-onward; one = unit-one }
