-- 22: the walk along the bases of a unit at a position, and what is written over a base's type.
use mathlib.Core.Path.{◌≡◌, refl, sym, ap}
use mathlib.Core.Bool.{Bool, true, false}
use mathlib.Core.Option.{Option, none, some}
use mathlib.Core.List.{List}
use mathlib.Core.Logic.{◌⊎◌, inl, inr}
use Prim.Native.Nat.{ℕ, zero, suc, ◌≤◌}
use native.Mathlib.Omega.{arith}
use lib.ListN.{length}
use lib.Dec.{eqb}
use borrow.Author.Tests.{ne_eqb}
use Rattle.std.specs.Prelude.{Some, None}
use Rattle.rules.specs.All.{AnyIs, In}
use Rattle.rules.specs.Grammar as G
use Rattle.rules.specs.Grammar.{WrittenType}
use Rattle.rules.specs.Types.{Measure, Ty, unit_of, unit_fits, keeps_unit}
use Rattle.rules.specs.Declarations.{Def, measure_of, measure_in}
use Rattle.rules.specs.Judge.{domain_type, bases_of, is_among}
use Rattle.rules.proofs.Tests.{never}
use Rattle.numbers.specs.declared.Number.{Number}
use Rattle.names.specs.Index.{entry, Chained}
use Rattle.names.proofs.IndexLaws.{there}
use Rattle.wellformed.specs.Fairness.{UnitIn, Rising}
use Rattle.wellformed.proofs.UnitLaws.{units-self, among-leads}
use Rattle.parts.specs.declared.types.Meant.{Meant}
use Rattle.parts.specs.declared.types.Meant.TheVariants as meant
use Rattle.parts.specs.Forms.{any_of}
use Rattle.fitting.specs.Values.{unit_number}

-- ---- of the unit at the position p
module _ (ks : List Def) (p : ℕ) where
  -- over a base without one
  pub unit-none : p ≤ length ks → (u : Option Measure) → None ≡ unit_number u
      → eqb p 0 ≡ unit_fits (measure_in (entry ks p)) u
  unit-none w (some m) e = cc
  unit-none w none e = go p w
    where
      go : (p : ℕ) → p ≤ length ks → eqb p 0 ≡ unit_fits (measure_in (entry ks p)) none
      go zero w = refl
      go (suc i) w = let (d, q) = there ks i (omega arith) in rw (q, ne_eqb (suc i) 0 (λ z. omega arith))

  -- over a base's
  pub unit-some : (x : List ℕ) → Chained ks x → Rising ks → (n : ℕ) (y : Ty) → UnitIn ks y
      → Some n ≡ unit_number (unit_of y)
      → is_among n (bases_of (entry ks p)) ≡ unit_fits (measure_in (entry ks p)) (unit_of y)
  unit-some x c r n y h e = go (unit_of y) h e
    where
      go : (u : Option Measure) → AnyIs (λ (m : Measure). (d : Def) × In d ks × (measure_of d ≡ m)) u
          → Some n ≡ unit_number u
          → is_among n (bases_of (entry ks p)) ≡ unit_fits (measure_in (entry ks p)) u
      go none h e = cc
      go (some m) (d, i, k) e =
          let l : n ≡ d.number = let j = ap (λ (m : Measure). m.number) k in cc in
          rw (l, ← k) (from (entry ks p) refl)
        where
          from : (o : Option Def) → entry ks p ≡ o
              → is_among d.number (bases_of o) ≡ unit_fits (measure_in o) (some (measure_of d))
          from none q = refl
          from (some f) q = among-leads ks x c r d i p f q

-- ---- of what is written
abbrev is_number : Meant → Bool
is_number (meant.Range x y) = true
is_number meant.Numeric = true
is_number _ = false

module _ {m : Meant} (b : Ty) (target : Option Def) where
  pub alone-keeps : m ≡ meant.Alone → (w : Option WrittenType) → m ≡ any_of w
      → true ≡ keeps_unit (domain_type w target b) b
  alone-keeps h none e = sym (units-self b)
  alone-keeps h (some (G.text k none)) e = cc
  alone-keeps h (some (G.text k (some y))) e = cc
  alone-keeps h (some (G.numeric none r)) e = cc
  alone-keeps h (some (G.numeric (some q) r)) e = cc
  alone-keeps h (some (G.enum g)) e = cc
  alone-keeps h (some (G.named r)) e = cc

  pub number-keeps : ((x : Number) × (y : Number) × (m ≡ meant.Range x y)) ⊎ (m ≡ meant.Numeric)
      → (w : Option WrittenType) → m ≡ any_of w
      → unit_fits (measure_in target) (unit_of b) ≡ keeps_unit (domain_type w target b) b
  number-keeps k w e =
      go w e (elim k as (λ z. is_number m ≡ true) [ inl g ↦ ap is_number g.2 | inr g ↦ ap is_number g ])
    where
      go : (w : Option WrittenType) → m ≡ any_of w → is_number m ≡ true
          → unit_fits (measure_in target) (unit_of b) ≡ keeps_unit (domain_type w target b) b
      go none e h = never (rw e at h)
      go (some (G.text k none)) e h = never (rw e at h)
      go (some (G.text k (some y))) e h = never (rw e at h)
      go (some (G.numeric q r)) e h = refl
      go (some (G.enum g)) e h = never (rw e at h)
      go (some (G.named r)) e h = never (rw e at h)
