-- Units of numbers: each fits itself; and as a record number stands for one definition, the walk along the bases by
-- number decides whether a unit is another or descends from it.
use mathlib.Core.Path.{◌≡◌, refl, subst}
use mathlib.Core.Bool.{Bool, true, false, ◌&&◌, ◌||◌}
use mathlib.Core.Option.{Option, none, some}
use mathlib.Core.List.{List, [], ◌∷◌}
use Prim.Native.Nat.{ℕ, zero, suc, ◌≤◌, ◌<◌}
use native.Mathlib.Omega.{arith}
use lib.ListN.{get_or}
use lib.Dec.{eqb}
use borrow.Author.Tests.{eqb-true}
use Rattle.rules.specs.All.{In, first, later}
use Rattle.rules.specs.Bytes.{same}
use Rattle.rules.specs.Types.{Ty, line, leads_to, unit_of, keeps_unit}
use Rattle.rules.specs.Declarations.{Def, link_of, numbers_of, measure_of}
use Rattle.rules.specs.Judge.{bases_of, is_among}
use Rattle.rules.proofs.ByteLaws.{same_refl}
use Rattle.rules.proofs.MeasureLaws.{unit-itself}
use Rattle.rules.proofs.AllLaws.{all_in_lem}
use Rattle.names.specs.Index.{entry, row, definition_width, base_column, Chained}
use Rattle.wellformed.specs.Fairness.{Rising}
use Rattle.wellformed.proofs.ListLaws.{all-member, all-entry}

-- ---- a unit fits itself
pub units-self : (x : Ty) → keeps_unit x x ≡ true
units-self x = unit-itself (unit_of x)

-- ---- a record number stands for one definition
one_number : (ks : List Def) → Rising ks → (d e : Def) → In d ks → In e ks → d.number ≡ e.number → d ≡ e
one_number [] h d e i j q = elim i [ ]
one_number (k ∷ ks) h d e first first q = refl
one_number (k ∷ ks) h d e first (later j) q =
    absurd (let b = all-member (λ (f : Def). k.number < f.number) ks e h.0 j in omega arith)
one_number (k ∷ ks) h d e (later i) first q =
    absurd (let b = all-member (λ (f : Def). k.number < f.number) ks d h.0 i in omega arith)
one_number (k ∷ ks) h d e (later i) (later j) q = one_number ks h.1 d e i j q

-- ---- along the bases
module _ (ks : List Def) (x : List ℕ) (c : Chained ks x) (r : Rising ks) (e : Def) (i : In e ks) where
  -- the unit itself, or what its bases say
  step : (d : Def) → In d ks → is_among e.number d.bases ≡ leads_to (numbers_of d.bases) (line (measure_of e))
      → is_among e.number (link_of d ∷ d.bases) ≡ leads_to (line (measure_of d)) (line (measure_of e))
  step d j h = go (eqb d.number e.number) refl
    where
      go : (b : Bool) → eqb d.number e.number ≡ b
          → (b || is_among e.number d.bases)
          ≡ ((b && same (numbers_of d.bases) (numbers_of e.bases))
          || leads_to (numbers_of d.bases) (line (measure_of e)))
      go true q =
          let o = one_number ks r d e j i (eqb-true d.number e.number q) in
          rw (o, same_refl (numbers_of e.bases))
      go false q = h

  abbrev Agrees : Option Def → Type 0
  Agrees o = is_among e.number (bases_of o) ≡ leads_to (numbers_of (bases_of o)) (line (measure_of e))

  walk : (f p : ℕ) → p ≤ f → Agrees (entry ks p)
  walk zero zero w = refl
  walk zero (suc p) w = absurd (omega arith)
  walk (suc f) p w = go (entry ks p) refl (walk f)
    where
      go : (o : Option Def) → entry ks p ≡ o → ((b : ℕ) → b ≤ f → Agrees (entry ks b)) → Agrees o
      go none q again = refl
      go (some d) q again =
          let g = c p d q in
          let b = g.before in
          let v = again (get_or (row definition_width x p) base_column 0) (omega arith) in
          step d (all-entry (λ (a : Def). In a ks) ks p d (all_in_lem ks) q) (rw (← g.bases) v)

  pub among-leads : (p : ℕ) (d : Def) → entry ks p ≡ some d
      → is_among e.number (link_of d ∷ d.bases) ≡ leads_to (line (measure_of d)) (line (measure_of e))
  among-leads p d q = subst Agrees q (walk p p (omega arith))
