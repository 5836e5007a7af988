-- 14 to 17 and 22 in stages: what is written but for an enumeration, then what the merge says.
use mathlib.Core.Path.{◌≡◌, refl, sym, ap, ◌∙◌}
use mathlib.Core.Bool.{Bool, true, false, not, ◌&&◌}
use mathlib.Core.Option.{Option, none, some}
use mathlib.Core.List.{List, [], ◌∷◌, ◌++◌}
use Prim.Native.Nat.{ℕ}
use lib.Dec.{eqb}
use borrow.Author.Tests.{eqb-true}
use Rattle.std.specs.Prelude.{⊤, Result, Ok, Err}
use Rattle.std.specs.Result.{result_and}
use Rattle.rules.specs.Grammar as G
use Rattle.rules.specs.Grammar.{WrittenType}
use Rattle.rules.specs.Types.{Ty, text, numeric, structure, enum, kind_of, fits, keeps_unit}
use Rattle.rules.specs.Declarations.{Def}
use Rattle.rules.specs.Book.{Record}
use Rattle.rules.specs.Judge.{Rule, rule, domain_type, is_naming, type_rules}
use Rattle.rules.proofs.Tests.{not-fails, never}
use Rattle.enumerations.specs.declared.Size.{Size}
use Rattle.merging.specs.declared.Misfit.{Misfit}
use Rattle.merging.specs.Merging.{LaidAs}
use Rattle.ground.specs.declared.Ruling.{Ruling}
use Rattle.ground.specs.Rulings.{ruling_of}
use Rattle.fitting.specs.Values.{FairOrNone}
use Rattle.types.specs.Writing.{plain_fits, merge_fits}
use Rattle.ground.proofs.RulingLaws.{ruling-append, ruling-first, ruling-rest}
use Rattle.types.proofs.TypeLaws.{fits-split}
use Rattle.written.specs.Written.{written_rules, plain_rules, LaidWhen}

-- ---- the last three rules: of another kind, it fits, the unit does
last : ℕ → Bool → Bool → Bool → Bool → List Rule
last p based k f u = rule 16 p (based && k) ∷ rule 17 p (based && not f) ∷ rule 22 p (based && not u) ∷ []

module _ (based : Bool) (p : ℕ) (w : Option WrittenType) (x : Option Def) (b : Ty) where
  pub plain-early : (q : Ruling) → Err q ≡ ruling_of (type_rules based p w)
      → Err q ≡ ruling_of (plain_rules based p w x b)
  plain-early q e = sym (ruling-first (type_rules based p w) _ q (sym e))

  module _ (y : ⊤) (e : Ok y ≡ ruling_of (type_rules based p w)) where
    late : ruling_of (plain_rules based p w x b)
        ≡ ruling_of (last p based (not (eqb (kind_of (domain_type w x b)) (kind_of b))) (plain_fits w b)
        (keeps_unit (domain_type w x b) b))
    unfolding last
    late = ruling-rest (type_rules based p w) _ y (sym e)

    pub plain-unbased : based ≡ false → Ok tt ≡ ruling_of (plain_rules based p w x b)
    unfolding last
    plain-unbased n = sym (late ∙ rw n)

    module _ (n : based ≡ true) (k : Bool) (i : k ≡ not (eqb (kind_of (domain_type w x b)) (kind_of b))) where
      pub plain-16 : k ≡ true → Err (record { number = 16; place = p }) ≡ ruling_of (plain_rules based p w x b)
      unfolding last
      plain-16 j = sym (late ∙ rw (n, ← i, j))

      module _ (j : k ≡ false) (f : Bool) (g : f ≡ plain_fits w b) where
        pub plain-17 : f ≡ false → Err (record { number = 17; place = p }) ≡ ruling_of (plain_rules based p w x b)
        unfolding last
        plain-17 h = sym (late ∙ rw (n, ← i, j, ← g, h))

        pub plain-22 : f ≡ true → (u : Bool) → u ≡ keeps_unit (domain_type w x b) b → u ≡ false
            → Err (record { number = 22; place = p }) ≡ ruling_of (plain_rules based p w x b)
        unfolding last
        plain-22 h u l m = sym (late ∙ rw (n, ← i, j, ← g, h, ← l, m))

        pub plain-fine : f ≡ true → (u : Bool) → u ≡ keeps_unit (domain_type w x b) b → u ≡ true
            → Ok tt ≡ ruling_of (plain_rules based p w x b)
        unfolding last
        plain-fine h u l m = sym (late ∙ rw (n, ← i, j, ← g, h, ← l, m))

pub same_kind : (k : Bool) (x y : ℕ) → k ≡ not (eqb x y) → k ≡ false → x ≡ y
same_kind k x y i j = eqb-true x y (not-fails (sym i ∙ j))

-- ---- 17 in its two parts; where the second is broken 22 is not
by_parts : (l : List Rule) (p : ℕ) (based k f g h u : Bool) → (based ≡ true → k ≡ false → f ≡ (g && h))
    → (h ≡ false → u ≡ true)
    → ruling_of (l ++ last p based k f u)
    ≡ result_and (ruling_of (l ++ last p based k g u)) (ruling_of (rule 17 p (based && not h) ∷ []))
unfolding last
by_parts l p based k f g h u d v =
    rw (ruling-append l (last p based k f u), ruling-append l (last p based k g u))
    (go (ruling_of l) based k g h u d v)
  where
    go : (i : Result ⊤ Ruling) (based k g h u : Bool)
        → (based ≡ true → k ≡ false → f ≡ (g && h)) → (h ≡ false → u ≡ true)
        → result_and i (ruling_of (last p based k f u))
        ≡ result_and (result_and i (ruling_of (last p based k g u))) (ruling_of (rule 17 p (based && not h) ∷ []))
    go (Err q) based k g h u d v = refl
    go (Ok y) false k g h u d v = refl
    go (Ok y) true true g h u d v = refl
    go (Ok y) true false false h u d v = rw (d refl refl)
    go (Ok y) true false true true true d v = rw (d refl refl)
    go (Ok y) true false true true false d v = rw (d refl refl)
    go (Ok y) true false true false true d v = rw (d refl refl)
    go (Ok y) true false true false false d v = never (v refl)

-- a written enumeration that does not fit is one over another, without units
misfit-units : (w : Option WrittenType) (x : Option Def) (b : Ty) → merge_fits w b ≡ false
    → keeps_unit (domain_type w x b) b ≡ true
misfit-units none x b h = never (sym h)
misfit-units (some (G.text m n)) x b h = never (sym h)
misfit-units (some (G.numeric q r)) x b h = never (sym h)
misfit-units (some (G.enum e)) x (text m n) h = never (sym h)
misfit-units (some (G.enum e)) x (numeric r u) h = never (sym h)
misfit-units (some (G.enum e)) x (enum b) h = refl
misfit-units (some (G.enum e)) x structure h = never (sym h)
misfit-units (some (G.named r)) x b h = never (sym h)

-- where there is no base, nothing is added to one
no-base : (v : Option WrittenType) → merge_fits v structure ≡ true
no-base none = refl
no-base (some (G.text m n)) = refl
no-base (some (G.numeric c d)) = refl
no-base (some (G.enum c)) = refl
no-base (some (G.named c)) = refl

module _ (t : List ℕ) (based : Bool) (p : ℕ) (w : Option WrittenType) (x : Option Def) (b : Ty)
    (fair : FairOrNone t b) (r : is_naming w ≡ false) where
  written-split : ruling_of (written_rules based p w x b)
      ≡ result_and (ruling_of (plain_rules based p w x b)) (ruling_of (rule 17 p (based && not (merge_fits w b)) ∷ []))
  unfolding last
  written-split =
      by_parts (type_rules based p w) p based (not (eqb (kind_of (domain_type w x b)) (kind_of b)))
      (fits (domain_type w x b) b) (plain_fits w b) (merge_fits w b) (keeps_unit (domain_type w x b) b)
      (λ n k. fits-split t w x b fair r (eqb-true (kind_of (domain_type w x b)) (kind_of b) (not-fails k)))
      (misfit-units w x b)

  pub laid-early : (q : Ruling) → Err q ≡ ruling_of (plain_rules based p w x b) → (l : List Record) (i : ℕ)
      (o o₁ : List ℕ) → LaidWhen (ruling_of (written_rules based p w x b)) l i o o₁ (Err q)
  laid-early q e l i o o₁ = let m : ruling_of (written_rules based p w x b) ≡ Err q = rw (← e) at written-split in rw m

  module _ (y : ⊤) (e : Ok y ≡ ruling_of (plain_rules based p w x b)) where
    merged-last : ruling_of (written_rules based p w x b) ≡ ruling_of (rule 17 p (based && not (merge_fits w b)) ∷ [])
    merged-last = rw (← e) at written-split

    -- what the merge says, with 17 for a misfit
    pub laid-late : (based ≡ false → b ≡ structure) → (l : List Record) (i : ℕ) (o o₁ : List ℕ) (a : Result Size Misfit)
        (a' : Result Size Ruling) → LaidAs (merge_fits w b) l i o o₁ a
        → ((n : Size) → a ≡ Ok n → a' ≡ Ok n)
        → ((m : Misfit) → a ≡ Err m → a' ≡ Err (record { number = 17; place = p }))
        → LaidWhen (ruling_of (written_rules based p w x b)) l i o o₁ a'
    laid-late u l i o o₁ a a' h fine bad = rw merged-last (go (merge_fits w b) based refl refl h)
      where
        go : (f g : Bool) → merge_fits w b ≡ f → based ≡ g → LaidAs f l i o o₁ a
            → LaidWhen (ruling_of (rule 17 p (g && not f) ∷ [])) l i o o₁ a'
        go true true m n h = (fine _ h.0, h.1)
        go true false m n h = (fine _ h.0, h.1)
        go false true m n h = bad _ h
        go false false m n h = never (sym m ∙ (ap (merge_fits w) (u n) ∙ no-base w))
