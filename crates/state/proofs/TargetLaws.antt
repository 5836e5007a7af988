-- 10 and 11 of the reference in a type, and rules that are judged in two lists.
use mathlib.Core.Path.{◌≡◌, refl, sym, ap, ◌∙◌}
use mathlib.Core.Logic.{⊎_elim}
use mathlib.Core.Bool.{Bool, true, false, cond, not, ◌&&◌}
use mathlib.Core.Option.{Option, none, some}
use mathlib.Core.List.{List, [], ◌∷◌}
use Prim.Native.Nat.{ℕ, ◌≤◌, ◌<◌}
use native.Mathlib.Omega.{arith}
use lib.Dec.{eqb, ltb}
use types.Run.{OneOf}
use denote.Enum.Declared.{tag_of}
use Rattle.std.specs.Prelude.{⊤, Result, Ok, Err, Option as code·Option, Some, None}
use Rattle.rules.specs.Grammar as G
use Rattle.rules.specs.Grammar.{WrittenType}
use Rattle.rules.specs.Declarations as D
use Rattle.rules.specs.Declarations.{Def, Sort, sort_number, is_found}
use Rattle.rules.specs.Units.{is_given}
use Rattle.rules.specs.Judge.{Rule, rule, first_place, place_of, or_no_def, reference_in, is_naming, may_extend}
use Rattle.rules.specs.Judge.{may_type}
use Rattle.rules.specs.Judge.{may_stand_in}
use Rattle.rules.specs.Judge.{extends_rules}
use Rattle.rules.specs.All.{AnyIs}
use Rattle.ground.specs.declared.Reference.{Reference}
use Rattle.ground.specs.declared.Ruling.{Ruling}
use Rattle.ground.specs.Rulings.{ruling_of}
use Rattle.names.specs.Index.{entry, row, Says, Known, definition_width}
use Rattle.names.proofs.BaseLaws.{entry-there}
use Rattle.parts.specs.declared.types.Meant.{Meant}
use Rattle.parts.specs.declared.types.Meant.TheVariants.{Named}
use Rattle.parts.specs.contracts.types.Meant.{the_type as Meant·the-type}
use Rattle.parts.specs.Forms.{reference_of, optional_of, any_of}
use Rattle.wellformed.specs.Fairness.{FairReference, FairType}
use Rattle.state.specs.Targets.{Ruled, target_rules, among_rules, earlier_of}
use Rattle.state.proofs.SharedLaws.{nothing_is, given_is}

-- ---- the reference in a type that is fair
pub reference-fair : (t : List ℕ) (w : Option WrittenType) → AnyIs (FairType t) w
    → AnyIs (FairReference t) (reference_in w)
reference-fair t none f = tt
reference-fair t (some (G.text m n)) f = tt
reference-fair t (some (G.numeric q r)) f = f.1
reference-fair t (some (G.enum e)) f = tt
reference-fair t (some (G.named r)) f = f

-- ---- what it may lead to
may-domain : (k : ℕ) (d : Sort) → k ≡ sort_number d → k ≡ 3 → true ≡ may_type d
may-domain k D.topic e h = absurd (omega arith)
may-domain k D.class e h = absurd (omega arith)
may-domain k D.struct e h = refl
may-domain k D.domain e h = refl
may-domain k D.unit e h = absurd (omega arith)

-- a definition is named
naming-is : (m : Meant) → m ≡ Named → (w : Option WrittenType) → m ≡ any_of w → is_naming w ≡ true
naming-is m e none h = let z : ◌≡◌ {A = ℕ} 0 1 = cc in absurd (omega arith)
naming-is m e (some (G.text k none)) h = let z : ◌≡◌ {A = ℕ} 0 1 = cc in absurd (omega arith)
naming-is m e (some (G.text k (some y))) h = let z : ◌≡◌ {A = ℕ} 0 1 = cc in absurd (omega arith)
naming-is m e (some (G.numeric none r)) h = let z : ◌≡◌ {A = ℕ} 0 1 = cc in absurd (omega arith)
naming-is m e (some (G.numeric (some q) r)) h = let z : ◌≡◌ {A = ℕ} 0 1 = cc in absurd (omega arith)
naming-is m e (some (G.enum x)) h = let z : ◌≡◌ {A = ℕ} 0 1 = cc in absurd (omega arith)
naming-is m e (some (G.named b)) h = refl

-- another thing is written
tags : (k : ℕ) → OneOf (0 ∷ 1 ∷ 2 ∷ 3 ∷ 4 ∷ 5 ∷ []) k → k ≤ 5
tags k o = ⊎_elim (λ e. omega arith) (λ o. ⊎_elim (λ e. omega arith) (λ o. ⊎_elim (λ e. omega arith)
    (λ o. ⊎_elim (λ e. omega arith) (λ o. ⊎_elim (λ e. omega arith) (λ e. omega arith) o) o) o) o) o

naming-not : (m : Meant) → OneOf (0 ∷ 1 ∷ 2 ∷ 3 ∷ 4 ∷ 5 ∷ []) (tag_of Meant·the-type m) → (w : Option WrittenType)
    → m ≡ any_of w → is_naming w ≡ false
naming-not m o none h = refl
naming-not m o (some (G.text k n)) h = refl
naming-not m o (some (G.numeric q r)) h = refl
naming-not m o (some (G.enum x)) h = refl
naming-not m o (some (G.named b)) h =
    let t : tag_of Meant·the-type m ≡ 6 = ap (tag_of Meant·the-type) h in
    let l = tags (tag_of Meant·the-type m) o in
    absurd (omega arith)

module _ (m : Meant) (w : Option WrittenType) (h : m ≡ any_of w) (k : ℕ) (d : Sort) (e : k ≡ sort_number d) where
  pub stands-domain : m ≡ Named → k ≡ 3 → true ≡ may_stand_in w d
  stands-domain q z = rw (naming-is m q w h) (may-domain k d e z)

  pub stands_unit : OneOf (0 ∷ 1 ∷ 2 ∷ 3 ∷ 4 ∷ 5 ∷ []) (tag_of Meant·the-type m) → eqb k 4 ≡ may_stand_in w d
  stands_unit o = rw (naming-not m o w h) (go d e)
    where
      go : (d : Sort) → k ≡ sort_number d → eqb k 4 ≡ eqb 4 (sort_number d)
      go D.topic e = rw e
      go D.class e = rw e
      go D.struct e = rw e
      go D.domain e = rw e
      go D.unit e = rw e

-- ---- 10 and 11
module _ (ks : List Def) (p : ℕ) (w : Option WrittenType) (e : code·Option Reference)
    (h : e ≡ optional_of (reference_in w)) where
  module _ (r : Reference) (q : e ≡ Some r) (f : ℕ) (ef : (b : G.Reference) → r ≡ reference_of b → f ≡ first_place b)
    where
      module _ (t x : List ℕ) (count : ℕ) (k : Known t ks x count) (v : p ≤ count) (z : ¬ (p ≡ 0)) (s : ℕ)
          (es : (d : Def) → Says t d (row definition_width x p) → s ≡ sort_number d.sort)
          (b : Bool) (eb : (d : Sort) → s ≡ sort_number d → b ≡ may_stand_in w d) where
        it : (d : Def) × (entry ks p ≡ some d) × (b ≡ may_stand_in w d.sort)
        it =
            let a = k.all in
            let (d, q) = entry-there ks p (omega arith) (omega arith) in
            (d, q, eb d.sort (es d (k.says p d q)))

        pub target_fits : b ≡ true → Ok tt ≡ ruling_of (target_rules w (entry ks p))
        target_fits y =
            let (d, i, g) = it in
            let (a, u, j) = given_is e r q (reference_in w) h in
            let l : may_stand_in w d.sort ≡ true = sym g ∙ y in
            rw (u, i, l)

        pub target-wrong : b ≡ false → Err (record { number = 11; place = f }) ≡ ruling_of (target_rules w (entry ks p))
        target-wrong y =
            let (d, i, g) = it in
            let (a, u, j) = given_is e r q (reference_in w) h in
            let l : may_stand_in w d.sort ≡ false = sym g ∙ y in
            rw (u, i, l, ef a j)

-- ---- rules that are judged in two lists
-- the first that is broken of rules at p and rules at q
pub earlier-among : (c : Sort) (b : Option G.Reference) (o : Option Def) (w : Option WrittenType) (g : Option Def)
    → earlier_of (ruling_of (extends_rules c b o)) (ruling_of (target_rules w g)) ≡ ruling_of (among_rules c b o w g)
unfolding extends_rules
earlier-among c b o w g =
    go (place_of b) (place_of (reference_in w)) (is_given b && not (is_found o))
    (is_given (reference_in w) && not (is_found g))
    (is_found o && not (may_extend c (or_no_def o).sort)) (is_found g && not (may_stand_in w (or_no_def g).sort))
    (or_no_def o).final
  where
    go : (p q : ℕ) (x y u v z : Bool)
        → earlier_of (ruling_of (rule 10 p x ∷ rule 11 p u ∷ rule 12 p z ∷ []))
        (ruling_of (rule 10 q y ∷ rule 11 q v ∷ []))
        ≡ ruling_of (rule 10 p x ∷ rule 10 q y ∷ rule 11 p u ∷ rule 11 q v ∷ rule 12 p z ∷ [])
    go p q true true u v z = refl
    go p q true false u true z = refl
    go p q true false u false z = refl
    go p q false true true v z = refl
    go p q false true false v true = refl
    go p q false true false v false = refl
    go p q false false true true z = refl
    go p q false false true false z = refl
    go p q false false false true true = refl
    go p q false false false true false = refl
    go p q false false false false true = refl
    go p q false false false false false = refl

-- the value is that of the first list, where none of both is broken
pub earlier-ruled : {A : Type 0} (r : Result A Ruling) (q : Result ⊤ Ruling) (l m n : List Rule) (P : A → Type 0)
    → Ruled r l P → q ≡ ruling_of m → earlier_of (ruling_of l) (ruling_of m) ≡ ruling_of n
    → Ruled (earlier_of r q) n P
earlier-ruled (Ok x) (Ok y) l m n P h e g = (sym (rw (h.0, ← e) at g), h.1)
earlier-ruled (Ok x) (Err b) l m n P h e g = sym (rw (h.0, ← e) at g)
earlier-ruled (Err a) (Ok y) l m n P h e g = sym (rw (h, ← e) at g)
earlier-ruled {A} (Err a) (Err b) l m n P h e g = go (ltb b.number a.number) (rw (h, ← e) at g)
  where
    go : (v : Bool) → cond v (Err b) (Err a) ≡ ruling_of n
        → Ruled {A = A} (cond v (Err b) (Err a)) n P
    go true f = sym f
    go false f = sym f

-- none is broken in either
pub earlier-off : {A : Type 0} (a : Result A Ruling) (b : Result ⊤ Ruling) (x : A) → earlier_of a b ≡ Ok x
    → (a ≡ Ok x) × (b ≡ Ok tt)
earlier-off (Ok x) (Ok y) z e = (e, refl)
earlier-off (Ok x) (Err b) z e = absurd (cc)
earlier-off (Err a) (Ok y) z e = absurd (cc)
earlier-off {A} (Err a) (Err b) z e = go (ltb b.number a.number) e
  where
    go : (v : Bool) → ◌≡◌ {A = Result A Ruling} (cond v (Err b) (Err a)) (Ok z)
        → (◌≡◌ {A = Result A Ruling} (Err a) (Ok z)) × (◌≡◌ {A = Result ⊤ Ruling} (Err b) (Ok tt))
    go true f = absurd (cc)
    go false f = absurd (cc)
