-- Names that are taken, references, EXTENDS, properties.
use mathlib.Core.Path.{◌≡◌, refl, sym, ap, ◌∙◌, subst}
use mathlib.Core.Bool.{Bool, true, false, ◌&&◌, ◌||◌}
use mathlib.Core.Option.{Option, none, some}
use mathlib.Core.List.{List}
use Prim.Native.Nat.{ℕ, zero, suc, ◌≤◌}
use native.Mathlib.Omega.{arith}
use lib.ListN.{length}
use lib.Dec.{ltb, eqb}
use borrow.Author.Tests.{lt-ltb, ne_eqb}
use Rattle.std.specs.Prelude.{⊤, Result, Ok, Err, Option as code·Option, Some, None}
use Rattle.rules.specs.Names as R
use Rattle.rules.specs.Grammar as G
use Rattle.rules.specs.Declarations as D
use Rattle.rules.specs.Declarations.{Def, Sort, sort_number, is_found, State, resolve}
use Rattle.rules.specs.Book.{no_base, base_number}
use Rattle.rules.specs.Judge.{has_twice, has_abstract, has_final, first_place, bases_of, resolved, may_extend}
use Rattle.rules.specs.Judge.{extends_rules}
use Rattle.ground.specs.declared.Reference.{Reference}
use Rattle.ground.specs.declared.Reference.TheVariants.{Bare, InModel, InTopic}
use Rattle.enumerations.specs.Standing.{InText}
use Rattle.names.specs.Index.{entry, row, Says, Known, definition_width}
use Rattle.names.specs.References.{name_of, AllInside}
use Rattle.names.specs.References as N
use Rattle.names.proofs.IndexLaws.{there}
use Rattle.names.proofs.BaseLaws.{entry-there}
use Rattle.readers.specs.Reads.{name_cut}
use Rattle.parts.specs.declared.Properties.{Properties}
use Rattle.parts.specs.Forms.{flags_of, reference_of, optional_of}
use Rattle.rules.specs.All.{AnyIs}
use Rattle.wellformed.specs.Fairness.{FairReference}
use Rattle.ground.specs.Rulings.{ruling_of}
use Rattle.ground.specs.declared.Ruling.{Ruling}
use Rattle.state.proofs.JudgeLaws.{calls-cut}

-- ---- positions
pub entry_found : {A : Type 0} (l : List A) (p : ℕ) → p ≤ length l → ltb 0 p ≡ is_found (entry l p)
entry_found l zero h = refl
entry_found l (suc i) h = let (a, e) = there l i (omega arith) in rw (e, lt-ltb 0 (suc i) (omega arith))

-- ---- references
name-cut : (t : List ℕ) (n : R.Name) → InText t n → name_of t (name_cut n) ≡ n
name-cut t n h = (calls-cut t n h).named

pub reference-cut : (t : List ℕ) (b : G.Reference) (r : Reference) → r ≡ reference_of b
    → FairReference t b → N.reference_of t r ≡ b
reference-cut t (G.bare n) r e f = rw e (ap (λ (a : R.Name). G.bare a) (name-cut t n f))
reference-cut t (G.in_model m n) r e f = let u = name-cut t m f.0 in let v = name-cut t n f.1 in rw e (rw (u, v))
reference-cut t (G.in_topic m p n) r e f =
    let u = name-cut t m f.0 in
    let v = name-cut t p f.1 in
    let w = name-cut t n f.2 in rw e (rw (u, v, w))

pub reference-inside : (t : List ℕ) (b : G.Reference) (r : Reference) → r ≡ reference_of b
    → FairReference t b → AllInside t r
reference-inside t (G.bare n) r e f = rw e f.fits
reference-inside t (G.in_model m n) r e f = rw e (f.0.fits, f.1.fits)
reference-inside t (G.in_topic m p n) r e f = rw e (f.0.fits, f.1.fits, f.2.fits)

-- ---- 10 to 12
module _ (c : Sort) (b : G.Reference) (d : Def) (place : ℕ) (q : place ≡ first_place b) where
  of-sort : may_extend c d.sort ≡ false
      → Err (record { number = 11; place = place }) ≡ ruling_of (extends_rules c (some b) (some d))
  unfolding extends_rules
  of-sort u = rw (q, u)

  of-final : may_extend c d.sort ≡ true → d.final ≡ true
      → Err (record { number = 12; place = place }) ≡ ruling_of (extends_rules c (some b) (some d))
  unfolding extends_rules
  of-final u f = rw (q, u, f)

  of-fine : may_extend c d.sort ≡ true → d.final ≡ false
      → Ok tt ≡ ruling_of (extends_rules c (some b) (some d))
  unfolding extends_rules
  of-fine u f = rw (u, f)

module _ (t : List ℕ) (ks : List Def) (x : List ℕ) (count : ℕ) (k : Known t ks x count) (c : Sort) (b : G.Reference)
    (p place : ℕ) (w : p ≤ count) (q : place ≡ first_place b) where
  pub ruling-none : p ≡ 0
      → Err (record { number = 10; place = place }) ≡ ruling_of (extends_rules c (some b) (entry ks p))
  unfolding extends_rules
  ruling-none z = rw (z, q)

  module _ (z : ¬ (p ≡ 0)) (f : ℕ) (ef : (d : Def) → Says t d (row definition_width x p) → f ≡ sort_number d.sort)
      (m : Bool) (em : (o : Sort) → f ≡ sort_number o → m ≡ may_extend c o) where
    behind : (d : Def) × (entry ks p ≡ some d)
    behind = let a = k.all in entry-there ks p (omega arith) (omega arith)

    at : (r : Result ⊤ Ruling) → ((d : Def) → Says t d (row definition_width x p) → m ≡ may_extend c d.sort
        → r ≡ ruling_of (extends_rules c (some b) (some d))) → r ≡ ruling_of (extends_rules c (some b) (entry ks p))
    at r h =
        let (d, e) = behind in
        let y = k.says p d e in
        h d y (em d.sort (ef d y)) ∙ ap (λ (o : Option Def). ruling_of (extends_rules c (some b) o)) (sym e)

    pub ruling-sort : m ≡ false
        → Err (record { number = 11; place = place }) ≡ ruling_of (extends_rules c (some b) (entry ks p))
    ruling-sort u = at (Err (record { number = 11; place = place })) (λ d y g. of-sort c b d place q (sym g ∙ u))

    module _ (u : m ≡ true) (v : Bool) (ev : (d : Def) → Says t d (row definition_width x p) → v ≡ d.final) where
      pub ruling-final : v ≡ true → Err (record { number = 12; place = place })
          ≡ ruling_of (extends_rules c (some b) (entry ks p))
      ruling-final h = at (Err (record { number = 12; place = place }))
          (λ d y g. of-final c b d place q (sym g ∙ u) (sym (ev d y) ∙ h))

      pub ruling-fine : v ≡ false → Ok tt ≡ ruling_of (extends_rules c (some b) (entry ks p))
      ruling-fine h = at (Ok tt)
          (λ d y g. of-fine c b d place q (sym g ∙ u) (sym (ev d y) ∙ h))

-- ---- a reference, if there is one
pub nothing_is : (e : code·Option Reference) → e ≡ None → (b : Option G.Reference) → e ≡ optional_of b → b ≡ none
nothing_is e p none q = refl
nothing_is e p (some b) q = let z : ◌≡◌ {A = ℕ} 0 1 = cc in absurd (omega arith)

pub given_is : (e : code·Option Reference) (r : Reference) → e ≡ Some r → (b : Option G.Reference) → e ≡ optional_of b
    → (a : G.Reference) × (b ≡ some a) × (r ≡ reference_of a)
given_is e r p none q = let z : ◌≡◌ {A = ℕ} 0 1 = cc in absurd (omega arith)
given_is e r p (some b) q = (b, refl, cc)

pub given_inside : (t : List ℕ) (b : Option G.Reference) (e : code·Option Reference) (r : Reference) → e ≡ Some r
    → e ≡ optional_of b → AnyIs (FairReference t) b → AllInside t r
given_inside t b e r p q f =
    let (a, u, i) = given_is e r p b q in
    reference-inside t a r i (subst (AnyIs (FairReference t)) u f)

-- what it leads to
module _ (s : State) (b : Option G.Reference) (e : code·Option Reference) (q : e ≡ optional_of b) where
  pub leads-nowhere : e ≡ None → none ≡ resolved s b
  leads-nowhere p = rw (nothing_is e p b q)

  pub leads-to : (t : List ℕ) (r : Reference) → e ≡ Some r → AnyIs (FairReference t) b → (o : Option Def)
      → ((a : G.Reference) → r ≡ reference_of a → FairReference t a → o ≡ resolve s a) → o ≡ resolved s b
  leads-to t r p f o ho =
      let (a, u, i) = given_is e r p b q in
      rw u (ho a i (subst (AnyIs (FairReference t)) u f))

  -- ---- EXTENDS
  module _ (c : Sort) where
    pub extends-nothing : e ≡ None
        → Ok tt ≡ ruling_of (extends_rules c b (resolved s b))
    unfolding extends_rules
    extends-nothing p = rw (nothing_is e p b q)

    pub extends-base : (r : Reference) → e ≡ Some r → (o : Option Def) → o ≡ resolved s b
        → (place : ℕ) → ((a : G.Reference) → r ≡ reference_of a → place ≡ first_place a) → (u : Result ⊤ Ruling)
        → ((a : G.Reference) → place ≡ first_place a → u ≡ ruling_of (extends_rules c (some a) o))
        → u ≡ ruling_of (extends_rules c b (resolved s b))
    extends-base r p o ho place hp u hu =
        let (a, v, i) = given_is e r p b q in
        hu a (hp a i) ∙ ap (λ (x : Option Def). ruling_of (extends_rules c (some a) x)) ho
        ∙ ap (λ (x : Option G.Reference). ruling_of (extends_rules c x (resolved s b))) (sym v)

-- ---- the base's record number
module _ (t : List ℕ) (ks : List Def) (x : List ℕ) (count : ℕ) (k : Known t ks x count) (p : ℕ) (w : p ≤ count) where
  pub number-some : ¬ (p ≡ 0) → (m : ℕ) → ((d : Def) → Says t d (row definition_width x p) → m ≡ d.number)
      → m ≡ base_number (bases_of (entry ks p))
  number-some z m em =
      let a = k.all in
      let (d, e) = entry-there ks p (omega arith) (omega arith) in rw e (em d (k.says p d e))
