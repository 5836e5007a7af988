-- The type that a fair unit means, over a fair base, is fair.
use mathlib.Core.Path.{◌≡◌, refl, sym}
use mathlib.Core.Bool.{Bool, true, false, cond}
use mathlib.Core.Option.{Option, none, some}
use mathlib.Core.List.{List, []}
use Prim.Native.Nat.{ℕ, ◌<◌}
use native.Mathlib.Omega.{arith}
use lib.Dec.{eqb}
use borrow.Author.Tests.{eqb-false}
use Rattle.rules.proofs.RuleLaws.{doubled-none}
use Rattle.rules.specs.Numbers.{digits}
use Rattle.rules.specs.Enumerations.{Enum, twice}
use Rattle.rules.specs.Grammar as G
use Rattle.rules.specs.Grammar.{WrittenType}
use Rattle.rules.specs.Types.{Ty, text, numeric, structure, enum}
use Rattle.rules.specs.Declarations as D
use Rattle.rules.specs.Declarations.{Use, inline, of_domain, of_structure, ty_of, Sort, domain, is_sort, Def, link_of}
use Rattle.rules.specs.Declarations.{is_found}
use Rattle.rules.specs.Judge.{or_no_def, merged_into, meant, naming, attribute_use, reference_in, is_naming}
use Rattle.rules.specs.Judge.{element_rule}
use Rattle.rules.specs.Judge.{type_rules}
use Rattle.rules.proofs.Tests.{never}
use Rattle.rules.proofs.NumberLaws.{in_order_lem}
use Rattle.enumerations.specs.Standing.{Kept}
use Rattle.enumerations.proofs.KeptLaws.{merged-kept}
use Rattle.rules.specs.All.{All, AnyIs, Unbroken}
use Rattle.wellformed.specs.Fairness.{FairType, Fair, FairUse, FairDef}

-- into which an enumeration may be merged
abbrev pub Base : List ℕ → Ty → Type 0
Base t (text m n) = Unit
Base t (numeric r u) = Unit
Base t structure = Unit
Base t (enum e) = Kept t e

pub fair-base : (t : List ℕ) (b : Ty) → Fair t b → Base t b
fair-base t (text m n) h = tt
fair-base t (numeric r u) h = tt
fair-base t structure h = tt
fair-base t (enum e) h = h

pub use-base : (t : List ℕ) (u : Use) → FairUse t u → Base t (ty_of u)
use-base t (inline x) h = fair-base t x h
use-base t (of_domain l bs) h = fair-base t l.type h
use-base t (of_structure l bs) h = tt

merged-fair : (t : List ℕ) (b : Ty) (e : Enum) → Base t b → Kept t e → Fair t (merged_into b e)
merged-fair t (text m n) e h k = k
merged-fair t (numeric r u) e h k = k
merged-fair t structure e h k = k
merged-fair t (enum b) e h k = merged-kept t b e h k

positive : (n : ℕ) → eqb n 0 ≡ false → 0 < n
positive n h = let k = eqb-false n 0 h in omega arith

-- 9 of elements and 14 are kept
pub meant-fair : (t : List ℕ) (based : Bool) (p : ℕ) (x : WrittenType) (target : Option Def) (b : Ty)
    → FairType t x → Base t b → is_naming (some x) ≡ false
    → (element_rule (some x)).broken ≡ false → All Unbroken (type_rules based p (some x)) → Fair t (meant x target b)
meant-fair t based p (G.text m none) g b h k r e q = tt
meant-fair t based p (G.text m (some y)) g b h k r e q = (positive (digits y.bytes 0) q.0, h)
meant-fair t based p (G.numeric none u) g b h k r e q = tt
meant-fair t based p (G.numeric (some y) u) g b h k r e q =
    let f = h.0 in
    (f.0.0, f.0.1, f.1.1, in_order_lem y.first.bytes y.second.bytes q.0)
meant-fair t based p (G.enum x) g b h k r e q =
    merged-fair t b x k (record { named = h.0; deep = h.1; once = doubled-none (twice x []) e })
meant-fair t based p (G.named n) g b h k r e q = never (sym r)

-- ---- what an attribute names
pub sort-domain : (x : Sort) → is_sort domain x ≡ true → x ≡ domain
sort-domain D.topic e = never e
sort-domain D.class e = never e
sort-domain D.struct e = never e
sort-domain D.domain e = refl
sort-domain D.unit e = never e

pub domain-fair : (t : List ℕ) (n : ℕ) (d : Def) → FairDef t n d → is_sort domain d.sort ≡ true → Fair t d.type
domain-fair t n d h e = h.type (sort-domain d.sort e)

naming-fair : (t : List ℕ) (n : ℕ) (o : Option Def) → AnyIs (FairDef t n) o → is_found o ≡ true
    → FairUse t (naming (or_no_def o))
naming-fair t n none h f = never f
naming-fair t n (some d) h f = go (is_sort domain d.sort) refl
  where
    go : (c : Bool) → is_sort domain d.sort ≡ c
        → FairUse t (cond c (of_domain (link_of d) d.bases) (of_structure (link_of d) d.bases))
    go true e = domain-fair t n d h e
    go false e = tt

-- the type that is written in place, or the definition that is named
pub use-fair : (t : List ℕ) (n : ℕ) (target : Option Def) (based : Bool) (p : ℕ) (x : WrittenType) (b : Use)
    → FairType t x → Base t (ty_of b)
    → (element_rule (some x)).broken ≡ false → All Unbroken (type_rules based p (some x)) →
    AnyIs (FairDef t n) target → (is_found (reference_in (some x)) ≡ true → is_found target ≡ true)
    → FairUse t (attribute_use (some x) target b)
use-fair t n g based p (G.text m y) b h k e q f z = meant-fair t based p (G.text m y) g (ty_of b) h k refl e q
use-fair t n g based p (G.numeric y u) b h k e q f z = meant-fair t based p (G.numeric y u) g (ty_of b) h k refl e q
use-fair t n g based p (G.enum x) b h k e q f z = meant-fair t based p (G.enum x) g (ty_of b) h k refl e q
use-fair t n g based p (G.named r) b h k e q f z = naming-fair t n g f (z refl)
