-- What is found in a fair state is fair, its units are declared, and the empty state is fair; a type that gives values
-- fits itself.
use mathlib.Core.Path.{◌≡◌, refl, subst}
use mathlib.Core.Bool.{Bool, true, false, cond, not, ◌&&◌}
use mathlib.Core.Option.{Option, none, some}
use mathlib.Core.List.{List, [], ◌∷◌}
use Prim.Native.Nat.{ℕ, ◌<◌}
use native.Mathlib.Omega.{arith}
use lib.ListN.{length}
use borrow.Author.Tests.{le-leb}
use Rattle.rules.specs.Texts.{length_fits}
use Rattle.rules.specs.Enumerations.{Enum, end, merge, enum_fits}
use Rattle.rules.specs.Types.{Measure, Ty, text, numeric, structure, enum, unit_of, fits}
use Rattle.rules.specs.Declarations.{Link, Use, inline, of_domain, of_structure, ty_of, Attribute, Def, attributes_of}
use Rattle.rules.specs.Declarations.{State}
use Rattle.rules.specs.Declarations.{known}
use Rattle.rules.specs.Book.{records}
use Rattle.rules.specs.Check.{nothing}
use Rattle.rules.proofs.NumberLaws.{fits-itself}
use Rattle.rules.proofs.MergeLaws.{merge-nothing, merged-fits, once-distinct}
use Rattle.names.specs.Index.{entry}
use Rattle.members.specs.Held.{owns_of, open_own, attributes_in}
use Rattle.rules.specs.All.{All, AnyIs}
use Rattle.wellformed.specs.Fairness.{Fair, FairAttribute, FairDef, UnitIn, NamesDeclared, NamesAll, FairState}
use Rattle.rules.proofs.AllLaws.{all_map, all_append, all_left, any-map}
use Rattle.wellformed.proofs.ListLaws.{all-member, all-entry}

pub fair-nothing : (t : List ℕ) → FairState t nothing
fair-nothing t = record {
  defs = tt;
  open_class = tt;
  names = tt;
  open_names = tt;
  decls = tt;
  topic = tt;
  rising = tt;
  open_behind = tt;
}

-- ---- attributes
owns-all : (P : Attribute → Type 0) (l : List Def) → All (λ (d : Def). All P (attributes_of d)) l → All P (owns_of l)
owns-all P [] h = tt
owns-all P (d ∷ l) h =
    all_append P d.own (owns_of l) (all_left P d.own d.inherited h.0) (owns-all P l h.1)

open-all : (P : Attribute → Type 0) (o : Option Def) → AnyIs (λ (d : Def). All P (attributes_of d)) o
    → All P (open_own o)
open-all P none h = tt
open-all P (some c) h = all_left P c.own c.inherited h

attributes-all : (P : Attribute → Type 0) (s : State) → All (λ (d : Def). All P (attributes_of d)) (known s.decls)
    → AnyIs (λ (d : Def). All P (attributes_of d)) s.open_class → All P (attributes_in s)
attributes-all P s h k =
    all_append P (owns_of (known s.decls)) (open_own s.open_class) (owns-all P (known s.decls) h)
    (open-all P s.open_class k)

pub attributes-fair : (t : List ℕ) (s : State) → FairState t s
    → All (FairAttribute t (length (records s))) (attributes_in s)
attributes-fair t s h =
    attributes-all (FairAttribute t (length (records s))) s
    (all_map (λ (d : Def) f. f.attributes) (known s.decls) h.defs)
    (any-map (λ (c : Def) f. f.fair.attributes) s.open_class h.open_class)

pub attribute-fair : (t : List ℕ) (s : State) → FairState t s → (q : ℕ) (a : Attribute)
    → entry (attributes_in s) q ≡ some a → FairAttribute t (length (records s)) a
attribute-fair t s h q a e =
    all-entry (FairAttribute t (length (records s))) (attributes_in s) q a (attributes-fair t s h) e

-- ---- units: what a type has is declared, of an attribute too
use-unit : (K : List Def) → All (NamesAll K) K → (u : Use) (m : Bool) → NamesDeclared K u m → UnitIn K (ty_of u)
use-unit K h (inline x) m k = k
use-unit K h (of_domain l bs) m (d, k, s, a) =
    subst (λ (x : Link). UnitIn K x.type) k.link (all-member (NamesAll K) K d h k.declared).0
use-unit K h (of_structure l bs) m k = tt

pub attribute-unit : (t : List ℕ) (s : State) → FairState t s → (q : ℕ) (a : Attribute)
    → entry (attributes_in s) q ≡ some a → UnitIn (known s.decls) (ty_of a.use_of)
attribute-unit t s h q a e =
    let K : List Def = known s.decls in
    let P : Attribute → Type 0 = λ b. NamesDeclared K b.use_of b.mandatory in
    let names = attributes-all P s (all_map (λ (d : Def) f. f.1) K h.names)
    (any-map (λ (c : Def) f. f.1) s.open_class h.open_names) in
    use-unit K h.names a.use_of a.mandatory (all-entry P (attributes_in s) q a names e)

-- its record stands before
pub unit-before : (t : List ℕ) (n : ℕ) (K : List Def) → All (FairDef t n) K → (x : Ty) → UnitIn K x
    → AnyIs (λ (u : Measure). u.number < n) (unit_of x)
unit-before t n K h x k =
    any-map (λ u (d, i, e). let b = (all-member (FairDef t n) K d h i).before in rw (← e) b) (unit_of x) k

-- ---- a type fits itself
length-self : (n : Option ℕ) → length_fits n n ≡ true
length-self none = refl
length-self (some n) = le-leb n n (omega arith)

text-self : (m : Bool) (n : Option ℕ) → (cond m m (not m) && length_fits n n) ≡ true
text-self true n = length-self n
text-self false n = length-self n

enum-self : (e : Enum) → enum_fits (merge e (end false)) e ≡ true → enum_fits e e ≡ true
enum-self e h = rw (merge-nothing e e) at h

pub fits-self : (t : List ℕ) (x : Ty) → Fair t x → fits x x ≡ true
fits-self t (text m n) h = text-self m n
fits-self t (numeric none u) h = refl
fits-self t (numeric (some r) u) h = fits-itself r h.3
fits-self t (enum e) h = enum-self e (merged-fits e (end false) (once-distinct e h.once) refl)
fits-self t structure h = absurd h
