-- What is declared has no element twice: 9 sees to what is written, and merging keeps it.
use mathlib.Core.Path.{◌≡◌, refl, sym, subst}
use mathlib.Core.Bool.{Bool, true, false, cond}
use mathlib.Core.Option.{Option, none, some}
use mathlib.Core.List.{List, [], ◌∷◌, ◌++◌}
use Prim.Native.Nat.{ℕ}
use Rattle.rules.proofs.RuleLaws.{doubled-none}
use Rattle.rules.specs.Names.{Name}
use Rattle.rules.specs.Enumerations.{Enum, twice}
use Rattle.rules.specs.Types.{Ty, text, numeric, structure, enum, fits}
use Rattle.rules.specs.Grammar as G
use Rattle.rules.specs.Grammar.{Reference, WrittenType, Written}
use Rattle.rules.specs.Units as U
use Rattle.rules.specs.Declarations.{Use, of_domain, of_structure, ty_of, Attribute, Sort, domain, unit, is_sort, Def}
use Rattle.rules.specs.Declarations.{link_of, attributes_of, def, State, known}
use Rattle.rules.specs.Judge.{element_rule, merged_into, domain_type, attribute_use, or_no_def, or_no_attribute}
use Rattle.rules.specs.Judge.{resolved}
use Rattle.rules.specs.Judge.{reference_in, declare, opened, new_topic, new_class, new_domain, new_attribute}
use Rattle.rules.specs.Judge.{with_attribute}
use Rattle.rules.specs.Judge.{domain_to_16, domain_rules, attribute_to_16, attribute_rules, inherited_as, member_rules}
use Rattle.rules.specs.Judge.{after_member, after_close, rules_of, next_state}
use Rattle.rules.specs.Merged.{distinct, adds_nothing}
use Rattle.rules.specs.All.{All, AnyIs, In, Unbroken}
use Rattle.rules.proofs.AllLaws.{all_append, all_left, all_right, any-is, any-attribute, any-resolved}
use Rattle.rules.proofs.GrowLaws.{known-append}
use Rattle.claims.specs.Distinct.{distinct_in, Distinct, AllDistinct}
use Rattle.claims.proofs.MergeLaws.{all-merged, distinct-found}
use Rattle.claims.proofs.StateLaws.{in_all}
use Rattle.claims.proofs.RunLaws.{Invariant, reached-keeps}

-- ---- the type that is written, over a base's
merged-distinct : (b : Ty) (e : Enum) → distinct e ≡ true → distinct_in b ≡ true → distinct_in (merged_into b e) ≡ true
merged-distinct (text m n) e d p = d
merged-distinct (numeric r u) e d p = d
merged-distinct (enum b) e d p = (all-merged b e).still_distinct p d
merged-distinct structure e d p = d

meant-distinct : (w : Option WrittenType) (g : Option Def) (b : Ty) → (element_rule w).broken ≡ false
    → distinct_in b ≡ true → distinct_in (domain_type w g b) ≡ true
meant-distinct none g b p q = q
meant-distinct (some (G.text m n)) g b p q = refl
meant-distinct (some (G.numeric x r)) g b p q = refl
meant-distinct (some (G.enum e)) g b p q = merged-distinct b e ((distinct-found e).0 (doubled-none (twice e []) p)) q
meant-distinct (some (G.named r)) g b p q = refl

-- ---- definitions and states
abbrev Plain : Attribute → Type 0
Plain a = distinct_in (ty_of a.use_of) ≡ true

abbrev Tidy : Def → Type 0
Tidy d = (distinct_in d.type ≡ true) × All Plain (attributes_of d)

abbrev Neat : State → Type 0
Neat s = All Tidy (known s.decls) × AnyIs Tidy s.open_class

tidy-or : (o : Option Def) → AnyIs Tidy o → Tidy (or_no_def o)
tidy-or none h = (refl, tt)
tidy-or (some d) h = h

plain-or : (o : Option Attribute) → AnyIs Plain o → Plain (or_no_attribute o)
plain-or none h = refl
plain-or (some a) h = h

resolved-tidy : (s : State) → Neat s → (b : Option Reference) → AnyIs Tidy (resolved s b)
resolved-tidy s h = any-resolved Tidy s h.0

use-distinct : (w : Option WrittenType) (g : Option Def) (b : Use) → AnyIs Tidy g → (element_rule w).broken ≡ false
    → distinct_in (ty_of b) ≡ true → distinct_in (ty_of (attribute_use w g b)) ≡ true
use-distinct none g b h p q = q
use-distinct (some (G.text m n)) g b h p q = refl
use-distinct (some (G.numeric x r)) g b h p q = refl
use-distinct (some (G.enum e)) g b h p q = meant-distinct (some (G.enum e)) g (ty_of b) p q
use-distinct (some (G.named r)) g b h p q = let d = or_no_def g in go d (tidy-or g h) (is_sort domain d.sort)
  where
    go : (d : Def) → Tidy d → (t : Bool)
        → distinct_in (ty_of (cond t (of_domain (link_of d) d.bases) (of_structure (link_of d) d.bases))) ≡ true
    go d k true = k.0
    go d k false = refl

-- a definition becomes known
declare-neat : (s : State) (d : Def) → Neat s → Tidy d → All Tidy (known (s.decls ++ (def d ∷ [])))
declare-neat s d h k = rw known-append (all_append Tidy (known s.decls) (d ∷ []) h.0 (k, tt))

-- ---- units
module _ (s : State) (h : Neat s) where
  topic-neat : (n : Name) → All Tidy (known (s.decls ++ (def (new_topic s n) ∷ [])))
  unfolding new_topic
  topic-neat n = declare-neat s (new_topic s n) h (refl, tt)

  class-neat : (c : Sort) (n : Name) (p : List (List ℕ)) (o : Option Def) → AnyIs Tidy o
      → Neat (opened s (new_class s c n p o))
  unfolding new_class
  class-neat c n p o k = (h.0, (refl, (tidy-or o k).1))

  unit-neat : (n : Name) (p : List (List ℕ)) (o : Option Def) → AnyIs Tidy o
      → Neat (declare s (def (new_class s unit n p o)))
  unfolding new_class
  unit-neat n p o k = (declare-neat s (new_class s unit n p o) h (refl, (tidy-or o k).1), tt)

  domain-neat : (n : Name) (p : List (List ℕ)) (b : Option Reference) (w : Written) (o g : Option Def) → AnyIs Tidy o →
      All Unbroken (domain_rules s n p b w o g) → Neat (declare s (def (new_domain s n p w o g)))
  unfolding new_domain domain_rules domain_to_16
  domain-neat n p b w o g k q = (
    declare-neat s (new_domain s n p w o g) h
        (meant-distinct w.type g (or_no_def o).type q.1.0 (tidy-or o k).0, tt),
    tt,
  )

  attribute-neat : (c : Def) (n : Name) (p : List (List ℕ)) (w : Written) (o : Option Attribute) (g : Option Def)
      → Tidy c → AnyIs Plain o
      → AnyIs Tidy g → All Unbroken (attribute_rules s c n p w o g)
      → Neat (opened s (with_attribute c (new_attribute s n p w o g)))
  unfolding new_attribute with_attribute attribute_rules attribute_to_16
  attribute-neat c n p w o g k z t q =
      let a = new_attribute s n p w o g in
      let u : Plain a = use-distinct w.type g (or_no_attribute o).use_of t q.1.1.0 (plain-or o z) in
      let l = all_append Plain c.own (a ∷ []) (all_left Plain c.own c.inherited k.1) (u, tt) in (
        h.0,
        (k.0, all_append Plain (c.own ++ (a ∷ [])) c.inherited l (all_right Plain c.own c.inherited k.1)),
      )

  member-neat : (n : Name) (p : List (List ℕ)) (w : Written) (o : Option Def) → AnyIs Tidy o
      → All Unbroken (member_rules s n p w o)
      → Neat (after_member s n p w o)
  member-neat n p w none k q = h
  member-neat n p w (some c) k q =
      let b = any-attribute Plain n.bytes c.inherited (all_right Plain c.own c.inherited k.1) in
      attribute-neat c n p w (inherited_as c n) (resolved s (reference_in w.type)) k b
      (resolved-tidy s h (reference_in w.type)) q

  close-neat : (o t : Option Def) → AnyIs Tidy o → Neat (after_close s o t)
  close-neat (some c) t k = (declare-neat s c h k, tt)
  close-neat none (some t) k = (rw known-append (all_append Tidy (known s.decls) [] h.0 tt), tt)
  close-neat none none k = h

  next-neat : (u : U.Unit) → All Unbroken (rules_of s u) → Neat (next_state s u)
  next-neat (U.header v) q = h
  next-neat (U.model n x) q = (tt, tt)
  next-neat (U.topic n) q = (topic-neat n, tt)
  next-neat (U.class c n p r) q = class-neat c n p (resolved s r) (resolved-tidy s h r)
  next-neat (U.domain n p r w) q =
      domain-neat n p r w (resolved s r) (resolved s (reference_in w.type)) (resolved-tidy s h r) q
  next-neat (U.attribute n p w) q = member-neat n p w s.open_class h.1 q
  next-neat (U.unit n p r) q = unit-neat n p (resolved s r) (resolved-tidy s h r)
  next-neat (U.close n) q = close-neat s.open_class s.topic h.1

neat : Invariant Neat
neat = record { begins = (tt, tt); goes = λ s u b h m q. next-neat s h u q }

-- 17 of a merged enumeration
distinct-type : (t : Ty) → distinct_in t ≡ true → Distinct t
distinct-type t h = record {
  elements = h;
  added = λ b e p q.
      let d : distinct b ≡ true = subst (λ (x : Ty). distinct_in x ≡ true) p h in
      subst (λ (x : Ty). fits (merged_into x e) x ≡ adds_nothing e b) (sym p)
      ((all-merged b e).fits_base d ((distinct-found e).0 q));
}

distinct-uses : (d : Def) → Tidy d → (a : Attribute) → In a (attributes_of d) → Distinct (ty_of a.use_of)
distinct-uses d h a i = distinct-type (ty_of a.use_of) (in_all Plain h.1 i)

pub all-distinct : AllDistinct
all-distinct t g f w s at r =
    let (h, o) = reached-keeps t g Neat neat r in
    record {
      definition = λ d i. distinct-type d.type (in_all Tidy h i).0;
      attribute = λ d i. distinct-uses d (in_all Tidy h i);
      member = λ c e. distinct-uses c (any-is Tidy s.open_class c o e);
    }
