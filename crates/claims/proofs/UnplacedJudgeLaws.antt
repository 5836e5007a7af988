-- Judging does not depend on places: of a bare state and unit the rules are the bare rules and the next
-- state is the bare one.
use mathlib.Core.Path.{◌≡◌, refl, sym, ap, ◌∙◌}
use mathlib.Core.Bool.{Bool}
use mathlib.Core.Option
use mathlib.Core.Option.{Option, none, some}
use mathlib.Core.List.{List, [], ◌∷◌, map, map-append}
use Prim.Native.Nat.{ℕ}
use native.Mathlib.Omega.{arith}
use lib.ListN.{length}
use lib.Dec.{ltb}
use Rattle.rules.specs.Names.{Name}
use Rattle.rules.specs.Symbols.{Symbol}
use Rattle.rules.specs.Enumerations.{Enum, twice}
use Rattle.rules.specs.Grammar as G
use Rattle.rules.specs.Grammar.{Reference, Bounds, WrittenType, Written}
use Rattle.rules.specs.Units as U
use Rattle.rules.specs.Types as Y
use Rattle.rules.specs.Types.{Ty}
use Rattle.rules.specs.Declarations as D
use Rattle.rules.specs.Declarations.{Link, Use, inline, of_domain, of_structure, ty_of, Attribute, Sort, is_sort, Def}
use Rattle.rules.specs.Declarations.{link_of, numbers_of, measure_in, attributes_of, attribute_at, is_found, Decl}
use Rattle.rules.specs.Declarations.{State}
use Rattle.rules.specs.Declarations.{at_hand}
use Rattle.rules.specs.Book.{records, book}
use Rattle.rules.specs.Judge.{Rule, Judged, ok, refused, first_broken_or, or_no_def, or_no_attribute, place_of}
use Rattle.rules.specs.Judge.{resolved}
use Rattle.rules.specs.Judge.{bases_of, length_in, range_in, merged_into, meant, domain_type, naming, attribute_use}
use Rattle.rules.specs.Judge.{reference_in, is_naming, is_numeric, doubled, element_rule, type_rules, kind_rule}
use Rattle.rules.specs.Judge.{declare}
use Rattle.rules.specs.Judge.{new_topic, new_class, extends_rules, class_rules, new_domain, domain_to_16, domain17}
use Rattle.rules.specs.Judge.{domain22}
use Rattle.rules.specs.Judge.{domain_rules, is_domain}
use Rattle.rules.specs.Judge.{base_of_attribute, new_attribute, with_attribute, attribute_to_16, is_among, descends}
use Rattle.rules.specs.Judge.{attribute_from_17, attribute_rules, inherited_as, member_rules, after_member, open_name}
use Rattle.rules.specs.Judge.{end_rules, after_close, rules_of, next_state, judge}
use Rattle.rules.specs.Check.{Given, unit_place, capacity, room, judged}
use Rattle.claims.specs.Unplaced.{unplaced_name, unplaced_symbol, unplaced_reference, unplaced_enum, unplaced_bounds}
use Rattle.claims.specs.Unplaced.{unplaced_type, unplaced_written, unplaced_unit, unplaced_ty, unplaced_link}
use Rattle.claims.specs.Unplaced.{unplaced_use}
use Rattle.claims.specs.Unplaced.{unplaced_attribute, unplaced_def, unplaced_decl, unplaced_state, unplaced_rule}
use Rattle.claims.specs.Unplaced.{unplaced_judged, unplaced_place, SameStates, SameUnits, Alike, PlacesIdle}
use Rattle.claims.proofs.UnplacedLaws.{cond-unplaced, found-unplaced, leaf-unplaced, legal-unplaced}
use Rattle.claims.proofs.UnplacedLaws.{reading-unplaced, merge-unplaced, twice-unplaced, kind-unplaced}
use Rattle.claims.proofs.UnplacedLaws.{fits-unplaced, units-fit-unplaced, ty-unplaced, attribute-unplaced}
use Rattle.claims.proofs.UnplacedLaws.{count-unplaced, attributes-unplaced, number-unplaced, around-unplaced}
use Rattle.claims.proofs.UnplacedLaws.{hand-unplaced, resolve-unplaced}
use Rattle.claims.proofs.UnplacedBookLaws.{records-unplaced, records-count-unplaced, book-length-unplaced}
use Rattle.claims.proofs.UnplacedBookLaws.{definitions-unplaced}

-- ---- what a unit refers to
or-def-unplaced : (o : Option Def) → or_no_def (Option.map unplaced_def o) ≡ unplaced_def (or_no_def o)
or-def-unplaced none = refl
or-def-unplaced (some d) = refl

or-attribute-unplaced : (o : Option Attribute)
    → or_no_attribute (Option.map unplaced_attribute o) ≡ unplaced_attribute (or_no_attribute o)
or-attribute-unplaced none = refl
or-attribute-unplaced (some a) = refl

place-unplaced : (r : Option Reference) → place_of (Option.map unplaced_reference r) ≡ unplaced_place (place_of r)
place-unplaced none = refl
place-unplaced (some (G.bare n)) = refl
place-unplaced (some (G.in_model m n)) = refl
place-unplaced (some (G.in_topic m t n)) = refl

resolved-unplaced : (s : State) (r : Option Reference)
    → resolved (unplaced_state s) (Option.map unplaced_reference r) ≡ Option.map unplaced_def (resolved s r)
resolved-unplaced s none = refl
resolved-unplaced s (some r) = resolve-unplaced s r

bases-unplaced : (o : Option Def) → bases_of (Option.map unplaced_def o) ≡ map unplaced_link (bases_of o)
bases-unplaced none = refl
bases-unplaced (some d) = refl

numbers-unplaced : (l : List Link) → numbers_of (map unplaced_link l) ≡ numbers_of l
numbers-unplaced [] = refl
numbers-unplaced (l ∷ bs) = rw (numbers-unplaced bs)

measure-unplaced : (o : Option Def) → measure_in (Option.map unplaced_def o) ≡ measure_in o
measure-unplaced none = refl
measure-unplaced (some d) = rw (numbers-unplaced d.bases)

-- ---- types
range-unplaced : (q : Option Bounds) → range_in (Option.map unplaced_bounds q) ≡ range_in q
range-unplaced none = refl
range-unplaced (some q) = refl

length-unplaced : (n : Option Symbol) → length_in (Option.map unplaced_symbol n) ≡ length_in n
length-unplaced none = refl
length-unplaced (some y) = refl

merged-unplaced : (b : Ty) (e : Enum) → merged_into (unplaced_ty b) (unplaced_enum e) ≡ unplaced_ty (merged_into b e)
merged-unplaced (Y.text m n) e = refl
merged-unplaced (Y.numeric r u) e = refl
merged-unplaced Y.structure e = refl
merged-unplaced (Y.enum b) e = ap Y.enum (merge-unplaced b e)

meant-unplaced : (x : WrittenType) (g : Option Def) (b : Ty)
    → meant (unplaced_type x) (Option.map unplaced_def g) (unplaced_ty b) ≡ unplaced_ty (meant x g b)
meant-unplaced (G.text m n) g b = ap (Y.text m) (length-unplaced n)
meant-unplaced (G.numeric q r) g b = rw (range-unplaced q, measure-unplaced g)
meant-unplaced (G.enum e) g b = merged-unplaced b e
meant-unplaced (G.named r) g b = refl

domain-type-unplaced : (x : Option WrittenType) (g : Option Def) (b : Ty)
    → domain_type (Option.map unplaced_type x) (Option.map unplaced_def g) (unplaced_ty b)
    ≡ unplaced_ty (domain_type x g b)
domain-type-unplaced none g b = refl
domain-type-unplaced (some x) g b = meant-unplaced x g b

naming-unplaced : (d : Def) → naming (unplaced_def d) ≡ unplaced_use (naming d)
naming-unplaced d = cond-unplaced unplaced_use (is_sort D.domain d.sort) (of_domain (link_of d) d.bases)
    (of_structure (link_of d) d.bases)

use-unplaced : (x : Option WrittenType) (g : Option Def) (b : Use) → attribute_use (Option.map unplaced_type x)
    (Option.map unplaced_def g) (unplaced_use b) ≡ unplaced_use (attribute_use x g b)
use-unplaced none g b = refl
use-unplaced (some (G.text m n)) g b = rw (length-unplaced n)
use-unplaced (some (G.numeric q r)) g b = rw (range-unplaced q, measure-unplaced g)
use-unplaced (some (G.enum e)) g b = ap inline (rw (ty-unplaced b) (merged-unplaced (ty_of b) e))
use-unplaced (some (G.named r)) g b = rw (or-def-unplaced g) (naming-unplaced (or_no_def g))

reference-unplaced : (x : Option WrittenType)
    → reference_in (Option.map unplaced_type x) ≡ Option.map unplaced_reference (reference_in x)
reference-unplaced none = refl
reference-unplaced (some (G.text m n)) = refl
reference-unplaced (some (G.numeric q r)) = refl
reference-unplaced (some (G.enum e)) = refl
reference-unplaced (some (G.named r)) = refl

is-naming-unplaced : (x : Option WrittenType) → is_naming (Option.map unplaced_type x) ≡ is_naming x
is-naming-unplaced none = refl
is-naming-unplaced (some (G.text m n)) = refl
is-naming-unplaced (some (G.numeric q r)) = refl
is-naming-unplaced (some (G.enum e)) = refl
is-naming-unplaced (some (G.named r)) = refl

numeric-unplaced : (t : Ty) → is_numeric (unplaced_ty t) ≡ is_numeric t
numeric-unplaced (Y.text m n) = refl
numeric-unplaced (Y.numeric none u) = refl
numeric-unplaced (Y.numeric (some r) u) = refl
numeric-unplaced Y.structure = refl
numeric-unplaced (Y.enum e) = refl

doubled-unplaced : (o : Option ℕ) → doubled (Option.map unplaced_place o) ≡ unplaced_rule (doubled o)
doubled-unplaced none = refl
doubled-unplaced (some p) = refl

element-rule-unplaced : (x : Option WrittenType)
    → element_rule (Option.map unplaced_type x) ≡ unplaced_rule (element_rule x)
element-rule-unplaced none = refl
element-rule-unplaced (some (G.text m n)) = refl
element-rule-unplaced (some (G.numeric q r)) = refl
element-rule-unplaced (some (G.enum e)) = ap doubled (twice-unplaced e []) ∙ doubled-unplaced (twice e [])
element-rule-unplaced (some (G.named r)) = refl

type-rules-unplaced : (b : Bool) (p : ℕ) (x : Option WrittenType)
    → type_rules b (unplaced_place p) (Option.map unplaced_type x) ≡ map unplaced_rule (type_rules b p x)
type-rules-unplaced b p none = refl
type-rules-unplaced b p (some (G.text m none)) = refl
type-rules-unplaced b p (some (G.text m (some y))) = refl
type-rules-unplaced b p (some (G.numeric none r)) = refl
type-rules-unplaced b p (some (G.numeric (some q) r)) = refl
type-rules-unplaced b p (some (G.enum e)) = rw (leaf-unplaced e)
type-rules-unplaced b p (some (G.named r)) = refl

kind-rule-unplaced : (p : ℕ) (b : Bool) (t u : Ty)
    → kind_rule (unplaced_place p) b (unplaced_ty t) (unplaced_ty u) ≡ unplaced_rule (kind_rule p b t u)
kind-rule-unplaced p b t u = rw (kind-unplaced t, kind-unplaced u)

is-domain-unplaced : (u : Use) → is_domain (unplaced_use u) ≡ is_domain u
is-domain-unplaced (inline t) = refl
is-domain-unplaced (of_domain l bs) = refl
is-domain-unplaced (of_structure l bs) = refl

among-unplaced : (k : ℕ) (l : List Link) → is_among k (map unplaced_link l) ≡ is_among k l
among-unplaced k [] = refl
among-unplaced k (l ∷ ls) = rw (among-unplaced k ls)

descends-unplaced : (u b : Use) → descends (unplaced_use u) (unplaced_use b) ≡ descends u b
descends-unplaced (inline t) b = refl
descends-unplaced (of_domain l bs) (inline t) = refl
descends-unplaced (of_domain l bs) (of_domain k cs) = among-unplaced k.number (l ∷ bs)
descends-unplaced (of_domain l bs) (of_structure k cs) = refl
descends-unplaced (of_structure l bs) (inline t) = refl
descends-unplaced (of_structure l bs) (of_domain k cs) = refl
descends-unplaced (of_structure l bs) (of_structure k cs) = among-unplaced k.number (l ∷ bs)

-- ---- states
declare-unplaced : (s : State) (d : Decl) → declare (unplaced_state s) (unplaced_decl d) ≡ unplaced_state (declare s d)
declare-unplaced s d = rw (map-append unplaced_decl s.decls (d ∷ []))

base-unplaced : (o : Option Attribute) → base_of_attribute (Option.map unplaced_attribute o) ≡ base_of_attribute o
base-unplaced none = refl
base-unplaced (some a) = refl

with-unplaced : (c : Def) (a : Attribute)
    → with_attribute (unplaced_def c) (unplaced_attribute a) ≡ unplaced_def (with_attribute c a)
unfolding with_attribute
with-unplaced c a = rw (map-append unplaced_attribute c.own (a ∷ []))

-- ---- rules that look at no state
extends-unplaced : (c : Sort) (r : Option Reference) (o : Option Def) →
    extends_rules c (Option.map unplaced_reference r) (Option.map unplaced_def o)
    ≡ map unplaced_rule (extends_rules c r o)
unfolding extends_rules
extends-unplaced c r o =
    rw (place-unplaced r, found-unplaced unplaced_reference r, found-unplaced unplaced_def o, or-def-unplaced o)

domain-17-unplaced : (w : Written) (o g : Option Def)
    → domain17 (unplaced_written w) (Option.map unplaced_def o) (Option.map unplaced_def g)
    ≡ unplaced_rule (domain17 w o g)
domain-17-unplaced w o g =
    let b = (or_no_def o).type in
    rw (
      found-unplaced unplaced_def o,
      or-def-unplaced o,
      domain-type-unplaced w.type g b,
      fits-unplaced (domain_type w.type g b) b,
    )

domain-22-unplaced : (w : Written) (o g : Option Def)
    → domain22 (unplaced_written w) (Option.map unplaced_def o) (Option.map unplaced_def g)
    ≡ unplaced_rule (domain22 w o g)
domain-22-unplaced w o g =
    let b = (or_no_def o).type in
    rw (
      found-unplaced unplaced_def o,
      or-def-unplaced o,
      domain-type-unplaced w.type g b,
      units-fit-unplaced (domain_type w.type g b) b,
    )

attribute-from-17-unplaced : (p : ℕ) (b m : Bool) (u v : Use) →
    attribute_from_17 (unplaced_place p) b m (unplaced_use u) (unplaced_use v)
    ≡ map unplaced_rule (attribute_from_17 p b m u v)
attribute-from-17-unplaced p b m u v = rw (
  descends-unplaced u v,
  ty-unplaced u,
  ty-unplaced v,
  fits-unplaced (ty_of u) (ty_of v),
  units-fit-unplaced (ty_of u) (ty_of v),
)

-- ---- topics, classes
new-topic-unplaced : (s : State) (n : Name)
    → new_topic (unplaced_state s) (unplaced_name n) ≡ unplaced_def (new_topic s n)
unfolding new_topic
new-topic-unplaced s n = rw (records-count-unplaced s)

taken-unplaced : (s : State) (n : Name) → is_found (at_hand (unplaced_state s) n.bytes) ≡ is_found (at_hand s n.bytes)
taken-unplaced s n = rw (hand-unplaced s n.bytes) (found-unplaced unplaced_def (at_hand s n.bytes))

module _ (s : State) (c : Sort) (n : Name) (p : List (List ℕ)) (o : Option Def) where
  class-rules-unplaced : (r : Option Reference) →
      class_rules (unplaced_state s) c (unplaced_name n) p (Option.map unplaced_reference r) (Option.map unplaced_def o)
      ≡ map unplaced_rule (class_rules s c n p r o)
  unfolding class_rules
  class-rules-unplaced r =
      rw (taken-unplaced s n, extends-unplaced c r o, map-append unplaced_rule (extends_rules c r o))

  new-class-unplaced : new_class (unplaced_state s) c (unplaced_name n) p (Option.map unplaced_def o)
      ≡ unplaced_def (new_class s c n p o)
  unfolding new_class
  new-class-unplaced = rw (
    number-unplaced s.topic,
    around-unplaced s.topic,
    records-count-unplaced s,
    bases-unplaced o,
    or-def-unplaced o,
    attributes-unplaced (or_no_def o),
  )

-- ---- domains
module _ (s : State) (n : Name) (p : List (List ℕ)) (w : Written) (o g : Option Def) where
  new-domain-unplaced : new_domain (unplaced_state s) (unplaced_name n) p
      (unplaced_written w) (Option.map unplaced_def o)
      (Option.map unplaced_def g)
      ≡ unplaced_def (new_domain s n p w o g)
  unfolding new_domain
  new-domain-unplaced =
      rw (
        number-unplaced s.topic,
        around-unplaced s.topic,
        records-count-unplaced s,
        bases-unplaced o,
        or-def-unplaced o,
        domain-type-unplaced w.type g (or_no_def o).type,
      )

  domain-to-16-unplaced : (r : Option Reference) →
      domain_to_16 (unplaced_state s) (unplaced_name n) p (Option.map unplaced_reference r) (unplaced_written w)
      (Option.map unplaced_def o) (Option.map unplaced_def g) ≡ map unplaced_rule (domain_to_16 s n p r w o g)
  unfolding domain_to_16
  domain-to-16-unplaced r =
      let t = (new_domain s n p w o g).type in
      rw (
        taken-unplaced s n,
        element-rule-unplaced w.type,
        place-unplaced r,
        found-unplaced unplaced_reference r,
        reference-unplaced w.type,
        place-unplaced (reference_in w.type),
        found-unplaced unplaced_reference (reference_in w.type),
        is-naming-unplaced w.type,
        new-domain-unplaced,
        numeric-unplaced t,
        found-unplaced unplaced_def o,
        or-def-unplaced o,
        found-unplaced unplaced_def g,
        or-def-unplaced g,
        type-rules-unplaced (is_found o) w.place w.type,
        kind-rule-unplaced w.place (is_found o) t (or_no_def o).type,
        map-append unplaced_rule (type_rules (is_found o) w.place w.type),
      )

  domain-rules-unplaced : (r : Option Reference) →
      domain_rules (unplaced_state s) (unplaced_name n) p (Option.map unplaced_reference r) (unplaced_written w)
      (Option.map unplaced_def o) (Option.map unplaced_def g) ≡ map unplaced_rule (domain_rules s n p r w o g)
  unfolding domain_rules
  domain-rules-unplaced r = rw (
    domain-to-16-unplaced r,
    domain-17-unplaced w o g,
    domain-22-unplaced w o g,
    map-append unplaced_rule (domain_to_16 s n p r w o g),
  )

-- ---- attributes
module _ (s : State) (n : Name) (p : List (List ℕ)) (w : Written) (o : Option Attribute) (g : Option Def) where
  new-attribute-unplaced :
      new_attribute (unplaced_state s) (unplaced_name n) p (unplaced_written w)
      (Option.map unplaced_attribute o) (Option.map unplaced_def g)
      ≡ unplaced_attribute (new_attribute s n p w o g)
  unfolding new_attribute
  new-attribute-unplaced = rw (
    records-count-unplaced s,
    or-def-unplaced g,
    or-attribute-unplaced o,
    base-unplaced o,
    use-unplaced w.type g (or_no_attribute o).use_of,
  )

  attribute-to-16-unplaced : (c : Def) →
      attribute_to_16 (unplaced_state s) (unplaced_def c) (unplaced_name n) p (unplaced_written w)
      (Option.map unplaced_attribute o) (Option.map unplaced_def g)
      ≡ map unplaced_rule (attribute_to_16 s c n p w o g)
  unfolding attribute_to_16
  attribute-to-16-unplaced c =
      let u = (new_attribute s n p w o g).use_of in
      rw (
        new-attribute-unplaced,
        attributes-unplaced c,
        attribute-unplaced n.bytes (attributes_of c),
        found-unplaced unplaced_attribute (attribute_at n.bytes (attributes_of c)),
        count-unplaced (attributes_of c),
        attribute-unplaced n.bytes c.own,
        found-unplaced unplaced_attribute (attribute_at n.bytes c.own),
        found-unplaced unplaced_attribute o,
        element-rule-unplaced w.type,
        reference-unplaced w.type,
        place-unplaced (reference_in w.type),
        found-unplaced unplaced_reference (reference_in w.type),
        is-naming-unplaced w.type,
        found-unplaced unplaced_def g,
        or-def-unplaced g,
        or-attribute-unplaced o,
        ty-unplaced u,
        numeric-unplaced (ty_of u),
        is-domain-unplaced u,
        ty-unplaced (or_no_attribute o).use_of,
        type-rules-unplaced (is_found o) w.place w.type,
        kind-rule-unplaced w.place (is_found o) (ty_of u) (ty_of (or_no_attribute o).use_of),
        map-append unplaced_rule (type_rules (is_found o) w.place w.type),
      )

  attribute-rules-unplaced : (c : Def) →
      attribute_rules (unplaced_state s) (unplaced_def c) (unplaced_name n) p (unplaced_written w)
      (Option.map unplaced_attribute o) (Option.map unplaced_def g)
      ≡ map unplaced_rule (attribute_rules s c n p w o g)
  unfolding attribute_rules
  attribute-rules-unplaced c =
      rw (
        attribute-to-16-unplaced c,
        new-attribute-unplaced,
        found-unplaced unplaced_attribute o,
        is-naming-unplaced w.type,
        or-attribute-unplaced o,
        attribute-from-17-unplaced w.place (is_found o) (is_naming w.type)
            (new_attribute s n p w o g).use_of (or_no_attribute o).use_of,
        map-append unplaced_rule (attribute_to_16 s c n p w o g),
      )

module _ (s : State) (n : Name) (p : List (List ℕ)) (w : Written) where
  member-rules-unplaced : (o : Option Def) →
      member_rules (unplaced_state s) (unplaced_name n) p (unplaced_written w) (Option.map unplaced_def o)
      ≡ map unplaced_rule (member_rules s n p w o)
  member-rules-unplaced none = refl
  member-rules-unplaced (some c) =
      let g = resolved s (reference_in w.type) in
      rw (
        attribute-unplaced n.bytes c.inherited,
        reference-unplaced w.type,
        resolved-unplaced s (reference_in w.type),
      )
      (attribute-rules-unplaced s n p w (inherited_as c n) g c)

  after-member-unplaced : (o : Option Def) →
      after_member (unplaced_state s) (unplaced_name n) p (unplaced_written w) (Option.map unplaced_def o)
      ≡ unplaced_state (after_member s n p w o)
  after-member-unplaced none = refl
  after-member-unplaced (some c) =
      let g = resolved s (reference_in w.type) in
      rw (
        attribute-unplaced n.bytes c.inherited,
        reference-unplaced w.type,
        resolved-unplaced s (reference_in w.type),
        new-attribute-unplaced s n p w (inherited_as c n) g,
        with-unplaced c (new_attribute s n p w (inherited_as c n) g),
      )

module _ (s : State) where
  -- ---- END
  end-rules-unplaced : (n : Name) (c t : Option Def) →
      end_rules (unplaced_name n) (open_name (unplaced_state s) (Option.map unplaced_def c) (Option.map unplaced_def t))
      ≡ map unplaced_rule (end_rules n (open_name s c t))
  end-rules-unplaced n (some c) t = refl
  end-rules-unplaced n none (some t) = refl
  end-rules-unplaced n none none = refl

  after-close-unplaced : (c t : Option Def) → after_close (unplaced_state s) (Option.map unplaced_def c)
      (Option.map unplaced_def t) ≡ unplaced_state (after_close s c t)
  after-close-unplaced (some c) t = declare-unplaced s (D.def c)
  after-close-unplaced none (some t) = rw (map-append unplaced_decl s.decls (D.end_topic t.name ∷ []))
  after-close-unplaced none none = refl

  -- ---- every unit
  pub rules-unplaced : (u : U.Unit) → rules_of (unplaced_state s) (unplaced_unit u) ≡ map unplaced_rule (rules_of s u)
  rules-unplaced (U.header v) = refl
  rules-unplaced (U.model n q) = refl
  rules-unplaced (U.topic n) = rw (taken-unplaced s n)
  rules-unplaced (U.class c n p r) = rw (resolved-unplaced s r) (class-rules-unplaced s c n p (resolved s r) r)
  rules-unplaced (U.domain n p r w) =
      let x = reference_in w.type in
      rw (resolved-unplaced s r, reference-unplaced w.type, resolved-unplaced s x)
      (domain-rules-unplaced s n p w (resolved s r) (resolved s x) r)
  rules-unplaced (U.attribute n p w) = member-rules-unplaced s n p w s.open_class
  rules-unplaced (U.unit n p r) = rw (resolved-unplaced s r) (class-rules-unplaced s D.unit n p (resolved s r) r)
  rules-unplaced (U.close n) = end-rules-unplaced n s.open_class s.topic

  pub next-unplaced : (u : U.Unit) → next_state (unplaced_state s) (unplaced_unit u) ≡ unplaced_state (next_state s u)
  next-unplaced (U.header v) = refl
  next-unplaced (U.model n q) = refl
  next-unplaced (U.topic n) =
      rw (new-topic-unplaced s n, map-append unplaced_decl s.decls (D.def (new_topic s n) ∷ []))
  next-unplaced (U.class c n p r) = rw (resolved-unplaced s r, new-class-unplaced s c n p (resolved s r))
  next-unplaced (U.domain n p r w) =
      let g = resolved s (reference_in w.type) in
      rw (
        resolved-unplaced s r,
        reference-unplaced w.type,
        resolved-unplaced s (reference_in w.type),
        new-domain-unplaced s n p w (resolved s r) g,
      )
      (declare-unplaced s (D.def (new_domain s n p w (resolved s r) g)))
  next-unplaced (U.attribute n p w) = after-member-unplaced s n p w s.open_class
  next-unplaced (U.unit n p r) = rw (resolved-unplaced s r, new-class-unplaced s D.unit n p (resolved s r))
      (declare-unplaced s (D.def (new_class s D.unit n p (resolved s r))))
  next-unplaced (U.close n) = after-close-unplaced s.open_class s.topic

-- ---- the judgement
first-broken-unplaced : (l : List Rule) (s : State)
    → first_broken_or (map unplaced_rule l) (unplaced_state s) ≡ unplaced_judged (first_broken_or l s)
first-broken-unplaced [] s = refl
first-broken-unplaced (r ∷ l) s = rw (first-broken-unplaced l s)
    (cond-unplaced unplaced_judged r.broken (refused r.number r.place) (first_broken_or l s))

pub judge-unplaced : (s : State) (u : U.Unit) → judge (unplaced_state s) (unplaced_unit u) ≡ unplaced_judged (judge s u)
unfolding judge
judge-unplaced s u = rw (rules-unplaced s u, next-unplaced s u) (first-broken-unplaced (rules_of s u) (next_state s u))

-- 19
room-unplaced : (g : Given) (p : ℕ) (j : Judged)
    → room g (unplaced_place p) (unplaced_judged j) ≡ unplaced_judged (room g p j)
room-unplaced g p (refused n q) = refl
room-unplaced g p (ok s) = rw (book-length-unplaced s)
    (cond-unplaced unplaced_judged (ltb (capacity g) (length (book s))) (refused 19 p) (ok s))

unit-place-unplaced : (u : U.Unit) → unit_place (unplaced_unit u) ≡ unplaced_place (unit_place u)
unit-place-unplaced (U.header v) = refl
unit-place-unplaced (U.model n q) = refl
unit-place-unplaced (U.topic n) = refl
unit-place-unplaced (U.class c n p r) = refl
unit-place-unplaced (U.domain n p r w) = refl
unit-place-unplaced (U.attribute n p w) = refl
unit-place-unplaced (U.unit n p r) = refl
unit-place-unplaced (U.close n) = refl

pub judged-unplaced : (g : Given) (s : State) (u : Option U.Unit)
    → judged g (unplaced_state s) (Option.map unplaced_unit u) ≡ unplaced_judged (judged g s u)
judged-unplaced g s none = refl
judged-unplaced g s (some u) =
    rw (unit-place-unplaced u, judge-unplaced s u) (room-unplaced g (unit_place u) (judge s u))

-- ---- judgements that are the same apart from places
same_alike : (j k : Judged) → unplaced_judged j ≡ unplaced_judged k → Alike j k
same_alike (ok s) (ok x) e = cc
same_alike (ok s) (refused m q) e = let z : ◌≡◌ {A = ℕ} 0 1 = cc in absurd (omega arith)
same_alike (refused n p) (ok x) e = let z : ◌≡◌ {A = ℕ} 0 1 = cc in absurd (omega arith)
same_alike (refused n p) (refused m q) e = cc

judged-alike : (g : Given) (s x : State) (u v : U.Unit) → SameStates s x → SameUnits u v
    → Alike (judged g s (some u)) (judged g x (some v))
judged-alike g s x u v p q = same_alike (judged g s (some u)) (judged g x (some v))
    (sym (judged-unplaced g s (some u)) ∙ rw (p, q) (judged-unplaced g x (some v)))

pub places-idle : PlacesIdle
places-idle = record {
  values = legal-unplaced;
  readings = reading-unplaced;
  merging = merge-unplaced;
  doubling = twice-unplaced;
  fitting = fits-unplaced;
  unit_fitting = units-fit-unplaced;
  references = resolve-unplaced;
  recorded = records-unplaced;
  counted = records-count-unplaced;
  sized = book-length-unplaced;
  defined = definitions-unplaced;
  rules = rules-unplaced;
  next = next-unplaced;
  judging = judge-unplaced;
  within = judged-unplaced;
  alike = judged-alike;
  booked = λ s x p. sym (records-unplaced s) ∙ (ap records p ∙ records-unplaced x);
}
