-- A unit that is not refused leads from a fair state to a fair one.
use mathlib.Core.Path.{◌≡◌, refl, sym, ap, subst, ◌∙◌}
use mathlib.Core.Bool.{Bool, true, false, cond, not, ◌&&◌, ◌||◌}
use mathlib.Core.Option.{Option, none, some}
use mathlib.Core.List.{List, [], ◌∷◌, ◌++◌, append-nil}
use Prim.Native.Nat.{ℕ, ◌≤◌, ◌<◌}
use native.Mathlib.Omega.{arith}
use lib.ListN.{length}
use Rattle.rules.specs.Names.{Name}
use Rattle.rules.specs.Grammar as G
use Rattle.rules.specs.Grammar.{Reference, WrittenType, Written}
use Rattle.rules.specs.Units as U
use Rattle.rules.specs.Units.{is_given, class_sort}
use Rattle.rules.specs.Numbers.{Range}
use Rattle.rules.specs.Enumerations.{Enum}
use Rattle.rules.specs.Types.{Ty, text, numeric, structure, enum, unit_of}
use Rattle.rules.specs.Declarations as D
use Rattle.rules.specs.Declarations.{Link, Use, inline, of_domain, of_structure, ty_of, Attribute, Sort, domain}
use Rattle.rules.specs.Declarations.{is_sort}
use Rattle.rules.specs.Declarations.{Def}
use Rattle.rules.specs.Declarations.{link_of, measure_in, attributes_of, is_found, Decl, def, State, known, topic_name}
use Rattle.rules.specs.Book.{records}
use Rattle.rules.specs.Judge.{ok, or_no_def, or_no_attribute, has_extended, resolved, bases_of, merged_into, range_in}
use Rattle.rules.specs.Judge.{meant}
use Rattle.rules.specs.Judge.{domain_type, naming}
use Rattle.rules.specs.Judge.{attribute_use, reference_in, is_naming, element_rule, type_rules, may_type, may_stand_in}
use Rattle.rules.specs.Judge.{is_domain, is_numeric, has_twice}
use Rattle.rules.specs.Judge.{declare, opened, in_topic, new_topic, after_topic, new_class, new_domain}
use Rattle.rules.specs.Judge.{domain_to_16, domain_rules, new_attribute, with_attribute, attribute_to_16}
use Rattle.rules.specs.Judge.{attribute_rules}
use Rattle.rules.specs.Judge.{inherited_as, member_rules, after_member, after_close, rules_of, next_state, judge}
use Rattle.rules.specs.All.{All, AnyIs, In, Unbroken}
use Rattle.rules.proofs.Tests.{never, not-fails, or-fails}
use Rattle.rules.proofs.AllLaws.{all_map, all_append, all_left, all_right, any-is, any-map, any-attribute, in-append}
use Rattle.rules.proofs.AllLaws.{all_in_lem, any-resolved}
use Rattle.rules.proofs.RuleLaws.{first-broken-ok}
use Rattle.rules.proofs.GrowLaws.{known-append}
use Rattle.enumerations.specs.Standing.{InText}
use Rattle.members.proofs.OpenLaws.{apart-start, apart_more}
use Rattle.wellformed.specs.Fairness.{FairType, FairWritten, FairUnit, Fair, FairUse, NameText, FairAttribute}
use Rattle.wellformed.specs.Fairness.{FairLink, FairDef, FairOpen, Linked, UnitIn, NamesDeclared, NamesAll}
use Rattle.wellformed.specs.Fairness.{Rising, BehindAll, FairDecl}
use Rattle.wellformed.specs.Fairness.{FairState, MayStand}
use Rattle.wellformed.proofs.RecordLaws.{declared-more, opened-more, ended-more, attribute-more, close_more}
use Rattle.wellformed.proofs.TypeLaws.{Base, fair-base, use-base, meant-fair, domain-fair, use-fair}

-- ---- more records
attribute-grows : (t : List ℕ) (n m : ℕ) → n ≤ m → (a : Attribute) → FairAttribute t n a → FairAttribute t m a
attribute-grows t n m l a h = record { used = h.used; before = let b = h.before in omega arith; name = h.name }

def-grows : (t : List ℕ) (n m : ℕ) → n ≤ m → (d : Def) → FairDef t n d → FairDef t m d
def-grows t n m l d h = record {
  type = h.type;
  before = let b = h.before in omega arith;
  attributes = all_map (attribute-grows t n m l) (attributes_of d) h.attributes;
  bare = h.bare;
  name = h.name;
  around = h.around;
  bases = h.bases;
}

-- ---- more definitions
declared-grows : (K E : List Def) (l : Link) (bs : List Link) (m : Bool) (d : Def)
    → Linked K l bs m d → Linked (K ++ E) l bs m d
declared-grows K E l bs m d h = record {
  declared = in-append K E h.declared;
  link = h.link;
  bases = h.bases;
  holds = h.holds;
}

unit-grows : (K E : List Def) (x : Ty) → UnitIn K x → UnitIn (K ++ E) x
unit-grows K E x h = any-map (λ u (d, i, e). (d, in-append K E i, e)) (unit_of x) h

names-grow : (K E : List Def) (u : Use) (m : Bool) → NamesDeclared K u m → NamesDeclared (K ++ E) u m
names-grow K E (inline x) m h = unit-grows K E x h
names-grow K E (of_domain l bs) m (d, h, s, a) = (d, declared-grows K E l bs m d h, s, a)
names-grow K E (of_structure l bs) m (d, h, s) = (d, declared-grows K E l bs m d h, s)

all-names-grow : (K E : List Def) (d : Def) → NamesAll K d → NamesAll (K ++ E) d
all-names-grow K E d h = (
  unit-grows K E d.type h.0,
  all_map (λ (a : Attribute). names-grow K E a.use_of a.mandatory) (attributes_of d) h.1,
)

rising-more : (K : List Def) (e : Def) → Rising K → BehindAll K e → Rising (K ++ (e ∷ []))
rising-more [] e h k = (tt, tt)
rising-more (d ∷ l) e h k =
    (all_append (λ (f : Def). d.number < f.number) l (e ∷ []) h.0 (k.0, tt), rising-more l e h.1 k.1)

-- ---- states
module _ (t : List ℕ) (s : State) (h : FairState t s) where
  abbrev K : List Def
  K = known s.decls

  -- what is numbered now stands behind all
  now-behind : (e : Def) → e.number ≡ length (records s) → BehindAll K e
  now-behind e q = rw q (all_map (λ (d : Def) f. f.before) K h.defs)

  declare-fair : (e : Def) → length (records s) ≤ length (records (declare s (def e)))
      → FairDef t (length (records (declare s (def e)))) e → NamesAll K e → BehindAll K e
      → FairState t (declare s (def e))
  declare-fair e l k g b =
      let m : ℕ = length (records (declare s (def e))) in
      let more = known-append s.decls (def e) in
      record {
        defs = rw more
            (all_append (FairDef t m) K (e ∷ []) (all_map (def-grows t (length (records s)) m l) K h.defs) (k, tt));
        open_class = tt;
        names = rw more (all_append (NamesAll (K ++ (e ∷ []))) K (e ∷ [])
            (all_map (all-names-grow K (e ∷ [])) K h.names) (all-names-grow K (e ∷ []) e g, tt));
        open_names = tt;
        decls = all_append (FairDecl t s.model) s.decls (def e ∷ []) h.decls (tt, tt);
        topic = h.topic;
        rising = rw more (rising-more K e h.rising b);
        open_behind = tt;
      }

  opened-fair : (c : Def) → length (records s) ≤ length (records (opened s c))
      → FairOpen t (length (records (opened s c))) c → NamesAll K c → BehindAll K c → FairState t (opened s c)
  opened-fair c l k g b = record {
    defs = all_map (def-grows t (length (records s)) (length (records (opened s c))) l) K h.defs;
    open_class = k;
    names = h.names;
    open_names = g;
    decls = h.decls;
    topic = h.topic;
    rising = h.rising;
    open_behind = b;
  }

  end-fair : (n : Name) → InText t n → is_found s.open_class ≡ false
      → FairState t (in_topic (declare s (D.end_topic n)) none)
  end-fair n i c =
      let m : ℕ = length (records (declare s (D.end_topic n))) in
      let same : known (s.decls ++ (D.end_topic n ∷ [])) ≡ K = known-append s.decls (D.end_topic n) ∙ append-nil K in
      record {
        defs = rw same (all_map (def-grows t (length (records s)) m (ended-more s c n)) K h.defs);
        open_class = tt;
        names = rw same h.names;
        open_names = tt;
        decls = all_append (FairDecl t s.model) s.decls (D.end_topic n ∷ []) h.decls (i, tt);
        topic = tt;
        rising = rw same h.rising;
        open_behind = tt;
      }

  -- the name of the open topic
  topic-text : AnyIs NameText (topic_name s.topic)
  topic-text = go s.topic h.topic
    where
      go : (o : Option Def) → AnyIs (λ (d : Def). InText t d.name) o → AnyIs NameText (topic_name o)
      go none i = tt
      go (some d) i = i.text

-- which topic is open
in_topic_lem : (t : List ℕ) (s : State) (d : Decl) (o : Option Def) → AnyIs (λ (e : Def). InText t e.name) o
    → FairState t (declare s d) → FairState t (in_topic (declare s d) o)
in_topic_lem t s d o i h = record {
  defs = h.defs;
  open_class = tt;
  names = h.names;
  open_names = tt;
  decls = h.decls;
  topic = i;
  rising = h.rising;
  open_behind = tt;
}

base-links : (t : List ℕ) (n : ℕ) (o : Option Def) → AnyIs (FairDef t n) o → All FairLink (bases_of o)
base-links t n none h = tt
base-links t n (some d) h = ((h.name.text, h.around), h.bases)

-- ---- topics
new-topic : (t : List ℕ) (s : State) (n : Name) (m : ℕ) → length (records s) < m
    → InText t n → FairDef t m (new_topic s n)
unfolding new_topic
new-topic t s n m l i = record {
  type = λ e. let z : ◌≡◌ {A = ℕ} 0 1 = cc in absurd (omega arith);
  before = l;
  attributes = tt;
  bare = λ e. refl;
  name = i;
  around = tt;
  bases = tt;
}

topic-names : (K : List Def) (s : State) (n : Name) → NamesAll K (new_topic s n)
unfolding new_topic
topic-names K s n = (tt, tt)

topic-number : (s : State) (n : Name) → (new_topic s n).number ≡ length (records s)
unfolding new_topic
topic-number s n = refl

topic-name : (t : List ℕ) (s : State) (n : Name) → InText t n → InText t (new_topic s n).name
unfolding new_topic
topic-name t s n i = i

fair-topic : (t : List ℕ) (s : State) (n : Name) → is_found s.open_class ≡ false → InText t n → FairState t s
    → FairState t (after_topic s n)
fair-topic t s n c i h =
    let e = new_topic s n in
    let l = declared-more s c e in
    in_topic_lem t s (def e) (some e) (topic-name t s n i)
    (declare-fair t s h e (omega arith) (new-topic t s n _ l i) (topic-names (known s.decls) s n)
    (now-behind t s h e (topic-number s n)))

-- ---- classes, structures and units
class-sort : (st : Bool) → class_sort st ≡ domain → ⊥
class-sort true e = let z : ◌≡◌ {A = ℕ} 0 1 = cc in omega arith
class-sort false e = let z : ◌≡◌ {A = ℕ} 0 1 = cc in omega arith

each-before : (t : List ℕ) (n : ℕ) (l : List Attribute) → All (FairAttribute t n) l
    → All (λ (a : Attribute). a.number < n) l
each-before t n l h = all_map (λ (a : Attribute) k. k.before) l h

base-attributes : (P : Attribute → Type 0) (o : Option Def) → AnyIs (λ (d : Def). All P (attributes_of d)) o
    → All P (attributes_of (or_no_def o))
base-attributes P none h = tt
base-attributes P (some d) h = h

unit-sort : D.unit ≡ domain → ⊥
unit-sort e = let z : ◌≡◌ {A = ℕ} 0 1 = cc in omega arith

module _ (t : List ℕ) (s : State) (h : FairState t s) (x : Sort) (n : Name) (p : List (List ℕ)) (o : Option Def)
    (k : AnyIs (FairDef t (length (records s))) o) where
  abbrev new : Def
  new = new_class s x n p o

  base-fair : All (FairAttribute t (length (records s))) (attributes_of (or_no_def o))
  base-fair = base-attributes (FairAttribute t (length (records s))) o (any-map (λ (d : Def) f. f.attributes) o k)

  new-head : (m : ℕ) → length (records s) < m → InText t n → (x ≡ domain → ⊥) → FairDef t m new
  unfolding new_class
  new-head m l i z = record {
    type = λ e. absurd (z e);
    before = l;
    attributes =
        all_map (attribute-grows t (length (records s)) m (omega arith)) (attributes_of (or_no_def o)) base-fair;
    bare = λ e. absurd (z e);
    name = i;
    around = topic-text t s h;
    bases = base-links t (length (records s)) o k;
  }

  new-class : (m : ℕ) → length (records s) < m → InText t n → (st : Bool) → x ≡ class_sort st → FairOpen t m new
  unfolding new_class
  new-class m l i st e = record {
    fair = new-head m l i (λ z. class-sort st (sym e ∙ z));
    structure = st;
    sort = e;
    apart = apart-start new refl (each-before t (length (records s)) (attributes_of (or_no_def o)) base-fair);
  }

  class-names : AnyIs (NamesAll (known s.decls)) o → NamesAll (known s.decls) new
  unfolding new_class
  class-names g = (
    tt,
    base-attributes (λ (a : Attribute). NamesDeclared (known s.decls) a.use_of a.mandatory) o
        (any-map (λ (d : Def) f. f.1) o g),
  )

  class-behind : BehindAll (known s.decls) new
  unfolding new_class
  class-behind = now-behind t s h new refl

  module _ (c : is_found s.open_class ≡ false) (i : InText t n) (g : AnyIs (NamesAll (known s.decls)) o) where
    fair-class : (st : Bool) → x ≡ class_sort st → FairState t (opened s new)
    fair-class st e =
        let l = opened-more s c new in
        opened-fair t s h new (omega arith) (new-class _ l i st e) (class-names g) class-behind

    fair-unit : (x ≡ domain → ⊥) → FairState t (declare s (def new))
    fair-unit z =
        let l = declared-more s c new in
        declare-fair t s h new (omega arith) (new-head _ l i z) (class-names g) class-behind

-- ---- domains
module _ (s : State) (n : Name) (p : List (List ℕ)) (b : Option Reference) (w : Written) (o g : Option Def)
    (h : All Unbroken (domain_to_16 s n p b w o g)) where
  domain-element : (element_rule w.type).broken ≡ false
  unfolding domain_to_16
  domain-element = h.1.0

  -- 10 and 11 of the base
  domain-found : (is_given b && not (is_found o)) ≡ false
  unfolding domain_to_16
  domain-found = h.1.1.0

  domain-sort : (is_found o && not (is_sort domain (or_no_def o).sort)) ≡ false
  unfolding domain_to_16
  domain-sort = h.1.1.1.1.0

  domain-types : All Unbroken (type_rules (is_found o) w.place w.type)
  unfolding domain_to_16
  domain-types = all_left Unbroken (type_rules (is_found o) w.place w.type) _ h.1.1.1.1.1.1.1.1

pub found-there : (b o : Bool) → b ≡ true → (b && not o) ≡ false → o ≡ true
found-there true o e h = not-fails h
found-there false o e h = never e

base-type : (t : List ℕ) (n : ℕ) (o : Option Def) → AnyIs (FairDef t n) o
    → (is_found o && not (is_sort domain (or_no_def o).sort)) ≡ false → is_found o ≡ true → Fair t (or_no_def o).type
base-type t n none k q f = never f
base-type t n (some d) k q f = domain-fair t n d k (not-fails q)

base-of : (t : List ℕ) (n : ℕ) (o : Option Def) → AnyIs (FairDef t n) o
    → (is_found o && not (is_sort domain (or_no_def o).sort)) ≡ false → Base t (or_no_def o).type
base-of t n none k q = tt
base-of t n (some d) k q = fair-base t d.type (base-type t n (some d) k q refl)

domain-type : (t : List ℕ) (found : Bool) (p : ℕ) (x : Option WrittenType) (target : Option Def) (y : Ty)
    → AnyIs (FairType t) x → Base t y
    → is_naming x ≡ false → (element_rule x).broken ≡ false → All Unbroken (type_rules found p x)
    → (x ≡ none → Fair t y) → Fair t (domain_type x target y)
domain-type t found p none z y h k r e q g = g refl
domain-type t found p (some x) z y h k r e q g = meant-fair t found p x z y h k r e q

-- ---- the unit of a type is declared: that of what is written, to which its reference leads, or the base's
merged-unit : (K : List Def) (b : Ty) (e : Enum) → UnitIn K (merged_into b e)
merged-unit K (text m n) e = tt
merged-unit K (numeric r u) e = tt
merged-unit K (enum b) e = tt
merged-unit K structure e = tt

target-unit : (K : List Def) (r : Option Range) (target : Option Def) → AnyIs (λ (d : Def). In d K) target
    → UnitIn K (numeric r (measure_in target))
target-unit K r none i = tt
target-unit K r (some d) i = (d, i, refl)

meant-unit : (K : List Def) (x : WrittenType) (target : Option Def) (b : Ty) → AnyIs (λ (d : Def). In d K) target
    → UnitIn K (meant x target b)
meant-unit K (G.text m n) g b i = tt
meant-unit K (G.numeric q r) g b i = target-unit K (range_in q) g i
meant-unit K (G.enum e) g b i = merged-unit K b e
meant-unit K (G.named r) g b i = tt

base-unit : (K : List Def) (o : Option Def) → AnyIs (NamesAll K) o → UnitIn K (or_no_def o).type
base-unit K none h = tt
base-unit K (some d) h = h.0

domain-unit : (K : List Def) (x : Option WrittenType) (target o : Option Def) → AnyIs (λ (d : Def). In d K) target
    → AnyIs (NamesAll K) o → UnitIn K (domain_type x target (or_no_def o).type)
domain-unit K none g o i h = base-unit K o h
domain-unit K (some x) g o i h = meant-unit K x g (or_no_def o).type i

module _ (t : List ℕ) (s : State) (h : FairState t s) (n : Name) (p : List (List ℕ)) (b : Option Reference)
    (w : Written) (o g : Option Def) (k : AnyIs (FairDef t (length (records s))) o) where
  domain-early : All Unbroken (domain_rules s n p b w o g) → All Unbroken (domain_to_16 s n p b w o g)
  unfolding domain_rules
  domain-early u = all_left Unbroken (domain_to_16 s n p b w o g) _ u

  new-domain : (m : ℕ) → length (records s) < m → InText t n → FairWritten t (is_given b) w
      → is_naming w.type ≡ false → All Unbroken (domain_to_16 s n p b w o g) → FairDef t m (new_domain s n p w o g)
  unfolding new_domain
  new-domain m l i f r u =
      let e = domain-sort s n p b w o g u in
      let z : w.type ≡ none → Fair t (or_no_def o).type = λ z. base-type t (length (records s)) o k e
      (found-there (is_given b) (is_found o) (f.alone z) (domain-found s n p b w o g u)) in
      let y = domain-type t (is_found o) w.place w.type g (or_no_def o).type f.type
      (base-of t (length (records s)) o k e) r (domain-element s n p b w o g u) (domain-types s n p b w o g u) z in
      record {
        type = λ z. y;
        before = l;
        attributes = tt;
        bare = λ z. refl;
        name = i;
        around = topic-text t s h;
        bases = base-links t (length (records s)) o k;
      }

  domain-names : AnyIs (λ (d : Def). In d (known s.decls)) g → AnyIs (NamesAll (known s.decls)) o
      → NamesAll (known s.decls) (new_domain s n p w o g)
  unfolding new_domain
  domain-names i j = (domain-unit (known s.decls) w.type g o i j, tt)

  domain-number : (new_domain s n p w o g).number ≡ length (records s)
  unfolding new_domain
  domain-number = refl

  fair-domain : is_found s.open_class ≡ false → InText t n → FairWritten t (is_given b) w → is_naming w.type ≡ false
      → AnyIs (λ (d : Def). In d (known s.decls)) g → AnyIs (NamesAll (known s.decls)) o
      → All Unbroken (domain_rules s n p b w o g) → FairState t (declare s (def (new_domain s n p w o g)))
  fair-domain c i f r z j u =
      let e = new_domain s n p w o g in
      let l = declared-more s c e in
      declare-fair t s h e (omega arith) (new-domain _ l i f r (domain-early u)) (domain-names z j)
      (now-behind t s h e domain-number)

-- ---- attributes
module _ (s : State) (c : Def) (n : Name) (p : List (List ℕ)) (w : Written) (o : Option Attribute) (g : Option Def)
    (h : All Unbroken (attribute_to_16 s c n p w o g)) where
  attribute-element : (element_rule w.type).broken ≡ false
  unfolding attribute_to_16
  attribute-element = h.1.1.0

  -- 10 of what is EXTENDED, and of what is named
  attribute-found : (has_extended p && not (is_found o)) ≡ false
  unfolding attribute_to_16
  attribute-found = h.1.1.1.0

  attribute-named : (is_given (reference_in w.type) && not (is_found g)) ≡ false
  unfolding attribute_to_16
  attribute-named = h.1.1.1.1.0

  -- 11 of what is named, and 13 of an ABSTRACT domain
  attribute-sort : (is_found g && not (may_stand_in w.type (or_no_def g).sort)) ≡ false
  unfolding attribute_to_16
  attribute-sort = h.1.1.1.1.1.0

  attribute-abstract : (is_domain (new_attribute s n p w o g).use_of && (or_no_def g).abstract) ≡ false
  unfolding attribute_to_16
  attribute-abstract = (or-fails {x = is_numeric (ty_of (new_attribute s n p w o g).use_of)}
      (or-fails {x = has_twice p} h.1.1.1.1.1.1.1.0).1).1

  attribute-types : All Unbroken (type_rules (is_found o) w.place w.type)
  unfolding attribute_to_16
  attribute-types = all_left Unbroken (type_rules (is_found o) w.place w.type) _ h.1.1.1.1.1.1.1.1

base-use : (t : List ℕ) (n : ℕ) (o : Option Attribute) → AnyIs (FairAttribute t n) o → is_found o ≡ true
    → FairUse t (or_no_attribute o).use_of
base-use t n none k f = never f
base-use t n (some a) k f = k.used

base-ty : (t : List ℕ) (n : ℕ) (o : Option Attribute) → AnyIs (FairAttribute t n) o
    → Base t (ty_of (or_no_attribute o).use_of)
base-ty t n none k = tt
base-ty t n (some a) k = use-base t a.use_of k.used

-- what is named, or what types the base, is declared and makes the attribute mandatory
or-holds : (d x m : Bool) → (d || m) ≡ m → (d || (x || m)) ≡ (x || m)
or-holds true true m h = refl
or-holds true false m h = h
or-holds false x m h = refl

named-holds : (d w m : Bool) → (d || (w || (d || m))) ≡ (w || (d || m))
named-holds true true m = refl
named-holds true false m = refl
named-holds false w m = refl

declared-holds : (K : List Def) (x m : Bool) (l : Link) (bs : List Link) (d : Def)
    → Linked K l bs m d → Linked K l bs (x || m) d
declared-holds K x m l bs d h = record {
  declared = h.declared;
  link = h.link;
  bases = h.bases;
  holds = or-holds d.mandatory x m h.holds;
}

names-hold : (K : List Def) (x m : Bool) (u : Use) → NamesDeclared K u m → NamesDeclared K u (x || m)
names-hold K x m (inline y) h = h
names-hold K x m (of_domain l bs) (d, h, e, a) = (d, declared-holds K x m l bs d h, e, a)
names-hold K x m (of_structure l bs) (d, h, e) = (d, declared-holds K x m l bs d h, e)

naming-names : (K : List Def) (d : Def) (w m : Bool) → In d K → may_type d.sort ≡ true
    → (is_domain (naming d) && d.abstract) ≡ false → NamesDeclared K (naming d) (w || (d.mandatory || m))
naming-names K d w m i s a = go (is_sort domain d.sort) refl s a
  where
    there : Linked K (link_of d) d.bases (w || (d.mandatory || m)) d
    there = record { declared = i; link = refl; bases = refl; holds = named-holds d.mandatory w m }

    go : (c : Bool) → is_sort domain d.sort ≡ c → (c || is_sort D.struct d.sort) ≡ true →
        (is_domain (cond c (of_domain (link_of d) d.bases) (of_structure (link_of d) d.bases)) && d.abstract) ≡ false
        → NamesDeclared K (cond c (of_domain (link_of d) d.bases) (of_structure (link_of d) d.bases))
        (w || (d.mandatory || m))
    go true e y z = (d, there, e, z)
    go false e y z = (d, there, y)

target-names : (K : List Def) (target : Option Def) (w m : Bool) → AnyIs (λ (d : Def). In d K) target
    → is_found target ≡ true → (is_found target && not (may_type (or_no_def target).sort)) ≡ false
    → (is_domain (naming (or_no_def target)) && (or_no_def target).abstract) ≡ false
    → NamesDeclared K (naming (or_no_def target)) (w || ((or_no_def target).mandatory || m))
target-names K none w m i f s a = never f
target-names K (some d) w m i f s a = naming-names K d w m i (not-fails s) a

use-names : (K : List Def) (x : Option WrittenType) (target : Option Def) (b : Use) (w m : Bool) → NamesDeclared K b m
    → AnyIs (λ (d : Def). In d K) target
    → (is_given (reference_in x) && not (is_found target)) ≡ false
    → (is_found target && not (may_stand_in x (or_no_def target).sort)) ≡ false
    → (is_domain (attribute_use x target b) && (or_no_def target).abstract) ≡ false
    → NamesDeclared K (attribute_use x target b) (w || ((or_no_def target).mandatory || m))
use-names K none g b w m h i f s a =
    names-hold K w ((or_no_def g).mandatory || m) b (names-hold K (or_no_def g).mandatory m b h)
use-names K (some (G.text k n)) g b w m h i f s a = tt
use-names K (some (G.numeric q r)) g b w m h i f s a = meant-unit K (G.numeric q r) g (ty_of b) i
use-names K (some (G.enum e)) g b w m h i f s a = meant-unit K (G.enum e) g (ty_of b) i
use-names K (some (G.named r)) g b w m h i f s a = target-names K g w m i (not-fails f) s a

attribute-use : (t : List ℕ) (n : ℕ) (target : Option Def) → AnyIs (FairDef t n) target
    → (found : Bool) (p : ℕ) (x : Option WrittenType) (b : Use) → AnyIs (FairType t) x → Base t (ty_of b)
    → (element_rule x).broken ≡ false → All Unbroken (type_rules found p x)
    → (x ≡ none → FairUse t b) → (is_given (reference_in x) && not (is_found target)) ≡ false
    → FairUse t (attribute_use x target b)
attribute-use t n g h found p none b f k e q z r = z refl
attribute-use t n g h found p (some x) b f k e q z r = use-fair t n g found p x b f k e q h (λ i. not-fails (rw i at r))

module _ (t : List ℕ) (s : State) (c : Def) (n : Name) (p : List (List ℕ)) (w : Written)
    (o : Option Attribute) (h : FairState t s) where
  abbrev g : Option Def
  g = resolved s (reference_in w.type)

  abbrev Ks : List Def
  Ks = known s.decls

  attribute-early : All Unbroken (attribute_rules s c n p w o g) → All Unbroken (attribute_to_16 s c n p w o g)
  unfolding attribute_rules
  attribute-early u = all_left Unbroken (attribute_to_16 s c n p w o g) _ u

  new-attribute : FairWritten t (has_extended p) w → AnyIs (FairAttribute t (length (records s))) o
      → All Unbroken (attribute_to_16 s c n p w o g) → FairUse t (new_attribute s n p w o g).use_of
  unfolding new_attribute
  new-attribute f k u =
      let b : w.type ≡ none → FairUse t (or_no_attribute o).use_of = λ z. base-use t (length (records s)) o k
      (found-there (has_extended p) (is_found o) (f.alone z) (attribute-found s c n p w o g u)) in
      attribute-use t (length (records s)) g
      (any-resolved (FairDef t (length (records s))) s h.defs (reference_in w.type)) (is_found o) w.place
      w.type (or_no_attribute o).use_of f.type
      (base-ty t (length (records s)) o k) (attribute-element s c n p w o g u) (attribute-types s c n p w o g u) b
      (attribute-named s c n p w o g u)

  base-names : AnyIs (λ (a : Attribute). NamesDeclared Ks a.use_of a.mandatory) o
      → NamesDeclared Ks (or_no_attribute o).use_of (or_no_attribute o).mandatory
  base-names k = go o k
    where
      go : (x : Option Attribute) → AnyIs (λ (a : Attribute). NamesDeclared Ks a.use_of a.mandatory) x
          → NamesDeclared Ks (or_no_attribute x).use_of (or_no_attribute x).mandatory
      go none i = tt
      go (some a) i = i

  attribute-names : AnyIs (λ (a : Attribute). NamesDeclared Ks a.use_of a.mandatory) o
      → All Unbroken (attribute_to_16 s c n p w o g)
      → NamesDeclared Ks (new_attribute s n p w o g).use_of (new_attribute s n p w o g).mandatory
  unfolding new_attribute
  attribute-names k u =
      use-names Ks w.type g (or_no_attribute o).use_of w.mandatory (or_no_attribute o).mandatory (base-names k)
      (any-resolved (λ (d : Def). In d Ks) s (all_in_lem Ks) (reference_in w.type))
      (attribute-named s c n p w o g u) (attribute-sort s c n p w o g u) (attribute-abstract s c n p w o g u)

  attribute-number : (new_attribute s n p w o g).number ≡ length (records s)
  unfolding new_attribute
  attribute-number = refl

  attribute-name : InText t n → InText t (new_attribute s n p w o g).name
  unfolding new_attribute
  attribute-name i = i

-- one more attribute
more-fair : (t : List ℕ) (k m : ℕ) → k < m → (c : Def) → FairOpen t k c → (a : Attribute) → FairUse t a.use_of
    → a.number ≡ k → InText t a.name → FairOpen t m (with_attribute c a)
unfolding with_attribute
more-fair t k m l c h a u e i =
    let x = h.fair.before in
    let g = all_map (attribute-grows t k m (omega arith)) (attributes_of c) h.fair.attributes in
    let P = FairAttribute t m in
    record {
      fair = record {
        type = h.fair.type;
        before = omega arith;
        attributes = all_append P (c.own ++ (a ∷ [])) c.inherited (all_append P c.own (a ∷ [])
            (all_left P c.own c.inherited g) (record { used = u; before = omega arith; name = i }, tt))
            (all_right P c.own c.inherited g);
        bare = λ z. absurd (class-sort h.structure (sym h.sort ∙ z));
        name = h.fair.name;
        around = h.fair.around;
        bases = h.fair.bases;
      };
      structure = h.structure;
      sort = h.sort;
      apart = apart_more c a h.apart (omega arith);
    }

more-names : (K : List Def) (c : Def) (a : Attribute) → NamesAll K c → NamesDeclared K a.use_of a.mandatory
    → NamesAll K (with_attribute c a)
unfolding with_attribute
more-names K c a h k =
    let P : Attribute → Type 0 = λ b. NamesDeclared K b.use_of b.mandatory in (
      h.0,
      all_append P (c.own ++ (a ∷ [])) c.inherited
          (all_append P c.own (a ∷ []) (all_left P c.own c.inherited h.1) (k, tt))
          (all_right P c.own c.inherited h.1),
    )

more-behind : (K : List Def) (c : Def) (a : Attribute) → BehindAll K c → BehindAll K (with_attribute c a)
unfolding with_attribute
more-behind K c a h = h

module _ (t : List ℕ) (s : State) (n : Name) (p : List (List ℕ)) (w : Written) (h : FairState t s) (i : InText t n)
    (f : FairWritten t (has_extended p) w) where
  fair-attribute : (c : Def) → s.open_class ≡ some c → All Unbroken (member_rules s n p w (some c))
      → FairState t (after_member s n p w (some c))
  fair-attribute c e u =
      let k : ℕ = length (records s) in
      let y = any-is (FairOpen t k) s.open_class c h.open_class e in
      let z = any-is (NamesAll (known s.decls)) s.open_class c h.open_names e in
      let P : Attribute → Type 0 = λ b. NamesDeclared (known s.decls) b.use_of b.mandatory in
      let o = inherited_as c n in
      let a = new_attribute s n p w o (resolved s (reference_in w.type)) in
      let j = any-attribute (FairAttribute t k) n.bytes c.inherited
      (all_right (FairAttribute t k) c.own c.inherited y.fair.attributes) in
      let g = any-attribute P n.bytes c.inherited (all_right P c.own c.inherited z.1) in
      let l = attribute-more s c e y.structure a y.sort in
      let v = attribute-early t s c n p w o h u in
      opened-fair t s h (with_attribute c a) (omega arith)
      (more-fair t k _ l c y a (new-attribute t s c n p w o h f j v) (attribute-number t s c n p w o h)
      (attribute-name t s c n p w o h i))
      (more-names (known s.decls) c a z (attribute-names t s c n p w o h g v))
      (more-behind (known s.decls) c a (any-is (BehindAll (known s.decls)) s.open_class c h.open_behind e))

  fair-member : (o : Option Def) → s.open_class ≡ o → All Unbroken (member_rules s n p w o)
      → FairState t (after_member s n p w o)
  fair-member none e u = h
  fair-member (some c) e u = fair-attribute c e u

-- ---- END
fair-close : (t : List ℕ) (s : State) → FairState t s → (o : Option Def) → s.open_class ≡ o → (m : Option Def)
    → s.topic ≡ m → FairState t (after_close s o m)
fair-close t s h (some c) e m z =
    let y = any-is (FairOpen t (length (records s))) s.open_class c h.open_class e in
    let l = close_more s c e in
    declare-fair t s h c l (def-grows t (length (records s)) _ l c y.fair)
    (any-is (NamesAll (known s.decls)) s.open_class c h.open_names e)
    (any-is (BehindAll (known s.decls)) s.open_class c h.open_behind e)
fair-close t s h none e (some m) z =
    end-fair t s h m.name (any-is (λ (d : Def). InText t d.name) s.topic m h.topic z) (ap is_found e)
fair-close t s h none e none z = h

-- ---- every unit
next-fair : (t : List ℕ) (s : State) (u : U.Unit) → FairUnit t u → MayStand s u → FairState t s
    → All Unbroken (rules_of s u) → FairState t (next_state s u)
next-fair t s (U.header v) f m h u = h
next-fair t s (U.model n q) f m h u = record {
  defs = tt;
  open_class = tt;
  names = tt;
  open_names = tt;
  decls = ((f.0, refl), tt);
  topic = tt;
  rising = tt;
  open_behind = tt;
}
next-fair t s (U.topic n) f m h u = fair-topic t s n m f h
next-fair t s (U.class c n p b) f m h u =
    let (k, e) = f.2 in
    fair-class t s h c n p (resolved s b) (any-resolved (FairDef t (length (records s))) s h.defs b) m f.0
    (any-resolved (NamesAll (known s.decls)) s h.names b) k e
next-fair t s (U.domain n p b w) f m h u = fair-domain t s h n p b w (resolved s b) (resolved s (reference_in w.type))
    (any-resolved (FairDef t (length (records s))) s h.defs b) m f.0 f.2 f.3
    (any-resolved (λ (d : Def). In d (known s.decls)) s (all_in_lem (known s.decls)) (reference_in w.type))
    (any-resolved (NamesAll (known s.decls)) s h.names b) u
next-fair t s (U.attribute n p w) f m h u = fair-member t s n p w h f.0 f.1 s.open_class refl u
next-fair t s (U.unit n p b) f m h u =
    fair-unit t s h D.unit n p (resolved s b) (any-resolved (FairDef t (length (records s))) s h.defs b) m f.0
    (any-resolved (NamesAll (known s.decls)) s h.names b) unit-sort
next-fair t s (U.close n) f m h u = fair-close t s h s.open_class refl s.topic refl

pub judge-fair : (t : List ℕ) (s x : State) (u : U.Unit) → FairUnit t u → MayStand s u → FairState t s
    → judge s u ≡ ok x → FairState t x
unfolding judge
judge-fair t s x u f m h q =
    let z = first-broken-ok (rules_of s u) (next_state s u) x q in
    subst (FairState t) z.next (next-fair t s u f m h z.unbroken)
