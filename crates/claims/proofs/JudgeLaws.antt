-- A unit that is not refused leads from a sound state to a sound one.
use mathlib.Core.Path.{◌≡◌, refl, sym, ap, ◌∙◌, subst}
use mathlib.Core.Bool.{Bool, true, false, cond, not, ◌&&◌}
use mathlib.Core.Option.{Option, none, some}
use mathlib.Core.List.{List, [], ◌∷◌, ◌++◌}
use Prim.Native.Nat.{ℕ, ◌≤◌, ◌<◌}
use native.Mathlib.Omega.{arith}
use lib.ListN.{length, length-append}
use lib.Dec.{eqb}
use borrow.Author.Tests.{eq-eqb}
use Rattle.rules.specs.Names.{Name}
use Rattle.rules.specs.Enumerations.{Enum}
use Rattle.rules.specs.Grammar as G
use Rattle.rules.specs.Grammar.{Reference, WrittenType, Written}
use Rattle.rules.specs.Units as U
use Rattle.rules.specs.Types as Y
use Rattle.rules.specs.Types.{Ty, kind_of}
use Rattle.rules.specs.Declarations as D
use Rattle.rules.specs.Declarations.{Link, Use, inline, of_domain, of_structure, ty_of, Attribute, Sort, domain, unit}
use Rattle.rules.specs.Declarations.{is_sort, Def, link_of, attributes_of, attribute_at, is_found, def, State, known}
use Rattle.rules.specs.Book.{decls_records, head_records, end_records, records}
use Rattle.rules.specs.Judge as J
use Rattle.rules.specs.Judge.{or_no_def, resolved, meant, merged_into, domain_type, attribute_use, reference_in}
use Rattle.rules.specs.Judge.{is_naming}
use Rattle.rules.specs.Judge.{type_rules, declare, opened, in_topic, new_topic, new_class, new_domain, domain_to_16}
use Rattle.rules.specs.Judge.{domain_rules, base_of_attribute, new_attribute, with_attribute, attribute_to_16}
use Rattle.rules.specs.Judge.{attribute_from_17}
use Rattle.rules.specs.Judge.{attribute_rules, inherited_as, member_rules, after_member, after_close, rules_of}
use Rattle.rules.specs.Judge.{next_state}
use Rattle.rules.specs.Judge.{descends, extends_rules, class_rules}
use Rattle.rules.specs.All.{All, AnyIs, Unbroken}
use Rattle.rules.proofs.AllLaws.{all_map, all_append, all_left, all_right, any-is, any-attribute, any-resolved}
use Rattle.rules.proofs.GrowLaws.{known-append, decls-count, attributes-count, closed-records, open-records, head-some}
use Rattle.rules.proofs.GrowLaws.{with-sort}
use Rattle.rules.proofs.NumberLaws.{in_order_lem}
use Rattle.rules.proofs.Tests.{never, not-both, or_l, or-fails, not-fails}
use Rattle.claims.specs.Readings.{proper, Inside}
use Rattle.claims.proofs.TypeLaws.{inside, structure-none}
use Rattle.claims.proofs.StateLaws.{GoodUse, Over, GoodOwn, Under, GoodDef, KnownDef, GoodOpen, Sound}
use Rattle.claims.proofs.StateLaws.{becomes-known, grow, good-naming, GoodAttribute, OverBase}
use Rattle.claims.proofs.UnitLaws.{Moves, is_class}

-- ---- what a declaration adds
abbrev pub is_open : State → Bool
is_open s = is_found s.open_class

abbrev Below : ℕ → Def → Type 0
Below n d = d.number < n

module _ (s : State) (h : Sound s) where
  abbrev K : List Def
  K = known s.decls

  -- a topic, domain or, at its END, a class becomes known
  declare-sound : (e : Def) → GoodDef K e → All (Below e.number) K
      → length (records s) ≤ length (decls_records (s.decls ++ (def e ∷ [])))
      → e.number < length (decls_records (s.decls ++ (def e ∷ []))) → Sound (declare s (def e))
  declare-sound e g b l k =
      let r = length-append (decls_records (s.decls ++ (def e ∷ []))) [] in
      rw known-append (grow K (e ∷ []) (length (records s)) _ none h.defs h.before (omega arith)
      (becomes-known K e b g, tt) (omega arith, tt) tt)

  new-sound : is_open s ≡ false → (e : Def) → e.number ≡ length (records s) → GoodDef K e → Sound (declare s (def e))
  new-sound o e n g =
      let a = decls-count s.decls (def e) in
      let b = closed-records s o in
      let c = length-append (head_records e.sort e) (end_records e.sort) in
      let d = head-some e.sort e in
      declare-sound e g (all_map (λ x q. omega arith) K h.before) (omega arith) (omega arith)

  end-sound : is_open s ≡ false → (n : Name) → Sound (in_topic (declare s (D.end_topic n)) none)
  end-sound o n =
      let a = decls-count s.decls (D.end_topic n) in
      let b = closed-records s o in
      let c = length-append (decls_records (s.decls ++ (D.end_topic n ∷ []))) [] in
      rw known-append (grow K [] (length (records s)) _ none h.defs h.before (omega arith) tt tt tt)

  -- a class is being read
  opened-sound : (c : Def) → GoodDef K c → is_sort domain c.sort ≡ false → All (Below c.number) K →
      length (records s) ≤ length (records (opened s c))
      → c.number < length (records (opened s c)) → Sound (opened s c)
  opened-sound c g z b l k = record {
    defs = h.defs;
    before = all_map (λ x q. omega arith) K h.before;
    opened = record { good = g; sort = z; before = k; last = b };
  }

-- ---- 14 makes a written type proper
merged-proper : (b : Ty) (e : Enum) → proper (merged_into b e) ≡ true
merged-proper (Y.text m n) e = refl
merged-proper (Y.numeric r u) e = refl
merged-proper (Y.enum f) e = refl
merged-proper Y.structure e = refl

meant-proper : (based : Bool) (p : ℕ) (x : WrittenType) (g : Option Def) (b : Ty)
    → All Unbroken (type_rules based p (some x)) → proper (meant x g b) ≡ true
meant-proper based p (G.text m n) g b h = refl
meant-proper based p (G.numeric none r) g b h = refl
meant-proper based p (G.numeric (some q) r) g b h = in_order_lem q.first.bytes q.second.bytes h.0
meant-proper based p (G.enum e) g b h = merged-proper b e
meant-proper based p (G.named r) g b h = refl

pub type-proper : (based : Bool) (p : ℕ) (x : Option WrittenType) (g : Option Def) (b : Ty) → proper b ≡ true
    → All Unbroken (type_rules based p x)
    → proper (domain_type x g b) ≡ true
type-proper based p none g b q h = q
type-proper based p (some x) g b q h = meant-proper based p x g b h

-- ---- domains
module _ (s : State) (n : Name) (p : List (List ℕ)) (b : Option Reference) (w : Written) (g : Option Def) where
  pub domain-types : (o : Option Def) → All Unbroken (domain_to_16 s n p b w o g)
      → All Unbroken (type_rules (is_found o) w.place w.type)
  unfolding domain_to_16
  domain-types o h = all_left Unbroken (type_rules (is_found o) w.place w.type) _ h.1.1.1.1.1.1.1.1

  pub domain-kind : (d : Def) → All Unbroken (domain_to_16 s n p b w (some d) g)
      → eqb (kind_of (domain_type w.type g d.type)) (kind_of d.type) ≡ true
  unfolding domain_to_16 new_domain
  domain-kind d h =
      not-fails (all_right Unbroken (type_rules true w.place w.type) _ h.1.1.1.1.1.1.1.1).0

  domain-sort : (d : Def) → All Unbroken (domain_to_16 s n p b w (some d) g) → is_sort domain d.sort ≡ true
  unfolding domain_to_16
  domain-sort d h = not-fails h.1.1.1.1.0

  -- 17 and 22 are kept
  domain-inside : (d : Def) → All Unbroken (domain_rules s n p b w (some d) g)
      → Inside (domain_type w.type g d.type) d.type
  unfolding domain_rules
  domain-inside d h =
      let k = all_right Unbroken (domain_to_16 s n p b w (some d) g) _ h in
      inside (domain_type w.type g d.type) d.type (not-fails k.0) (not-fails k.1.0)

  domain-early : (o : Option Def) → All Unbroken (domain_rules s n p b w o g)
      → All Unbroken (domain_to_16 s n p b w o g)
  unfolding domain_rules
  domain-early o h = all_left Unbroken (domain_to_16 s n p b w o g) _ h

  new-domain : (o : Option Def) → AnyIs (KnownDef (known s.decls)) o → All Unbroken (domain_rules s n p b w o g) →
      GoodDef (known s.decls) (new_domain s n p w o g)
  unfolding new_domain
  new-domain none k q = record {
    proper-type = type-proper false w.place w.type g Y.structure refl (domain-types none (domain-early none q));
    chained = tt;
    sorted = tt;
    bare = λ z. refl;
    inherits = refl;
    own = tt;
    uses = tt;
  }
  new-domain (some d) k q = record {
    proper-type = type-proper true w.place w.type g d.type k.good.proper-type
        (domain-types (some d) (domain-early (some d) q));
    chained = (domain-inside d q, (d, k.again, refl, refl), k.good.chained);
    sorted = subst (AnyIs (Under domain)) (sym k.again) (domain-sort d (domain-early (some d) q));
    bare = λ z. refl;
    inherits = sym (ap (λ (o : Option Def). attributes_of (or_no_def o)) k.again
        ∙ k.good.bare (domain-sort d (domain-early (some d) q)));
    own = tt;
    uses = tt;
  }

  domain-number : (o : Option Def) → (new_domain s n p w o g).number ≡ length (records s)
  unfolding new_domain
  domain-number o = refl

  sound-domain : (o : Option Def) → Sound s → is_open s ≡ false → AnyIs (KnownDef (known s.decls)) o
      → All Unbroken (domain_rules s n p b w o g)
      → Sound (declare s (def (new_domain s n p w o g)))
  sound-domain o h c k q = new-sound s h c (new_domain s n p w o g) (domain-number o) (new-domain o k q)

-- ---- classes, structures and units
module _ (s : State) (x : Sort) (n : Name) (p : List (List ℕ)) (b : Option Reference) where
  -- 11 is kept
  class-under : (d : Def) → All Unbroken (class_rules s x n p b (some d)) → Under x d
  unfolding class_rules extends_rules
  class-under d q = not-fails q.1.1.0

  new-class : is_sort domain x ≡ false → (o : Option Def) → AnyIs (KnownDef (known s.decls)) o
      → All Unbroken (class_rules s x n p b o) → GoodDef (known s.decls) (new_class s x n p o)
  unfolding new_class
  new-class z none k q = record {
    proper-type = refl;
    chained = tt;
    sorted = tt;
    bare = λ y. not-both y z;
    inherits = refl;
    own = tt;
    uses = tt;
  }
  new-class z (some d) k q = record {
    proper-type = refl;
    chained = (λ v. structure-none v, (d, k.again, refl, refl), k.good.chained);
    sorted = subst (AnyIs (Under x)) (sym k.again) (class-under d q);
    bare = λ y. not-both y z;
    inherits = ap (λ (o : Option Def). attributes_of (or_no_def o)) (sym k.again);
    own = tt;
    uses = k.good.uses;
  }

  class-sort : is_sort domain x ≡ false → (o : Option Def) → is_sort domain (new_class s x n p o).sort ≡ false
  unfolding new_class
  class-sort z o = z

  class-number : (o : Option Def) → (new_class s x n p o).number ≡ length (records s)
  unfolding new_class
  class-number o = refl

  sound-class : is_sort domain x ≡ false → (o : Option Def) → Sound s → is_open s ≡ false
      → AnyIs (KnownDef (known s.decls)) o → All Unbroken (class_rules s x n p b o)
      → Sound (opened s (new_class s x n p o))
  sound-class z o h c k q =
      let e = new_class s x n p o in
      let m = class-number o in
      let i = closed-records s c in
      let j = length-append (decls_records s.decls) (head_records e.sort e) in
      let f = head-some e.sort e in
      opened-sound s h e (new-class z o k q) (class-sort z o)
      (all_map (λ d y. omega arith) (known s.decls) h.before) (omega arith) (omega arith)

  sound-unit : is_sort domain x ≡ false → (o : Option Def) → Sound s → is_open s ≡ false
      → AnyIs (KnownDef (known s.decls)) o → All Unbroken (class_rules s x n p b o)
      → Sound (declare s (def (new_class s x n p o)))
  sound-unit z o h c k q = new-sound s h c (new_class s x n p o) (class-number o) (new-class z o k q)

-- ---- attributes
pub good-use : (K : List Def) (based : Bool) (p : ℕ) (x : Option WrittenType) (g : Option Def) (b : Use)
    → AnyIs (KnownDef K) g → GoodUse K b
    → All Unbroken (type_rules based p x) → GoodUse K (attribute_use x g b)
good-use K based p none g b h z k = z
good-use K based p (some (G.text m n)) g b h z k = refl
good-use K based p (some (G.numeric q r)) g b h z k = meant-proper based p (G.numeric q r) g (ty_of b) k
good-use K based p (some (G.enum e)) g b h z k = merged-proper (ty_of b) e
good-use K based p (some (G.named r)) none b h z k = tt
good-use K based p (some (G.named r)) (some d) b h z k = good-naming K d h

over-self : (b : Use) → Inside (ty_of b) (ty_of b) → Over b b
over-self (inline t) f = f
over-self (of_domain l bs) f = or_l _ (eq-eqb l.number l.number refl)
over-self (of_structure l bs) f = tt

over-naming : (t : Bool) (l : Link) (bs : List Link) (b : Use)
    → descends (cond t (of_domain l bs) (of_structure l bs)) b ≡ true
    → Over (cond t (of_domain l bs) (of_structure l bs)) b
over-naming true l bs b h = h
over-naming false l bs b h = tt

alike : (x y : Bool) → (y && not x) ≡ false → (x && not y) ≡ false → x ≡ y
alike true true p q = refl
alike true false p q = q
alike false true p q = sym p
alike false false p q = refl

-- 17, 18 and 22 are kept
late-over : (p : ℕ) (x : Option WrittenType) (g : Option Def) (b : Use) →
    All Unbroken (attribute_from_17 p true (is_naming x) (attribute_use x g b) b) → Over (attribute_use x g b) b
late-over p none g b k = over-self b (inside (ty_of b) (ty_of b) (not-fails k.0) (not-fails k.1.1.0))
late-over p (some (G.text m n)) g b k =
    inside (ty_of (attribute_use (some (G.text m n)) g b)) (ty_of b) (not-fails k.0) (not-fails k.1.1.0)
late-over p (some (G.numeric q r)) g b k =
    inside (ty_of (attribute_use (some (G.numeric q r)) g b)) (ty_of b) (not-fails k.0) (not-fails k.1.1.0)
late-over p (some (G.enum e)) g b k = inside _ (ty_of b) (not-fails k.0) (not-fails k.1.1.0)
late-over p (some (G.named r)) g b k =
    let d = or_no_def g in
    over-naming (is_sort domain d.sort) (link_of d) d.bases b (not-fails k.1.0)

module _ (s : State) (c : Def) (n : Name) (p : List (List ℕ)) (w : Written) (g : Option Def) where
  pub attribute-types : (o : Option Attribute) → All Unbroken (attribute_to_16 s c n p w o g)
      → All Unbroken (type_rules (is_found o) w.place w.type)
  unfolding attribute_to_16
  attribute-types o k = all_left Unbroken (type_rules (is_found o) w.place w.type) _ k.1.1.1.1.1.1.1.1

  pub attribute-kind : (a : Attribute) → All Unbroken (attribute_to_16 s c n p w (some a) g) →
      eqb (kind_of (ty_of (attribute_use w.type g a.use_of))) (kind_of (ty_of a.use_of)) ≡ true
  unfolding attribute_to_16 new_attribute
  attribute-kind a k =
      not-fails (all_right Unbroken (type_rules true w.place w.type) _ k.1.1.1.1.1.1.1.1).0

  attribute-early : (o : Option Attribute) → All Unbroken (attribute_rules s c n p w o g)
      → All Unbroken (attribute_to_16 s c n p w o g)
  unfolding attribute_rules
  attribute-early o k = all_left Unbroken (attribute_to_16 s c n p w o g) _ k

  new-use : AnyIs (KnownDef (known s.decls)) g → (o : Option Attribute) → AnyIs (GoodAttribute (known s.decls)) o
      → All Unbroken (attribute_rules s c n p w o g) → GoodUse (known s.decls) (new_attribute s n p w o g).use_of
  unfolding new_attribute
  new-use h none z k = good-use (known s.decls) false w.place w.type g (inline Y.structure) h refl
      (attribute-types none (attribute-early none k))
  new-use h (some a) z k = good-use (known s.decls) true w.place w.type g a.use_of h z
      (attribute-types (some a) (attribute-early (some a) k))

  new-over : (o : Option Attribute) → All Unbroken (attribute_rules s c n p w o g) →
      AnyIs (OverBase (new_attribute s n p w o g).use_of) o
  unfolding attribute_rules new_attribute
  new-over none k = tt
  new-over (some a) k =
      late-over w.place w.type g a.use_of (all_right Unbroken (attribute_to_16 s c n p w (some a) g) _ k)

  -- 9 and 10: EXTENDED exactly where there is something inherited
  attribute-extended : (o : Option Attribute) → All Unbroken (attribute_to_16 s c n p w o g)
      → J.has_extended p ≡ is_found o
  unfolding attribute_to_16
  attribute-extended o k = alike (J.has_extended p) (is_found o)
      (or-fails {x = is_found (attribute_at n.bytes c.own)} k.1.0).1 k.1.1.1.0

  new-own : (o : Option Attribute) → attribute_at n.bytes c.inherited ≡ o
      → All Unbroken (attribute_rules s c n p w o g)
      → GoodOwn c.inherited (new_attribute s n p w o g)
  unfolding new_attribute
  new-own o e k = record {
    extended = attribute-extended o (attribute-early o k) ∙ ap is_found (sym e);
    base = ap base_of_attribute (sym e);
    over = subst (AnyIs (OverBase (new_attribute s n p w o g).use_of)) (sym e) (new-over o k);
  }

with-attribute : (K : List Def) (c : Def) (a : Attribute) → is_sort domain c.sort ≡ false
    → GoodDef K c → GoodOwn c.inherited a
    → GoodUse K a.use_of → GoodDef K (with_attribute c a)
unfolding with_attribute
with-attribute K c a z h o u = record {
  proper-type = h.proper-type;
  chained = h.chained;
  sorted = h.sorted;
  bare = λ y. not-both y z;
  inherits = h.inherits;
  own = all_append (GoodOwn c.inherited) c.own (a ∷ []) h.own (o, tt);
  uses = all_append (GoodAttribute K) (c.own ++ (a ∷ [])) c.inherited
      (all_append (GoodAttribute K) c.own (a ∷ [])
      (all_left (GoodAttribute K) c.own c.inherited h.uses) (u, tt))
      (all_right (GoodAttribute K) c.own c.inherited h.uses);
}

head-grows : (x : Sort) (c : Def) (a : Attribute)
    → length (head_records x c) ≤ length (head_records x (with_attribute c a))
unfolding with_attribute
head-grows D.topic c a = omega arith
head-grows D.class c a = let h = attributes-count c.own a in omega arith
head-grows D.struct c a = let h = attributes-count c.own a in omega arith
head-grows D.domain c a = omega arith
head-grows D.unit c a = omega arith

with_number : (c : Def) (a : Attribute) → (with_attribute c a).number ≡ c.number
unfolding with_attribute
with_number c a = refl

module _ (s : State) (c : Def) (n : Name) (p : List (List ℕ)) (w : Written) (g : Option Def) where
  sound-attribute : (o : Option Attribute) → attribute_at n.bytes c.inherited ≡ o
      → Sound s → s.open_class ≡ some c
      → GoodOpen (known s.decls) (length (records s)) c → AnyIs (KnownDef (known s.decls)) g →
      AnyIs (GoodAttribute (known s.decls)) o → All Unbroken (attribute_rules s c n p w o g)
      → Sound (opened s (with_attribute c (new_attribute s n p w o g)))
  sound-attribute o e h f z t k q =
      let a = new_attribute s n p w o g in
      let d = with_attribute c a in
      let i = open-records s c f in
      let j = length-append (decls_records s.decls) (head_records d.sort d) in
      let m = head-grows c.sort c a in
      let x : length (head_records d.sort d)
      ≡ length (head_records c.sort d) = ap (λ (y : Sort). length (head_records y d)) (with-sort c a) in
      let y = with_number c a in
      let u = z.before in
      let good = with-attribute (known s.decls) c a z.sort z.good (new-own s c n p w g o e q)
      (new-use s c n p w g t o k q) in
      let sort = ap (λ (v : Sort). is_sort domain v) (with-sort c a) ∙ z.sort in
      opened-sound s h d good sort (all_map (λ v b. omega arith) (known s.decls) z.last) (omega arith)
      (omega arith)

-- ---- every unit, where the open class is as the grammar has it
pub based : (s : State) → Sound s → (b : Option Reference) → AnyIs (KnownDef (known s.decls)) (resolved s b)
based s h = any-resolved (KnownDef (known s.decls)) s h.defs

pub inherited-use : (K : List Def) (c : Def) → GoodDef K c → (n : List ℕ) →
    AnyIs (GoodAttribute K) (attribute_at n c.inherited)
inherited-use K c h n =
    any-attribute (GoodAttribute K) n c.inherited (all_right (GoodAttribute K) c.own c.inherited h.uses)

pub open-good : (s : State) → Sound s → (c : Def) → s.open_class ≡ some c
    → GoodOpen (known s.decls) (length (records s)) c
open-good s h c e = any-is (GoodOpen (known s.decls) (length (records s))) s.open_class c h.opened e

sound-member : (s : State) (n : Name) (p : List (List ℕ)) (w : Written) → Sound s → (o : Option Def) → s.open_class ≡ o
    → All Unbroken (member_rules s n p w o) → Sound (after_member s n p w o)
sound-member s n p w h none e q = h
sound-member s n p w h (some c) e q =
    let z = open-good s h c e in
    let r = reference_in w.type in
    sound-attribute s c n p w (resolved s r) (inherited_as c n) refl h e z (based s h r)
    (inherited-use (known s.decls) c z.good n.bytes) q

sound-close : (s : State) → Sound s → (o : Option Def) → s.open_class ≡ o → (t : Option Def) → Sound (after_close s o t)
sound-close s h (some c) e t =
    let z = open-good s h c e in
    let a = decls-count s.decls (def c) in
    let b = open-records s c e in
    let d = length-append (head_records c.sort c) (end_records c.sort) in
    let u = z.before in
    declare-sound s h c z.good z.last (omega arith) (omega arith)
sound-close s h none e (some t) = end-sound s h (ap is_found e) t.name
sound-close s h none e none = h

topic-good : (K : List Def) (s : State) (n : Name) → GoodDef K (new_topic s n)
unfolding new_topic
topic-good K s n = record {
  proper-type = refl;
  chained = tt;
  sorted = tt;
  bare = λ z. refl;
  inherits = refl;
  own = tt;
  uses = tt;
}

topic-number : (s : State) (n : Name) → (new_topic s n).number ≡ length (records s)
unfolding new_topic
topic-number s n = refl

class-no-domain : (c : Sort) → is_class c ≡ true → is_sort domain c ≡ false
class-no-domain D.topic e = never e
class-no-domain D.class e = refl
class-no-domain D.struct e = refl
class-no-domain D.domain e = never e
class-no-domain D.unit e = never e

pub judge-sound : (s : State) (u : U.Unit) (b : Bool) → Sound s → Moves (is_open s) (some u) b
    → All Unbroken (rules_of s u) → Sound (next_state s u)
judge-sound s (U.header v) b h m q = h
judge-sound s (U.model n x) b h m q = record { defs = tt; before = tt; opened = tt }
judge-sound s (U.topic n) b h m q =
    new-sound s h m.0 (new_topic s n) (topic-number s n) (topic-good (known s.decls) s n)
judge-sound s (U.class c n p r) b h m q =
    sound-class s c n p r (class-no-domain c m.2) (resolved s r) h m.0 (based s h r) q
judge-sound s (U.domain n p r w) b h m q =
    sound-domain s n p r w (resolved s (reference_in w.type)) (resolved s r) h m.0 (based s h r) q
judge-sound s (U.attribute n p w) b h m q = sound-member s n p w h s.open_class refl q
judge-sound s (U.unit n p r) b h m q = sound-unit s unit n p r refl (resolved s r) h m.0 (based s h r) q
judge-sound s (U.close n) b h m q = sound-close s h s.open_class refl s.topic

-- ---- the open class after a unit
member-open : (s : State) (n : Name) (p : List (List ℕ)) (w : Written) (o : Option Def) → s.open_class ≡ o →
    is_open (after_member s n p w o) ≡ is_open s
member-open s n p w none e = refl
member-open s n p w (some c) e = sym (ap is_found e)

close_open : (s : State) (o t : Option Def) → s.open_class ≡ o → is_open (after_close s o t) ≡ false
close_open s (some c) t e = refl
close_open s none (some t) e = refl
close_open s none none e = ap is_found e

pub next-open : (s : State) (u : U.Unit) (b : Bool) → Moves (is_open s) (some u) b → is_open (next_state s u) ≡ b
next-open s (U.header v) b m = sym m
next-open s (U.model n x) b m = sym m
next-open s (U.topic n) b m = sym m.1
next-open s (U.class c n p r) b m = sym m.1
next-open s (U.domain n p r w) b m = sym m.1
next-open s (U.attribute n p w) b m = member-open s n p w s.open_class refl ∙ (m.0 ∙ sym m.1)
next-open s (U.unit n p r) b m = sym m.1
next-open s (U.close n) b m = close_open s s.open_class s.topic refl ∙ sym m
