-- The units of numbers are declared: 10 and 11 see to what is written, and MANDATORY alone keeps the base's; and one
-- stands for another exactly where what it extends leads to it.
use mathlib.Core.Path.{◌≡◌, refl, sym, ap, ◌∙◌, subst}
use mathlib.Core.Logic.{⊎_elim}
use mathlib.Core.Bool.{Bool, true, false, cond}
use mathlib.Core.Option.{Option, none, some}
use mathlib.Core.List.{List, [], ◌∷◌, ◌++◌}
use Prim.Native.Nat.{ℕ}
use Rattle.rules.specs.Names.{Name}
use Rattle.rules.specs.Enumerations.{Enum}
use Rattle.rules.specs.Bytes.{same}
use Rattle.rules.specs.Types.{Measure, line, leads_to, unit_fits, Ty, text, numeric, structure, enum, unit_of}
use Rattle.rules.specs.Grammar as G
use Rattle.rules.specs.Grammar.{Reference, WrittenType, Written}
use Rattle.rules.specs.Units as U
use Rattle.rules.specs.Declarations.{Link, Use, of_domain, of_structure, ty_of, Attribute, Sort, domain, unit, is_sort}
use Rattle.rules.specs.Declarations.{Def}
use Rattle.rules.specs.Declarations.{link_of, numbers_of, measure_of, attributes_of, def, State, known, lookup}
use Rattle.rules.specs.Judge as J
use Rattle.rules.specs.Judge.{merged_into, domain_type, attribute_use, or_no_def, or_no_attribute, resolved}
use Rattle.rules.specs.Judge.{reference_in}
use Rattle.rules.specs.Judge.{declare, opened, new_topic, new_class, new_domain, new_attribute, with_attribute, type11}
use Rattle.rules.specs.Judge.{domain_to_16, domain_rules, attribute_to_16, attribute_rules, inherited_as, member_rules}
use Rattle.rules.specs.Judge.{after_member, after_close, rules_of, next_state}
use Rattle.rules.specs.Check.{Given}
use Rattle.rules.specs.All.{All, AnyIs, In, Unbroken}
use Rattle.rules.proofs.AllLaws.{all_map, all_append, all_left, all_right, any-map, any-attribute, any-resolved}
use Rattle.rules.proofs.AllLaws.{apart, in-append, all_in_lem}
use Rattle.rules.proofs.GrowLaws.{known-append}
use Rattle.rules.proofs.Tests.{never, not-fails, or_r, or_split}
use Rattle.claims.specs.Steps.{base_of, first_of, Descends, itself, up, UnitsDeclared}
use Rattle.claims.proofs.StateLaws.{in_all, has_number, KnownDef, Sound}
use Rattle.rules.proofs.ByteLaws.{same-eq}
use Rattle.rules.proofs.MeasureLaws.{leads-itself, unit-itself}
use Rattle.claims.proofs.MeasureLaws.{unit-onward}
use Rattle.claims.proofs.RunLaws.{Invariant, Ended, reached-keeps, reached-sound}
use Rattle.claims.proofs.StepLaws.{base-known, known_in, bases-booked, climbed}

-- ---- types whose unit is a declared unit's
abbrev UnitOf : List Def → Measure → Type 0
UnitOf K u = (d : Def) × In d K × (is_sort unit d.sort ≡ true) × (measure_of d ≡ u)

abbrev Tied : List Def → Ty → Type 0
Tied K t = AnyIs (UnitOf K) (unit_of t)

abbrev Bound : List Def → Attribute → Type 0
Bound K a = Tied K (ty_of a.use_of)

abbrev Ready : List Def → Def → Type 0
Ready K d = Tied K d.type × All (Bound K) (attributes_of d)

abbrev Known : State → List Def
Known s = known s.decls

abbrev Set : State → Type 0
Set s = All (Ready (Known s)) (Known s) × AnyIs (Ready (Known s)) s.open_class

module _ (K E : List Def) where
  tied-more : (t : Ty) → Tied K t → Tied (K ++ E) t
  tied-more t h = any-map (λ u k. (k.0, in-append K E k.1, k.2, k.3)) (unit_of t) h

  ready-more : (d : Def) → Ready K d → Ready (K ++ E) d
  ready-more d h =
      (tied-more d.type h.0, all_map (λ a k. tied-more (ty_of a.use_of) k) (attributes_of d) h.1)

-- ---- what is written
module _ (K : List Def) where
  ready-or : (o : Option Def) → AnyIs (Ready K) o → Ready K (or_no_def o)
  ready-or none h = (tt, tt)
  ready-or (some d) h = h

  bound-or : (o : Option Attribute) → AnyIs (Bound K) o → Bound K (or_no_attribute o)
  bound-or none h = tt
  bound-or (some a) h = h

  merged-tied : (b : Ty) (e : Enum) → Tied K (merged_into b e)
  merged-tied (text m n) e = tt
  merged-tied (numeric r u) e = tt
  merged-tied (enum b) e = tt
  merged-tied structure e = tt

  written-tied : (q : Option G.Bounds) (r : Option Reference) (g : Option Def) (b : Ty) → AnyIs (λ d. In d K) g
      → (type11 (some (G.numeric q r)) g).broken ≡ false → Tied K (domain_type (some (G.numeric q r)) g b)
  written-tied q r none b h k = tt
  written-tied q r (some d) b h k = (d, h, not-fails k, refl)

  type-tied : (w : Option WrittenType) (g : Option Def) (b : Ty) → AnyIs (λ d. In d K) g
      → (type11 w g).broken ≡ false → Tied K b → Tied K (domain_type w g b)
  type-tied none g b h k z = z
  type-tied (some (G.text m n)) g b h k z = tt
  type-tied (some (G.numeric q r)) g b h k z = written-tied q r g b h k
  type-tied (some (G.enum e)) g b h k z = merged-tied b e
  type-tied (some (G.named r)) g b h k z = tt

  use-tied : (w : Option WrittenType) (g : Option Def) (b : Use) → AnyIs (λ d. In d K) g → AnyIs (Ready K) g
      → (type11 w g).broken ≡ false → Tied K (ty_of b) → Tied K (ty_of (attribute_use w g b))
  use-tied none g b h i k z = z
  use-tied (some (G.text m n)) g b h i k z = tt
  use-tied (some (G.numeric q r)) g b h i k z = written-tied q r g (ty_of b) h k
  use-tied (some (G.enum e)) g b h i k z = merged-tied (ty_of b) e
  use-tied (some (G.named r)) g b h i k z = let d = or_no_def g in go d (ready-or g i) (is_sort domain d.sort)
    where
      go : (d : Def) → Ready K d → (t : Bool)
          → Tied K (ty_of (cond t (of_domain (link_of d) d.bases) (of_structure (link_of d) d.bases)))
      go d k true = k.0
      go d k false = tt

-- ---- units of the text
module _ (s : State) (h : Set s) where
  abbrev K : List Def
  K = Known s

  leads : (r : Option Reference) → AnyIs (λ d. In d K) (resolved s r)
  leads = any-resolved (λ d. In d K) s (all_in_lem K)

  leads-ready : (r : Option Reference) → AnyIs (Ready K) (resolved s r)
  leads-ready = any-resolved (Ready K) s h.0

  -- a definition becomes known
  declare-set : (d : Def) → Ready K d
      → All (Ready (known (s.decls ++ (def d ∷ [])))) (known (s.decls ++ (def d ∷ [])))
  declare-set d k =
      let E = d ∷ [] in
      rw known-append (all_append (Ready (K ++ E)) K E (all_map (ready-more K E) K h.0) (ready-more K E d k, tt))

  topic-set : (n : Name) → Set (J.in_topic (declare s (def (new_topic s n))) (some (new_topic s n)))
  unfolding new_topic
  topic-set n = (declare-set (new_topic s n) (tt, tt), tt)

  class-ready : (c : Sort) (n : Name) (p : List (List ℕ)) (o : Option Def) → AnyIs (Ready K) o
      → Ready K (new_class s c n p o)
  unfolding new_class
  class-ready c n p o k = (tt, (ready-or K o k).1)

  domain-ready : (n : Name) (p : List (List ℕ)) (b : Option Reference) (w : Written) (o g : Option Def)
      → AnyIs (Ready K) o → AnyIs (λ d. In d K) g
      → All Unbroken (domain_rules s n p b w o g) → Ready K (new_domain s n p w o g)
  unfolding new_domain domain_rules domain_to_16
  domain-ready n p b w o g k l q =
      (type-tied K w.type g (or_no_def o).type l q.1.1.1.1.1.0 (ready-or K o k).0, tt)

  attribute-set : (c : Def) (n : Name) (p : List (List ℕ)) (w : Written) (o : Option Attribute) (g : Option Def)
      → Ready K c → AnyIs (Bound K) o → AnyIs (λ d. In d K) g → AnyIs (Ready K) g
      → All Unbroken (attribute_rules s c n p w o g)
      → Set (opened s (with_attribute c (new_attribute s n p w o g)))
  unfolding new_attribute with_attribute attribute_rules attribute_to_16
  attribute-set c n p w o g k z i t q =
      let a = new_attribute s n p w o g in
      let u : Bound K a = use-tied K w.type g (or_no_attribute o).use_of i t q.1.1.1.1.1.0 (bound-or K o z) in
      let l = all_append (Bound K) c.own (a ∷ []) (all_left (Bound K) c.own c.inherited k.1) (u, tt) in
      let m = all_right (Bound K) c.own c.inherited k.1 in
      (h.0, (k.0, all_append (Bound K) (c.own ++ (a ∷ [])) c.inherited l m))

  member-set : (n : Name) (p : List (List ℕ)) (w : Written) (o : Option Def) → AnyIs (Ready K) o
      → All Unbroken (member_rules s n p w o) → Set (after_member s n p w o)
  member-set n p w none k q = h
  member-set n p w (some c) k q =
      let r = reference_in w.type in
      let b = any-attribute (Bound K) n.bytes c.inherited (all_right (Bound K) c.own c.inherited k.1) in
      attribute-set c n p w (inherited_as c n) (resolved s r) k b (leads r) (leads-ready r) q

  close-set : (o t : Option Def) → AnyIs (Ready K) o → Set (after_close s o t)
  close-set (some c) t k = (declare-set c k, tt)
  close-set none (some t) k =
      (rw known-append (all_append (Ready (K ++ [])) K [] (all_map (ready-more K []) K h.0) tt), tt)
  close-set none none k = h

  next-set : (u : U.Unit) → All Unbroken (rules_of s u) → Set (next_state s u)
  next-set (U.header v) q = h
  next-set (U.model n x) q = (tt, tt)
  next-set (U.topic n) q = topic-set n
  next-set (U.class c n p r) q = (h.0, class-ready c n p (resolved s r) (leads-ready r))
  next-set (U.domain n p r w) q =
      let g = reference_in w.type in
      (declare-set _ (domain-ready n p r w (resolved s r) (resolved s g) (leads-ready r) (leads g) q), tt)
  next-set (U.attribute n p w) q = member-set n p w s.open_class h.1 q
  next-set (U.unit n p r) q = (declare-set _ (class-ready unit n p (resolved s r) (leads-ready r)), tt)
  next-set (U.close n) q = close-set s.open_class s.topic h.1

set : Invariant Set
set = record { begins = (tt, tt); goes = λ s u b h m q. next-set s h u q }

-- ---- descent
module _ (s : State) (sound : Sound s) where
  abbrev There : Def → Type 0
  There d = KnownDef (known s.decls) d

  -- a known definition is the one of its number
  same_known : (d e : Def) → There d → There e → d.number ≡ e.number → d ≡ e
  same_known d e h k p =
      let q : some d ≡ some e =
      sym h.again ∙ subst (λ (n : ℕ). lookup (has_number n) (known s.decls) ≡ some e) (sym p) k.again in cc

  -- what a definition extends is its first base, and has the others
  base-line : (b c : Def) (l : List Link) → b.bases ≡ l → There b → base_of s b ≡ some c
      → numbers_of l ≡ line (measure_of c)
  base-line b c [] e h f = apart (sym f ∙ ap (first_of s) e)
  base-line b c (l ∷ bs) e h f =
      let (x, g, i, j) = bases-booked s sound b.type b.bases h.good.chained l bs e in
      let q : some x ≡ some c = sym g ∙ f in
      let r : x ≡ c = cc in
      let m : l.number ≡ c.number = ap (λ (k : Link). k.number) (sym i) ∙ ap (λ (d : Def). d.number) r in
      let o : bs ≡ c.bases = sym j ∙ ap (λ (d : Def). d.bases) r in rw (m, o)

  descends-fits : (d e : Def) → There d → Descends s d e → unit_fits (some (measure_of d)) (some (measure_of e)) ≡ true
  descends-fits d e h itself = unit-itself (some (measure_of d))
  descends-fits d e h (up {b} r c p) =
      unit-onward (some (measure_of d)) (some (measure_of b)) (some (measure_of c)) (descends-fits d b h r)
      (or_r (same (line (measure_of b)) (line (measure_of c)))
      (rw (base-line b c b.bases refl (climbed s sound d b h r) p) (leads-itself (line (measure_of c)))))

  -- where two lines are one, so are the definitions
  there-descends : (d e : Def) → There e → (x : Def) → There x → (k : List ℕ) → Descends s d x
      → same (x.number ∷ k) (line (measure_of e)) ≡ true → Descends s d e
  there-descends d e h x i k r f =
      let p = same-eq (x.number ∷ k) (line (measure_of e)) f in
      let q : x.number ≡ e.number = cc in subst (Descends s d) (same_known x e i h q) r

  fits-descends : (d e : Def) → There e → (l : List Link) (x : Def) → There x → x.bases ≡ l → Descends s d x
      → leads_to (x.number ∷ numbers_of l) (line (measure_of e)) ≡ true → Descends s d e
  fits-descends d e k [] x h p r f = ⊎_elim (there-descends d e k x h [] r) (λ q. never q) (or_split f)
  fits-descends d e k (y ∷ bs) x h p r f =
      let (b, g, i, j) = bases-booked s sound x.type x.bases h.good.chained y bs p in
      let n = ap (λ (k : Link). k.number) i in
      ⊎_elim (there-descends d e k x h (numbers_of (y ∷ bs)) r)
      (λ q. fits-descends d e k bs b (base-known s sound x.bases b g) j (up r b g) (rw n q)) (or_split f)

pub units-declared : (t : List ℕ) (g : Given) (s : State) → Ended t g s → UnitsDeclared s
units-declared t g s h =
    let i = reached-keeps t g Set set h.reaches in
    let sound = reached-sound t g h.reaches in
    let K = known s.decls in
    record {
      domains = λ d j. (in_all (Ready K) i.0 j).0;
      attributes = λ c j a k.
          in_all (Bound K) (all_left (Bound K) c.own c.inherited (in_all (Ready K) i.0 j).1) k;
      descent = λ d e j k. (
        λ f. fits-descends s sound d e (known_in s sound e k) d.bases d (known_in s sound d j) refl itself f,
        λ r. descends-fits s sound d e (known_in s sound d j) r,
      );
    }
