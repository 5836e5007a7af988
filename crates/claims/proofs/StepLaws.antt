-- In a sound state every legal value reads legally, step after step; and the steps are the book's.
use mathlib.Core.Path.{◌≡◌, refl, sym, ap, ◌∙◌, subst}
use mathlib.Core.Logic.{◌⊎◌, inl, inr}
use mathlib.Core.Bool.{Bool, true, false}
use mathlib.Core.Option.{Option, none, some}
use mathlib.Core.List.{List, [], ◌∷◌, ◌++◌}
use Prim.Native.Nat.{ℕ}
use native.Mathlib.Omega.{arith}
use lib.Dec.{eqb}
use borrow.Author.Tests.{eqb-true}
use Rattle.rules.specs.Bytes.{same}
use Rattle.rules.specs.Types.{Ty, Value, legal, reading}
use Rattle.rules.specs.Declarations.{Link, Use, inline, of_domain, of_structure, ty_of, Attribute, Def, link_of}
use Rattle.rules.specs.Declarations as D
use Rattle.rules.specs.Declarations.{Sort, is_sort, attributes_of, attribute_at, is_found, State, known}
use Rattle.rules.specs.Book.{base_number}
use Rattle.rules.specs.Judge.{may_extend, or_no_def, is_among, is_domain, base_of_attribute}
use Rattle.rules.specs.All.{In, AnyIs}
use Rattle.rules.proofs.AllLaws.{all_left, any-is, any-lookup, apart}
use Rattle.rules.proofs.Tests.{never, not-both}
use Rattle.claims.specs.Readings.{readable, Inside}
use Rattle.claims.specs.Steps.{Declared, numbered, first_of, base_of, Climbs, DomainHolds, Inherits, near, far}
use Rattle.claims.specs.Steps.{Nearest, domain_in, Passes, through, straight, Rises, AttributeHolds, EveryReading}
use Rattle.claims.specs.Steps.{BookedBases, Descends, SortsKept}
use Rattle.claims.proofs.TypeLaws.{structure-none}
use Rattle.claims.proofs.StateLaws.{in_all, has_number, Linked, Chained, GoodUse, Over, GoodOwn, first_def}
use Rattle.claims.proofs.StateLaws.{GoodDef, KnownDef, Under, Sound, GoodAttribute, OverBase}
use Rattle.claims.proofs.JudgeLaws.{inherited-use}

-- ---- one step between types
abbrev Legally : Ty → Value → Type 0
Legally b v = (x : Value) × (reading b v ≡ some x) × (legal b x ≡ true)

readable-legally : (b : Ty) (v : Value) → readable b v ≡ true → Legally b v
readable-legally b v p = go (reading b v) refl
  where
    go : (o : Option Value) → reading b v ≡ o → Legally b v
    go none e = not-both p (rw e)
    go (some x) e = (x, e, rw e at p)

inside-legally : (t b : Ty) → Inside t b → (v : Value) → legal t v ≡ true → Legally b v
inside-legally t b f v p = readable-legally b v (f v p)

-- the reading is the legal one
legal-reading : (b : Ty) (v x : Value) → Legally b v → reading b v ≡ some x → legal b x ≡ true
legal-reading b v x (y, e, p) f = let r : y ≡ x = cc in subst (λ (z : Value). legal b z ≡ true) r p

-- ---- an attribute among own and inherited ones
own_first : (n : List ℕ) (l m : List Attribute) (a : Attribute) → attribute_at n l ≡ some a
    → attribute_at n (l ++ m) ≡ some a
own_first n [] m a h = cc
own_first n (b ∷ l) m a h = go (same n b.name.bytes) refl (λ q. own_first n l m a q)
  where
    go : (t : Bool) → same n b.name.bytes ≡ t → (attribute_at n l ≡ some a → attribute_at n (l ++ m) ≡ some a) →
        attribute_at n (b ∷ (l ++ m)) ≡ some a
    go true e ih = rw e (rw e at h)
    go false e ih = rw e (ih (rw e at h))

own-lacks : (n : List ℕ) (l m : List Attribute) → attribute_at n l ≡ none → attribute_at n (l ++ m) ≡ attribute_at n m
own-lacks n [] m h = refl
own-lacks n (b ∷ l) m h = go (same n b.name.bytes) refl (λ q. own-lacks n l m q)
  where
    go : (t : Bool) → same n b.name.bytes ≡ t → (attribute_at n l ≡ none → attribute_at n (l ++ m) ≡ attribute_at n m)
        → attribute_at n (b ∷ (l ++ m)) ≡ attribute_at n m
    go true e ih = let q : some b ≡ none = rw e at h in apart q
    go false e ih = rw e (ih (rw e at h))

-- ---- a structure is over a structure
structure-under : (c b : Sort) → is_sort D.struct c ≡ true → may_extend c b ≡ true → is_sort D.struct b ≡ true
structure-under D.topic b z h = never z
structure-under D.class b z h = never z
structure-under D.struct b z h = h
structure-under D.domain b z h = never z
structure-under D.unit b z h = never z

module _ (s : State) (sound : Sound s) where
  abbrev K : List Def
  K = known s.decls

  pub known_in : (d : Def) → Declared s d → KnownDef K d
  known_in d i = in_all (KnownDef K) sound.defs i

  first-same : (bs : List Link) → first_of s bs ≡ first_def K bs
  first-same [] = refl
  first-same (l ∷ bs) = refl

  numbered-known : (k : ℕ) (d : Def) → numbered s k ≡ some d → KnownDef K d
  numbered-known k d e = any-is (KnownDef K) (numbered s k) d (any-lookup (KnownDef K) (has_number k) K sound.defs) e

  pub base-known : (bs : List Link) (d : Def) → first_of s bs ≡ some d → KnownDef K d
  base-known [] d e = apart (sym e)
  base-known (l ∷ bs) d e = numbered-known l.number d e

  -- what a link's number finds is what it links to
  linked-type : (l : Link) (bs : List Link) → Linked K l bs → (d : Def)
      → numbered s l.number ≡ some d → d.type ≡ l.type
  linked-type l bs h d e =
      let q : some h.0 ≡ some d = sym h.1 ∙ e in
      let r : h.0 ≡ d = cc in
      ap (λ (x : Def). x.type) (sym r) ∙ ap (λ (x : Link). x.type) h.2

  linked-bases : (l : Link) (bs : List Link) → Linked K l bs → (d : Def)
      → numbered s l.number ≡ some d → d.bases ≡ bs
  linked-bases l bs h d e =
      let q : some h.0 ≡ some d = sym h.1 ∙ e in
      let r : h.0 ≡ d = cc in
      ap (λ (x : Def). x.bases) (sym r) ∙ h.3

  -- ---- domains
  record Stands (b : Def) (w : Value) : Type 0 where
    good : KnownDef K b
    legal-here : legal b.type w ≡ true

  base-inside : (t : Ty) (bs : List Link) → Chained K t bs → (c : Def) → first_of s bs ≡ some c → Inside t c.type
  base-inside t [] h c e = apart (sym e)
  base-inside t (l ∷ bs) h c e = subst (λ (x : Ty). Inside t x) (sym (linked-type l bs h.1 c e)) h.0

  up-legally : (b : Def) (w : Value) → Stands b w → (c : Def) → base_of s b ≡ some c → Legally c.type w
  up-legally b w h c e =
      inside-legally b.type c.type
      (base-inside b.type b.bases h.good.good.chained c e) w h.legal-here

  climb : (d : Def) (v : Value) → Stands d v → {b : Def} {w : Value} → Climbs s d v b w → Stands b w
  climb d v h Climbs.start = h
  climb d v h (Climbs.up {b = a} {w = y} k c x e f) =
      let g = climb d v h k in
      record { good = base-known a.bases c e; legal-here = legal-reading c.type y x (up-legally a y g c e) f }

  holds : (b : Def) (w : Value) → Stands b w → DomainHolds s b w
  holds b w h = record { here = h.legal-here; onward = up-legally b w h }

  -- ---- the nearest inherited attribute
  pub inherits-found : (n : List ℕ) (a : Attribute) {c : Def} → GoodDef K c → Inherits s n a c
      → attribute_at n c.inherited ≡ some a
  inherits-found n a {c} g (near b e f) =
      ap (attribute_at n)
      (g.inherits ∙ ap (λ (o : Option Def). attributes_of (or_no_def o)) (sym (first-same c.bases) ∙ e))
      ∙ own_first n b.own b.inherited a f
  inherits-found n a {c} g (far b e f r) =
      ap (attribute_at n)
      (g.inherits ∙ ap (λ (o : Option Def). attributes_of (or_no_def o)) (sym (first-same c.bases) ∙ e))
      ∙ (own-lacks n b.own b.inherited f ∙ inherits-found n a (base-known c.bases b e).good r)

  nearest-found : (a b : Attribute) (n : Nearest s a b) → attribute_at a.name.bytes n.class.inherited ≡ some b
  nearest-found a b n = inherits-found a.name.bytes b (known_in n.class n.declared).good n.inherits

  own_in : (a b : Attribute) (n : Nearest s a b) → GoodOwn n.class.inherited a
  own_in a b n = in_all (GoodOwn n.class.inherited) (known_in n.class n.declared).good.own n.own

  nearest-over : (a b : Attribute) → Nearest s a b → Over a.use_of b.use_of
  nearest-over a b n = any-is (OverBase a.use_of) _ b (own_in a b n).over (nearest-found a b n)

  nearest-use : (a b : Attribute) → Nearest s a b → GoodUse K b.use_of
  nearest-use a b n = any-is (GoodAttribute K) _ b
      (inherited-use K n.class (known_in n.class n.declared).good a.name.bytes) (nearest-found a b n)

  -- ---- attributes
  -- from a domain up to one among its bases
  record Arrives (d : Def) (v : Value) (k : ℕ) : Type 0 where
    at : Def
    value : Value
    numbers : numbered s k ≡ some at
    climbs : Climbs s d v at value

  arrives : (k : ℕ) (d : Def) (v : Value) (l : Link) (bs : List Link) → Linked K l bs
      → Chained K l.type bs → is_among k (l ∷ bs) ≡ true
      → (b : Def) (w : Value) → numbered s l.number ≡ some b → legal b.type w ≡ true
      → Climbs s d v b w → Arrives d v k
  arrives k d v l [] h c i b w e p r = go (eqb l.number k) refl
    where
      go : (t : Bool) → eqb l.number k ≡ t → Arrives d v k
      go true f = record {
        at = b;
        value = w;
        numbers = subst (λ (x : ℕ). numbered s x ≡ some b) (eqb-true l.number k f) e;
        climbs = r;
      }
      go false f = let z : false ≡ true = rw f at i in never z
  arrives k d v l (m ∷ bs) h c i b w e p r =
      go (eqb l.number k) refl (λ y g q u j. arrives k d v m bs c.1 c.2 q c.1.0 y c.1.1 u j)
    where
      go : (t : Bool) → eqb l.number k ≡ t →
          ((y : Value) → reading c.1.0.type w ≡ some y → is_among k (m ∷ bs) ≡ true → legal c.1.0.type y ≡ true
          → Climbs s d v c.1.0 y → Arrives d v k) → Arrives d v k
      go true f ih = record {
        at = b;
        value = w;
        numbers = subst (λ (x : ℕ). numbered s x ≡ some b) (eqb-true l.number k f) e;
        climbs = r;
      }
      go false f ih =
          let q : base_of s b ≡ some c.1.0 = ap (first_of s) (linked-bases l (m ∷ bs) h b e) ∙ c.1.1 in
          let (y, g, u) =
          up-legally b w (record { good = numbered-known l.number b e; legal-here = p }) c.1.0 q in
          ih y g (rw f at i) u (Climbs.up r c.1.0 y q g)

  -- the value at the domain that an attribute names
  named-stands : (u : Use) → GoodUse K u → (w : Value) → legal (ty_of u) w ≡ true → (d : Def)
      → domain_in s u ≡ some d → Stands d w
  named-stands (inline t) g w p d e = apart (sym e)
  named-stands (of_domain l bs) g w p d e = record {
    good = numbered-known l.number d e;
    legal-here = subst (λ (t : Ty). legal t w ≡ true) (sym (linked-type l bs g.1 d e)) p;
  }
  named-stands (of_structure l bs) g w p d e = apart (sym e)

  stands-named : (u : Use) → GoodUse K u → (w : Value) (d : Def) → domain_in s u ≡ some d
      → legal d.type w ≡ true → legal (ty_of u) w ≡ true
  stands-named (inline t) g w d e p = apart (sym e)
  stands-named (of_domain l bs) g w d e p = subst (λ (t : Ty). legal t w ≡ true) (linked-type l bs g.1 d e) p
  stands-named (of_structure l bs) g w d e p = apart (sym e)

  abbrev Passed : Attribute → Attribute → Value → Type 0
  Passed a b v = (x : Value) × Passes s a b v x × (legal (ty_of b.use_of) x ≡ true)

  passed-named : (a b : Attribute) (l : Link) (bs : List Link) → a.use_of ≡ of_domain l bs
      → GoodUse K (of_domain l bs) → (u : Use) → b.use_of ≡ u
      → GoodUse K u → Over (of_domain l bs) u → (v : Value) → legal l.type v ≡ true → Passed a b v
  passed-named a b l bs e g (inline t) f k o v p = never o
  passed-named a b l bs e g (of_domain m cs) f k o v p =
      let d = g.1.0 in
      let h : Stands d v = named-stands (of_domain l bs) g v p d g.1.1 in
      let r = arrives m.number d v l bs g.1 g.2 o d v g.1.1 h.legal-here Climbs.start in
      let q = climb d v h r.climbs in (
        r.value,
        through d r.at (ap (domain_in s) e ∙ g.1.1) (ap (domain_in s) f ∙ r.numbers) r.climbs,
        subst (λ (z : Use). legal (ty_of z) r.value ≡ true) (sym f)
            (stands-named (of_domain m cs) k r.value r.at r.numbers q.legal-here),
      )
  passed-named a b l bs e g (of_structure m cs) f k o v p = never o

  passed : (a b : Attribute) (u : Use) → a.use_of ≡ u → GoodUse K u → GoodUse K b.use_of
      → Over u b.use_of → (v : Value)
      → legal (ty_of u) v ≡ true → Passed a b v
  passed a b (inline t) e g k o v p =
      let (x, f, q) = inside-legally t (ty_of b.use_of) o v p in
      (x, straight (ap is_domain e) f, q)
  passed a b (of_domain l bs) e g k o v p = passed-named a b l bs e g b.use_of refl k o v p
  passed a b (of_structure l bs) e g k o v p = structure-none v p

  -- any step is a legal one
  pass-legal : (a b : Attribute) (u : Use) → a.use_of ≡ u → GoodUse K u → GoodUse K b.use_of
      → Over u b.use_of → (v x : Value)
      → legal (ty_of u) v ≡ true → Passes s a b v x → legal (ty_of b.use_of) x ≡ true
  pass-legal a b u e g k o v x p (through d c f h r) =
      let z : Stands d v = named-stands u g v p d (ap (domain_in s) (sym e) ∙ f) in
      stands-named b.use_of k x c h (climb d v z r).legal-here
  pass-legal a b (inline t) e g k o v x p (straight i f) =
      legal-reading (ty_of b.use_of) v x (inside-legally t (ty_of b.use_of) o v p) f
  pass-legal a b (of_domain l bs) e g k o v x p (straight i f) = not-both (ap is_domain e) i
  pass-legal a b (of_structure l bs) e g k o v x p (straight i f) = structure-none v p

  record Has (b : Attribute) (w : Value) : Type 0 where
    good : GoodUse K b.use_of
    legal-here : legal (ty_of b.use_of) w ≡ true

  rise : (a : Attribute) (v : Value) → Has a v → {b : Attribute} {w : Value} → Rises s a v b w → Has b w
  rise a v h Rises.start = h
  rise a v h (Rises.up {b = b} {w = w} r c x n q) =
      let g = rise a v h r in
      record {
        good = nearest-use b c n;
        legal-here =
            pass-legal b c b.use_of refl g.good (nearest-use b c n) (nearest-over b c n) w x g.legal-here q;
      }

  attribute-holds : (b : Attribute) (w : Value) → Has b w → AttributeHolds s b w
  attribute-holds b w h = record {
    here = h.legal-here;
    between = λ d e c x k. holds c x (climb d w (named-stands b.use_of h.good w h.legal-here d e) k);
    onward = λ c n. passed b c b.use_of refl h.good (nearest-use b c n) (nearest-over b c n) w h.legal-here;
  }

  pub every-reading : EveryReading s
  every-reading = record {
    domains = λ d i v p b w k. holds b w (climb d v (record { good = known_in d i; legal-here = p }) k);
    attributes = λ c i a j v p b w k. attribute-holds b w (rise a v (record {
      good = in_all (GoodAttribute K) (all_left (GoodAttribute K) c.own c.inherited (known_in c i).good.uses) j;
      legal-here = p;
    }) k);
  }

  -- ---- the book's numbers
  pub bases-booked : (t : Ty) (bs : List Link) → Chained K t bs → (l : Link) (ls : List Link) → bs ≡ l ∷ ls →
      (b : Def) × (first_of s bs ≡ some b) × (link_of b ≡ l) × (b.bases ≡ ls)
  bases-booked t [] h l ls e = let z : ◌≡◌ {A = ℕ} 0 1 = cc in absurd (omega arith)
  bases-booked t (m ∷ bs) h l ls e =
      let p : m ≡ l = cc in
      let q : bs ≡ ls = cc in
      (h.1.0, h.1.1, h.1.2 ∙ p, h.1.3 ∙ q)

  pub found-inherits : (n : List ℕ) (a : Attribute) (bs : List Link) (c : Def) → c.bases ≡ bs → GoodDef K c
      → attribute_at n c.inherited ≡ some a
      → Inherits s n a c
  found-inherits n a [] c e g f =
      let q : c.inherited ≡ [] = g.inherits ∙ ap (λ (x : List Link). attributes_of (or_no_def (first_def K x))) e in
      apart (sym f ∙ ap (attribute_at n) q)
  found-inherits n a (l ∷ bs) c e g f =
      let (d, i, j, k) = bases-booked c.type c.bases g.chained l bs e in
      let q : c.inherited ≡ attributes_of d =
      g.inherits ∙ ap (λ (o : Option Def). attributes_of (or_no_def o)) (sym (first-same c.bases) ∙ i) in
      go d i (base-known c.bases d i) (ap (attribute_at n) (sym q) ∙ f)
      (λ z. found-inherits n a bs d k (base-known c.bases d i).good z) (attribute_at n d.own) refl
    where
      go : (d : Def) → base_of s c ≡ some d → KnownDef K d → attribute_at n (attributes_of d) ≡ some a →
          (attribute_at n d.inherited ≡ some a → Inherits s n a d) → (o : Option Attribute)
          → attribute_at n d.own ≡ o → Inherits s n a c
      go d i h q ih none r = far d i r (ih (sym (own-lacks n d.own d.inherited r) ∙ q))
      go d i h q ih (some b) r =
          let t : some b ≡ some a = sym (own_first n d.own d.inherited b r) ∙ q in near d i (r ∙ t)

  found-nearest : (c : Def) → Declared s c → (a : Attribute) → In a c.own → (b : Attribute) →
      attribute_at a.name.bytes c.inherited ≡ some b → Nearest s a b
  found-nearest c i a j b f = record {
    class = c;
    declared = i;
    own = j;
    inherits = found-inherits a.name.bytes b c.bases c refl (known_in c i).good f;
  }

  based-nearest : (c : Def) → Declared s c → (a : Attribute) → In a c.own → (k : ℕ) → a.base ≡ some k →
      (b : Attribute) × Nearest s a b × (b.number ≡ k)
  based-nearest c i a j k e = which (attribute_at a.name.bytes c.inherited) refl
      (sym (in_all (GoodOwn c.inherited) (known_in c i).good.own j).base ∙ e)
    where
      which : (o : Option Attribute) → attribute_at a.name.bytes c.inherited ≡ o → base_of_attribute o ≡ some k →
          (b : Attribute) × Nearest s a b × (b.number ≡ k)
      which none f h = apart (sym h)
      which (some b) f h = (b, found-nearest c i a j b f, cc)

  extended-nearest : (c : Def) → Declared s c → (a : Attribute) → In a c.own → a.extended ≡ true
      → (b : Attribute) × Nearest s a b
  extended-nearest c i a j e = which (attribute_at a.name.bytes c.inherited) refl
      (sym (in_all (GoodOwn c.inherited) (known_in c i).good.own j).extended ∙ e)
    where
      which : (o : Option Attribute) → attribute_at a.name.bytes c.inherited ≡ o → is_found o ≡ true
          → (b : Attribute) × Nearest s a b
      which none f h = never h
      which (some b) f h = (b, found-nearest c i a j b f)

  has_base : (t : Ty) (bs : List Link) → Chained K t bs → (bs ≡ []) ⊎ ((b : Def) × (first_of s bs ≡ some b))
  has_base t [] h = inl refl
  has_base t (l ∷ bs) h = inr (h.1.0, h.1.1)

  base-number : (t : Ty) (bs : List Link) → Chained K t bs → (b : Def)
      → first_of s bs ≡ some b → base_number bs ≡ b.number
  base-number t [] h b e = apart (sym e)
  base-number t (l ∷ bs) h b e =
      let q : some h.1.0 ≡ some b = sym h.1.1 ∙ e in
      let r : h.1.0 ≡ b = cc in
      ap (λ (x : Link). x.number) (sym h.1.2) ∙ ap (λ (x : Def). x.number) r

  pub booked-bases : BookedBases s
  booked-bases = record {
    definition = λ d b i e. base-number d.type d.bases (known_in d i).good.chained b e;
    based = λ d i. has_base d.type d.bases (known_in d i).good.chained;
    attribute = λ a b n. (own_in a b n).base ∙ ap base_of_attribute (nearest-found a b n);
    nearest = based-nearest;
    flagged = λ c i a j.
        (extended-nearest c i a j, λ q. (own_in a q.0 q.1).extended ∙ ap is_found (nearest-found a q.0 q.1));
  }

  -- ---- sorts
  sorted-base : (d b : Def) → KnownDef K d → base_of s d ≡ some b → Under d.sort b
  sorted-base d b h e = any-is (Under d.sort) (first_of s d.bases) b
      (subst (AnyIs (Under d.sort)) (sym (first-same d.bases)) h.good.sorted) e

  pub climbed : (d e : Def) → KnownDef K d → Descends s d e → KnownDef K e
  climbed d e h Descends.itself = h
  climbed d e h (Descends.up {b} r c p) = base-known b.bases c p

  structures-up : (d e : Def) → KnownDef K d → is_sort D.struct d.sort ≡ true → Descends s d e
      → is_sort D.struct e.sort ≡ true
  structures-up d e h z Descends.itself = z
  structures-up d e h z (Descends.up {b} r c p) =
      structure-under b.sort c.sort (structures-up d b h z r) (sorted-base b c (climbed d b h r) p)

  pub sorts-kept : SortsKept s
  sorts-kept = record {
    bases = λ d b i e. sorted-base d b (known_in d i) e;
    structures = λ d e i z r. structures-up d e (known_in d i) z r;
  }
