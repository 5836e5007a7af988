-- What types an attribute and its base, by the rows of definitions and attributes.
use mathlib.Core.Path.{◌≡◌, refl, sym, ap, ◌∙◌, subst}
use mathlib.Core.Bool.{Bool, true, false, cond, ◌&&◌, ◌||◌}
use Rattle.std.specs.Prelude.{Ok}
use mathlib.Core.Option.{Option, none, some}
use mathlib.Core.List.{List, ◌∷◌}
use Prim.Native.Nat.{ℕ, ◌≤◌, ◌<◌}
use native.Mathlib.Omega.{arith}
use lib.ListN.{length, get_or, take}
use borrow.Author.Tests.{eq-eqb, ne_eqb}
use Rattle.rules.proofs.Tests.{never}
use Rattle.rules.proofs.AllLaws.{apart, any-map}
use Rattle.wellformed.proofs.TypeLaws.{sort-domain}
use Rattle.rules.specs.Grammar as G
use Rattle.rules.specs.Grammar.{WrittenType}
use Rattle.rules.specs.Types.{Ty, unit_of}
use Rattle.rules.specs.Declarations.{Use, inline, of_domain, of_structure, ty_of, link_of, Attribute, Def, Sort}
use Rattle.rules.specs.Declarations.{is_sort}
use Rattle.rules.specs.Declarations as D
use Rattle.rules.specs.Declarations.{sort_number, domain, unit, State, known}
use Rattle.rules.specs.Book.{Record, flags, number_or, head_record, def_record, type_records, use_records, records}
use Rattle.rules.specs.Judge.{attribute_use, or_no_def, or_no_attribute, is_naming, naming, domain_type, is_numeric}
use Rattle.rules.specs.Judge.{is_domain, may_type}
use Rattle.names.specs.Index.{entry, row, Says, definition_width}
use Rattle.names.proofs.BaseLaws.{entry-there}
use Rattle.members.specs.Members.{Tells, attribute_width}
use Rattle.members.specs.Held.{Held, DefRow, AttributeRow, heading, use_for, attributes_in}
use Rattle.members.proofs.HeldLaws.{use-named}
use Rattle.rules.specs.All.{AnyIs}
use Rattle.wellformed.specs.Fairness.{FairType, Fair, FairUse, FairDef, UnitIn, NamesAll}
use Rattle.ground.specs.Rulings.{ruling_of}
use Rattle.fitting.specs.Values.{Valued, Typed, Sized, UnitNumbered, FairOrNone}
use Rattle.fitting.specs.declared.Typing.{Typing}
use Rattle.fitting.specs.declared.Typing.TheVariants.{Structure}
use Rattle.fitting.proofs.ValueLaws.{sized_base, fair-or-none}
use Rattle.types.proofs.TypeLaws.{sized-meant}
use Rattle.attribute_types.specs.Stages.{abstract_domain, head_rules}
use Rattle.attribute_names.specs.Facts.{Refers}
use Rattle.attribute_names.proofs.NameLaws.{broken_at}
use Rattle.attribute_types.specs.Facts.{Ready}
use Rattle.book.specs.Places.{Stands}
use Rattle.book.specs.Sizes.{head_size}
use Rattle.state.specs.declared.State as code
use Rattle.state.specs.Keeping.{Keeps}
use Rattle.wellformed.proofs.ListLaws.{all-entry}
use Rattle.wellformed.proofs.UseLaws.{attribute-fair, attribute-unit, unit-before}

-- ---- sorts
pub is-domain : (k : ℕ) (d : Sort) → k ≡ sort_number d → k ≡ 3 → is_sort domain d ≡ true
is-domain k d e h = eq-eqb 3 (sort_number d) (sym h ∙ e)

pub no-domain : (k : ℕ) (d : Sort) → k ≡ sort_number d → ¬ (k ≡ 3) → is_sort domain d ≡ false
no-domain k d e h = ne_eqb 3 (sort_number d) (λ q. h (e ∙ sym q))

-- ---- rows that are there
module _ (t b : List ℕ) (ks : List Def) (ms : List Attribute) (x : List ℕ) (count : ℕ) (y : List ℕ) (total : ℕ)
    (h : Held t b ks ms x count y total) where
  pub def-there : (p : ℕ) → p ≤ count → ¬ (p ≡ 0)
      → (d : Def) × (entry ks p ≡ some d) × DefRow t b ks ms p d (row definition_width x p)
  def-there p w z =
      let a = h.all_defs in
      let (d, e) = entry-there ks p (omega arith) (omega arith) in
      (d, e, h.def_rows p d e)

  pub attribute-there : (q : ℕ) → q ≤ total → ¬ (q ≡ 0)
      → (a : Attribute) × (entry ms q ≡ some a) × AttributeRow t b ks a (row attribute_width y q)
  attribute-there q w z =
      let n = h.all_attributes in
      let (a, e) = entry-there ms q (omega arith) (omega arith) in
      (a, e, h.attribute_rows q a e)

  -- what is read of a definition or an attribute, or of none
  pub of-def : {A : Type 0} (f : Def → A) (p : ℕ) → p ≤ count → ¬ (p ≡ 0) → (v : A)
      → ((d : Def) → Says t d (row definition_width x p) → v ≡ f d) → v ≡ f (or_no_def (entry ks p))
  of-def f p w z v e = let (d, q, r) = def-there p w z in rw q (e d r.says)

  pub of-attribute : {A : Type 0} (f : Attribute → A) (q : ℕ) → q ≤ total → ¬ (q ≡ 0) → (v : A)
      → ((a : Attribute) → Tells t a (row attribute_width y q) → v ≡ f a) → v ≡ f (or_no_attribute (entry ms q))
  of-attribute f q w z v e = let (a, u, r) = attribute-there q w z in rw u (e a r.tells)

  -- ---- what the base names
  pub use-there : (q : ℕ) → q ≤ total → ¬ (q ≡ 0) → (u : ℕ) → u ≡ get_or (row attribute_width y q) 5 0
      → use_for (entry ks u) (ty_of (or_no_attribute (entry ms q)).use_of) ≡ (or_no_attribute (entry ms q)).use_of
  use-there q w z u e = let (a, p, r) = attribute-there q w z in rw (p, e) r.uses

  pub use-within : (q : ℕ) → q ≤ total → ¬ (q ≡ 0) → (u : ℕ) → u ≡ get_or (row attribute_width y q) 5 0 → u ≤ count
  use-within q w z u e =
      let (a, p, r) = attribute-there q w z in
      let k = r.use_known in
      let n = h.all_defs in omega arith

-- ---- types
struct-typed : (t b : List ℕ) (d : Def) (c : Typing) → is_sort domain d.sort ≡ false → c ≡ Structure
    → Typed t b (ty_of (naming d)) c
struct-typed t b d c e h = rw e h

domain-typed : (t b : List ℕ) (d : Def) (c : Typing) → is_sort domain d.sort ≡ true → Typed t b d.type c
    → Typed t b (ty_of (naming d)) c
domain-typed t b d c e h = rw e h

module _ (t b : List ℕ) (ks : List Def) (ms : List Attribute) (x : List ℕ) (count : ℕ) (y : List ℕ) (total : ℕ)
    (r : Ready t b ks ms x count y total) where
  -- of the domain or structure at a position, whose sort is s
  module _ (p : ℕ) (d : Def) (e : entry ks p ≡ some d) (s : ℕ)
      (es : (u : List ℕ) (d : Def) → Says u d (row definition_width x p) → s ≡ sort_number d.sort) where
    same-sort : s ≡ sort_number d.sort
    same-sort = es t d (r.held.def_rows p d e).says

    pub named-domain : s ≡ 3 → (at : ℕ) → at ≡ get_or (row definition_width x p) 6 0 → (c : Typing)
        → ((u : List ℕ) (i : Record) (v : Ty) → length i ≡ head_size → Fair u v → UnitNumbered v
        → Stands b at (i ∷ type_records v) → Typed u b v c) → Typed t b (ty_of (naming d)) c
    named-domain h at ea c g =
        let k : is_sort domain d.sort ≡ true = is-domain s d.sort same-sort h in
        let q : d.sort ≡ domain = sort-domain d.sort k in
        let w : Stands b (get_or (row definition_width x p) 6 0) (heading domain d) =
        subst (λ (i : Sort). Stands b (get_or (row definition_width x p) 6 0) (heading i d)) q
        (r.held.def_rows p d e).stands in
        let n = r.numbered d.type (r.type_units p d e) in
        domain-typed t b d c k (g t (def_record 7 d) d.type refl (r.types p d e q) n (rw ea w))

    pub named-structure : ¬ (s ≡ 3) → (c : Typing) → c ≡ Structure → Typed t b (ty_of (naming d)) c
    named-structure h c q = struct-typed t b d c (no-domain s d.sort same-sort h) q

  -- of the attribute at a position, which names the definition u
  module _ (q : ℕ) (w : q ≤ total) (z : ¬ (q ≡ 0)) (u : ℕ) (eu : 0 < q → u ≡ get_or (row attribute_width y q) 5 0) where
    here : (a : Attribute) × (entry ms q ≡ some a) × AttributeRow t b ks a (row attribute_width y q)
    here = attribute-there t b ks ms x count y total r.held q w z

    inline-fair : (v : Use) → v ≡ inline (ty_of v) → FairUse t v → Fair t (ty_of v)
    inline-fair v e f = subst (FairUse t) e f

    abbrev head : Attribute → Record
    head a = head_record 6 a.name (flags false a.final a.extended a.mandatory) (number_or a.base)

    pub type-in-place : u ≡ 0 → (at : ℕ) → at ≡ get_or (row attribute_width y q) 3 0 → (c : Typing)
        → ((i : List ℕ) (j : Record) (v : Ty) → length j ≡ head_size → Fair i v → UnitNumbered v
        → Stands b at (j ∷ type_records v) → Typed i b v c) → Typed t b (ty_of (or_no_attribute (entry ms q)).use_of) c
    type-in-place o at ea c g =
        let (a, p, k) = here in
        let n : get_or (row attribute_width y q) 5 0 ≡ 0 = sym (eu (omega arith)) ∙ o in
        let i : a.use_of ≡ inline (ty_of a.use_of) =
        sym k.uses ∙ ap (λ (j : ℕ). use_for (entry ks j) (ty_of a.use_of)) n in
        let s : Stands b at (head a ∷ type_records (ty_of a.use_of)) = rw ea
        (subst (λ (v : Use). Stands b (get_or (row attribute_width y q) 3 0) (head a ∷ use_records v)) i k.stands) in
        let m = r.numbered (ty_of a.use_of) (r.use_units q a p) in
        rw p (g t (head a) (ty_of a.use_of) refl (inline-fair a.use_of i (r.uses q a p)) m s)

    pub type-named : ¬ (u ≡ 0) → (c : Typing) → ((d : Def) → entry ks u ≡ some d → Typed t b (ty_of (naming d)) c)
        → Typed t b (ty_of (or_no_attribute (entry ms q)).use_of) c
    type-named o c g =
        let (a, p, k) = here in
        let n : u ≡ get_or (row attribute_width y q) 5 0 = eu (omega arith) in
        let (d, e, i) = use-named t b ks a (row attribute_width y q) k (omega arith) in
        rw p (subst (λ (v : Use). Typed t b (ty_of v) c) i (g d (ap (entry ks) n ∙ e)))

-- ---- what is named in place of a type
pub naming-refers : (w : Option WrittenType) (g : Option Def) → is_naming w ≡ true → Refers w g
    → (d : Def) × (g ≡ some d) × (may_type d.sort ≡ true)
naming-refers none g e r = never e
naming-refers (some (G.text m n)) g e r = never e
naming-refers (some (G.numeric q u)) g e r = never e
naming-refers (some (G.enum m)) g e r = never e
naming-refers (some (G.named m)) g e r = r

unit-no-domain : (d : Sort) → is_sort unit d ≡ true → is_sort domain d ≡ false
unit-no-domain D.topic e = refl
unit-no-domain D.class e = refl
unit-no-domain D.struct e = refl
unit-no-domain D.domain e = never e
unit-no-domain D.unit e = refl

module _ (p named : ℕ) (w : Option WrittenType) (e : named ≡ cond (is_naming w) p 0) where
  -- a definition is named
  pub naming-there : 0 < named → (is_naming w ≡ true) × (named ≡ p)
  naming-there z = go (is_naming w) e
    where
      go : (b : Bool) → named ≡ cond b p 0 → (b ≡ true) × (named ≡ p)
      go true q = (refl, q)
      go false q = absurd (omega arith)

  -- a type stands in place
  pub naming-none : (ks : List Def) → Refers w (entry ks p) → named ≡ 0 → is_naming w ≡ false
  naming-none ks r z = go (is_naming w) refl e
    where
      go : (b : Bool) → is_naming w ≡ b → named ≡ cond b p 0 → b ≡ false
      go true i q =
          let (d, o, m) = naming-refers w (entry ks p) i r in
          let n : p ≡ 0 = sym q ∙ z in
          apart (sym o ∙ ap (entry ks) n)
      go false i q = refl

-- ---- the attribute's own type
pub in-place-type : (w : Option WrittenType) (g : Option Def) (b : Use) → is_naming w ≡ false
    → ty_of (attribute_use w g b) ≡ domain_type w g (ty_of b)
in-place-type none g b e = refl
in-place-type (some (G.text m n)) g b e = refl
in-place-type (some (G.numeric q r)) g b e = refl
in-place-type (some (G.enum m)) g b e = refl
in-place-type (some (G.named m)) g b e = never (sym e)

pub named-type : (w : Option WrittenType) (d : Def) (b : Use) → is_naming w ≡ true
    → attribute_use w (some d) b ≡ naming d
named-type none d b e = never e
named-type (some (G.text m n)) d b e = never e
named-type (some (G.numeric q r)) d b e = never e
named-type (some (G.enum m)) d b e = never e
named-type (some (G.named m)) d b e = refl

pub own-in-place : (w : Option WrittenType) (g : Option Def) (b : Use) (c : Typing) → is_naming w ≡ false
    → Valued (domain_type w g (ty_of b)) c → Valued (ty_of (attribute_use w g b)) c
own-in-place w g b c e h = rw (in-place-type w g b e) h

pub own-named : (t o : List ℕ) (ks : List Def) (p : ℕ) (w : Option WrittenType) (b : Use) (c : Typing) → p ≤ length ks
    → ¬ (p ≡ 0) → is_naming w ≡ true
    → ((d : Def) → entry ks p ≡ some d → Typed t o (ty_of (naming d)) c)
    → Typed t o (ty_of (attribute_use w (entry ks p) b)) c
own-named t o ks p w b c l z r g =
    let (d, e) = entry-there ks p (omega arith) l in
    rw (e, named-type w d b r) (g d e)

-- ---- 12 and 13
-- the last part of 13
none-and : (c : Bool) → (c && false) ≡ false
none-and true = refl
none-and false = refl

pub abstract-is : (w : Option WrittenType) (g : Option Def) (b : Use) → Refers w g
    → (is_domain (attribute_use w g b) && (or_no_def g).abstract) ≡ abstract_domain g
abstract-is none g b r = rw r (none-and (is_domain b))
abstract-is (some (G.text m n)) g b r = rw r
abstract-is (some (G.numeric q none)) g b r = rw r
abstract-is (some (G.numeric q (some n))) g b r = let (d, e, m) = r in rw (e, unit-no-domain d.sort m)
abstract-is (some (G.enum m)) g b r = rw r
abstract-is (some (G.named n)) g b r = let (d, e, m) = r in rw e (go d (is_sort domain d.sort))
  where
    go : (d : Def) (k : Bool)
        → (is_domain (cond k (of_domain (link_of d) d.bases) (of_structure (link_of d) d.bases)) && d.abstract)
        ≡ (k && d.abstract)
    go d true = refl
    go d false = refl

module _ (p : ℕ) (f twice : Bool) (w : Option WrittenType) (g : Option Def) (b : Use)
    (r : Refers w g) where
  abbrev own : Use
  own = attribute_use w g b

  pub head-last : (v : Bool) → v ≡ f → v ≡ true → broken_at 12 p ≡ ruling_of (head_rules p f twice own g)
  head-last v e h = rw (← e, h)

  pub head-rest : (v : Bool) → v ≡ f → v ≡ false → (u : Bool)
      → (twice || (is_numeric (ty_of own) || abstract_domain g)) ≡ u
      → cond u (broken_at 13 p) (Ok tt) ≡ ruling_of (head_rules p f twice own g)
  head-rest v e h u q = rw (← e, h, abstract-is w g b r, q)

-- an ABSTRACT domain, of a definition that is there
module _ (t b : List ℕ) (ks : List Def) (ms : List Attribute) (x : List ℕ) (count : ℕ) (y : List ℕ) (total : ℕ)
    (h : Held t b ks ms x count y total) (p : ℕ) (w : p ≤ count) (z : ¬ (p ≡ 0)) (s : ℕ)
    (es : (u : List ℕ) (d : Def) → Says u d (row definition_width x p) → s ≡ sort_number d.sort) where
  pub abstract-domain : s ≡ 3 → (f : ℕ) → ((u : List ℕ) (d : Def) → Says u d (row definition_width x p)
      → f ≡ flags d.abstract d.final false d.mandatory) → (v : Bool)
      → ((a i e m : Bool) → f ≡ flags a i e m → v ≡ a) → v ≡ abstract_domain (entry ks p)
  abstract-domain k f ef v ev =
      let (d, q, r) = def-there t b ks ms x count y total h p w z in
      rw (q, is-domain s d.sort (es t d r.says) k)
      (ev d.abstract d.final false d.mandatory (ef t d r.says))

  pub no-abstract : ¬ (s ≡ 3) → false ≡ abstract_domain (entry ks p)
  no-abstract k =
      let (d, q, r) = def-there t b ks ms x count y total h p w z in
      rw (q, no-domain s d.sort (es t d r.says) k)

-- ---- types of bases are fair
pub fair-use : (t : List ℕ) (u : Use) → FairUse t u → FairOrNone t (ty_of u)
fair-use t (inline x) f = fair-or-none t x f
fair-use t (of_domain l bs) f = fair-or-none t l.type f
fair-use t (of_structure l bs) f = tt

-- of what is named at all
pub fair-naming : (t : List ℕ) (d : Def) → (d.sort ≡ domain → Fair t d.type) → FairOrNone t (ty_of (naming d))
fair-naming t d f = go (is_sort domain d.sort) refl
  where
    go : (k : Bool) → is_sort domain d.sort ≡ k
        → FairOrNone t (ty_of (cond k (of_domain (link_of d) d.bases) (of_structure (link_of d) d.bases)))
    go true e = fair-or-none t d.type (f (sort-domain d.sort e))
    go false e = tt

pub fair-base : (t b : List ℕ) (ks : List Def) (ms : List Attribute) (x : List ℕ) (count : ℕ) (y : List ℕ) (total : ℕ)
    → Ready t b ks ms x count y total → (q : ℕ) → FairOrNone t (ty_of (or_no_attribute (entry ms q)).use_of)
fair-base t b ks ms x count y total r q = go (entry ms q) refl
  where
    go : (o : Option Attribute) → entry ms q ≡ o → FairOrNone t (ty_of (or_no_attribute o).use_of)
    go none e = tt
    go (some a) e = fair-use t a.use_of (r.uses q a e)

-- the unit of a base's type
pub unit-base : (t b : List ℕ) (ks : List Def) (ms : List Attribute) (x : List ℕ) (count : ℕ) (y : List ℕ) (total : ℕ)
    → Ready t b ks ms x count y total → (q : ℕ) → UnitIn ks (ty_of (or_no_attribute (entry ms q)).use_of)
unit-base t b ks ms x count y total r q = go (entry ms q) refl
  where
    go : (o : Option Attribute) → entry ms q ≡ o → UnitIn ks (ty_of (or_no_attribute o).use_of)
    go none e = tt
    go (some a) e = r.use_units q a e

-- ---- bounds of both types
pub own-sized : (t b : List ℕ) (ks : List Def) (ms : List Attribute) (x : List ℕ) (count : ℕ) (y : List ℕ) (total : ℕ)
    → Ready t b ks ms x count y total → (p : ℕ) (w : Option WrittenType) (u : Use) (c : Typing) → AnyIs (FairType t) w
    → Refers w (entry ks p) → FairOrNone t (ty_of u)
    → Valued (ty_of (attribute_use w (entry ks p) u)) c → Sized c
own-sized t b ks ms x count y total r p w u c f h k v = go (is_naming w) refl
  where
    go : (n : Bool) → is_naming w ≡ n → Sized c
    go false e = sized-meant t w (entry ks p) (ty_of u) c f k (rw (in-place-type w (entry ks p) u e) at v)
    go true e =
        let (d, q, m) = naming-refers w (entry ks p) e h in
        sized_base t (ty_of (naming d)) c (fair-naming t d (r.types p d q)) (rw (q, named-type w d u e) at v)

-- ---- of a state that is kept
pub ready : (t : List ℕ) (s : State) (st : code.State) (o x z y hs : List ℕ) → length o ≤ 65535
    → Keeps t s st o x z y hs → Ready t
    (take st.extent.used o) (known s.decls) (attributes_in s) x st.listing.count y st.listing.total
ready t s st o x z y hs l k = record {
  held =
      subst (λ (b : List ℕ). Held t b (known s.decls) (attributes_in s) x st.listing.count y st.listing.total)
      (sym k.written) k.held;
  types = λ p d e q. (all-entry (FairDef t (length (records s))) (known s.decls) p d k.fair.defs e).type q;
  uses = λ q a e. (attribute-fair t s k.fair q a e).used;
  type_units = λ p d e. (all-entry (NamesAll (known s.decls)) (known s.decls) p d k.fair.names e).0;
  use_units = attribute-unit t s k.fair;
  numbered = λ v u. any-map (λ i b. let n = k.numbered in let f = k.fewer in let w = k.within in omega arith)
      (unit_of v) (unit-before t (length (records s)) (known s.decls) k.fair.defs v u);
  rising = k.fair.rising;
}
