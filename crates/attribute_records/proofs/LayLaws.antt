-- 14 to 18 and 22 of what types an attribute, and its records.
use mathlib.Core.Path.{◌≡◌, refl, sym, ap, ◌∙◌, subst}
use mathlib.Core.Bool.{Bool, true, false, cond, not, ◌&&◌}
use mathlib.Core.Option.{Option, none, some}
use mathlib.Core.List.{List, [], ◌∷◌, ◌++◌}
use Prim.Native.Nat.{ℕ, ◌+◌, ◌≤◌, ◌<◌}
use native.Mathlib.Omega.{arith}
use lib.ListN.{length}
use lib.Dec.{eqb, ltb}
use borrow.Author.Tests.{eq-eqb}
use Rattle.wellformed.proofs.TypeLaws.{sort-domain}
use Rattle.rules.specs.Grammar as G
use Rattle.rules.specs.Grammar.{WrittenType}
use Rattle.rules.specs.Types as T
use Rattle.rules.specs.Types.{Ty, kind_of, fits, keeps_unit}
use Rattle.rules.specs.Declarations.{Use, inline, of_domain, of_structure, ty_of, link_of, Attribute, Def, is_sort}
use Rattle.rules.specs.Declarations.{domain}
use Rattle.rules.specs.Declarations.{is_found, sort_number}
use Rattle.rules.specs.Book.{Record, low_first, bytes, type_records, use_records}
use Rattle.rules.specs.Judge.{attribute_use, Rule, rule, kind_rule, or_no_attribute, naming, bases_of, is_among}
use Rattle.rules.specs.Judge.{descends}
use Rattle.rules.specs.Judge.{is_naming, domain_type, type_rules, may_type}
use Rattle.book.specs.Forms.{length_form}
use Rattle.book.specs.Sizes.{length_size}
use Rattle.ground.specs.Parts.{splice}
use Rattle.names.specs.Index.{entry, row, Says, definition_width}
use Rattle.names.proofs.BaseLaws.{entry-there}
use Rattle.members.specs.Held.{Held, use_for}
use Rattle.enumerations.specs.Records.{size_of}
use Rattle.parts.specs.declared.types.Written.{Written}
use Rattle.rules.specs.All.{AnyIs}
use Rattle.wellformed.specs.Fairness.{Fair, FairUse}
use Rattle.ground.specs.Rulings.{ruling_of}
use Rattle.fitting.specs.Values.{Valued, Typed, FairOrNone}
use Rattle.ground.specs.declared.Ruling.{Ruling}
use Rattle.types.proofs.TypeLaws.{fits-split}
use Rattle.types.specs.declared.Over.{Over}
use Rattle.written.specs.Written.{LaidWhen, written_rules}
use Rattle.std.specs.Prelude.{⊤, Result, Ok, Err}
use Rattle.enumerations.specs.declared.Size.{Size}
use Rattle.ground.proofs.RulingLaws.{ruling-append}
use Rattle.attribute_names.proofs.NameLaws.{broken_at, found-is}
use Rattle.attribute_types.specs.Facts.{Ready}
use Rattle.attribute_records.specs.Stages.{base_rules, use_rules}
use Rattle.attribute_records.specs.Facts.{Lays, LaidAs}
use Rattle.attribute_types.proofs.UseLaws.{is-domain, no-domain, def-there, in-place-type, named-type}
use Rattle.attribute_types.proofs.UseLaws.{naming-refers, naming-there, naming-none, fair-use, fair-base}
use Rattle.wellformed.proofs.UnitLaws.{units-self}
use Rattle.rules.proofs.Tests.{never}

-- ---- the record of what is named
naming-records : (d : Def) → use_records (naming d)
    ≡ (cond (is_sort domain d.sort) 17 12 ∷ low_first 4 d.number) ∷ []
naming-records d = go (is_sort domain d.sort)
  where
    go : (k : Bool) → use_records (cond k (of_domain (link_of d) d.bases) (of_structure (link_of d) d.bases))
        ≡ (cond k 17 12 ∷ low_first 4 d.number) ∷ []
    go true = refl
    go false = refl

naming-bytes : (d : Def) → bytes (use_records (naming d)) ≡ length_form (cond (is_sort domain d.sort) 17 12) d.number
naming-bytes d = ap bytes (naming-records d)

naming-size : (d : Def) → size_of (use_records (naming d)) ≡ record { bytes = length_size; records = 1 }
naming-size d = ap size_of (naming-records d)

pub kind-domain : (s : ℕ) (d : Def) → s ≡ sort_number d.sort → s ≡ 3
    → ◌≡◌ {A = ℕ} 17 (cond (is_sort domain d.sort) 17 12)
kind-domain s d e h = rw (is-domain s d.sort e h)

pub kind-structure : (s : ℕ) (d : Def) → s ≡ sort_number d.sort → ¬ (s ≡ 3)
    → ◌≡◌ {A = ℕ} 12 (cond (is_sort domain d.sort) 17 12)
kind-structure s d e h = rw (no-domain s d.sort e h)

abbrev Named : Def → ℕ → List ℕ → List ℕ → Size → Type 0
Named d i o o₁ r =
    (r ≡ size_of (use_records (naming d)))
    × (i + length (bytes (use_records (naming d))) ≤ length o → o₁ ≡ splice o i (bytes (use_records (naming d))))

module _ (t b : List ℕ) (ks : List Def) (ms : List Attribute) (x : List ℕ) (count : ℕ) (y : List ℕ) (total : ℕ)
    (h : Held t b ks ms x count y total) (p : ℕ) (d : Def) (e : entry ks p ≡ some d) (i : ℕ) (o : List ℕ) where
  pub named-laid : (k n : ℕ) (f o₁ : List ℕ)
      → ((u : List ℕ) (d : Def) → Says u d (row definition_width x p) → k ≡ cond (is_sort domain d.sort) 17 12)
      → ((u : List ℕ) (d : Def) → Says u d (row definition_width x p) → n ≡ d.number)
      → f ≡ length_form k n → o₁ ≡ splice o i f → Named d i o o₁ (record { bytes = length_size; records = 1 })
  named-laid k n f o₁ ek en ef eo =
      let s = (h.def_rows p d e).says in
      let q : f ≡ bytes (use_records (naming d)) = ef ∙ rw (ek t d s, en t d s) (sym (naming-bytes d)) in
      (sym (naming-size d), λ w. eo ∙ ap (splice o i) q)

  pub named-over : (o₁ : List ℕ) → length o < i + length_size
      → Named d i o o₁ (record { bytes = length_size; records = 1 })
  named-over o₁ w = (
    sym (naming-size d),
    λ v.
        let l : length (bytes (use_records (naming d))) ≡ length_size = ap length (naming-bytes d) in
        absurd (omega arith),
  )

-- ---- descent
kind-five : (t : List ℕ) (x : Ty) → Fair t x → ¬ (kind_of x ≡ 5)
kind-five t (T.text true n) f e = omega arith
kind-five t (T.text false n) f e = omega arith
kind-five t (T.numeric r u) f e = omega arith
kind-five t (T.enum x) f e = omega arith
kind-five t T.structure f e = f

descends-both : (t : List ℕ) (d e : Def) → (d.sort ≡ domain → Fair t d.type) → (e.sort ≡ domain → Fair t e.type)
    → kind_of (ty_of (naming d)) ≡ kind_of (ty_of (naming e))
    → is_among e.number (link_of d ∷ d.bases) ≡ descends (naming d) (naming e)
descends-both t d e fd fe = go (is_sort domain d.sort) refl (is_sort domain e.sort) refl
  where
    go : (k : Bool) → is_sort domain d.sort ≡ k → (j : Bool) → is_sort domain e.sort ≡ j
        → kind_of (ty_of (cond k (of_domain (link_of d) d.bases) (of_structure (link_of d) d.bases)))
        ≡ kind_of (ty_of (cond j (of_domain (link_of e) e.bases) (of_structure (link_of e) e.bases)))
        → is_among e.number (link_of d ∷ d.bases)
        ≡ descends (cond k (of_domain (link_of d) d.bases) (of_structure (link_of d) d.bases))
        (cond j (of_domain (link_of e) e.bases) (of_structure (link_of e) e.bases))
    go true p true q h = refl
    go true p false q h = absurd (kind-five t d.type (fd (sort-domain d.sort p)) h)
    go false p true q h = absurd (kind-five t e.type (fe (sort-domain e.sort q)) (sym h))
    go false p false q h = refl

module _ (t b : List ℕ) (ks : List Def) (ms : List Attribute) (x : List ℕ) (count : ℕ) (y : List ℕ) (total : ℕ)
    (r : Ready t b ks ms x count y total) (p : ℕ) (d : Def) (e : entry ks p ≡ some d) (u : ℕ) (w : u ≤ count)
    (z : ¬ (u ≡ 0)) (v : Use) (eu : use_for (entry ks u) (ty_of v) ≡ v)
    (hk : kind_of (ty_of (naming d)) ≡ kind_of (ty_of v)) where
  pub descends-named : (n : ℕ) → ((i : List ℕ) (d : Def) → Says i d (row definition_width x u) → n ≡ d.number)
      → (a : Bool) → a ≡ is_among n (bases_of (entry ks p)) → a ≡ descends (naming d) v
  descends-named n en a ea =
      let (f, q, k) = def-there t b ks ms x count y total r.held u w z in
      let i : naming f ≡ v = sym (ap (λ (o : Option Def). use_for o (ty_of v)) q) ∙ eu in
      let h : kind_of (ty_of (naming d))
      ≡ kind_of (ty_of (naming f)) = hk ∙ ap (λ (j : Use). kind_of (ty_of j)) (sym i) in
      let m : a ≡ is_among f.number (link_of d ∷ d.bases) =
      ea ∙ ap (λ (o : Option Def). is_among n (bases_of o)) e
      ∙ ap (λ (j : ℕ). is_among j (link_of d ∷ d.bases)) (en t f k.says) in
      m ∙ descends-both t d f (r.types p d e) (r.types u f q) h ∙ ap (descends (naming d)) i

-- ---- 16 to 18 and 22 of what is named, over a base of its kind
module _ (p : ℕ) (f : Bool) (u b : Use) (e : f ≡ true) (k : Bool)
    (q : k ≡ not (eqb (kind_of (ty_of u)) (kind_of (ty_of b)))) (h : k ≡ false) (a : Bool) (ea : a ≡ descends u b) where
  pub descent-fine : a ≡ true → Ok tt ≡ ruling_of (base_rules p f true u b)
  descent-fine ha = rw (e, ← q, h, ← ea, ha)

  pub descent-other : a ≡ false → (i : Bool) → i ≡ fits (ty_of u) (ty_of b) → i ≡ true
      → broken_at 18 p ≡ ruling_of (base_rules p f true u b)
  descent-other ha i ei hi = rw (e, ← q, h, ← ea, ha, ← ei, hi)

  pub descent-unfit : a ≡ false → (i : Bool) → i ≡ fits (ty_of u) (ty_of b) → i ≡ false
      → broken_at 17 p ≡ ruling_of (base_rules p f true u b)
  descent-unfit ha i ei hi = rw (e, ← q, h, ← ea, ha, ← ei, hi)

pub any-fair : (t : List ℕ) (o : Option Attribute) → AnyIs (λ a. FairUse t a.use_of) o
    → FairOrNone t (ty_of (or_no_attribute o).use_of)
any-fair t none f = tt
any-fair t (some a) f = fair-use t a.use_of f

-- ---- laying
-- what is named has no other rules
named-rules : (p : ℕ) (f : Bool) (v : Option WrittenType) (d : Def) (b : Use) → is_naming v ≡ true
    → use_rules p f v (attribute_use v (some d) b) b ≡ base_rules p f true (naming d) b
named-rules p f none d b e = never e
named-rules p f (some (G.text m n)) d b e = never e
named-rules p f (some (G.numeric q r)) d b e = never e
named-rules p f (some (G.enum m)) d b e = never e
named-rules p f (some (G.named m)) d b e = refl

module _ (p : ℕ) (v : Option WrittenType) (d : Def) (o : Option Attribute) (e : is_naming v ≡ true)
    (i : ℕ) (out out₁ : List ℕ) where
  rule-is : ruling_of
      (use_rules p (is_found o) v (attribute_use v (some d) (or_no_attribute o).use_of) (or_no_attribute o).use_of)
      ≡ ruling_of (base_rules p (is_found o) true (naming d) (or_no_attribute o).use_of)
  rule-is = ap ruling_of (named-rules p (is_found o) v d (or_no_attribute o).use_of e)

  lay-broken-by : (q : Ruling) → Err q
      ≡ ruling_of (base_rules p (is_found o) true (naming d) (or_no_attribute o).use_of)
      → LaidAs p v (some d) o i out out₁ (Err q)
  lay-broken-by q h = rw (rule-is, ← h)

  lay-named-by : Ok tt ≡ ruling_of (base_rules p (is_found o) true (naming d) (or_no_attribute o).use_of)
      → (r : Size) → Named d i out out₁ r → LaidAs p v (some d) o i out out₁ (Ok r)
  lay-named-by h r k = rw (rule-is, ← h, named-type v d (or_no_attribute o).use_of e) (ap Ok k.0, k.1)

-- what is kept of the base with MANDATORY alone breaks nothing
unbroken : (p : ℕ) (f : Bool) (t : List ℕ) (b : Use) → FairOrNone t (ty_of b)
    → ruling_of (use_rules p f none b b) ≡ Ok tt
unbroken p false t b h = refl
unbroken p true t b h =
    rw (
      eq-eqb (kind_of (ty_of b)) (kind_of (ty_of b)) refl,
      fits-split t none none (ty_of b) h refl refl,
      units-self (ty_of b),
    )

-- in place, the rules are those of a written type
rules-on : (l m m' : List Rule) → ruling_of m ≡ ruling_of m' → ruling_of (l ++ m) ≡ ruling_of (l ++ m')
rules-on l m m' e = rw (ruling-append l m, ruling-append l m', e)

-- 18 is for what is named
last-rules : (p : ℕ) (f : Bool) (x y : Ty)
    → ruling_of (kind_rule p f x y ∷ rule 17 p (f && not (fits x y)) ∷ rule 18 p (f && false)
    ∷ rule 22 p (f && not (keeps_unit x y)) ∷ [])
    ≡ ruling_of (kind_rule p f x y ∷ rule 17 p (f && not (fits x y)) ∷ rule 22 p (f && not (keeps_unit x y)) ∷ [])
last-rules p true x y = refl
last-rules p false x y = refl

in-place-rules : (p : ℕ) (f : Bool) (v : Option WrittenType) (g : Option Def) (u b : Use) → is_naming v ≡ false
    → ty_of u ≡ domain_type v g (ty_of b)
    → ruling_of (use_rules p f v u b) ≡ ruling_of (written_rules f p v g (ty_of b))
in-place-rules p f v g u b e h =
    rw (e, h) (rules-on (type_rules f p v) _ _ (last-rules p f (domain_type v g (ty_of b)) (ty_of b)))

naming-inline : (d : Def) (x : Ty) → ¬ (naming d ≡ inline x)
naming-inline d x = go (is_sort domain d.sort)
  where
    go : (k : Bool) → ¬ (cond k (of_domain (link_of d) d.bases) (of_structure (link_of d) d.bases) ≡ inline x)
    go true e = let y : ◌≡◌ {A = ℕ} 0 1 = cc in omega arith
    go false e = let y : ◌≡◌ {A = ℕ} 0 1 = cc in omega arith

laid_as : (q q' : Result ⊤ Ruling) → q ≡ q' → (l l' : List Record) → l ≡ l' → (i : ℕ) (o o₁ : List ℕ)
    (r : Result Size Ruling) → LaidWhen q' l' i o o₁ r → LaidWhen q l i o o₁ r
laid_as q q' e l l' f i o o₁ r h = rw (e, f) h

-- ---- each way to lay
module _ {t b : List ℕ} {ks : List Def} {ms : List Attribute} {x : List ℕ} {count : ℕ} {y : List ℕ} {total : ℕ} {rs :
    List ℕ} {w : Written} {base target named u : ℕ} {over : Over} {v : Option WrittenType}
    (l : Lays t b ks ms x count y total rs w base target named u over v) where
  abbrev kept : Use
  kept = (or_no_attribute (entry ms base)).use_of

  abbrev own : Use
  own = attribute_use v (entry ks target) kept

  pub based-is : is_found (entry ms base) ≡ ltb 0 base
  based-is = let a = l.ready.held.all_attributes in let c = l.within in found-is ms base (omega arith)

  pub base-fair : FairOrNone t (ty_of kept)
  base-fair = fair-base t b ks ms x count y total l.ready base

  pub any-base : AnyIs (λ a. FairUse t a.use_of) (entry ms base)
  any-base = go (entry ms base) refl
    where
      go : (o : Option Attribute) → entry ms base ≡ o → AnyIs (λ a. FairUse t a.use_of) o
      go none e = tt
      go (some a) e = l.ready.uses base a e

  -- a domain or structure is named
  module _ (z : 0 < named) where
    is-naming : is_naming v ≡ true
    is-naming = (naming-there target named v l.names z).0

    pub lays-there : (d : Def) × (entry ks named ≡ some d) × (may_type d.sort ≡ true)
    lays-there =
        let (d, e, m) = naming-refers v (entry ks target) is-naming l.refers in
        (d, ap (entry ks) (naming-there target named v l.names z).1 ∙ e, m)

    module _ (d : Def) (e : entry ks named ≡ some d) where
      at_target : entry ks target ≡ some d
      at_target = ap (entry ks) (sym (naming-there target named v l.names z).1) ∙ e

      pub typed-naming : Typed t b (ty_of (naming d)) over.own
      typed-naming = subst (λ (k : Use). Typed t b (ty_of k) over.own)
          (ap (λ (g : Option Def). attribute_use v g kept) at_target ∙ named-type v d kept is-naming) (l.typed_named z)

      pub lay-broken : (i : ℕ) (out out₁ : List ℕ) (q : Ruling)
          → Err q ≡ ruling_of (base_rules w.place (is_found (entry ms base)) true (naming d) kept)
          → LaidAs w.place v (entry ks target) (entry ms base) i out out₁ (Err q)
      lay-broken i out out₁ q h = rw at_target (lay-broken-by w.place v d (entry ms base) is-naming i out out₁ q h)

      pub lay-reference : (i : ℕ) (out out₁ : List ℕ)
          → Ok tt ≡ ruling_of (base_rules w.place (is_found (entry ms base)) true (naming d) kept)
          → (r : Size) → Named d i out out₁ r → LaidAs w.place v (entry ks target) (entry ms base) i out out₁ (Ok r)
      lay-reference i out out₁ h r k =
          rw at_target (lay-named-by w.place v d (entry ms base) is-naming i out out₁ h r k)

  -- none is
  module _ (z : named ≤ 0) (k : ℕ) (ek : use_for (entry ks k) (ty_of own) ≡ own) where
    pub in-place-here : is_naming v ≡ false
    in-place-here = naming-none target named v l.names ks l.refers (omega arith)

    pub kept_there : 0 < k → k ≤ count → (d : Def) × (entry ks k ≡ some d)
    kept_there h c = let a = l.ready.held.all_defs in entry-there ks k h (omega arith)

    pub lay-kept : (d : Def) → entry ks k ≡ some d → (i : ℕ) (out out₁ : List ℕ) (r : Size) → Named d i out out₁ r
        → LaidAs w.place v (entry ks target) (entry ms base) i out out₁ (Ok r)
    lay-kept d e i out out₁ r h =
        go v in-place-here (sym (ap (λ (g : Option Def). use_for g (ty_of own)) e) ∙ ek)
      where
        go : (v : Option WrittenType) → is_naming v ≡ false → naming d ≡ attribute_use v (entry ks target) kept
            → LaidAs w.place v (entry ks target) (entry ms base) i out out₁ (Ok r)
        go none n q = rw (unbroken w.place (is_found (entry ms base)) t kept base-fair, ← q) (ap Ok h.0, h.1)
        go (some (G.text m c)) n q = absurd (naming-inline d _ q)
        go (some (G.numeric m c)) n q = absurd (naming-inline d _ q)
        go (some (G.enum m)) n q = absurd (naming-inline d _ q)
        go (some (G.named m)) n q = never (sym n)

    pub based-none : over.based ≡ false → ty_of kept ≡ T.structure
    based-none h = go (entry ms base) (based-is ∙ sym l.based ∙ h)
      where
        go : (o : Option Attribute) → is_found o ≡ false → ty_of (or_no_attribute o).use_of ≡ T.structure
        go none e = refl
        go (some a) e = never (sym e)

    own_is : ty_of own ≡ domain_type v (entry ks target) (ty_of kept)
    own_is = in-place-type v (entry ks target) kept in-place-here

    pub valued-own : Valued (domain_type v (entry ks target) (ty_of kept)) over.own
    valued-own = subst (λ (c : Ty). Valued c over.own) own_is l.valued

    pub keeps-own : over.keeps ≡ keeps_unit (domain_type v (entry ks target) (ty_of kept)) (ty_of kept)
    keeps-own = l.keeps in-place-here ∙ ap (λ (c : Ty). keeps_unit c (ty_of kept)) own_is

    abbrev rules : List Rule
    rules = written_rules over.based w.place v (entry ks target) (ty_of kept)

    pub lay-in-place : k ≤ 0 → (i : ℕ) (out out₁ : List ℕ) (r : Result Size Ruling)
        → LaidWhen (ruling_of rules) (type_records (domain_type v (entry ks target) (ty_of kept))) i out out₁ r
        → LaidAs w.place v (entry ks target) (entry ms base) i out out₁ r
    lay-in-place h i out out₁ r q =
        let n : k ≡ 0 = omega arith in
        let c : inline (ty_of own) ≡ own = sym (ap (λ (j : ℕ). use_for (entry ks j) (ty_of own)) n) ∙ ek in
        let a : ruling_of (use_rules w.place (is_found (entry ms base)) v own kept) ≡ ruling_of rules =
        in-place-rules w.place (is_found (entry ms base)) v (entry ks target) own kept in-place-here own_is
        ∙ ap (λ (f : Bool). ruling_of (written_rules f w.place v (entry ks target) (ty_of kept)))
        (based-is ∙ sym l.based) in
        let m : use_records own ≡ type_records (domain_type v (entry ks target) (ty_of kept)) =
        ap use_records (sym c) ∙ ap type_records own_is in
        laid_as (ruling_of (use_rules w.place (is_found (entry ms base)) v own kept)) _ a _ _ m i out out₁ r q
