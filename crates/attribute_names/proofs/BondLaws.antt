-- 4 to 11 of an attribute, judged in stages, and what it is bound to.
use mathlib.Core.Path.{◌≡◌, refl, sym, ap, ◌∙◌, subst}
use mathlib.Core.Bool.{Bool, true, false, cond, not, ◌&&◌, ◌||◌}
use mathlib.Core.Option.{Option, none, some}
use mathlib.Core.List.{List, [], ◌∷◌, ◌++◌}
use Prim.Native.Nat.{ℕ, ◌+◌, ◌≤◌}
use native.Mathlib.Omega.{arith}
use Rattle.std.specs.Prelude.{⊤, Result, Ok, Err, IfOk}
use lib.ListN.{length}
use lib.Dec.{leb}
use Rattle.rules.specs.Names as R
use Rattle.rules.specs.Grammar as G
use Rattle.rules.specs.Grammar.{Reference, WrittenType}
use Rattle.rules.specs.Declarations.{Sort, Attribute, Def, attributes_of, attribute_at, is_found, name_count, State}
use Rattle.rules.specs.Declarations.{known}
use Rattle.rules.specs.Judge as J
use Rattle.rules.specs.Judge.{Rule, rule, has_extended, reference_in, resolved, element_rule, may_stand_in, place_of}
use Rattle.rules.proofs.Tests.{not-fails, or-fails}
use Rattle.names.specs.Index.{entry, row, Says, Known, definition_width}
use Rattle.names.specs.References.{bytes_of}
use Rattle.members.specs.Members.{Members, Filled, slot_of, most}
use Rattle.members.specs.Held.{Opened, Apart, attributes_in}
use Rattle.members.proofs.NearLaws.{found_before}
use Rattle.members.proofs.HeldLaws.{indexed}
use Rattle.parts.specs.Forms.{any_of, optional_of}
use Rattle.ground.specs.Rulings.{ruling_of}
use Rattle.ground.specs.declared.Ruling.{Ruling}
use Rattle.ground.proofs.RulingLaws.{ruling-first, ruling-rest}
use Rattle.units.specs.declared.AttributeUnit.{AttributeUnit}
use Rattle.state.specs.declared.State as code
use Rattle.state.specs.Keeping.{Keeps, OpenIs}
use Rattle.state.specs.Targets.{Ruled, target_rules}
use Rattle.state.proofs.KeepLaws.{open-fair}
use Rattle.attribute_names.specs.Stages.{name_rules, reference_rules, rules_to_11}
use Rattle.attribute_names.specs.Facts.{Given, PointsTo, Refers, Slots, Reaches, references_in, Within, BondsAre}
use Rattle.attribute_names.specs.declared.Bonds.{Bonds}
use Rattle.attribute_names.proofs.GivenLaws.{at_name, is-extended, is-meant, is-reference, name-bytes}

-- ---- lists of rules of which none is broken
pub both-off : (l m : List Rule) → ruling_of (l ++ m) ≡ Ok tt → (ruling_of l ≡ Ok tt) × (ruling_of m ≡ Ok tt)
both-off l m e = go (ruling_of l) refl
  where
    go : (r : Result ⊤ Ruling) → ruling_of l ≡ r → (ruling_of l ≡ Ok tt) × (ruling_of m ≡ Ok tt)
    go (Ok u) q = (q, sym (ruling-rest l m u q) ∙ e)
    go (Err r) q = let z = sym e ∙ ruling-first l m r q in cc

pub one-off : (k q : ℕ) (b : Bool) → ruling_of (rule k q b ∷ []) ≡ Ok tt → b ≡ false
one-off k q true e = cc
one-off k q false e = refl

pub two-off : (k q j r : ℕ) (b c : Bool) → ruling_of (rule k q b ∷ rule j r c ∷ []) ≡ Ok tt → (b ≡ false) × (c ≡ false)
two-off k q j r b c e =
    let (d, f) = both-off (rule k q b ∷ []) (rule j r c ∷ []) e in
    (one-off k q b d, one-off j r c f)

-- ---- what 4 and 9 leave
module _ (c : Def) (n : R.Name) (x : Bool) (e : ruling_of (name_rules c n x) ≡ Ok tt) where
  offs : ((not (is_found (attribute_at n.bytes (attributes_of c))) && leb most (name_count (attributes_of c))) ≡ false)
      × ((is_found (attribute_at n.bytes c.own) || (is_found (attribute_at n.bytes c.inherited) && not x))
      ≡ false)
  offs = two-off 4 n.offset 9 n.offset _ _ e

  pub few-names :
      (not (is_found (attribute_at n.bytes (attributes_of c))) && leb most (name_count (attributes_of c))) ≡ false
  few-names = offs.0

  pub no_own : is_found (attribute_at n.bytes c.own) ≡ false
  no_own = (or-fails offs.1).0

-- ---- 4 to 11
-- what is left where none is broken
pub to-11-off : (c : Def) (n : R.Name) (x f : Bool) (w : Option WrittenType) (g : Option Def)
    → ruling_of (rules_to_11 c n x f w g) ≡ Ok tt
    → (ruling_of (name_rules c n x) ≡ Ok tt) × (ruling_of (element_rule w ∷ []) ≡ Ok tt)
    × (ruling_of (reference_rules n.offset x f w g) ≡ Ok tt)
to-11-off c n x f w g e =
    let (a, b) = both-off (name_rules c n x) (element_rule w ∷ reference_rules n.offset x f w g) e in
    let (d, h) = both-off (element_rule w ∷ []) (reference_rules n.offset x f w g) b in
    (a, d, h)

-- what the type's reference then leads to
pub refers-is : (p : ℕ) (x f : Bool) (w : Option WrittenType) (g : Option Def) → (reference_in w ≡ none → g ≡ none)
    → ruling_of (reference_rules p x f w g) ≡ Ok tt → Refers w g × ((x && not f) ≡ false)
refers-is p x f w g h e =
    let (a, b) = both-off (rule 10 p (x && not f) ∷ []) (target_rules w g) e in
    let q = place_of (reference_in w) in
    (go (may_stand_in w) (reference_in w) g h (two-off 10 q 11 q _ _ b), one-off 10 p (x && not f) a)
  where
    go : (m : Sort → Bool) (r : Option Reference) (g : Option Def) → (r ≡ none → g ≡ none)
        → ((is_found r && not (is_found g)) ≡ false) × ((is_found g && not (m (J.or_no_def g).sort)) ≡ false)
        → PointsTo m r g
    go m none g h q = h refl
    go m (some r) none h q = let z = q.0 in cc
    go m (some r) (some d) h q = (d, refl, not-fails q.1)

-- ---- where one is broken, and where none is
pub within-are : (st : code.State) (slot : ℕ) → Slots st.context.in_hand slot → (r : Result Bonds Ruling)
    → IfOk r (λ e. (e.slot ≡ slot) × (e.base ≤ st.listing.total) × (e.target ≤ st.listing.count)) → IfOk r (Within st)
within-are st slot h (Ok e) i = record { slot = rw i.0 h; base = i.1; target = i.2 }
within-are st slot h (Err q) i = tt

module _ (s : State) (c : Def) (n : R.Name) (x : Bool) (w : Option WrittenType) (hs : List ℕ) (k : ℕ) where
  pub name-broken : (q : Ruling) → ruling_of (name_rules c n x) ≡ Err q → BondsAre s c n x w hs k (Err q)
  name-broken q e = ruling-first (name_rules c n x) (element_rule w ∷ references_in s c n x w) q e

  module _ (e : ruling_of (name_rules c n x) ≡ Ok tt) where
    behind-name : ruling_of (name_rules c n x ++ (element_rule w ∷ references_in s c n x w))
        ≡ ruling_of ((element_rule w ∷ []) ++ references_in s c n x w)
    behind-name = ruling-rest (name_rules c n x) (element_rule w ∷ references_in s c n x w) tt e

    pub element-broken : (q : Ruling) → ruling_of (element_rule w ∷ []) ≡ Err q → BondsAre s c n x w hs k (Err q)
    element-broken q h = behind-name ∙ ruling-first (element_rule w ∷ []) (references_in s c n x w) q h

    pub bonds-are : ruling_of (element_rule w ∷ []) ≡ Ok tt → (slot : ℕ)
        → ((o : Opened (attributes_in s) hs k c) → slot ≡ slot_of n.bytes o.hand) → (r : Result Bonds Ruling)
        → IfOk r (λ e. e.slot ≡ slot) → Ruled r (references_in s c n x w) (Reaches s c n w)
        → BondsAre s c n x w hs k r
    bonds-are h slot es (Ok b) i u = (
      behind-name ∙ ruling-rest (element_rule w ∷ []) (references_in s c n x w) tt h ∙ u.0,
      record { slot = λ o. i ∙ es o; reaches = u.1 },
    )
    bonds-are h slot es (Err q) i u =
        behind-name ∙ ruling-rest (element_rule w ∷ []) (references_in s c n x w) tt h ∙ u

-- ---- the slot, the base and what the type's reference leads to
module _ {t : List ℕ} {s : State} {st : code.State} {o x z y hs : List ℕ} (k : Keeps t s st o x z y hs) {c : Def}
    (ec : s.open_class ≡ some c) {n : R.Name} {p : List (List ℕ)} {w : G.Written} {rs : List ℕ} {a : AttributeUnit}
    (g : Given t n p w rs a) where
  open_is : OpenIs t s st x hs (some c)
  open_is = subst (OpenIs t s st x hs) ec k.opened

  pub was : Opened (attributes_in s) hs st.context.in_hand c
  was = open_is.2

  apart : Apart c
  apart = (open-fair t s st o x z y hs k c ec).apart

  -- the code's slot
  module _ (slot : ℕ) (es : (ms h : List Attribute) → Members t ms y st.listing.total
      → Filled ms hs st.context.in_hand h → slot ≡ slot_of (bytes_of t a.name) h) where
    pub slot_is : (q : Opened (attributes_in s) hs st.context.in_hand c) → slot ≡ slot_of n.bytes q.hand
    slot_is q =
        es (attributes_in s) q.hand (indexed k.held).members q.filled
        ∙ ap (λ (i : List ℕ). slot_of i q.hand) (name-bytes t n p w rs a g)

    pub name-is : (class : ℕ)
        → ((u : List ℕ) (d : Def) → Says u d (row definition_width x (st.listing.count + 1)) → class ≡ d.number)
        → (r : Result ⊤ Ruling)
        → ((ms : List Attribute) (d : Def) (m : R.Name) (q : Opened ms hs st.context.in_hand d) → Apart d
        → class ≡ d.number → a.name.offset ≡ m.offset → slot ≡ slot_of m.bytes q.hand
        → r ≡ ruling_of (name_rules d m a.properties.extended))
        → ruling_of (name_rules c n (has_extended p)) ≡ r
    name-is class en r er =
        sym (er (attributes_in s) c n was apart (en t c open_is.3.says) (at_name t n p w rs a g) (slot_is was)
        ∙ ap (λ (b : Bool). ruling_of (name_rules c n b)) (is-extended t n p w rs a g))

  -- what is reached from a slot, and by the reference
  module _ (off : is_found (attribute_at n.bytes c.own) ≡ false) (slot : ℕ)
      (es : slot ≡ slot_of n.bytes was.hand) (base : ℕ)
      (eb : (ms h : List Attribute) (j : ℕ) (m : List ℕ) → st.listing.total ≡ length ms → Filled ms hs j h
      → slot ≡ slot_of m h → entry ms base ≡ attribute_at m h)
      (target : ℕ) (ed : entry (known s.decls) target ≡ resolved s (reference_in w.type)) where
    pub base-is : entry (attributes_in s) base ≡ attribute_at n.bytes c.inherited
    base-is =
        eb (attributes_in s) was.hand st.context.in_hand n.bytes k.held.all_attributes was.filled es
        ∙ was.finds n.bytes ∙ found_before n.bytes c.own c.inherited
        ∙ ap (λ (b : Bool). cond b (attribute_at n.bytes c.own) (attribute_at n.bytes c.inherited)) off

    no_name_lem : reference_in w.type ≡ none → entry (known s.decls) target ≡ none
    no_name_lem e = ed ∙ ap (resolved s) e

    pub reference-is : base ≤ st.listing.total → target ≤ st.listing.count → (q : Result ⊤ Ruling)
        → ((u : List ℕ) (ks : List Def) (count : ℕ) (ms : List Attribute) (v : Option WrittenType) → Known u ks x count
        → target ≤ count → base ≤ length ms → a.written.meant ≡ any_of v
        → a.written.reference ≡ optional_of (reference_in v) → (reference_in v ≡ none → entry ks target ≡ none)
        → q ≡ ruling_of (reference_rules a.name.offset a.properties.extended (is_found (entry ms base))
        v (entry ks target)))
        → ruling_of (references_in s c n (has_extended p) w.type) ≡ q
    reference-is hb hn q eq =
        sym (eq t (known s.decls) st.listing.count (attributes_in s) w.type (indexed k.held).known hn
        (let i = k.held.all_attributes in omega arith) (is-meant t n p w rs a g) (is-reference t n p w rs a g)
        no_name_lem
        ∙ ap (λ (i : ℕ). ruling_of (reference_rules i a.properties.extended (is_found (entry (attributes_in s) base))
        w.type (entry (known s.decls) target))) (at_name t n p w rs a g)
        ∙ ap (λ (b : Bool). ruling_of (reference_rules n.offset b (is_found (entry (attributes_in s) base))
        w.type (entry (known s.decls) target))) (is-extended t n p w rs a g)
        ∙ ap (λ (i : Option Attribute). ruling_of (reference_rules n.offset (has_extended p) (is_found i)
        w.type (entry (known s.decls) target))) base-is
        ∙ ap (λ (i : Option Def). ruling_of (reference_rules n.offset (has_extended p)
        (is_found (attribute_at n.bytes c.inherited)) w.type i)) ed)
