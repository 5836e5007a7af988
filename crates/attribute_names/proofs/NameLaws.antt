-- 4 and 9 to 11: what the slot of a name in the open class says, and what a reference names.
use mathlib.Core.Path.{◌≡◌, refl, sym, ap, ◌∙◌}
use mathlib.Core.Bool.{Bool, true, false, cond, not, ◌&&◌, ◌||◌}
use mathlib.Core.Option.{Option, none, some}
use mathlib.Core.List.{List}
use Prim.Native.Nat.{ℕ, zero, suc, ◌+◌, ◌-◌, ◌≤◌}
use native.Mathlib.Omega.{arith}
use lib.ListN.{length, get_or}
use lib.Dec.{eqb, leb, ltb}
use borrow.Author.Tests.{ne_eqb, lt-ltb}
use Rattle.rules.specs.Names as R
use Rattle.rules.specs.Grammar.{WrittenType}
use Rattle.rules.specs.Declarations.{Attribute, Def, attributes_of, attribute_at, is_found, name_count}
use Rattle.names.specs.Index.{nth, entry}
use Rattle.names.proofs.IndexLaws.{entry-within}
use Rattle.names.proofs.BaseLaws.{entry-there}
use Rattle.members.specs.Members.{slot_of, Filled, most}
use Rattle.members.specs.Held.{Opened}
use Rattle.members.proofs.NearLaws.{found_before}
use Rattle.members.proofs.FillLaws.{slot-zero, slot-some}
use Rattle.members.proofs.OpenLaws.{slot-finds}
use Rattle.ground.specs.Rulings.{ruling_of}
use Rattle.std.specs.Prelude.{⊤, Result, Ok, Err}
use Rattle.ground.specs.declared.Ruling.{Ruling}
use Rattle.state.specs.Targets.{target_rules}
use Rattle.attribute_names.specs.Stages.{name_rules, reference_rules}

abbrev pub broken_at : ℕ → ℕ → Result ⊤ Ruling
broken_at n p = Err (record { number = n; place = p })

-- ---- the name
abbrev has : List ℕ → List Attribute → Bool
has n l = is_found (attribute_at n l)

either-found : (a b : Option Attribute) → is_found (cond (is_found a) a b) ≡ (is_found a || is_found b)
either-found none b = refl
either-found (some x) b = refl

found-parts : (c : Def) (n : List ℕ) → has n (attributes_of c) ≡ (has n c.own || has n c.inherited)
found-parts c n =
    ap is_found (found_before n c.own c.inherited)
    ∙ either-found (attribute_at n c.own) (attribute_at n c.inherited)

-- by what is found: under the name at all (a), as an own one (o), inherited (i); b says that
-- there are as many as may be
abbrev ruling_by : ℕ → Bool → Bool → Bool → Bool → Bool → Result ⊤ Ruling
ruling_by p a b o i x = cond (not a && b) (broken_at 4 p) (cond (o || (i && not x)) (broken_at 9 p) (Ok tt))

is-new : (p : ℕ) (b o i x : Bool) → (o || i) ≡ false → ruling_by p false b o i x ≡ cond b (broken_at 4 p) (Ok tt)
is-new p b true i x e = cc
is-new p b false true x e = cc
is-new p b false false x e = refl

is-old : (p : ℕ) (b o i x : Bool) → (o || i) ≡ true → ruling_by p true b o i x
    ≡ cond (o || not x) (broken_at 9 p) (Ok tt)
is-old p b true i x e = refl
is-old p b false true x e = refl
is-old p b false false x e = cc

module _ (ms : List Attribute) (hs : List ℕ) (k : ℕ) (c : Def) (n : R.Name) (o : Opened ms hs k c) (slot : ℕ)
    (e : slot ≡ slot_of n.bytes o.hand) (x : Bool) where
  module _ (z : slot ≡ 0) where
    absent : has n.bytes (attributes_of c) ≡ false
    absent = sym (ap is_found (o.finds n.bytes)) ∙ slot-zero n.bytes 0 o.hand (sym e ∙ z)

    pub name_new : (b : Bool) → leb most k ≡ b → cond b (broken_at 4 n.offset) (Ok tt) ≡ ruling_of (name_rules c n x)
    name_new b h =
        rw (absent, ← o.counts, h)
        (sym (is-new n.offset b (has n.bytes c.own) (has n.bytes c.inherited) x
        (sym (found-parts c n.bytes) ∙ absent)))

  module _ (z : ¬ (slot ≡ 0)) where
    there : has n.bytes (attributes_of c) ≡ true
    there = sym (ap is_found (o.finds n.bytes)) ∙ slot-some n.bytes 0 o.hand (λ y. z (e ∙ y))

    pub name_old : (b : Bool) → b ≡ has n.bytes c.own → (v : Bool) → (b || not x) ≡ v
        → cond v (broken_at 9 n.offset) (Ok tt) ≡ ruling_of (name_rules c n x)
    name_old b h v q =
        rw (there, ← q, h)
        (sym (is-old n.offset (leb most (name_count (attributes_of c))) (has n.bytes c.own) (has n.bytes c.inherited) x
        (sym (found-parts c n.bytes) ∙ there)))

-- ---- the attribute in a slot
pub found_some : (o : Option Attribute) → is_found o ≡ true → (a : Attribute) × (o ≡ some a)
found_some none p = let y : ◌≡◌ {A = ℕ} 0 1 = cc in absurd (omega arith)
found_some (some a) p = (a, refl)

module _ (ms h : List Attribute) (hs : List ℕ) (k : ℕ) (n : List ℕ) (f : Filled ms hs k h)
    (slot : ℕ) (e : slot ≡ slot_of n h) where
  pub no_slot : slot ≡ 0 → none ≡ attribute_at n h
  no_slot z = sym (ap (entry h) (sym e ∙ z)) ∙ slot-finds n h

  in-slot : ¬ (slot ≡ 0) → (a : Attribute) → attribute_at n h ≡ some a
      → entry ms (get_or hs (most + (slot - 1)) 0) ≡ some a
  in-slot z a q =
      let s : slot ≡ suc (slot - 1) = omega arith in
      let w : nth h (slot - 1) ≡ some a = ap (entry h) (sym s ∙ e) ∙ slot-finds n h ∙ q in
      f.at_position (slot - 1) a w

  found-there : ¬ (slot ≡ 0) → is_found (attribute_at n h) ≡ true
  found-there z = slot-some n 0 h (λ y. z (e ∙ y))

  pub at_slot : ¬ (slot ≡ 0) → (q : ℕ) → q ≡ get_or hs (most + (slot - 1)) 0 → entry ms q ≡ attribute_at n h
  at_slot z q eq = let (a, w) = found_some (attribute_at n h) (found-there z) in rw eq (in-slot z a w ∙ sym w)

  pub slot-within : ¬ (slot ≡ 0) → (q : ℕ) → q ≡ get_or hs (most + (slot - 1)) 0 → q ≤ length ms
  slot-within z q eq =
      let (a, w) = found_some (attribute_at n h) (found-there z) in
      entry-within ms q a (rw eq (in-slot z a w))

-- ---- EXTENDED
pub found-is : {A : Type 0} (l : List A) (p : ℕ) → p ≤ length l → is_found (entry l p) ≡ ltb 0 p
found-is l zero h = refl
found-is l (suc i) h =
    let (a, q) = entry-there l (suc i) (omega arith) h in
    ap is_found q ∙ sym (lt-ltb 0 (suc i) (omega arith))

lost-is : {A : Type 0} (l : List A) (p : ℕ) (x : Bool) → p ≤ length l
    → (x && not (is_found (entry l p))) ≡ (x && eqb p 0)
lost-is l zero x h = refl
lost-is l (suc i) x h =
    let (a, q) = entry-there l (suc i) (omega arith) h in
    rw (ne_eqb (suc i) 0 (λ e. omega arith), q)

pub references : (ms : List Attribute) (base : ℕ) → base ≤ length ms → (x : Bool) (p : ℕ) (r : Option WrittenType)
    (g : Option Def) (v : Bool) → (x && eqb base 0) ≡ v
    → cond v (broken_at 10 p) (ruling_of (target_rules r g))
    ≡ ruling_of (reference_rules p x (is_found (entry ms base)) r g)
references ms base w x p r g v q = rw (lost-is ms base x w, q)
