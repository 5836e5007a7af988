-- The open class: as its head leaves it, and with one attribute more.
use mathlib.Core.Path.{◌≡◌, refl, sym, ap, ◌∙◌, subst}
use mathlib.Core.Logic.{◌⊎◌, inl, inr, ⊎_elim}
use mathlib.Core.Bool.{Bool, true, false, cond}
use mathlib.Core.Option.{Option, none, some}
use mathlib.Core.List.{List, [], ◌∷◌, ◌++◌, append_assoc}
use Prim.Native.Nat.{ℕ, zero, suc, ◌+◌, ◌-◌, ◌≤◌, ◌<◌}
use native.Mathlib.Omega.{arith}
use lib.ListN.{length, length-append, get_or, set}
use lib.Dec.{ltb}
use borrow.Author.Tests.{lt-ltb, le-ltb}
use Rattle.rules.specs.All.{All}
use Rattle.rules.specs.Bytes.{same}
use Rattle.rules.specs.Declarations.{Attribute, Def, attribute_at, is_found, attributes_of, name_count}
use Rattle.rules.specs.Judge.{or_no_def, with_attribute}
use Rattle.rules.proofs.AllLaws.{all-attribute, all_append}
use Rattle.rules.proofs.Tests.{never, not-both}
use Rattle.rules.proofs.ByteLaws.{same-eq}
use Rattle.names.specs.Index.{nth, entry}
use Rattle.members.specs.Members.{slot_from, slot_of, nearest, replaced, with_nearest, Filled, most, Hand}
use Rattle.members.specs.Held.{Opened, InHand, Apart}
use Rattle.names.proofs.IndexLaws.{entry-keep, entry-within, nth-within}
use Rattle.names.proofs.BaseLaws.{entry-there}
use Rattle.members.proofs.NearLaws.{found_before, passed, count-more, near-found, near-count}
use Rattle.members.proofs.FillLaws.{filled_more, slot-zero, slot-some, number_same, number-other, position-same}
use Rattle.members.proofs.FillLaws.{position-other}

abbrev bytes : Attribute → List ℕ
bytes a = a.name.bytes

abbrev has : List ℕ → List Attribute → Bool
has n l = is_found (attribute_at n l)

-- ---- in the place of the first of its name
slot-above : (n : List ℕ) (i : ℕ) (l : List Attribute) → (slot_from n i l ≡ 0) ⊎ (i < slot_from n i l)
slot-above n i [] = inl refl
slot-above n i (b ∷ l) = go (same n (bytes b)) (slot-above n (i + 1) l)
  where
    go : (t : Bool) → (slot_from n (i + 1) l ≡ 0) ⊎ (i + 1 < slot_from n (i + 1) l)
        → (cond t (i + 1) (slot_from n (i + 1) l) ≡ 0) ⊎ (i < cond t (i + 1) (slot_from n (i + 1) l))
    go true h = inr (omega arith)
    go false h = ⊎_elim (λ e. inl e) (λ e. inr (omega arith)) h

abbrev At : List Attribute → Attribute → ℕ → ℕ → Attribute → Type 0
At h a j k b = ((k ≡ j) × (a ≡ b)) ⊎ ((¬ (k ≡ j)) × (nth h k ≡ some b))

replaced-nth : (h : List Attribute) (a : Attribute) (i j : ℕ) → slot_from (bytes a) i h ≡ i + suc j
    → (k : ℕ) (b : Attribute) → nth (replaced h a) k ≡ some b → At h a j k b
replaced-nth [] a i j e k b u = absurd (omega arith)
replaced-nth (c ∷ l) a i j e k b u = go (same (bytes a) (bytes c)) e u (λ j k p v. replaced-nth l a (i + 1) j p k b v)
  where
    later : (j k : ℕ) → slot_from (bytes a) (i + 1) l ≡ i + suc j → nth (c ∷ replaced l a) k ≡ some b
        → ((j k : ℕ) → slot_from (bytes a) (i + 1) l ≡ i + 1 + suc j → nth (replaced l a) k ≡ some b → At l a j k b)
        → At (c ∷ l) a j k b
    later zero k p v ih =
        ⊎_elim (λ z. absurd (omega arith)) (λ z. absurd (omega arith)) (slot-above (bytes a) (i + 1) l)
    later (suc j) zero p v ih = inr ((λ z. absurd (omega arith)), v)
    later (suc j) (suc k) p v ih =
        ⊎_elim (λ z. let y = z.0 in inl (omega arith, z.1))
        (λ z. inr ((λ y. z.0 (omega arith)), z.1)) (ih j k (omega arith) v)

    first : (j k : ℕ) → i + 1 ≡ i + suc j → nth (a ∷ l) k ≡ some b → At (c ∷ l) a j k b
    first j zero p v = let q : a ≡ b = cc in inl (omega arith, q)
    first j (suc k) p v = inr ((λ z. absurd (omega arith)), v)

    go : (t : Bool) → cond t (i + 1) (slot_from (bytes a) (i + 1) l) ≡ i + suc j
        → nth (cond t (a ∷ l) (c ∷ replaced l a)) k ≡ some b
        → ((j k : ℕ) → slot_from (bytes a) (i + 1) l ≡ i + 1 + suc j → nth (replaced l a) k ≡ some b → At l a j k b)
        → At (c ∷ l) a j k b
    go true p v ih = first j k p v
    go false p v ih = later j k p v ih

replaced-length : (h : List Attribute) (a : Attribute) → length (replaced h a) ≡ length h
replaced-length [] a = refl
replaced-length (c ∷ l) a = go (same (bytes a) (bytes c)) (replaced-length l a)
  where
    go : (t : Bool) → length (replaced l a) ≡ length l → length (cond t (a ∷ l) (c ∷ replaced l a)) ≡ suc (length l)
    go true e = refl
    go false e = ap suc e

replaced-finds : (h : List Attribute) (a : Attribute) (m : List ℕ) → has (bytes a) h ≡ true
    → attribute_at m (replaced h a) ≡ cond (same m (bytes a)) (some a) (attribute_at m h)
replaced-finds [] a m e = let z : ◌≡◌ {A = ℕ} 0 1 = cc in absurd (omega arith)
replaced-finds (c ∷ l) a m e =
    go (same (bytes a) (bytes c)) refl (same m (bytes a)) refl (λ f. replaced-finds l a m f) e
  where
    go : (t : Bool) → same (bytes a) (bytes c) ≡ t → (u : Bool) → same m (bytes a) ≡ u
        → (has (bytes a) l ≡ true → attribute_at m (replaced l a) ≡ cond (same m (bytes a)) (some a) (attribute_at m l))
        → is_found (cond t (some c) (attribute_at (bytes a) l)) ≡ true
        → attribute_at m (cond t (a ∷ l) (c ∷ replaced l a))
        ≡ cond u (some a) (cond (same m (bytes c)) (some c) (attribute_at m l))
    go true p true q ih f = rw q
    go true p false q ih f = let r : same m (bytes c) ≡ false = rw (← same-eq (bytes a) (bytes c) p) q in rw (q, r)
    go false p true q ih f =
        let r : same m (bytes c) ≡ false = rw (same-eq m (bytes a) q) p in
        rw (r, ih f, q)
    go false p false q ih f = ap (cond (same m (bytes c)) (some c)) (ih f ∙ rw q)

-- ---- the hand
module _ (ms : List Attribute) (hs : List ℕ) (n : ℕ) (h : List Attribute) (a : Attribute) (q k r : ℕ)
    (ea : entry ms q ≡ some a) (ek : k ≡ a.number) (er : r ≡ slot_of (bytes a) h) (f : Filled ms hs n h) where
  pub hold-new : r ≡ 0 → n < most → Hand hs → Filled ms (set (set hs n k) (most + n) q) (n + 1) (with_nearest h a)
  hold-new z hn hx = rw (slot-zero (bytes a) 0 h (sym er ∙ z)) (filled_more ms hs n h a q k f ea ek hn hx)

  pub hold-old : ¬ (r ≡ 0) → n ≤ most → r - 1 < most → Hand hs
      → Filled ms (set (set hs (r - 1) k) (most + (r - 1)) q) n (with_nearest h a)
  hold-old z hm hn hl = rw (slot-some (bytes a) 0 h (λ e. z (er ∙ e))) (record {
    all = f.all ∙ sym (replaced-length h a);
    at_position = λ i b u. ⊎_elim (λ v. rw (v.0, position-same hs (r - 1) k q hn hl, ← v.1) ea)
        (λ v. rw (position-other hs (r - 1) k q i hn v.0) (f.at_position i b v.1))
        (replaced-nth h a 0 (r - 1) slot i b u);
    at_number = λ i b u. ⊎_elim (λ v. rw (v.0, number_same hs (r - 1) k q hn hl, ← v.1) ek)
        (λ v. let w = nth-within h i b v.1 in let z = f.all in
        rw (number-other hs (r - 1) k q i (omega arith) v.0) (f.at_number i b v.1))
        (replaced-nth h a 0 (r - 1) slot i b u);
  })
    where
      slot : slot_from (bytes a) 0 h ≡ 0 + suc (r - 1)
      slot = omega arith

pub filled-grows : (ms ns : List Attribute) (hs : List ℕ) (n : ℕ) (h : List Attribute)
    → Filled ms hs n h → Filled (ms ++ ns) hs n h
filled-grows ms ns hs n h f = record {
  all = f.all;
  at_position = λ i a e. let p = f.at_position i a e in
      entry-keep ms ns (get_or hs (most + i) 0) (entry-within ms (get_or hs (most + i) 0) a p) ∙ p;
  at_number = f.at_number;
}

-- ---- the class after its head
pub opened-start : (ms : List Attribute) (hs : List ℕ) (n : ℕ) (o : Option Def) (c : Def) → c.own ≡ []
    → c.inherited ≡ attributes_of (or_no_def o)
    → Filled ms hs n (nearest (attributes_of (or_no_def o))) → Opened ms hs n c
opened-start ms hs n o c eo ei f =
    let e : attributes_of c ≡ attributes_of (or_no_def o) = rw (eo, ei) in
    record {
      hand = nearest (attributes_of (or_no_def o));
      filled = f;
      finds = λ m. near-found m [] (attributes_of (or_no_def o)) ∙ ap (attribute_at m) (sym e);
      counts = f.all ∙ near-count [] (attributes_of (or_no_def o)) refl ∙ ap name_count (sym e);
    }

-- over the class that is in hand nothing changes
pub opened-over : (ms : List Attribute) (hs : List ℕ) (n : ℕ) (o : Option Def) (c : Def) → is_found o ≡ true
    → c.own ≡ [] → c.inherited ≡ attributes_of (or_no_def o) → InHand ms hs n o → Opened ms hs n c
opened-over ms hs n none c f eo ei h = never f
opened-over ms hs n (some d) c f eo ei h =
    let e : attributes_of c ≡ attributes_of d = rw (eo, ei) in
    record {
      hand = h.hand;
      filled = h.filled;
      finds = λ m. h.finds m ∙ ap (attribute_at m) (sym e);
      counts = h.counts ∙ ap name_count (sym e);
    }

pub opened-held : (ms : List Attribute) (hs : List ℕ) (n : ℕ) (ks : List Def) (base held : ℕ) (c : Def) → base ≡ held
    → 0 < base → base ≤ length ks → c.own ≡ [] → c.inherited ≡ attributes_of (or_no_def (entry ks base))
    → InHand ms hs n (entry ks held) → Opened ms hs n c
opened-held ms hs n ks base held c e z w eo ei h =
    let (d, q) = entry-there ks base z w in
    opened-over ms hs n (entry ks base) c (ap is_found q) eo ei
    (subst (λ (i : ℕ). InHand ms hs n (entry ks i)) (sym e) h)

-- ---- one own attribute more, whose name no own one has
pub finds-more : (h l r : List Attribute) (a : Attribute) → has (bytes a) l ≡ false
    → ((m : List ℕ) → attribute_at m h ≡ attribute_at m (l ++ r)) → (m : List ℕ)
    → attribute_at m (with_nearest h a) ≡ attribute_at m (l ++ a ∷ r)
finds-more h l r a u f m = go (has (bytes a) h) refl (same m (bytes a)) refl
  where
    named : same m (bytes a) ≡ true → attribute_at m (l ++ a ∷ r) ≡ some a
    named q = let v : has m l ≡ false = rw (same-eq m (bytes a) q) u in rw (found_before m l (a ∷ r), v, q)

    fallback : (o : Option Attribute) → cond (is_found o) o none ≡ o
    fallback none = refl
    fallback (some b) = refl

    go : (t : Bool) → has (bytes a) h ≡ t → (v : Bool) → same m (bytes a) ≡ v
        → attribute_at m (cond t (replaced h a) (h ++ (a ∷ []))) ≡ attribute_at m (l ++ a ∷ r)
    go true p true q = rw (replaced-finds h a m p, q) (sym (named q))
    go true p false q = rw (replaced-finds h a m p, q) (f m ∙ sym (passed m l a r q))
    go false p true q =
        let w : has m h ≡ false = rw (same-eq m (bytes a) q) p in
        rw (found_before m h (a ∷ []), w, q) (sym (named q))
    go false p false q = rw (found_before m h (a ∷ []), q) (fallback (attribute_at m h) ∙ f m ∙ sym (passed m l a r q))

pub counts-more : (h l r : List Attribute) (a : Attribute) → ((m : List ℕ) → attribute_at m h ≡ attribute_at m (l ++ r))
    → length h ≡ name_count (l ++ r) → length (with_nearest h a) ≡ name_count (l ++ a ∷ r)
counts-more h l r a f e = rw (count-more l a r, ← f (bytes a)) (go (has (bytes a) h))
  where
    go : (t : Bool) → length (cond t (replaced h a) (h ++ (a ∷ [])))
        ≡ cond t (name_count (l ++ r)) (suc (name_count (l ++ r)))
    go true = replaced-length h a ∙ e
    go false = let p = length-append h (a ∷ []) in omega arith

pub opened-more : (ms : List Attribute) (hs : List ℕ) (n : ℕ) (c : Def) → Opened ms hs n c → (a : Attribute)
    → has (bytes a) c.own ≡ false
    → (hs' : List ℕ) (n' : ℕ) → ((h : List Attribute) → Filled (ms ++ (a ∷ [])) hs n h → ((m : List ℕ)
    → attribute_at m h ≡ attribute_at m (attributes_of c)) → Filled (ms ++ (a ∷ [])) hs' n' (with_nearest h a))
    → Opened (ms ++ (a ∷ [])) hs' n' (with_attribute c a)
unfolding with_attribute
opened-more ms hs n c o a u hs' n' hold =
    let h : List Attribute = o.hand in
    let f = hold h (filled-grows ms (a ∷ []) hs n h o.filled) o.finds in
    record {
      hand = with_nearest h a;
      filled = f;
      finds = λ m. finds-more h c.own c.inherited a u o.finds m
          ∙ ap (attribute_at m) (sym (append_assoc c.own (a ∷ []) c.inherited));
      counts =
          f.all ∙ counts-more h c.own c.inherited a o.finds (sym o.filled.all ∙ o.counts)
          ∙ ap name_count (sym (append_assoc c.own (a ∷ []) c.inherited));
    }

-- ---- what a slot has
found_from : (n : List ℕ) (i : ℕ) (h : List Attribute) → ((slot_from n i h ≡ 0) × (none ≡ attribute_at n h))
    ⊎ ((j : ℕ) × (slot_from n i h ≡ i + suc j) × (nth h j ≡ attribute_at n h))
found_from n i [] = inl (refl, refl)
found_from n i (b ∷ l) = go (same n (bytes b)) (found_from n (i + 1) l)
  where
    go : (t : Bool) → ((slot_from n (i + 1) l ≡ 0) × (none ≡ attribute_at n l))
        ⊎ ((j : ℕ) × (slot_from n (i + 1) l ≡ i + 1 + suc j) × (nth l j ≡ attribute_at n l))
        → ((cond t (i + 1) (slot_from n (i + 1) l) ≡ 0) × (none ≡ cond t (some b) (attribute_at n l))) ⊎ ((j : ℕ)
        × (cond t (i + 1) (slot_from n (i + 1) l) ≡ i + suc j) × (nth (b ∷ l) j ≡ cond t (some b) (attribute_at n l)))
    go true h = inr (0, omega arith, refl)
    go false h = ⊎_elim (λ p. inl p) (λ p. let (j, e, q) = p in inr (suc j, omega arith, q)) h

-- the slot of a name has the attribute that the class has under it
pub slot-finds : (n : List ℕ) (h : List Attribute) → entry h (slot_of n h) ≡ attribute_at n h
slot-finds n h = ⊎_elim (λ p. rw p.0 p.1)
    (λ p. let (j, e, q) = p in let k : slot_of n h ≡ suc j = omega arith in rw k q) (found_from n 0 h)

pub opened-finds : (ms : List Attribute) (hs : List ℕ) (k : ℕ) (c : Def) (o : Opened ms hs k c) (n : List ℕ)
    → entry o.hand (slot_of n o.hand) ≡ attribute_at n (attributes_of c)
opened-finds ms hs k c o n = slot-finds n o.hand ∙ o.finds n

-- ---- own or inherited
pub own_is : (c : Def) (n : List ℕ) (a : Attribute) → Apart c → attribute_at n (attributes_of c) ≡ some a
    → ltb c.number a.number ≡ has n c.own
own_is c n a p e = go (has n c.own) refl
  where
    found : attribute_at n (attributes_of c)
        ≡ cond (has n c.own) (attribute_at n c.own) (attribute_at n c.inherited)
    found = found_before n c.own c.inherited

    go : (t : Bool) → has n c.own ≡ t → ltb c.number a.number ≡ has n c.own
    go true q =
        let f : attribute_at n c.own ≡ some a = sym (rw q at found) ∙ e in
        lt-ltb c.number a.number
        (all-attribute (λ (x : Attribute). c.number < x.number) n c.own a p.own_behind f) ∙ sym q
    go false q =
        let f : attribute_at n c.inherited ≡ some a = sym (rw q at found) ∙ e in
        let w = all-attribute (λ (x : Attribute). x.number < c.number) n c.inherited a p.inherited_before f in
        le-ltb c.number a.number (omega arith) ∙ sym q

pub own-slot : (ms : List Attribute) (hs : List ℕ) (k : ℕ) (c : Def) (m : List ℕ) (o : Opened ms hs k c) → Apart c
    → (r : ℕ) → 0 < r → r ≡ slot_of m o.hand → ltb c.number (get_or hs (r - 1) 0) ≡ has m c.own
own-slot ms hs k c m o p r z e = go (attribute_at m (attributes_of c)) refl
  where
    at_slot : nth o.hand (r - 1) ≡ attribute_at m (attributes_of c)
    at_slot =
        let q : r ≡ suc (r - 1) = omega arith in
        ap (entry o.hand) (sym q) ∙ ap (entry o.hand) e ∙ opened-finds ms hs k c o m

    go : (a : Option Attribute) → attribute_at m (attributes_of c) ≡ a
        → ltb c.number (get_or hs (r - 1) 0) ≡ has m c.own
    go none q =
        let f : has m o.hand ≡ true = slot-some m 0 o.hand (λ y. absurd (omega arith)) in
        let g : has m o.hand ≡ false = ap is_found (o.finds m ∙ q) in
        not-both f g
    go (some a) q = rw (o.filled.at_number (r - 1) a (at_slot ∙ q)) (own_is c m a p q)

-- ---- the records of attributes stand apart
pub apart-start : (c : Def) → c.own ≡ [] → All (λ (a : Attribute). a.number < c.number) c.inherited → Apart c
apart-start c e h = record {
  own_behind = subst (All (λ (a : Attribute). c.number < a.number)) (sym e) tt;
  inherited_before = h;
}

pub apart_more : (c : Def) (a : Attribute) → Apart c → c.number < a.number → Apart (with_attribute c a)
unfolding with_attribute
apart_more c a h w = record {
  own_behind = all_append (λ (x : Attribute). c.number < x.number) c.own (a ∷ []) h.own_behind (w, tt);
  inherited_before = h.inherited_before;
}
