-- One enumeration held against another: what the code finds at a step, and that the steps add up to the rule.
use mathlib.Core.Path.{◌≡◌, refl, sym, ap, ◌∙◌}
use mathlib.Core.Bool.{Bool, true, false, cond, not, ◌&&◌, ◌||◌}
use mathlib.Core.Option as rules
use mathlib.Core.Option.{none, some}
use Rattle.std.specs.Prelude.{Option, Some, None}
use mathlib.Core.List.{List}
use Prim.Native.Nat.{ℕ, ◌+◌, ◌-◌, ◌<◌}
use Rattle.rules.specs.Names.{Name}
use Rattle.rules.specs.Enumerations.{Enum, end, elem, final, at, inner, or_else, fits_in, enum_fits}
use Rattle.rules.proofs.Tests.{never, not-both}
use Rattle.rules.proofs.MergeLaws.{has_some, has-none, inner-some}
use Rattle.enumerations.specs.Lists.{is_element, past_inner, inner_at, list_of, final_of, written, find_of}
use Rattle.enumerations.specs.Standing.{plain, DeepIn, Deep, Stands, ElementsAt}
use Rattle.holding.specs.Holding.{has_elements, held_leaf, held_of, held_found, held_at, Reads}
use Rattle.enumerations.proofs.StandLaws.{list-elements, past-inside, Sought, sought}
use Rattle.enumerations.proofs.StandLaws.{Inside, inside_is, inside_of}
use Rattle.enumerations.proofs.WrittenLaws.{stands-whole}
use Rattle.enumerations.proofs.WrittenLaws.{inner-stands}
use Rattle.enumerations.specs.declared.Inner.{Inner}
use Rattle.holding.specs.declared.Held.{Held}
use Rattle.holding.specs.declared.Held.TheVariants.{Fits, Misfit, Deeper}
use Rattle.book.specs.Sizes.{element_size, list_size}

-- ---- what a step says
abbrev pub by : Held → Bool → Bool
by Fits q = true
by Misfit q = false
by (Deeper v w) q = q

-- what is deeper is a list that has elements
record Deepens (s : List ℕ) (v w : Option Inner) (x : Inner) (y : Option Inner) : Type 0 where
  own : v ≡ Some x
  base : w ≡ y
  element : is_element s x.list ≡ true

leaf-deeper : (s : List ℕ) (w : Option Inner) (x : Inner) (y : Option Inner)
    → held_leaf s w ≡ Deeper x y → {A : Type 0} → A
leaf-deeper s w x y h = go (has_elements s w) h
  where
    go : (c : Bool) → cond c Misfit Fits ≡ Deeper x y → {A : Type 0} → A
    go true h = absurd cc
    go false h = absurd cc

deepens : (s : List ℕ) (v w : Option Inner) (x : Inner) (y : Option Inner) → held_of s v w ≡ Deeper x y
    → Deepens s v w x y
deepens s None w x y h = leaf-deeper s w x y h
deepens s (Some v) w x y h = go (is_element s v.list) refl h
  where
    go : (c : Bool) → is_element s v.list ≡ c → cond c (Deeper v w) (held_leaf s w) ≡ Deeper x y
        → Deepens s (Some v) w x y
    go true e h =
        let a : v ≡ x = cc in
        let b : w ≡ y = cc in
        record { own = ap Some a; base = b; element = ap (λ (z : Inner). is_element s z.list) (sym a) ∙ e }
    go false e h = leaf-deeper s w x y h

missing-deeper : (f : Bool) (x : Inner) (y : Option Inner) → cond f Misfit Fits ≡ Deeper x y → {A : Type 0} → A
missing-deeper true x y h = absurd cc
missing-deeper false x y h = absurd cc

held-leaf : (s : List ℕ) (v w : Option Inner) → has_elements s v ≡ false → held_of s v w ≡ held_leaf s w
held-leaf s None w h = refl
held-leaf s (Some v) w h = rw h

held-deeper : (s : List ℕ) (v w : Option Inner) (q : Bool) → has_elements s v ≡ true → q ≡ by (held_of s v w) q
held-deeper s None w q h = never h
held-deeper s (Some v) w q h = rw h

module _ (t s : List ℕ) where
  pub reads-stands : (e : Enum) (p : ℕ) → Stands t s e p → Reads t s e (inner_at s p)
  reads-stands e p h =
      rw (inner-stands t s e p h)
      (record { is_final = refl; list = list-elements t s e (p + list_size) (stands-whole t s e p h).list })

  end-has : (f : Bool) (v : Option Inner) → Reads t s (end f) v → has_elements s v ≡ false
  end-has f None h = refl
  end-has f (Some v) h = h.list

  elem-has : (n : Name) (i r : Enum) (v : Option Inner) → Reads t s (elem n i r) v → has_elements s v ≡ true
  elem-has n i r None h = absurd h.list
  elem-has n i r (Some v) h = h.list.0.there

  pub inside-held : (i j : Enum) (v w : Option Inner) → Reads t s i v → Reads t s j w →
      enum_fits i j ≡ by (held_of s v w) (fits_in i j)
  inside-held (end f) (end g) v w a b = rw (held-leaf s v w (end-has f v a), end-has g w b)
  inside-held (end f) (elem n i r) v w a b = rw (held-leaf s v w (end-has f v a), elem-has n i r w b)
  inside-held (elem n i r) j v w a b = held-deeper s v w _ (elem-has n i r v a)

  -- one that stands held against another
  pub record Whole (e b : Enum) (h : Held) : Type 0 where
    pub says : enum_fits e b ≡ by h (fits_in e b)
    pub inside : (x : Inner) (y : Option Inner) → h ≡ Deeper x y → Reads t s e (Some x) × Reads t s b y

  pub whole : (e b : Enum) (p q : ℕ) (v w : Option Inner) (h : Held) → Stands t s e p → Stands t s b q
      → v ≡ inner_at s p → w ≡ inner_at s q → h ≡ held_of s v w → Whole e b h
  whole e b p q v w h hp hq ev ew eh =
      let E : Reads t s e v = rw ev (reads-stands e p hp) in
      let B : Reads t s b w = rw ew (reads-stands b q hq) in
      record {
        says = rw eh (inside-held e b v w E B);
        inside = λ x y z. let D = deepens s v w x y (sym eh ∙ z) in (rw D.own at E, rw D.base at B);
      }

  -- a list that has elements is inside something
  deep-list : (k : ℕ) (i : Enum) (p : ℕ) → ElementsAt t s i p → is_element s p ≡ true
      → DeepIn (plain i) k (Deep (k - 1) i) → (0 < k) × Deep (k - 1) i
  deep-list k (end f) p h e d = not-both e h
  deep-list k (elem n i r) p h e d = d

  -- of a list e held against b, what is left from a place on
  pub record Rest (k : ℕ) (e b : Enum) (p : ℕ) : Type 0 where
    pub rest : Enum
    pub stands : ElementsAt t s rest p
    pub deep : Deep k rest
    pub is_final : final rest ≡ final e
    pub same : fits_in e b ≡ fits_in rest b

  -- what a step says: it goes on at `next`, or the whole does not fit; the lists i and j are inside
  pub record Stepped (k : ℕ) (e b : Enum) (next : ℕ) (q : Held) : Type 0 where
    pub i : Enum
    pub j : Enum
    pub goes : by q (fits_in i j) ≡ true → Rest k e b next
    pub stops : by q (fits_in i j) ≡ false → fits_in e b ≡ false
    pub deeper : (x : Inner) (y : Option Inner) → q ≡ Deeper x y
        → Reads t s i (Some x) × Reads t s j y × (0 < k) × Deep (k - 1) i

  record Judges (n : Name) (i b : Enum) (q : Held) : Type 0 where
    says : or_else (at n.bytes b) (not (final b)) (enum_fits i) ≡ by q (fits_in i (inner n.bytes b))
    inside : (x : Inner) (y : Option Inner) → q ≡ Deeper x y
        → Reads t s i (Some x) × Reads t s (inner n.bytes b) y × (is_element s x.list ≡ true)

  reads-inside : (i : Enum) (v : Option Inner) → Inside t s i v → Reads t s i v
  reads-inside i v h = record { is_final = h.is_final; list = h.list }

  missing : (f q : Bool) → not f ≡ by (cond f Misfit Fits) q
  missing true q = refl
  missing false q = refl

  element-judged : (n : Name) (i r b : Enum) (p : ℕ) (v : Option Inner) → ElementsAt t s (elem n i r) p
      → Reads t s b v → Judges n i b (held_at t s p v)
  unfolding held_at
  element-judged n i r b p v h g =
      let S : Sought t s n b (find_of t s (list_of v) (written s p)) =
      rw h.0.name (sought t s n h.0.in_text b (list_of v) g.list) in
      go (find_of t s (list_of v) (written s p)) S (reads-inside i _ (inside_is t s i (p + element_size) h.1))
      (at n.bytes b) refl
    where
      go : (m : Option ℕ) → Sought t s n b m → Reads t s i (inner_at s (p + element_size))
          → (o : rules.Option Enum) → at n.bytes b ≡ o
          → Judges n i b (held_found s (inner_at s (p + element_size)) v m)
      go None S I none e =
          record {
            says = rw (e, g.is_final) (missing (final b) _);
            inside = λ x y z. missing-deeper (final_of v) x y z;
          }
      go None S I (some j) e = not-both (has_some n.bytes b j e) (sym S.has)
      go (Some m) S I none e = not-both (sym S.has) (has-none n.bytes b e)
      go (Some m) S I (some j) e =
          let J = reads-inside (inner n.bytes b) (inner_at s m) (inside_of t s (inner n.bytes b) (Some m) S.inside) in
          record {
            says = rw e (inside-held i j (inner_at s (p + element_size)) (inner_at s m) I
                (rw (inner-some n.bytes b j e) at J));
            inside = λ x y z.
                let D = deepens s (inner_at s (p + element_size)) (inner_at s m) x y z in
                (rw D.own at I, rw D.base at J, D.element);
          }

  pub stepped : (k : ℕ) (e b : Enum) (p next : ℕ) (v : Option Inner) (q : Held) → Rest k e b p
      → is_element s p ≡ true → Reads t s b v
      → q ≡ held_at t s p v → next ≡ past_inner s (p + element_size) → Stepped k e b next q
  stepped k e b p next v q R h g eq en = go R.rest R.stands R.deep R.is_final R.same
    where
      go : (r : Enum) → ElementsAt t s r p → Deep k r → final r ≡ final e
          → fits_in e b ≡ fits_in r b → Stepped k e b next q
      go (end c) l d f e = not-both h l
      go (elem n i r) l d f same =
          let J : Judges n i b q = rw eq (element-judged n i r b p v l g) in
          let o : Bool = or_else (at n.bytes b) (not (final b)) (enum_fits i) in
          record {
            i = i;
            j = inner n.bytes b;
            goes = λ z. let y : o ≡ true = J.says ∙ z in
                record {
                  rest = r;
                  stands = rw (en ∙ past-inside t s i (p + element_size) l.1) l.2;
                  deep = d.1;
                  is_final = f;
                  same = same ∙ ap (◌&& fits_in r b) y;
                };
            stops = λ z. let y : o ≡ false = J.says ∙ z in same ∙ ap (◌&& fits_in r b) y;
            deeper = λ x y z. let u = J.inside x y z in
                let w = deep-list k i x.list u.0.list u.2 d.0 in (u.0, u.1, w.0, w.1);
          }

  pub finished : (k : ℕ) (e b : Enum) (p : ℕ) → Rest k e b p → is_element s p ≡ false
      → fits_in e b ≡ (final e || not (final b))
  finished k e b p R h = go R.rest R.stands R.is_final R.same
    where
      go : (r : Enum) → ElementsAt t s r p → final r ≡ final e → fits_in e b ≡ fits_in r b
          → fits_in e b ≡ (final e || not (final b))
      go (end c) l f e = e ∙ rw f
      go (elem n i r) l f e = not-both l.0.there h
