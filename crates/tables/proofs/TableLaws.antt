-- Chains in lent numbers: an element looked up along the chain of its key, and an element put before the others.
use mathlib.Core.Path.{◌≡◌, refl, sym, ap, ◌∙◌}
use mathlib.Core.Logic.{◌⊎◌, inl, inr, ⊎_elim}
use mathlib.Core.Bool.{Bool, true, false, cond, ◌&&◌, ◌||◌}
use mathlib.Core.List.{List, [], ◌∷◌}
use Prim.Native.Nat.{ℕ, ◌+◌, ◌*◌, ◌≤◌, ◌<◌}
use native.Mathlib.Omega.{arith}
use lib.ListN.{length, get_or, set, length-set}
use lib.Seq.{get_or-set_same, get_or-set_other}
use lib.Dec.{eqb, ltb, leb}
use borrow.Author.Tests.{lt-ltb, ltb-true, ltb-false, le-ltb, eqb-true, eqb-false, eq-eqb, ne_eqb}
use Rattle.rules.specs.Bytes.{same}
use Rattle.rules.proofs.Tests.{split, not-both, is_false, alike, or_l, or_r}
use Rattle.rules.proofs.ByteLaws.{same-eq}
use Rattle.ground.specs.Parts.{part}
use Rattle.ground.specs.declared.Name as code
use Rattle.std.specs.Prelude.{Option, Some, None}
use Rattle.std.specs.Option.{option_eq}
use Rattle.std.specs.Bool.{then_some}
use Rattle.enumerations.specs.Lists.{is_element, written, same_names}
use Rattle.tables.specs.Tables.{Entry, seek_in, is_entered, key_of, slot, number_of, cell_of, Sized, next_of, list_of}
use Rattle.tables.specs.Tables.{hits, Link, Chain, Next, Before, Filled, Gathered}
use Rattle.tables.specs.declared.Grid.{Grid}
use Rattle.book.specs.Sizes.{element_size}

-- ---- keys
module _ (t : List ℕ) (n m : code.Name) (h : same_names t n m ≡ true) where
  record Alike : Type 0 where
    in_text : leb (n.offset + n.len) (length t) ≡ true
    in-text-2 : leb (m.offset + m.len) (length t) ≡ true
    parts : part t n.offset n.len ≡ part t m.offset m.len

  names-alike : Alike
  unfolding same_names
  names-alike =
      let q : (leb (n.offset + n.len) (length t) ≡ true)
      × ((leb (m.offset + m.len) (length t) && same (part t n.offset n.len) (part t m.offset m.len))
      ≡ true) = split h in
      let r : (leb (m.offset + m.len) (length t) ≡ true)
      × (same (part t n.offset n.len) (part t m.offset m.len) ≡ true) = split q.1 in
      record { in_text = q.0; in-text-2 = r.0; parts = same-eq _ _ r.1 }

  same_key : (k l : ℕ) → key_of t k l n ≡ key_of t k l m
  unfolding key_of
  same_key k l = rw (names-alike.in_text, names-alike.in-text-2, names-alike.parts)

  names_same : (w : code.Name) → same_names t n w ≡ same_names t m w
  unfolding same_names
  names_same w = rw (names-alike.in_text, names-alike.in-text-2, names-alike.parts)

  -- two names that are the same are found alike
  pub seek-same : (s : List ℕ) (l : ℕ) (es : List Entry) → seek_in t s l n es ≡ seek_in t s l m es
  seek-same s l [] = refl
  seek-same s l (e ∷ es) = rw (names_same (written s e.at), seek-same s l es)

-- ---- numbers
pub cell_in : (g : Grid) (z : List ℕ) (i p : ℕ) → slot g p < g.keys → get_or z (i + slot g p) 0 ≡ cell_of g z i p
unfolding cell_of
cell_in g z i p h = rw (lt-ltb (slot g p) g.keys h)

pub cell_out : (g : Grid) (z : List ℕ) (i p : ℕ) → g.keys ≤ slot g p → 0 ≡ cell_of g z i p
unfolding cell_of
cell_out g z i p h = rw (le-ltb (slot g p) g.keys h)

same-cell : (g : Grid) (z : List ℕ) (i p q : ℕ) → slot g p ≡ slot g q → cell_of g z i p ≡ cell_of g z i q
unfolding cell_of
same-cell g z i p q e = rw e

number-one : (a b : ℕ) → eqb (a + 1) (b + 1) ≡ eqb a b
number-one a b = alike (λ e. let q = eqb-true (a + 1) (b + 1) e in eq-eqb a b (omega arith))
    (λ e. let q = eqb-true a b e in eq-eqb (a + 1) (b + 1) (omega arith))

pub number_eq : (o : Option ℕ) (l : ℕ) → option_eq eqb o (Some l) ≡ eqb (number_of o) (l + 1)
number_eq None l = sym (ne_eqb 0 (l + 1) (λ e. omega arith))
number_eq (Some p) l = sym (number-one p l)

module _ (t s : List ℕ) (g : Grid) (z : List ℕ) (p l : ℕ) (n : code.Name) where
  hit-entry : (m : ℕ) → list_of g z p ≡ m + 1 → is_element s p ≡ true
      → hits t s g z p l n ≡ (eqb m l && same_names t n (written s p))
  unfolding hits
  hit-entry m e h = rw (e, h, number-one m l)

-- ---- the search along a chain
module _ (t s : List ℕ) (g : Grid) (z : List ℕ) (l : ℕ) (n : code.Name) where
  abbrev test : Entry → Bool
  test e = eqb e.list l && same_names t n (written s e.at)

  abbrev key : ℕ
  key = key_of t g.keys l n

  -- an element of another key is not it
  skip : (e : Entry) → eqb (key_of t g.keys e.list (written s e.at)) key ≡ false → test e ≡ false
  skip e h =
      is_false (λ y.
      let q : (eqb e.list l ≡ true) × (same_names t n (written s e.at) ≡ true) = split y in
      let a : e.list ≡ l = eqb-true e.list l q.0 in
      let k : key_of t g.keys e.list (written s e.at)
      ≡ key = rw a (sym (same_key t n (written s e.at) q.1 g.keys l)) in
      not-both (eq-eqb (key_of t g.keys e.list (written s e.at)) key k) h)

  record Head (x : ℕ) (es : List Entry) : Type 0 where
    e : Entry
    rest : List Entry
    is : x ≡ e.at + 1
    chain : Chain t s g z key (next_of g z e.at) rest
    listed : list_of g z e.at ≡ e.list + 1
    stands : Next s g e.list e.at
    before : Before s g rest e.at
    goes : seek_in t s l n es ≡ cond (test e) (Some (e.at + element_size)) (seek_in t s l n rest)

  head : (es : List Entry) (x p : ℕ) → Chain t s g z key x es → Before s g es p → 0 < x → Head x es
  head [] x p c b h = absurd (omega arith)
  head (e ∷ es) x p c b h =
      go (eqb (key_of t g.keys e.list (written s e.at)) key) refl c (λ d. head es x e.at d b.2 h)
    where
      go : (y : Bool) → eqb (key_of t g.keys e.list (written s e.at)) key ≡ y
          → Link y g z x e (λ y. Chain t s g z key y es) → (Chain t s g z key x es → Head x es) → Head x (e ∷ es)
      go true q c f = record {
        e = e;
        rest = es;
        is = c.0;
        chain = c.2;
        listed = c.1;
        stands = b.0;
        before = b.2;
        goes = refl;
      }
      go false q c f =
          let H = f c in
          record {
            e = H.e;
            rest = H.rest;
            is = H.is;
            chain = H.chain;
            listed = H.listed;
            stands = H.stands;
            before = H.before;
            goes = rw (skip e q) H.goes;
          }

  none_left : (es : List Entry) (x : ℕ) → Chain t s g z key x es → x ≡ 0 → seek_in t s l n es ≡ None
  none_left [] x c h = refl
  none_left (e ∷ es) x c h =
      go (eqb (key_of t g.keys e.list (written s e.at)) key) refl c (λ d. none_left es x d h)
    where
      go : (y : Bool) → eqb (key_of t g.keys e.list (written s e.at)) key ≡ y
          → Link y g z x e (λ y. Chain t s g z key y es) → (Chain t s g z key x es → seek_in t s l n es ≡ None)
          → seek_in t s l n (e ∷ es) ≡ None
      go true q c f = let a = c.0 in absurd (omega arith)
      go false q c f = rw (skip e q) (f c)

  chain-low : (k : ℕ) (es : List Entry) (x p : ℕ) → Chain t s g z k x es → Before s g es p → x ≤ p
  chain-low k [] x p c b = omega arith
  chain-low k (e ∷ es) x p c b =
      go (eqb (key_of t g.keys e.list (written s e.at)) k) c (λ d. chain-low k es x e.at d b.2)
    where
      go : (y : Bool) → Link y g z x e (λ y. Chain t s g z k y es) → (Chain t s g z k x es → x ≤ e.at) → x ≤ p
      go true c f = let a = c.0 in let d = b.1 in omega arith
      go false c f = let a = f c in let d = b.1 in omega arith

  -- of what is entered, the part behind x is left
  pub record Behind (es : List Entry) (x : ℕ) : Type 0 where
    pub rest : List Entry
    pub top : ℕ
    pub chain : Chain t s g z key x rest
    pub before : Before s g rest top
    pub same_found : seek_in t s l n es ≡ seek_in t s l n rest

  pub behind-start : (es : List Entry) (p k x : ℕ) → Filled t s g z es p → k ≡ key → k < g.keys
      → x ≡ get_or z k 0 → Behind es x
  behind-start es p k x F e h ex =
      record { rest = es; top = p; chain = rw (ex, e) (rw e at (F.chains k h)); before = F.before; same_found = refl }

  module _ (es : List Entry) (x : ℕ) (B : Behind es x) where
    pub behind-none : x ≡ 0 → None ≡ seek_in t s l n es
    behind-none h = sym (B.same_found ∙ none_left B.rest x B.chain h)

    module _ (p : ℕ) (h : x ≡ p + 1) where
      H : Head x B.rest
      H = head B.rest x B.top B.chain B.before (omega arith)

      place : p ≡ H.e.at
      place = omega (arith, H.is)

      judged : hits t s g z p l n ≡ test H.e
      judged =
          ap (λ (v : ℕ). hits t s g z v l n) place
          ∙ hit-entry t s g z H.e.at l n H.e.list H.listed H.stands.element

      pub behind-hit : hits t s g z p l n ≡ true → Some (p + element_size) ≡ seek_in t s l n es
      behind-hit y =
          ap (λ (v : ℕ). Some (v + element_size)) place ∙ sym (B.same_found ∙ H.goes ∙ rw (sym judged ∙ y))

      pub behind-on : hits t s g z p l n ≡ false → (m : ℕ) → m ≡ next_of g z p → Behind es m
      behind-on y m em =
          let d : m ≡ next_of g z H.e.at = em ∙ ap (next_of g z) place in
          record {
            rest = H.rest;
            top = H.e.at;
            chain = rw d H.chain;
            before = H.before;
            same_found = B.same_found ∙ H.goes ∙ rw (sym judged ∙ y);
          }

      pub behind-up : (m : ℕ) → m ≡ next_of g z p → m ≤ p
      behind-up m em =
          let d : m ≡ next_of g z H.e.at = em ∙ ap (next_of g z) place in
          omega (arith, chain-low key H.rest (next_of g z H.e.at) H.e.at H.chain H.before, H.is)

-- the next of a chain, where it stands before the place p
abbrev pub earlier : ℕ → Option ℕ → Option ℕ
earlier p None = None
earlier p (Some q) = then_some (ltb q p) q

pub earlier-all : (p : ℕ) (o : Option ℕ) → number_of o ≤ p → number_of (earlier p o) ≡ number_of o
earlier-all p None h = refl
earlier-all p (Some q) h = rw (lt-ltb q p (omega arith))

pub earlier-low : (p : ℕ) (o : Option ℕ) → number_of (earlier p o) ≤ number_of o
earlier-low p None = omega arith
earlier-low p (Some q) = go (ltb q p)
  where
    go : (c : Bool) → number_of (then_some c q) ≤ q + 1
    go true = omega arith
    go false = omega arith

-- ---- an empty table
pub none_filled : (t s : List ℕ) (g : Grid) (z : List ℕ) (p : ℕ) → Sized g z
    → ((i : ℕ) → i < 3 * g.keys → get_or z i 0 ≡ 0) → Filled t s g z [] p
none_filled t s g z p S h =
    record {
      chains = λ k u. h k (omega arith);
      lists = λ q l e. absurd (go q l (ltb (slot g q) g.keys) refl e);
      before = tt;
    }
  where
    go : (q l : ℕ) (c : Bool) → ltb (slot g q) g.keys ≡ c → list_of g z q ≡ l + 1 → ⊥
    go q l true e f =
        let a = ltb-true (slot g q) g.keys e in
        omega (arith, h (g.keys + g.keys + slot g q) (omega arith), cell_in g z (g.keys + g.keys) q a)
    go q l false e f = omega (arith, cell_out g z (g.keys + g.keys) q (ltb-false (slot g q) g.keys e))

pub none-gathered : (t s : List ℕ) (g : Grid) (z : List ℕ) → Sized g z
    → ((i : ℕ) → i < 3 * g.keys → get_or z i 0 ≡ 0) → Gathered t s g z
none-gathered t s g z S h = record {
  entries = [];
  top = 0;
  filled = none_filled t s g z 0 S h;
  whole = λ l e. not-both e refl;
}

-- ---- an element is put before the others of its key
module _ (t s : List ℕ) (g : Grid) (z : List ℕ) (S : Sized g z) (l p k j : ℕ) (N : Next s g l p)
    (ek : k ≡ key_of t g.keys l (written s p)) (kk : k < g.keys) (ej : j ≡ slot g p) where
  abbrev pub entered : List ℕ
  entered = set (set (set z (g.keys + j) (get_or z k 0)) (g.keys + g.keys + j) (l + 1)) k (p + 1)

  other : (i : ℕ) → ¬ (i ≡ g.keys + j) → ¬ (i ≡ g.keys + g.keys + j) → ¬ (i ≡ k) → get_or entered i 0 ≡ get_or z i 0
  other i a b c =
      get_or-set_other (set (set z (g.keys + j) (get_or z k 0)) (g.keys + g.keys + j) (l + 1)) k i (p + 1) 0 c
      ∙ get_or-set_other (set z (g.keys + j) (get_or z k 0)) (g.keys + g.keys + j) i (l + 1) 0 b
      ∙ get_or-set_other z (g.keys + j) i (get_or z k 0) 0 a

  size : length z ≡ length (set z (g.keys + j) (get_or z k 0))
  size = sym (length-set z (g.keys + j) (get_or z k 0))

  size-2 : length z ≡ length (set (set z (g.keys + j) (get_or z k 0)) (g.keys + g.keys + j) (l + 1))
  size-2 = size ∙ sym (length-set (set z (g.keys + j) (get_or z k 0)) (g.keys + g.keys + j) (l + 1))

  at_head : get_or entered k 0 ≡ p + 1
  at_head =
      let f = S.fits in
      get_or-set_same (set (set z (g.keys + j) (get_or z k 0)) (g.keys + g.keys + j) (l + 1)) k
      (p + 1) 0 (omega (arith, size-2))

  at-list : list_of g entered p ≡ l + 1
  at-list =
      let f = S.fits in
      let r = N.room in
      sym (cell_in g entered (g.keys + g.keys) p N.room) ∙ rw (sym ej)
      (get_or-set_other (set (set z (g.keys + j) (get_or z k 0)) (g.keys + g.keys + j) (l + 1)) k
      (g.keys + g.keys + j) (p + 1) 0 (λ e. omega arith)
      ∙ get_or-set_same (set z (g.keys + j) (get_or z k 0)) (g.keys + g.keys + j) (l + 1) 0 (omega (arith, size)))

  at_next : next_of g entered p ≡ get_or z k 0
  at_next =
      let f = S.fits in
      let r = N.room in
      sym (cell_in g entered g.keys p N.room) ∙ rw (sym ej)
      (get_or-set_other (set (set z (g.keys + j) (get_or z k 0)) (g.keys + g.keys + j) (l + 1)) k
      (g.keys + j) (p + 1) 0 (λ e. omega arith)
      ∙ get_or-set_other (set z (g.keys + j) (get_or z k 0)) (g.keys + g.keys + j)
      (g.keys + j) (l + 1) 0 (λ e. omega arith)
      ∙ get_or-set_same z (g.keys + j) (get_or z k 0) 0 (omega arith))

  -- the numbers of the others stay
  kept : (i q : ℕ) → (i ≡ g.keys) ⊎ (i ≡ g.keys + g.keys) → ¬ (slot g q ≡ slot g p)
      → cell_of g entered i q ≡ cell_of g z i q
  kept i q w h = go (ltb (slot g q) g.keys) refl
    where
      go : (c : Bool) → ltb (slot g q) g.keys ≡ c → cell_of g entered i q ≡ cell_of g z i q
      go true e =
          let a = ltb-true (slot g q) g.keys e in
          let r = N.room in
          sym (cell_in g entered i q a) ∙ other (i + slot g q) (λ y. h (⊎_elim (λ w. omega arith) (λ w. omega arith) w))
          (λ y. h (⊎_elim (λ w. omega arith) (λ w. omega arith) w))
          (λ y. ⊎_elim (λ w. omega arith) (λ w. omega arith) w)
          ∙ cell_in g z i q a
      go false e = let a = ltb-false (slot g q) g.keys e in sym (cell_out g entered i q a) ∙ cell_out g z i q a

  apart : (q : ℕ) → g.from ≤ q → q + element_size ≤ p → ¬ (slot g q ≡ slot g p)
  apart q a b e = omega arith

  chain-kept : (i : ℕ) (es : List Entry) (x q : ℕ) → Before s g es q → q ≤ p
      → Chain t s g z i x es → Chain t s g entered i x es
  chain-kept i [] x q b h c = c
  chain-kept i (e ∷ es) x q b h c =
      go (eqb (key_of t g.keys e.list (written s e.at)) i) c
      (λ y d. chain-kept i es y e.at b.2 (omega (arith, b.1)) d)
    where
      far : ¬ (slot g e.at ≡ slot g p)
      far = apart e.at (omega (arith, b.0.first, b.0.behind)) (omega (arith, b.1))

      go : (y : Bool) → Link y g z x e (λ y. Chain t s g z i y es)
          → ((y : ℕ) → Chain t s g z i y es → Chain t s g entered i y es)
          → Link y g entered x e (λ y. Chain t s g entered i y es)
      go true c f = (
        c.0,
        kept (g.keys + g.keys) e.at (inr refl) far ∙ c.1,
        rw (kept g.keys e.at (inl refl) far) (f (next_of g z e.at) c.2),
      )
      go false c f = f x c

  pub filled_more : (es : List Entry) → Filled t s g z es p
      → Filled t s g entered (record { list = l; at = p } ∷ es) (p + element_size)
  filled_more es F =
      record {
        chains = λ i u. chain i u (eqb (key_of t g.keys l (written s p)) i) refl;
        lists = λ q m e. list q m (eqb (slot g q) (slot g p)) refl e;
        before = (N, omega arith, F.before);
      }
    where
      chain : (i : ℕ) → i < g.keys → (c : Bool) → eqb (key_of t g.keys l (written s p)) i ≡ c
          → Link c g entered (get_or entered i 0) (record { list = l; at = p }) (λ y. Chain t s g entered i y es)
      chain i u true e =
          let a : i ≡ k = sym (eqb-true _ i e) ∙ sym ek in (
            rw a at_head,
            at-list,
            rw at_next (rw a (chain-kept k es (get_or z k 0) p F.before (omega arith) (F.chains k kk))),
          )
      chain i u false e =
          let a : ¬ (i ≡ k) = λ y. not-both (eq-eqb (key_of t g.keys l (written s p)) i (sym ek ∙ sym y)) e in
          rw (other i (λ y. omega arith) (λ y. omega arith) a)
          (chain-kept i es (get_or z i 0) p F.before (omega arith) (F.chains i u))

      list : (q m : ℕ) (c : Bool) → eqb (slot g q) (slot g p) ≡ c → list_of g entered q ≡ m + 1
          → (eqb l m || is_entered m es) ≡ true
      list q m true e h =
          let a : slot g q ≡ slot g p = eqb-true (slot g q) (slot g p) e in
          let b : list_of g entered q ≡ list_of g entered p = same-cell g entered (g.keys + g.keys) q p a in
          let d : l ≡ m = omega (arith, at-list) in
          or_l (is_entered m es) (eq-eqb l m d)
      list q m false e h = or_r (eqb l m)
          (F.lists q m (sym (kept (g.keys + g.keys) q (inr refl) (eqb-false (slot g q) (slot g p) e)) ∙ h))
