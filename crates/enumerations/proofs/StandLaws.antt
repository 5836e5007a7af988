-- What the code reads where a list of elements stands: its end, its elements by name, what is inside them.
use mathlib.Core.Path.{◌≡◌, refl, sym, ap, ◌∙◌}
use mathlib.Core.Bool.{Bool, true, false, cond, not, true≢false}
use mathlib.Core.Option.{some}
use mathlib.Core.List.{List}
use Prim.Native.Nat.{ℕ, zero, suc, ◌+◌, ◌-◌, ◌≤◌, ◌<◌}
use native.Mathlib.Numerals.{add-one, sub-one}
use native.Mathlib.Omega.{arith}
use lib.ListN.{length, get_or}
use lib.Dec.{leb}
use borrow.Author.Tests.{le-leb}
use Rattle.rules.specs.Bytes.{same}
use Rattle.rules.specs.Names.{Name}
use Rattle.rules.specs.Enumerations.{Enum, end, elem, final, at, inner, has, or_empty, is_there}
use Rattle.rules.proofs.Tests.{fail-r}
use Rattle.std.specs.Prelude.{Option, Some, None, is_some, option_and_then}
use Rattle.enumerations.specs.Lists.{is_element, is_opening, element_at, end_from, past_inner, inner_at, written}
use Rattle.enumerations.specs.Lists.{list_of, final_of, same_names, find_from, find_of}
use Rattle.enumerations.specs.Standing.{InText, plain, part_of, end_of, InsideBy, ListAt, InsideAt, ElementsAt}
use Rattle.enumerations.specs.Standing.{ElementAt, ElementsOf, InsideOf}
use Rattle.enumerations.proofs.ListLaws.{bit-one, element-in, opening-in}
use Rattle.enumerations.proofs.ListLaws.{end-element, end-opening, end-last, end-close, names_in, find-here}
use Rattle.enumerations.proofs.ListLaws.{find-next, find_none}
use Rattle.enumerations.specs.declared.End.{End}
use Rattle.enumerations.specs.declared.Inner.{Inner}
use Rattle.book.specs.Sizes.{element_size, list_size}

-- behind an element
abbrev pub next_of : Enum → ℕ → ℕ
next_of i p = cond (plain i) (p + element_size) (end_of i (p + element_size + list_size))

-- how many records the list has, its close with them
abbrev pub count : Enum → ℕ
count (end f) = 1
count (elem n i r) = suc (cond (plain i) 0 (suc (count i)) + count r)

close-no-element : (s : List ℕ) (p : ℕ) → get_or s p 0 ≡ 15 → is_element s p ≡ false
unfolding is_element
close-no-element s p e = rw e (fail-r (leb (p + element_size) (length s)) refl)

pub list-elements : (t s : List ℕ) (e : Enum) (p : ℕ) → ListAt t s e p → ElementsAt t s e p
list-elements t s (end f) p h = close-no-element s p h.1
list-elements t s (elem n i r) p h = (h.0, h.1, list-elements t s r _ h.2)

pub end-gt : (e : Enum) (p : ℕ) → p < end_of e p
end-gt (end f) p = omega arith
end-gt (elem n i r) p = go (plain i) (end-gt i (p + element_size + list_size)) (λ q. end-gt r q)
  where
    go : (b : Bool) → p + element_size + list_size < end_of i (p + element_size + list_size)
        → ((q : ℕ) → q < end_of r q)
        → p < end_of r (cond b (p + element_size) (end_of i (p + element_size + list_size)))
    go true g h = omega (arith, h (p + element_size))
    go false g h = omega (arith, h (end_of i (p + element_size + list_size)))

pub next-gt : (i : Enum) (p : ℕ) → p + element_size ≤ next_of i p
next-gt i p = go (plain i) (end-gt i (p + element_size + list_size))
  where
    go : (b : Bool) → p + element_size + list_size < end_of i (p + element_size + list_size)
        → p + element_size ≤ cond b (p + element_size) (end_of i (p + element_size + list_size))
    go true h = omega arith
    go false h = omega arith

-- ---- the end of a list
-- past the close of a list inside k others
abbrev end_to : ℕ → List ℕ → ℕ → ℕ → ℕ → End
end_to f s q zero c = record { at = q; records = c }
end_to f s q (suc k) c = end_from f s q k c

module _ (t s : List ℕ) where
  abbrev Passes : Enum → Type 0
  Passes e =
      (p : ℕ) → ListAt t s e p → (k c : ℕ) (r : End)
      → ((g d : ℕ) → d ≡ c + count e → length s - end_of e p < g → end_to g s (end_of e p) k d ≡ r)
      → (f : ℕ) → length s - p < f → end_from f s p k c ≡ r

  close-passes : (b : Bool) → Passes (end b)
  close-passes b p h k c r q zero w = absurd (omega arith)
  close-passes b p h zero c r q (suc f) w =
      end-last f s p zero c h.0 (λ z. omega (arith, h.1)) (λ z. omega (arith, h.1)) refl
      ∙ q (suc (length s)) (c + 1) refl (omega arith)
  close-passes b p h (suc k) c r q (suc f) w =
      let l = h.0 in
      end-close f s p (suc k) c h.0 (λ z. omega (arith, h.1)) (λ z. omega (arith, h.1)) (λ z. omega arith)
      ∙ rw sub-one (q f (c + 1) refl (omega arith))

  inner-passes : (i e : Enum) → Passes i → Passes e → (m : ℕ) → InsideBy false s (final i) m (ListAt t s i (m + 2))
      → ListAt t s e (end_of i (m + 2))
      → (k c : ℕ) (r : End) → ((g d : ℕ) → d ≡ c + suc (count i) + count e → length s - end_of e (end_of i (m + 2)) < g
      → end_to g s (end_of e (end_of i (m + 2))) k d ≡ r)
      → (f : ℕ) → length s - m < f → end_from f s m k c ≡ r
  inner-passes i e ih jh m a b k c r q zero w = absurd (omega arith)
  inner-passes i e ih jh m a b k c r q (suc f) w =
      let v = opening-in s m a.0 in
      end-opening f s m k c (omega arith) v.1
      ∙ rw (add-one k) (ih (m + 2) a.2 (suc k) (c + 1) r
      (λ g d u y. jh (end_of i (m + 2)) b k d r (λ g' d' u' y'. q g' d' (omega arith) y') g y) f (omega arith))

  element-passes : (n : Name) (i e : Enum) → Passes i → Passes e → Passes (elem n i e)
  element-passes n i e ih jh p h k c r q zero w = absurd (omega arith)
  element-passes n i e ih jh p h k c r q (suc f) w =
      let u = element-in s p h.0.there in
      end-element f s p k c (omega arith) u.1 ∙ go (plain i) h.1 h.2 q
    where
      go : (b : Bool) → InsideBy b s (final i) (p + element_size) (ListAt t s i (p + element_size + list_size))
          → ListAt t s e (cond b (p + element_size) (end_of i (p + element_size + list_size)))
          → ((g d : ℕ) → d ≡ c + suc (cond b 0 (suc (count i)) + count e)
          → length s - end_of e (cond b (p + element_size) (end_of i (p + element_size + list_size))) < g
          → end_to g s (end_of e (cond b (p + element_size) (end_of i (p + element_size + list_size)))) k d ≡ r)
          → end_from f s (p + element_size) k (c + 1) ≡ r
      go true a b q =
          let u = element-in s p h.0.there in
          jh (p + element_size) b k (c + 1) r (λ g d v y. q g d (omega arith) y) f (omega arith)
      go false a b q =
          let u = element-in s p h.0.there in
          inner-passes i e ih jh (p + element_size) a b k (c + 1) r (λ g d v y. q g d (omega arith) y) f (omega arith)

  passes : (e : Enum) → Passes e
  passes (end b) = close-passes b
  passes (elem n i e) = element-passes n i e (passes i) (passes e)

  pub list-end : (e : Enum) (p : ℕ) → ListAt t s e p → (f : ℕ) → length s - p < f
      → end_from f s p 0 0 ≡ record { at = end_of e p; records = count e }
  list-end e p h = passes e p h 0 0 _ (λ g d u y. let z : d ≡ count e = omega arith in rw z)

  pub past-inside : (i : Enum) (m : ℕ) → InsideAt t s i m → past_inner s m ≡ cond (plain i) m (end_of i (m + 2))
  unfolding past_inner
  past-inside i m h = go (plain i) h
    where
      go : (b : Bool) → InsideBy b s (final i) m (ListAt t s i (m + 2))
          → cond (is_opening s m) (end_from (length s + 1) s (m + 2) 0 0).at m ≡ cond b m (end_of i (m + 2))
      go true h = rw h
      go false h = rw h.0 (ap (λ (e : End). e.at) (list-end i (m + 2) h.2 (length s + 1) (omega arith)))

  -- ---- an element by its name
  pub same_names_lem : (n m : Name) → InText t n → InText t m
      → same_names t (part_of n) (part_of m) ≡ same n.bytes m.bytes
  same_names_lem n m a b =
      names_in t (part_of n) (part_of m) (le-leb _ _ a.fits) (le-leb _ _ b.fits) ∙ rw (a.there, b.there)

  -- past the name of the element n of the list that stands at p
  abbrev pub found : List ℕ → Enum → ℕ → Option ℕ
  found n (end f) p = None
  found n (elem m i r) p = cond (same n m.bytes) (Some (p + element_size)) (found n r (next_of i p))

  pub find-elements : (n : Name) → InText t n → (e : Enum) (p : ℕ) → ElementsAt t s e p → (f : ℕ) → length s - p < f →
      find_from f t s p (part_of n) ≡ found n.bytes e p
  find-elements n a (end f) p h g w = find_none g t s p _ h
  find-elements n a (elem m i r) p h zero w = absurd (omega arith)
  find-elements n a (elem m i r) p h (suc g) w =
      let u = element-in s p h.0.there in
      let q = next-gt i p in
      go (same n.bytes m.bytes) (rw h.0.name (same_names_lem n m a h.0.in_text))
      (find-elements n a r (next_of i p) h.2 g (omega arith))
    where
      go : (c : Bool) → same_names t (part_of n) (written s p) ≡ c
          → find_from g t s (next_of i p) (part_of n) ≡ found n.bytes r (next_of i p)
          → find_from (suc g) t s p (part_of n) ≡ cond c (Some (p + element_size)) (found n.bytes r (next_of i p))
      go true e k = find-here g t s p _ h.0.there e
      go false e k = find-next g t s p _ h.0.there e ∙ rw (past-inside i (p + element_size) h.1) k

  -- behind the name that is found stands what is inside the element
  found_inside : (n : List ℕ) (e : Enum) (p : ℕ) → ElementsAt t s e p → InsideOf t s (inner n e) (found n e p)
  found_inside n (end f) p h = refl
  found_inside n (elem m i r) p h = go (same n m.bytes) (found_inside n r _ h.2)
    where
      go : (c : Bool) → InsideOf t s (inner n r) (found n r (next_of i p)) →
          InsideOf t s (or_empty (cond c (some i) (at n r)))
          (cond c (Some (p + element_size)) (found n r (next_of i p)))
      go true k = h.1
      go false k = k

  found-has : (n : List ℕ) (e : Enum) (p : ℕ) → is_some (found n e p) ≡ has n e
  found-has n (end f) p = refl
  found-has n (elem m i r) p = go (same n m.bytes) (found-has n r _)
    where
      go : (c : Bool) → is_some (found n r (next_of i p)) ≡ has n r →
          is_some (cond c (Some (p + element_size)) (found n r (next_of i p))) ≡ is_there (cond c (some i) (at n r))
      go true k = refl
      go false k = k

  -- what is found under the name n in the list e
  pub record Sought (n : Name) (e : Enum) (m : Option ℕ) : Type 0 where
    pub inside : InsideOf t s (inner n.bytes e) m
    pub has : is_some m ≡ has n.bytes e

  pub sought : (n : Name) → InText t n → (e : Enum) (o : Option ℕ) → ElementsOf t s e o
      → Sought n e (find_of t s o (part_of n))
  sought n a (end f) None h = record { inside = refl; has = refl }
  sought n a (elem m i r) None h = absurd h
  sought n a e (Some p) h =
      rw (find-elements n a e p h (length s + 1) (omega arith))
      (record { inside = found_inside n.bytes e p h; has = found-has n.bytes e p })

  -- ---- the next element
  pub no-element : (f : Bool) (o : Option ℕ) → ElementsOf t s (end f) o → element_at s o ≡ None
  no-element f None h = refl
  no-element f (Some p) h = rw h

  pub record First (n : Name) (i r : Enum) (o : Option ℕ) : Type 0 where
    pub p : ℕ
    pub is : o ≡ Some p
    pub here : element_at s o ≡ Some p
    pub element : ElementAt t s n p
    pub inside : InsideAt t s i (p + element_size)
    pub rest : ElementsOf t s r (Some (past_inner s (p + element_size)))

  pub first-element : (n : Name) (i r : Enum) (o : Option ℕ) → ElementsOf t s (elem n i r) o → First n i r o
  first-element n i r None h = absurd h
  first-element n i r (Some p) h = record {
    p = p;
    is = refl;
    here = rw h.0.there;
    element = h.0;
    inside = h.1;
    rest = rw (past-inside i (p + element_size) h.1) h.2;
  }

  -- ---- what is inside an element
  pub record Inside (i : Enum) (v : Option Inner) : Type 0 where
    pub there : is_some v ≡ not (plain i)
    pub is_final : final_of v ≡ final i
    pub list : ElementsOf t s i (list_of v)

  pub inside_is : (i : Enum) (m : ℕ) → InsideAt t s i m → Inside i (inner_at s m)
  unfolding inner_at
  inside_is (end true) m h =
      rw h.0 (record { there = refl; is_final = rw h.1; list = list-elements t s (end true) (m + 2) h.2 })
  inside_is (end false) m h = rw h (record { there = refl; is_final = refl; list = tt })
  inside_is (elem n i r) m h =
      rw h.0 (record {
        there = refl;
        is_final = rw h.1 (bit-one (final r));
        list = list-elements t s (elem n i r) (m + 2) h.2;
      })

  pub inside_of : (i : Enum) (m : Option ℕ) → InsideOf t s i m → Inside i (option_and_then (inner_at s) m)
  inside_of (end true) None h = absurd (true≢false (sym h))
  inside_of (end false) None h = record { there = refl; is_final = refl; list = tt }
  inside_of (elem n i r) None h = absurd (true≢false (sym h))
  inside_of i (Some m) h = inside_is i m h

-- a list ends within the bytes that it stands in
pub end-in : (t s : List ℕ) (e : Enum) (p : ℕ) → ListAt t s e p → end_of e p ≤ length s
end-in t s (end f) p h = omega (arith, h.0)
end-in t s (elem n i r) p h = end-in t s r (next_of i p) h.2
