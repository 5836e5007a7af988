-- Enumerations merged: what is in a merged one, that it fits its base exactly when the written one adds nothing to a
-- FINAL list or leaf, and that no list has an element twice exactly when 9 finds none.
use mathlib.Core.Path.{◌≡◌, refl, sym, ap, ◌∙◌}
use mathlib.Core.Logic.{⊎_elim}
use mathlib.Core.Bool.{Bool, true, false, cond, not, ◌&&◌, ◌||◌, true≢false}
use mathlib.Core.Option.{Option, none, some}
use mathlib.Core.List.{List, [], ◌∷◌, ◌++◌}
use Prim.Native.Nat.{ℕ}
use Rattle.rules.specs.Bytes.{same, is_one_of}
use Rattle.rules.specs.Names.{Name}
use Rattle.rules.specs.Enumerations.{Enum, end, elem, final, at, inner, has, news, merge_from, merge, or_else}
use Rattle.rules.specs.Enumerations.{fits_in, enum_fits, first, twice}
use Rattle.rules.specs.Merged.{names, new_names, distinct, adds_nothing}
use Rattle.rules.proofs.Tests.{never, both, split, not-both, or_l, or_r, or_split, not_is, not-false, is_false}
use Rattle.rules.proofs.Tests.{alike}
use Rattle.rules.proofs.ByteLaws.{same-eq, same_refl}

-- ---- what the definitions say of an element that is there, or is not
pub at-hit : (n : List ℕ) (m : Name) (i r : Enum) → same n m.bytes ≡ true → at n (elem m i r) ≡ some i
at-hit n m i r e = rw (e, at)

pub at-miss : (n : List ℕ) (m : Name) (i r : Enum) → same n m.bytes ≡ false → at n (elem m i r) ≡ at n r
at-miss n m i r e = rw (e, at)

-- it is the first element, or is looked for in the rest
pub at-cases : (n : List ℕ) (m : Name) (i r : Enum) (P : Option Enum → Type 0) → (same n m.bytes ≡ true → P (some i))
    → (same n m.bytes ≡ false → P (at n r)) → P (at n (elem m i r))
at-cases n m i r P h k = go (same n m.bytes) refl
  where
    go : (t : Bool) → same n m.bytes ≡ t → P (at n (elem m i r))
    go true e = rw (at-hit n m i r e) (h e)
    go false e = rw (at-miss n m i r e) (k e)

pub fits-parts : (n : Name) (i r b : Enum) → fits_in (elem n i r) b ≡ true
    → (or_else (at n.bytes b) (not (final b)) (enum_fits i) ≡ true) × (fits_in r b ≡ true)
fits-parts n i r b p = split p

pub has_some : (n : List ℕ) (e i : Enum) → at n e ≡ some i → has n e ≡ true
has_some n e i p = rw (p, has)

pub has-none : (n : List ℕ) (e : Enum) → at n e ≡ none → has n e ≡ false
has-none n e p = rw (p, has)

pub none_has : (n : List ℕ) (e : Enum) → has n e ≡ false → at n e ≡ none
none_has n e p = go (at n e) refl
  where
    go : (o : Option Enum) → at n e ≡ o → at n e ≡ none
    go none q = q
    go (some i) q = not-both (has_some n e i q) p

pub inner-some : (n : List ℕ) (x j : Enum) → at n x ≡ some j → inner n x ≡ j
inner-some n x j p = rw (p, inner)

pub inner-none : (n : List ℕ) (x : Enum) → at n x ≡ none → inner n x ≡ end false
inner-none n x p = rw (p, inner)

pub adds-parts : (n : Name) (i r b : Enum) → adds_nothing (elem n i r) b ≡ true
    → (or_else (at n.bytes b) (not (final b)) (adds_nothing i) ≡ true) × (adds_nothing r b ≡ true)
adds-parts n i r b p = split p

pub distinct-parts : (n : Name) (i r : Enum) → distinct (elem n i r) ≡ true
    → (has n.bytes r ≡ false) × (distinct i ≡ true) × (distinct r ≡ true)
distinct-parts n i r p =
    let q : (not (has n.bytes r) ≡ true) × ((distinct i && distinct r) ≡ true) = split p in
    let s : (distinct i ≡ true) × (distinct r ≡ true) = split q.1 in
    (not_is q.0, s.0, s.1)

-- ---- names in order, FINAL
names-news : (f : Bool) (w x : Enum) → names (news f w x) ≡ new_names w x
names-news f w (end g) = refl
names-news f w (elem n i r) = go (has n.bytes w) (names-news f w r)
  where
    go : (t : Bool) → names (news f w r) ≡ new_names w r
        → names (cond t (news f w r) (elem n i (news f w r))) ≡ cond t (new_names w r) (n ∷ new_names w r)
    go true ih = ih
    go false ih = ap (λ (l : List Name). n ∷ l) ih

pub names-merge : (b w x : Enum) → names (merge_from b w x) ≡ (names b ++ new_names w x)
names-merge (end f) w x = names-news f w x
names-merge (elem n i r) w x = ap (λ (l : List Name). n ∷ l) (names-merge r w x)

final-news : (f : Bool) (w x : Enum) → final (news f w x) ≡ (f || final x)
final-news f w (end g) = refl
final-news f w (elem n i r) = go (has n.bytes w) (final-news f w r)
  where
    go : (t : Bool) → final (news f w r) ≡ (f || final r)
        → final (cond t (news f w r) (elem n i (news f w r))) ≡ (f || final r)
    go true ih = ih
    go false ih = ih

pub final-merge : (b w x : Enum) → final (merge_from b w x) ≡ (final b || final x)
final-merge (end f) w x = final-news f w x
final-merge (elem n i r) w x = final-merge r w x

-- ---- the elements
pub merge-nothing : (b w : Enum) → merge_from b w (end false) ≡ b
merge-nothing (end true) w = refl
merge-nothing (end false) w = refl
merge-nothing (elem n i r) w = let p = merge-nothing i i in let q = merge-nothing r w in cc

at-merge-some : (b w x : Enum) (n : List ℕ) (i : Enum) → at n b ≡ some i
    → at n (merge_from b w x) ≡ some (merge i (inner n x))
at-merge-some (end f) w x n i p = cc
at-merge-some (elem m j r) w x n i p =
    at-cases n m j r (λ o. o ≡ some i → at n (merge_from (elem m j r) w x) ≡ some (merge i (inner n x)))
    (λ e p. let s : i ≡ j = cc in
    at-hit n m (merge j (inner m.bytes x)) (merge_from r w x) e ∙ rw (s, same-eq n m.bytes e))
    (λ e p. at-miss n m (merge j (inner m.bytes x)) (merge_from r w x) e ∙ at-merge-some r w x n i p)
    p

at-news : (f : Bool) (w x : Enum) (n : List ℕ) → at n w ≡ none → at n (news f w x) ≡ at n x
at-news f w (end g) n p = refl
at-news f w (elem m j r) n p = go (at m.bytes w) refl (same n m.bytes) refl (at-news f w r n p)
  where
    go : (o : Option Enum) → at m.bytes w ≡ o → (t : Bool) → same n m.bytes ≡ t → at n (news f w r) ≡ at n r
        → at n (news f w (elem m j r)) ≡ at n (elem m j r)
    go none e true s ih = rw (has-none m.bytes w e) (at-hit n m j (news f w r) s ∙ sym (at-hit n m j r s))
    go none e false s ih = rw (has-none m.bytes w e) (at-miss n m j (news f w r) s ∙ ih ∙ sym (at-miss n m j r s))
    go (some i) e true s ih = let k = same-eq n m.bytes s in cc
    go (some i) e false s ih = rw (has_some m.bytes w i e) (ih ∙ sym (at-miss n m j r s))

at-known : (f : Bool) (w x : Enum) (n : List ℕ) → has n w ≡ true → at n (news f w x) ≡ none
at-known f w (end g) n p = refl
at-known f w (elem m j r) n p = go (has m.bytes w) refl (at-known f w r n p)
  where
    go : (t : Bool) → has m.bytes w ≡ t → at n (news f w r) ≡ none
        → at n (cond t (news f w r) (elem m j (news f w r))) ≡ none
    go true e ih = ih
    go false e ih = at-cases n m j (news f w r) (λ o. o ≡ none)
        (λ s. let k = same-eq n m.bytes s in not-both (rw k at p) e) (λ s. ih)

-- behind the elements of b, if n is none of them, come those of x that w lacks
at_rest : (b w x : Enum) (n : List ℕ) → at n b ≡ none → at n (merge_from b w x) ≡ at n (news (final b) w x)
at_rest (end f) w x n p = refl
at_rest (elem m j r) w x n p =
    at-cases n m j r (λ o. o ≡ none → at n (merge_from (elem m j r) w x) ≡ at n (news (final r) w x))
    (λ e p. cc)
    (λ e p. at-miss n m (merge j (inner m.bytes x)) (merge_from r w x) e ∙ at_rest r w x n p)
    p

pub at-merge-none : (b x : Enum) (n : List ℕ) → at n b ≡ none → at n (merge b x) ≡ at n x
at-merge-none b x n p = at_rest b b x n p ∙ at-news (final b) b x n p

pub at-shared : (b x : Enum) (n : List ℕ) (i j : Enum) → at n b ≡ some i → at n x ≡ some j
    → at n (merge b x) ≡ some (merge i j)
at-shared b x n i j p q = rw (inner-some n x j q) at (at-merge-some b b x n i p)

pub at-unwritten : (b x : Enum) (n : List ℕ) (i : Enum) → at n b ≡ some i → at n x ≡ none → at n (merge b x) ≡ some i
at-unwritten b x n i p q = (rw (inner-none n x q) at (at-merge-some b b x n i p)) ∙ ap some (merge-nothing i i)

-- ---- no element twice
pub distinct-at : (e : Enum) (n : List ℕ) (i : Enum) → distinct e ≡ true → at n e ≡ some i → distinct i ≡ true
distinct-at (end f) n i d p = cc
distinct-at (elem m j r) n i d p =
    let (d₁, d₂, d₃) = distinct-parts m j r d in
    at-cases n m j r (λ o. o ≡ some i → distinct i ≡ true) (λ e p. let s : i ≡ j = cc in rw s d₂)
    (λ e p. distinct-at r n i d₃ p) p

pub distinct-inner : (x : Enum) (n : List ℕ) → distinct x ≡ true → distinct (inner n x) ≡ true
distinct-inner x n d = go (at n x) refl
  where
    go : (o : Option Enum) → at n x ≡ o → distinct (inner n x) ≡ true
    go none p = rw (inner-none n x p)
    go (some j) p = rw (inner-some n x j p) (distinct-at x n j d p)

distinct-news : (f : Bool) (w x : Enum) → distinct x ≡ true → distinct (news f w x) ≡ true
distinct-news f w (end g) d = refl
distinct-news f w (elem n i r) d = go (has n.bytes w) refl (distinct-news f w r (distinct-parts n i r d).2)
  where
    go : (t : Bool) → has n.bytes w ≡ t → distinct (news f w r) ≡ true
        → distinct (cond t (news f w r) (elem n i (news f w r))) ≡ true
    go true e ih = ih
    go false e ih =
        let (d₁, d₂, d₃) = distinct-parts n i r d in
        both (not-false (has-none n.bytes (news f w r)
        (at-news f w r n.bytes (none_has n.bytes w e) ∙ none_has n.bytes r d₁))) (both d₂ ih)

-- every element of the first list is one of the second, with the same inner enumeration
abbrev pub Part : Enum → Enum → Type 0
Part r e = (n : List ℕ) (i : Enum) → at n r ≡ some i → at n e ≡ some i

pub head-part : (n : Name) (i r e : Enum) → Part (elem n i r) e → at n.bytes e ≡ some i
head-part n i r e p = p n.bytes i (at-hit n.bytes n i r (same_refl n.bytes))

pub tail-part : (n : Name) (i r e : Enum) → has n.bytes r ≡ false → Part (elem n i r) e → Part r e
tail-part n i r e d p m j q = p m j (at-cases m n i r (λ o. o ≡ some j)
    (λ s. not-both (has_some n.bytes r j (rw (sym (same-eq m n.bytes s)) q)) d) (λ s. q))

pub distinct-merge : (b w x : Enum) → Part b w → distinct b ≡ true → distinct x ≡ true
    → distinct (merge_from b w x) ≡ true
distinct-merge (end f) w x h d e = distinct-news f w x e
distinct-merge (elem n i r) w x h d e =
    let (d₁, d₂, d₃) = distinct-parts n i r d in
    let gone : at n.bytes (merge_from r w x) ≡ none = at_rest r w x n.bytes (none_has n.bytes r d₁)
    ∙ at-known (final r) w x n.bytes (has_some n.bytes w i (head-part n i r w h)) in
    both
    (not-false (has-none n.bytes (merge_from r w x) gone))
    (both (distinct-merge i i (inner n.bytes x) (λ m j q. q) d₂ (distinct-inner x n.bytes e))
    (distinct-merge r w x (tail-part n i r w d₁ h) d₃ e))

-- ---- of a test of all elements of a list against another list, what it says of one
module _ (all one : Enum → Enum → Bool) (parts : (n : Name) (i r b : Enum) → all (elem n i r) b ≡ true
    → (or_else (at n.bytes b) (not (final b)) (one i) ≡ true) × (all r b ≡ true)) where
  of_one : (e b : Enum) (n : List ℕ) (i : Enum) → all e b ≡ true → at n e ≡ some i
      → or_else (at n b) (not (final b)) (one i) ≡ true
  of_one (end f) b n i p q = cc
  of_one (elem m j r) b n i p q =
      at-cases n m j r (λ o. o ≡ some i → or_else (at n b) (not (final b)) (one i) ≡ true)
      (λ e q. let s : i ≡ j = cc in rw (s, same-eq n m.bytes e) (parts m j r b p).0)
      (λ e q. of_one r b n i (parts m j r b p).1 q)
      q

fits_one : (e b : Enum) (n : List ℕ) (i : Enum) → fits_in e b ≡ true → at n e ≡ some i
    → or_else (at n b) (not (final b)) (enum_fits i) ≡ true
fits_one = of_one fits_in enum_fits fits-parts

pub adds_one : (e b : Enum) (n : List ℕ) (i : Enum) → adds_nothing e b ≡ true → at n e ≡ some i
    → or_else (at n b) (not (final b)) (adds_nothing i) ≡ true
adds_one = of_one adds_nothing adds_nothing adds-parts

-- ---- what fits adds nothing
outer-fwd : (x b : Enum) → (fits_in (merge b x) b ≡ true → adds_nothing x b ≡ true)
    → enum_fits (merge b x) b ≡ true → adds_nothing x b ≡ true
outer-fwd (end g) b s p = refl
outer-fwd (elem m j r) (end f) s p = s p
outer-fwd (elem m j r) (elem n i t) s p = s p

elem-fwd : (x b : Enum) (m : List ℕ) (j : Enum) → fits_in (merge b x) b ≡ true → at m x ≡ some j
    → ((i : Enum) → enum_fits (merge i j) i ≡ true → adds_nothing j i ≡ true)
    → (o : Option Enum) → at m b ≡ o → or_else (at m b) (not (final b)) (adds_nothing j) ≡ true
elem-fwd x b m j p a s none e = rw e (rw e at (fits_one (merge b x) b m j p (at-merge-none b x m e ∙ a)))
elem-fwd x b m j p a s (some i) e =
    let k : or_else (at m b) (not (final b)) (enum_fits (merge i j))
    ≡ true = fits_one (merge b x) b m (merge i j) p (at-shared b x m i j e a) in
    rw e (s i (rw e at k))

fwd : (y x b : Enum) → Part y x → distinct y ≡ true → fits_in (merge b x) b ≡ true → adds_nothing y b ≡ true
fwd (end g) x b h d p = refl
fwd (elem m j r) x b h d p =
    let (d₁, d₂, d₃) = distinct-parts m j r d in
    both
    (elem-fwd x b m.bytes j p (head-part m j r x h)
    (λ i. outer-fwd j i (fwd j j i (λ n k q. q) d₂)) (at m.bytes b) refl)
    (fwd r x b (tail-part m j r x d₁ h) d₃ p)

-- ---- what adds nothing fits
outer-back : (x b : Enum) → fits_in (merge b x) b ≡ true → enum_fits (merge b x) b ≡ true
outer-back (end g) (end f) p = refl
outer-back (elem m j r) (end f) p = p
outer-back x (elem n i t) p = p

news-back : (x w : Enum) (f : Bool) → final w ≡ f → adds_nothing x w ≡ true → fits_in (news f w x) w ≡ true
news-back (end g) w true e p = refl
news-back (end g) w false e p = or_r g (rw e)
news-back (elem m j r) w f e p =
    go (at m.bytes w) refl (adds-parts m j r w p).0 (news-back r w f e (adds-parts m j r w p).1)
  where
    go : (o : Option Enum) → at m.bytes w ≡ o → or_else (at m.bytes w) (not (final w)) (adds_nothing j) ≡ true
        → fits_in (news f w r) w ≡ true → fits_in (news f w (elem m j r)) w ≡ true
    go none a q ih =
        let k : or_else (at m.bytes w) (not (final w)) (enum_fits j) ≡ true = rw a (rw a at q) in
        rw (has-none m.bytes w a) (both k ih)
    go (some i) a q ih = rw (has_some m.bytes w i a) ih

pub inner-adds : (x b : Enum) (n : List ℕ) (i : Enum) → adds_nothing x b ≡ true → at n b ≡ some i → (o : Option Enum)
    → at n x ≡ o → adds_nothing (inner n x) i ≡ true
inner-adds x b n i p a none e = rw (inner-none n x e)
inner-adds x b n i p a (some j) e = rw (inner-some n x j e) (rw a at (adds_one x b n j p e))

back : (b w x : Enum) → Part b w → distinct b ≡ true → final w ≡ final b → adds_nothing x w ≡ true
    → fits_in (merge_from b w x) w ≡ true
back (end f) w x h d e p = news-back x w f e p
back (elem n i r) w x h d e p =
    let (d₁, d₂, d₃) = distinct-parts n i r d in
    let a = head-part n i r w h in
    let y = inner n.bytes x in
    let k : or_else (at n.bytes w) (not (final w)) (enum_fits (merge i y)) ≡ true =
    rw a (outer-back y i (back i i y (λ n k q. q) d₂ refl (inner-adds x w n.bytes i p a (at n.bytes x) refl))) in
    both k (back r w x (tail-part n i r w d₁ h) d₃ e p)

pub merged-fits : (b x : Enum) → distinct b ≡ true → distinct x ≡ true → enum_fits (merge b x) b ≡ adds_nothing x b
merged-fits b x d e =
    alike (outer-fwd x b (fwd x x b (λ n k q. q) e)) (λ p. outer-back x b (back b b x (λ n k q. q) d refl p))

-- ---- 9 finds no element twice exactly where all are distinct; `Unseen`: the list has no name that was seen before it
abbrev Unseen : List (List ℕ) → Enum → Type 0
Unseen l e = (n : List ℕ) → is_one_of n l ≡ true → has n e ≡ false

unlike : {A B : Type 0} {b : B} → some b ≡ none → A
unlike p = let z : true ≡ false = cc in absurd (true≢false z)

first-none : (o p : Option ℕ) → first o p ≡ none → (o ≡ none) × (p ≡ none)
first-none none p q = (refl, q)
first-none (some k) p q = unlike q

twice-parts : (n : Name) (i r : Enum) (l : List (List ℕ)) → twice (elem n i r) l ≡ none
    → (is_one_of n.bytes l ≡ false) × (twice i [] ≡ none) × (twice r (n.bytes ∷ l) ≡ none)
twice-parts n i r l p = go (is_one_of n.bytes l) refl p
  where
    go : (t : Bool) → is_one_of n.bytes l ≡ t
        → cond t (some n.offset) (first (twice i []) (twice r (n.bytes ∷ l))) ≡ none
        → (is_one_of n.bytes l ≡ false) × (twice i [] ≡ none) × (twice r (n.bytes ∷ l) ≡ none)
    go true e q = unlike q
    go false e q = let (a, b) = first-none (twice i []) (twice r (n.bytes ∷ l)) q in (e, a, b)

pub twice-distinct : (e : Enum) (l : List (List ℕ)) → twice e l ≡ none → (distinct e ≡ true) × Unseen l e
twice-distinct (end f) l p = (refl, λ n q. refl)
twice-distinct (elem m i r) l p =
    let (a, b, c) = twice-parts m i r l p in
    let (d, _) = twice-distinct i [] b in
    let (e, u) = twice-distinct r (m.bytes ∷ l) c in (
      both (not-false (u m.bytes (or_l _ (same_refl m.bytes)))) (both d e),
      λ n q. has-none n (elem m i r)
          (at-cases n m i r (λ o. o ≡ none) (λ s. let k = same-eq n m.bytes s in not-both (rw k at q) a)
          (λ s. none_has n r (u n (or_r (same n m.bytes) q)))),
    )

distinct-twice : (e : Enum) (l : List (List ℕ)) → distinct e ≡ true → Unseen l e → twice e l ≡ none
distinct-twice (end f) l d u = refl
distinct-twice (elem m i r) l d u =
    let (d₁, d₂, d₃) = distinct-parts m i r d in
    let a : is_one_of m.bytes l ≡ false = is_false (λ q.
    not-both (has_some m.bytes (elem m i r) i (at-hit m.bytes m i r (same_refl m.bytes))) (u m.bytes q)) in
    let c : twice r (m.bytes ∷ l) ≡ none =
    distinct-twice r (m.bytes ∷ l) d₃
    (λ n q. ⊎_elim
    (λ s. let k = same-eq n m.bytes s in rw k d₁)
    (λ s. has-none n r
    (at-cases n m i r (λ o. o ≡ none → at n r ≡ none) (λ e z. unlike z) (λ e z. z) (none_has n (elem m i r) (u n s))))
    (or_split q)) in
    rw (a, distinct-twice i [] d₂ (λ n q. never q), c)

pub once-distinct : (e : Enum) → twice e [] ≡ none → distinct e ≡ true
once-distinct e p = (twice-distinct e [] p).0

pub distinct-once : (e : Enum) → distinct e ≡ true → twice e [] ≡ none
distinct-once e d = distinct-twice e [] d (λ n q. never q)
