-- A definition put at the end of its chain.
use mathlib.Core.Path.{◌≡◌, refl, sym, ap, ◌∙◌, subst}
use mathlib.Core.Logic.{◌⊎◌, inl, inr, ⊎_elim}
use mathlib.Core.Bool.{Bool, true, false, cond}
use mathlib.Core.Option.{none, some}
use mathlib.Core.List.{List, [], ◌∷◌, ◌++◌}
use Prim.Native.Nat.{ℕ, zero, suc, ◌+◌, ◌-◌, ◌≤◌, ◌<◌}
use native.Mathlib.Omega.{arith}
use lib.ListN.{length, length-append, length-drop, length-set, get_or, set, drop, replicate, drop_of_length-le}
use lib.Seq.{drop-append-le, get_or-set_same, get_or-set_other}
use lib.Dec.{eqb, leb}
use borrow.Author.Tests.{eqb-true, eqb-false, eq-eqb, ne_eqb, leb-true, leb-false}
use Rattle.rules.specs.Declarations.{Def}
use Rattle.names.specs.Index.{nth, entry}
use Rattle.names.specs.Chains.{key_of, next_from, Tail, Chains, keys}
use Rattle.names.proofs.IndexLaws.{nth-within, nth-dropped, nth_left, entry-keep, entry-within}

abbrev key : Def → ℕ
key d = key_of d.name.bytes

-- ---- the next of a key, where one definition more stands at the end
module _ (k : ℕ) (d : Def) where
  next-other : (i : ℕ) (l : List Def) → ¬ (key d ≡ k) → next_from k i (l ++ (d ∷ [])) ≡ next_from k i l
  next-other i [] h = rw (ne_eqb (key d) k h)
  next-other i (e ∷ l) h = ap (cond (eqb (key e) k) (i + 1)) (next-other (i + 1) l h)

  next-new : (i : ℕ) (l : List Def) → key d ≡ k → next_from k i l ≡ 0 → next_from k i (l ++ (d ∷ [])) ≡ i + length l + 1
  next-new i [] h z = rw (eq-eqb (key d) k h) (omega arith)
  next-new i (e ∷ l) h z = go (eqb (key e) k) z (next-new (i + 1) l h)
    where
      go : (t : Bool) → cond t (i + 1) (next_from k (i + 1) l) ≡ 0
          → (next_from k (i + 1) l ≡ 0 → next_from k (i + 1) (l ++ (d ∷ [])) ≡ i + 1 + length l + 1)
          → cond t (i + 1) (next_from k (i + 1) (l ++ (d ∷ []))) ≡ i + suc (length l) + 1
      go true p h = absurd (omega arith)
      go false p h = let q = h p in omega arith

  next-keep : (i : ℕ) (l : List Def) → ¬ (next_from k i l ≡ 0) → next_from k i (l ++ (d ∷ [])) ≡ next_from k i l
  next-keep i [] h = absurd (h refl)
  next-keep i (e ∷ l) h = go (eqb (key e) k) h (next-keep (i + 1) l)
    where
      go : (t : Bool) → ¬ (cond t (i + 1) (next_from k (i + 1) l) ≡ 0)
          → (¬ (next_from k (i + 1) l ≡ 0) → next_from k (i + 1) (l ++ (d ∷ [])) ≡ next_from k (i + 1) l)
          → cond t (i + 1) (next_from k (i + 1) (l ++ (d ∷ []))) ≡ cond t (i + 1) (next_from k (i + 1) l)
      go true p h = refl
      go false p h = h p

-- a definition of the key stands in the list
next-some : (k i j : ℕ) (l : List Def) (d : Def) → nth l j ≡ some d → key d ≡ k → ¬ (next_from k i l ≡ 0)
next-some k i j [] d e h z = let y : ◌≡◌ {A = ℕ} 0 1 = cc in omega arith
next-some k i zero (b ∷ l) d e h z =
    let q : b ≡ d = cc in
    let r : eqb (key b) k ≡ true = eq-eqb (key b) k (ap key q ∙ h) in
    let y : i + 1 ≡ 0 = rw r at z in omega arith
next-some k i (suc j) (b ∷ l) d e h z = go (eqb (key b) k) z (next-some k (i + 1) j l d e h)
  where
    go : (t : Bool) → cond t (i + 1) (next_from k (i + 1) l) ≡ 0 → ¬ (next_from k (i + 1) l ≡ 0) → ⊥
    go true p f = omega arith
    go false p f = f p

-- ---- what the stores change: p is the new position, last the end of the chain of k before
pub record Stored (z z' : List ℕ) (k last p : ℕ) : Type 0 where
  pub head_first : last ≡ 0 → get_or z' k 0 ≡ p
  pub head-kept : ¬ (last ≡ 0) → get_or z' k 0 ≡ get_or z k 0
  pub heads-kept : (j : ℕ) → j < keys → ¬ (j ≡ k) → get_or z' j 0 ≡ get_or z j 0
  pub tail-new : get_or z' (keys + k) 0 ≡ p
  pub tails-kept : (j : ℕ) → j < keys → ¬ (j ≡ k) → get_or z' (keys + j) 0 ≡ get_or z (keys + j) 0
  pub link-new : get_or z' (keys + keys + p) 0 ≡ 0
  pub link-last : ¬ (last ≡ 0) → get_or z' (keys + keys + last) 0 ≡ p
  pub links-kept : (q : ℕ) → 0 < q → q < p → ¬ (q ≡ last) → get_or z' (keys + keys + q) 0 ≡ get_or z (keys + keys + q) 0

module _ (z : List ℕ) (k last p : ℕ) (hk : k < keys) (hp : keys + keys + p < length z) where
  abbrev one : List ℕ
  one = set z (keys + keys + p) 0

  abbrev two : ℕ → List ℕ
  two i = set one i p

  other : (i j m : ℕ) → ¬ (m ≡ keys + keys + p) → ¬ (m ≡ i) → ¬ (m ≡ j) → get_or (set (two i) j p) m 0 ≡ get_or z m 0
  other i j m a b c =
      get_or-set_other (two i) j m p 0 c ∙ get_or-set_other one i m p 0 b ∙ get_or-set_other z (keys + keys + p) m 0 0 a

  long : (i : ℕ) → length (two i) ≡ length z
  long i = length-set one i p ∙ length-set z (keys + keys + p) 0

  pub stored-first : last ≡ 0 → Stored z (set (two k) (keys + k) p) k last p
  stored-first e =
      let l = length-set z (keys + keys + p) 0 in
      record {
        head_first =
            λ _. get_or-set_other (two k) (keys + k) k p 0 (λ y. omega arith) ∙ get_or-set_same one k p 0 (omega arith);
        head-kept = λ f. absurd (f e);
        heads-kept = λ j h f. other k (keys + k) j (λ y. omega arith) f (λ y. omega arith);
        tail-new = let m = long k in get_or-set_same (two k) (keys + k) p 0 (omega arith);
        tails-kept =
            λ j h f. other k (keys + k) (keys + j) (λ y. omega arith) (λ y. omega arith) (λ y. f (omega arith));
        link-new =
            get_or-set_other (two k) (keys + k) (keys + keys + p) p 0 (λ y. omega arith)
            ∙ get_or-set_other one k (keys + keys + p) p 0 (λ y. omega arith)
            ∙ get_or-set_same z (keys + keys + p) 0 0 hp;
        link-last = λ f. absurd (f e);
        links-kept =
            λ q h w f. other k (keys + k) (keys + keys + q) (λ y. omega arith) (λ y. omega arith) (λ y. omega arith);
      }

  pub stored_last : ¬ (last ≡ 0) → last < p → Stored z (set (two (keys + keys + last)) (keys + k) p) k last p
  stored_last e w =
      let l = length-set z (keys + keys + p) 0 in
      record {
        head_first = λ f. absurd (e f);
        head-kept =
            λ f. other (keys + keys + last) (keys + k) k (λ y. omega arith) (λ y. omega arith) (λ y. omega arith);
        heads-kept =
            λ j h f. other (keys + keys + last) (keys + k) j (λ y. omega arith) (λ y. omega arith) (λ y. omega arith);
        tail-new =
            let m = long (keys + keys + last) in
            get_or-set_same (two (keys + keys + last)) (keys + k) p 0 (omega arith);
        tails-kept = λ j h f. other (keys + keys + last) (keys + k) (keys + j) (λ y. omega arith)
            (λ y. omega arith) (λ y. f (omega arith));
        link-new =
            get_or-set_other (two (keys + keys + last)) (keys + k) (keys + keys + p) p 0 (λ y. omega arith)
            ∙ get_or-set_other one (keys + keys + last) (keys + keys + p) p 0 (λ y. omega arith)
            ∙ get_or-set_same z (keys + keys + p) 0 0 hp;
        link-last = λ f. get_or-set_other (two (keys + keys + last)) (keys + k) (keys + keys + last) p 0
            (λ y. omega arith) ∙ get_or-set_same one (keys + keys + last) p 0 (omega arith);
        links-kept = λ q h w f. other (keys + keys + last) (keys + k) (keys + keys + q) (λ y. omega arith)
            (λ y. f (omega arith)) (λ y. omega arith);
      }

-- ---- the chains with one definition more
side : (a b : ℕ) → (a ≡ b) ⊎ (¬ (a ≡ b))
side a b = go (eqb a b) refl
  where
    go : (t : Bool) → eqb a b ≡ t → (a ≡ b) ⊎ (¬ (a ≡ b))
    go true e = inl (eqb-true a b e)
    go false e = inr (eqb-false a b e)

not_none : (ks : List Def) (q : ℕ) (e : Def) → entry ks q ≡ some e → ¬ (q ≡ 0)
not_none ks q e o z = let y : none ≡ some e = ap (entry ks) (sym z) ∙ o in let x : ◌≡◌ {A = ℕ} 0 1 = cc in omega arith

positive : (q : ℕ) → ¬ (q ≡ 0) → 0 < q
positive q f = omega arith

lower : (q l : ℕ) → q ≤ l → ¬ (q ≡ l) → q ≤ l - 1
lower q l h f = omega arith

not_last : (q n : ℕ) → q ≤ n + 1 → ¬ (q ≡ n + 1) → q ≤ n
not_last q n h f = omega arith

one_less : (n : ℕ) → ¬ (n ≡ 0) → suc (n - 1) ≡ n
one_less n e = omega arith

entry-nth : (ks : List Def) (p : ℕ) (d : Def) → ¬ (p ≡ 0) → entry ks p ≡ some d → nth ks (p - 1) ≡ some d
entry-nth ks p d z e = ap (entry ks) (one_less p z) ∙ e

-- the end of a chain stands before p
pub tail-before : (ks : List Def) (k t : ℕ) → Tail ks k t → t ≤ length ks
tail-before ks k zero h = omega arith
tail-before ks k (suc j) h = let (d, e, g, n) = h in let w = nth-within ks j d e in omega arith

tail_none : (ks : List Def) (k t : ℕ) → Tail ks k t → t ≡ 0 → next_from k 0 ks ≡ 0
tail_none ks k zero h e = h
tail_none ks k (suc j) h e = absurd (omega arith)

tail-end : (ks : List Def) (k t : ℕ) → Tail ks k t → ¬ (t ≡ 0)
    → (d : Def) × (entry ks t ≡ some d) × (key d ≡ k) × (next_from k t (drop t ks) ≡ 0)
tail-end ks k zero h e = absurd (e refl)
tail-end ks k (suc j) h e = h

tail-other : (ks : List Def) (d : Def) (k t : ℕ) → ¬ (key d ≡ k) → Tail ks k t → Tail (ks ++ (d ∷ [])) k t
tail-other ks d k zero h f = next-other k d 0 ks h ∙ f
tail-other ks d k (suc j) h f =
    let (e, a, g, n) = f in
    let w = nth-within ks j e a in (
      e,
      nth_left ks (d ∷ []) j e a,
      g,
      ap (next_from k (suc j)) (drop-append-le (suc j) ks (d ∷ []) (omega arith))
          ∙ next-other k d (suc j) (drop (suc j) ks) h ∙ n,
    )

tail-last : (ks : List Def) (d : Def) (p : ℕ) → p ≡ suc (length ks) → Tail (ks ++ (d ∷ [])) (key d) p
tail-last ks d zero e = absurd (omega arith)
tail-last ks d (suc j) e =
    let q : j ≡ length ks = omega arith in
    let l = length-append ks (d ∷ []) in
    let w : length (ks ++ (d ∷ [])) ≤ suc j = omega arith in
    (d, rw q (nth_seam ks d), refl, ap (next_from (key d) (suc j)) (drop_of_length-le (ks ++ (d ∷ [])) w))
  where
    nth_seam : (l : List Def) (a : Def) → nth (l ++ (a ∷ [])) (length l) ≡ some a
    nth_seam [] a = refl
    nth_seam (b ∷ l) a = nth_seam l a

module _ (ks : List Def) (z z' : List ℕ) (d : Def) (last p : ℕ) (c : Chains ks z) (hk : key d < keys)
    (el : last ≡ get_or z (keys + key d) 0) (ep : p ≡ length ks + 1) (s : Stored z z' (key d) last p) where
  tail : Tail ks (key d) last
  tail = rw el (c.tails (key d) hk)

  head : (k : ℕ) → k < keys → get_or z' k 0 ≡ next_from k 0 (ks ++ (d ∷ []))
  head k h = ⊎_elim same_key (λ f. s.heads-kept k h f ∙ c.heads k h ∙ sym (next-other k d 0 ks (λ e. f (sym e))))
      (side k (key d))
    where
      at_key : get_or z' (key d) 0 ≡ next_from (key d) 0 (ks ++ (d ∷ []))
      at_key =
          ⊎_elim (λ e. s.head_first e ∙ ep
          ∙ sym (next-new (key d) d 0 ks refl (tail_none ks (key d) last tail e) ∙ zero-front (length ks)))
          (λ e. s.head-kept e ∙ c.heads (key d) hk ∙ sym (next-keep (key d) d 0 ks (kept e))) (side last 0)
        where
          zero-front : (n : ℕ) → 0 + n + 1 ≡ n + 1
          zero-front n = omega arith

          kept : ¬ (last ≡ 0) → ¬ (next_from (key d) 0 ks ≡ 0)
          kept e =
              let (b, a, g, n) = tail-end ks (key d) last tail e in
              next-some (key d) 0 (last - 1) ks b (entry-nth ks last b e a) g

      same_key : k ≡ key d → get_or z' k 0 ≡ next_from k 0 (ks ++ (d ∷ []))
      same_key e = rw e at_key

  tail' : (k : ℕ) → k < keys → Tail (ks ++ (d ∷ [])) k (get_or z' (keys + k) 0)
  tail' k h =
      ⊎_elim (λ e. subst (λ (m : ℕ). Tail (ks ++ (d ∷ [])) m (get_or z' (keys + m) 0)) (sym e)
      (subst (Tail (ks ++ (d ∷ [])) (key d)) (sym s.tail-new) (tail-last ks d p (omega arith))))
      (λ f. subst (Tail (ks ++ (d ∷ [])) k) (sym (s.tails-kept k h f))
      (tail-other ks d k (get_or z (keys + k) 0) (λ e. f (sym e)) (c.tails k h))) (side k (key d))

  -- a definition of the same key that is not the last of its chain has one behind it
  followed : (q : ℕ) (e : Def) → ¬ (q ≡ 0) → entry ks q ≡ some e → ¬ (q ≡ last) → key e ≡ key d
      → ¬ (next_from (key d) q (drop q ks) ≡ 0)
  followed q e nz a nl g =
      ⊎_elim (λ y. absurd (next-some (key d) 0 (q - 1) ks e at-q g (tail_none ks (key d) last tail y)))
      (λ y. more y (tail-end ks (key d) last tail y)) (side last 0)
    where
      at-q : nth ks (q - 1) ≡ some e
      at-q = entry-nth ks q e nz a

      behind : (l i : ℕ) (b : Def) → l ≤ i → nth ks i ≡ some b → nth (drop l ks) (i - l) ≡ some b
      behind l i b w h = let y : l + (i - l) ≡ i = omega arith in rw (nth-dropped ks l (i - l), y) h

      more : ¬ (last ≡ 0) → (b : Def) × (entry ks last ≡ some b) × (key b ≡ key d)
          × (next_from (key d) last (drop last ks) ≡ 0) → ¬ (next_from (key d) q (drop q ks) ≡ 0)
      more y (b, h, k, n) = go (leb q last) refl
        where
          go : (t : Bool) → leb q last ≡ t → ¬ (next_from (key d) q (drop q ks) ≡ 0)
          go true w =
              let v = leb-true q last w in
              let u : ¬ (q ≡ last) = nl in
              let m : q ≤ last - 1 = lower q last v u in
              next-some (key d) q (last - 1 - q) (drop q ks) b (behind q (last - 1) b m (entry-nth ks last b y h)) k
          go false w =
              let v = leb-false q last w in
              let m : last ≤ q - 1 = omega arith in
              absurd (next-some (key d) last (q - 1 - last) (drop last ks) e (behind last (q - 1) e m at-q) g n)

  link : (q : ℕ) (e : Def) → entry (ks ++ (d ∷ [])) q ≡ some e
      → get_or z' (keys + keys + q) 0 ≡ next_from (key e) q (drop q (ks ++ (d ∷ [])))
  link q e a = ⊎_elim newest (λ f. older f) (side q p)
    where
      len : length (ks ++ (d ∷ [])) ≡ length ks + 1
      len = length-append ks (d ∷ [])

      newest : q ≡ p → get_or z' (keys + keys + q) 0 ≡ next_from (key e) q (drop q (ks ++ (d ∷ [])))
      newest f =
          let w : length (ks ++ (d ∷ [])) ≤ q = let l = len in omega arith in
          rw f at_new ∙ sym (ap (next_from (key e) q) (drop_of_length-le (ks ++ (d ∷ [])) w))
        where
          at_new : get_or z' (keys + keys + p) 0 ≡ 0
          at_new = s.link-new

      older : ¬ (q ≡ p) → get_or z' (keys + keys + q) 0 ≡ next_from (key e) q (drop q (ks ++ (d ∷ [])))
      older f =
          let w = entry-within (ks ++ (d ∷ [])) q e a in
          let l = len in
          let v : q ≤ length ks = not_last q (length ks) (omega arith) (λ y. f (y ∙ sym ep)) in
          let o : entry ks q ≡ some e = sym (entry-keep ks (d ∷ []) q v) ∙ a in
          ap-drop v (⊎_elim (at_last o) (λ y. between o y) (side q last))
        where
          ap-drop : q ≤ length ks → get_or z' (keys + keys + q) 0 ≡ next_from (key e) q (drop q ks ++ (d ∷ []))
              → get_or z' (keys + keys + q) 0 ≡ next_from (key e) q (drop q (ks ++ (d ∷ [])))
          ap-drop v h = h ∙ sym (ap (next_from (key e) q) (drop-append-le q ks (d ∷ []) v))

          at_last : entry ks q ≡ some e → q ≡ last
              → get_or z' (keys + keys + q) 0 ≡ next_from (key e) q (drop q ks ++ (d ∷ []))
          at_last o y =
              let (b, h, g, n) = tail-end ks (key d) last tail (λ u. not_none ks q e o (y ∙ u)) in
              let oe : entry ks last ≡ some e = sym (ap (entry ks) y) ∙ o in
              let eb : e ≡ b = cc in
              let kz : key d ≡ key e = sym g ∙ ap key (sym eb) in
              let zero : next_from (key e) q (drop q ks) ≡ 0 = ap (λ (k : ℕ). next_from k q (drop q ks)) (sym kz)
              ∙ ap (λ (i : ℕ). next_from (key d) i (drop i ks)) y ∙ n in
              let w = entry-within ks q e o in
              let l = length-drop q ks in
              let r : p ≡ q + length (drop q ks) + 1 = omega arith in
              ap (λ (i : ℕ). get_or z' (keys + keys + i) 0) y ∙ s.link-last (λ u. not_none ks q e o (y ∙ u)) ∙ r
              ∙ sym (next-new (key e) d q (drop q ks) kz zero)

          between : entry ks q ≡ some e → ¬ (q ≡ last)
              → get_or z' (keys + keys + q) 0 ≡ next_from (key e) q (drop q ks ++ (d ∷ []))
          between o y =
              let w = entry-within ks q e o in
              let nz = not_none ks q e o in
              s.links-kept q (positive q nz) (omega arith) y ∙ c.links q e o
              ∙ sym (⊎_elim (λ ke. next-keep (key e) d q (drop q ks)
              (λ z0. followed q e nz o y (sym ke) (ap (λ (k : ℕ). next_from k q (drop q ks)) ke ∙ z0)))
              (λ ne. next-other (key e) d q (drop q ks) ne) (side (key d) (key e)))

  pub chains-more : Chains (ks ++ (d ∷ [])) z'
  chains-more = record { heads = head; tails = tail'; links = link }

-- the stores that the code makes
module _ (ks : List Def) (z : List ℕ) (d : Def) (k last p : ℕ) (c : Chains ks z) (ep : p ≡ length ks + 1)
    (ek : k ≡ key d) (hk : k < keys) (hp : keys + keys + p < length z) (el : last ≡ get_or z (keys + k) 0) where
  key_below : key d < keys
  key_below = omega arith

  last-is : last ≡ get_or z (keys + key d) 0
  last-is = el ∙ ap (λ (i : ℕ). get_or z (keys + i) 0) ek

  pub known-first : last ≡ 0 → Chains (ks ++ (d ∷ [])) (set (set (set z (keys + keys + p) 0) k p) (keys + k) p)
  known-first e =
      let s : Stored z (set (set (set z (keys + keys + p) 0) k p) (keys + k) p) (key d) last p =
      subst (λ (i : ℕ). Stored z (set (set (set z (keys + keys + p) 0) k p) (keys + k) p) i last p) ek
      (stored-first z k last p hk hp e) in
      chains-more ks z _ d last p c key_below last-is ep s

  before : last < p
  before =
      let w = tail-before ks (key d) last (subst (Tail ks (key d)) (sym last-is) (c.tails (key d) key_below)) in
      omega arith

  pub known-last : ¬ (last ≡ 0)
      → Chains (ks ++ (d ∷ [])) (set (set (set z (keys + keys + p) 0) (keys + keys + last) p) (keys + k) p)
  known-last e =
      let s : Stored z (set (set (set z (keys + keys + p) 0) (keys + keys + last) p) (keys + k) p) (key d) last p =
      subst (λ (i : ℕ). Stored z (set (set (set z (keys + keys + p) 0) (keys + keys + last) p) (keys + k) p) i last p)
      ek (stored_last z k last p hk hp e before) in
      chains-more ks z _ d last p c key_below last-is ep s

  pub known-not : p ≤ last → ⊥
  known-not h = let w = before in omega arith

-- ---- no definition yet: all numbers are zero
pub chains-none : (n : ℕ) → Chains [] (replicate n 0)
chains-none n = record {
  heads = λ k h. zeros n k;
  tails = λ k h. subst (Tail [] k) (sym (zeros n (keys + k))) refl;
  links = λ p d e. absurd (nowhere p e);
}
  where
    zeros : (n i : ℕ) → ◌≡◌ {A = ℕ} (get_or (replicate n 0) i 0) 0
    zeros zero i = refl
    zeros (suc n) zero = refl
    zeros (suc n) (suc i) = zeros n i

    nowhere : {a : Def} (p : ℕ) → ¬ (entry [] p ≡ some a)
    nowhere zero e = let z : ◌≡◌ {A = ℕ} 0 1 = cc in omega arith
    nowhere (suc i) e = let z : ◌≡◌ {A = ℕ} 0 1 = cc in omega arith
