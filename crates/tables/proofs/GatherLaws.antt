-- An enumeration is entered list by list: what is entered of a list is what is found in it.
use mathlib.Core.Path.{◌≡◌, refl, sym, ap, ◌∙◌}
use mathlib.Core.Logic.{⊎_elim}
use mathlib.Core.Bool.{Bool, true, false, cond, ◌&&◌}
use mathlib.Core.List.{List, [], ◌∷◌}
use Prim.Native.Nat.{ℕ, zero, suc, ◌+◌, ◌-◌, ◌≤◌, ◌<◌}
use native.Mathlib.Numerals.{add-one}
use native.Mathlib.Omega.{arith}
use lib.ListN.{length, get_or}
use lib.Dec.{eqb, leb}
use borrow.Author.Tests.{leb-true, leb-false, eqb-true, eqb-false, eq-eqb, ne_eqb}
use Rattle.rules.specs.Enumerations.{Enum}
use Rattle.rules.proofs.Tests.{never, not-both, is_false, or_split, or-fails}
use Rattle.ground.specs.declared.Name as code
use Rattle.std.specs.Prelude.{Option, Some, None, is_some}
use Rattle.enumerations.specs.Lists.{is_element, is_opening, end_from, past_inner, written}
use Rattle.enumerations.specs.Lists.{same_names, find_from}
use Rattle.enumerations.specs.Standing.{end_of, Stands}
use Rattle.tables.specs.Tables.{Entry, seek_in, is_entered, list_of, Before, Filled, Serves, Gathered, Grown}
use Rattle.enumerations.specs.declared.End.{End}
use Rattle.tables.specs.declared.Grid.{Grid}
use Rattle.enumerations.proofs.ListLaws.{element-in, find-here, find-next, find_none}
use Rattle.enumerations.proofs.StandLaws.{list-end, end-in}
use Rattle.enumerations.proofs.WrittenLaws.{stands-whole}
use Rattle.tables.proofs.TableLaws.{seek-same}
use Rattle.book.specs.Sizes.{element_size, list_size}

-- ---- where the list of an enumeration ends
pub list-past : (t s : List ℕ) (e : Enum) (p : ℕ) (r : End)
    → ((f : ℕ) → length s - (p + list_size) < f → r ≡ end_from f s (p + list_size) 0 0) → Stands t s e p
    → r.at ≡ end_of e (p + list_size)
list-past t s e p r h u = ap (λ (x : End). x.at) (h (length s + 1) (omega arith)
    ∙ list-end t s e (p + list_size) (stands-whole t s e p u).list (length s + 1) (omega arith))

pub end-within : (t s : List ℕ) (e : Enum) (p : ℕ) → Stands t s e p → end_of e (p + list_size) ≤ length s
end-within t s e p u = end-in t s e (p + list_size) (stands-whole t s e p u).list

-- ---- more fuel finds the same
end_ge : (f : ℕ) (s : List ℕ) (p k c : ℕ) → p ≤ (end_from f s p k c).at
unfolding end_from
end_ge zero s p k c = omega arith
end_ge (suc f) s p k c =
    go (leb (length s) p) (eqb (get_or s p 0) 14) (eqb (get_or s p 0) 13) (eqb k 0)
    (end_ge f s (p + element_size) k (c + 1))
    (end_ge f s (p + list_size) (k + 1) (c + 1)) (end_ge f s (p + 1) (k - 1) (c + 1))
  where
    go : (a b d e : Bool) → p + element_size ≤ (end_from f s (p + element_size) k (c + 1)).at → p + list_size
        ≤ (end_from f s (p + list_size) (k + 1) (c + 1)).at → p + 1 ≤ (end_from f s (p + 1) (k - 1) (c + 1)).at
        → p ≤ (cond a (record { at = p; records = c })
        (cond b (end_from f s (p + element_size) k (c + 1)) (cond d (end_from f s (p + list_size) (k + 1) (c + 1))
        (cond e (record { at = p + 1; records = c + 1 }) (end_from f s (p + 1) (k - 1) (c + 1)))))).at
    go true b d e x y z = omega arith
    go false true d e x y z = omega arith
    go false false true e x y z = omega arith
    go false false false true x y z = omega arith
    go false false false false x y z = omega arith

past-ge : (s : List ℕ) (m : ℕ) → m ≤ past_inner s m
unfolding past_inner
past-ge s m = go (is_opening s m) (end_ge (length s + 1) s (m + 2) 0 0)
  where
    go : (c : Bool) → m + 2 ≤ (end_from (length s + 1) s (m + 2) 0 0).at
        → m ≤ cond c (end_from (length s + 1) s (m + 2) 0 0).at m
    go true h = omega arith
    go false h = omega arith

pub past-plain : (s : List ℕ) (m : ℕ) → is_opening s m ≡ false → past_inner s m ≡ m
unfolding past_inner
past-plain s m h = rw h

find-fuel : (t s : List ℕ) (n : code.Name) (f g p : ℕ) → length s - p < f → length s - p < g
    → find_from f t s p n ≡ find_from g t s p n
find-fuel t s n zero g p a b = absurd (omega arith)
find-fuel t s n (suc f) zero p a b = absurd (omega arith)
find-fuel t s n (suc f) (suc g) p a b = go (is_element s p) refl (same_names t n (written s p)) refl
    (λ x y. find-fuel t s n f g (past_inner s (p + element_size)) x y)
  where
    go : (c : Bool) → is_element s p ≡ c → (d : Bool) → same_names t n (written s p) ≡ d →
        (length s - past_inner s (p + element_size) < f → length s - past_inner s (p + element_size) < g
        → find_from f t s (past_inner s (p + element_size)) n ≡ find_from g t s (past_inner s (p + element_size)) n)
        → find_from (suc f) t s p n ≡ find_from (suc g) t s p n
    go false e d q ih = find_none (suc f) t s p n e ∙ sym (find_none (suc g) t s p n e)
    go true e true q ih = find-here f t s p n e q ∙ sym (find-here g t s p n e q)
    go true e false q ih =
        let u = element-in s p e in
        let v = past-ge s (p + element_size) in
        find-next f t s p n e q ∙ ih (omega arith) (omega arith) ∙ sym (find-next g t s p n e q)

-- ---- a step of the search, with fuel enough
module _ (t s : List ℕ) (n : code.Name) (p : ℕ) where
  here_found : is_element s p ≡ true → same_names t n (written s p) ≡ true
      → find_from (length s + 1) t s p n ≡ Some (p + element_size)
  here_found e h = rw (add-one (length s)) (find-here (length s) t s p n e h)

  further-found : is_element s p ≡ true → same_names t n (written s p) ≡ false
      → find_from (length s + 1) t s p n ≡ find_from (length s + 1) t s (past_inner s (p + element_size)) n
  further-found e h =
      let u = element-in s p e in
      let v = past-ge s (p + element_size) in
      ap (λ (f : ℕ). find_from f t s p n) (add-one (length s)) ∙ find-next (length s) t s p n e h
      ∙ find-fuel t s n (length s) (length s + 1) (past_inner s (p + element_size)) (omega arith) (omega arith)

-- ---- what is entered
-- what is found, or else what is found behind
abbrev pub or_found : Option ℕ → Option ℕ → Option ℕ
or_found None b = b
or_found (Some p) b = Some p

-- of the list l the elements before q are entered, and the lists inside those
pub record Sofar (t s : List ℕ) (g : Grid) (es₀ : List Entry) (l : ℕ) (z : List ℕ) (q : ℕ) : Type 0 where
  pub entries : List Entry
  pub filled : Filled t s g z entries q
  pub same_entered : (m : ℕ) → m < l → is_entered m entries ≡ is_entered m es₀
  pub same_found : (m : ℕ) → m < l → (n : code.Name) → seek_in t s m n entries ≡ seek_in t s m n es₀
  pub inner : (m : ℕ) → l < m → is_entered m entries ≡ true → Serves t s entries m
  pub mid : (n : code.Name) → find_from (length s + 1) t s l n
      ≡ or_found (seek_in t s l n entries) (find_from (length s + 1) t s q n)

module _ (t s : List ℕ) (g : Grid) where
  pub entered-before : (es : List Entry) (m p : ℕ) → Before s g es p → is_entered m es ≡ true → m < p
  entered-before [] m p b h = never h
  entered-before (e ∷ es) m p b h =
      ⊎_elim (λ q. omega (arith, eqb-true e.list m q, b.0.behind, b.1))
      (λ q. omega (arith, entered-before es m e.at b.2 q, b.1))
      (or_split {x = eqb e.list m} h)

  not_found : (es : List Entry) (m : ℕ) → is_entered m es ≡ false → (n : code.Name) → seek_in t s m n es ≡ None
  not_found [] m h n = refl
  not_found (e ∷ es) m h n =
      let q : (eqb e.list m ≡ false) × (is_entered m es ≡ false) = or-fails h in
      rw q.0 (not_found es m q.1 n)

  -- a list with an element found has one entered
  pub found-entered : (es : List Entry) (m : ℕ) (n : code.Name) → is_some (seek_in t s m n es) ≡ true
      → is_entered m es ≡ true
  found-entered es m n h = go (is_entered m es) refl
    where
      go : (c : Bool) → is_entered m es ≡ c → c ≡ true
      go true e = refl
      go false e = not-both h (rw (not_found es m e n))

  seek-low : (es : List Entry) (p m : ℕ) (n : code.Name) → Before s g es p → (q : ℕ)
      → seek_in t s m n es ≡ Some q → q ≤ p
  seek-low [] p m n b q h = absurd cc
  seek-low (e ∷ es) p m n b q h =
      go (eqb e.list m && same_names t n (written s e.at)) h (seek-low es e.at m n b.2 q)
    where
      go : (c : Bool) → cond c (Some (e.at + element_size)) (seek_in t s m n es) ≡ Some q
          → (seek_in t s m n es ≡ Some q → q ≤ e.at) → q ≤ p
      go true h f = let a : e.at + element_size ≡ q = cc in omega (arith, b.1)
      go false h f = omega (arith, f h, b.1)

  or_nothing : (a : Option ℕ) → or_found a None ≡ a
  or_nothing None = refl
  or_nothing (Some p) = refl

  before_more : (es : List Entry) (p q : ℕ) → Before s g es p → p ≤ q → Before s g es q
  before_more [] p q b h = tt
  before_more (e ∷ es) p q b h = (b.0, omega (arith, b.1), b.2)

  pub filled-up : (z : List ℕ) (es : List Entry) (p q : ℕ) → Filled t s g z es p → p ≤ q → Filled t s g z es q
  filled-up z es p q F h = record { chains = F.chains; lists = F.lists; before = before_more es p q F.before h }

  module _ (es₀ : List Entry) (l : ℕ) where
    pub sofar-start : (z : List ℕ) → Filled t s g z es₀ l → Sofar t s g es₀ l z l
    sofar-start z F =
        record {
          entries = es₀;
          filled = F;
          same_entered = λ m h. refl;
          same_found = λ m h n. refl;
          inner = λ m h e. absurd (omega (arith, entered-before es₀ m l F.before e));
          mid = λ n. rw (not_found es₀ l (is_false (λ e. omega (arith, entered-before es₀ l l F.before e))) n);
        }

    pub sofar-end : (z : List ℕ) (q p : ℕ) → Sofar t s g es₀ l z q → is_element s q ≡ false
        → q ≤ p → Grown t s g es₀ z l p
    sofar-end z q p W h u =
        record {
          entries = W.entries;
          filled = filled-up z W.entries q p W.filled u;
          same_entered = W.same_entered;
          same_found = W.same_found;
          whole = λ m v e. go m (eqb l m) refl v e;
        }
      where
        go : (m : ℕ) (c : Bool) → eqb l m ≡ c → l ≤ m → is_entered m W.entries ≡ true → Serves t s W.entries m
        go m true a v e =
            rw (sym (eqb-true l m a)) (λ n. sym
            (W.mid n ∙ rw (find_none (length s + 1) t s q n h) (or_nothing (seek_in t s l n W.entries))))
        go m false a v e = let b : ¬ (l ≡ m) = eqb-false l m a in W.inner m (omega arith) e

    -- ---- at an element
    module _ (z : List ℕ) (q : ℕ) (W : Sofar t s g es₀ l z q) (h : is_element s q ≡ true) where
      pub was-entered : is_some (seek_in t s l (written s q) W.entries) ≡ true
          → ¬ (find_from (length s + 1) t s l (written s q) ≡ Some (q + element_size))
      was-entered u e = go (seek_in t s l (written s q) W.entries) refl u
        where
          go : (o : Option ℕ) → seek_in t s l (written s q) W.entries ≡ o → is_some o ≡ true → ⊥
          go None v u = never u
          go (Some m) v u =
              let a : Some m ≡ Some (q + element_size) = sym (W.mid (written s q) ∙ rw v) ∙ e in
              let b : m ≡ q + element_size = cc in
              omega (arith, seek-low W.entries q l (written s q) W.filled.before m v)

      module _ (new : seek_in t s l (written s q) W.entries ≡ None) where
        not_yet : (n : code.Name) → same_names t n (written s q) ≡ true
            → find_from (length s + 1) t s l n ≡ Some (q + element_size)
        not_yet n e = W.mid n ∙ rw (seek-same t n (written s q) e s l W.entries, new) (here_found t s n q h e)

        pub not_entered : same_names t (written s q) (written s q) ≡ true
            → find_from (length s + 1) t s l (written s q) ≡ Some (q + element_size)
        not_entered e = not_yet (written s q) e

        abbrev with_it : List Entry
        with_it = record { list = l; at = q } ∷ W.entries

        itself : eqb l l ≡ true
        itself = eq-eqb l l refl

        mid-next : (n : code.Name) → find_from (length s + 1) t s l n
            ≡ or_found (seek_in t s l n with_it) (find_from (length s + 1) t s (past_inner s (q + element_size)) n)
        mid-next n = go (same_names t n (written s q)) refl
          where
            go : (c : Bool) → same_names t n (written s q) ≡ c →
                find_from (length s + 1) t s l n
                ≡ or_found (cond (eqb l l && c) (Some (q + element_size)) (seek_in t s l n W.entries))
                (find_from (length s + 1) t s (past_inner s (q + element_size)) n)
            go true e = rw itself (not_yet n e)
            go false e = rw itself (W.mid n ∙ ap (or_found (seek_in t s l n W.entries)) (further-found t s n q h e))

        other-entered : (m : ℕ) → ¬ (l ≡ m) → is_entered m with_it ≡ is_entered m W.entries
        other-entered m a = rw (ne_eqb l m a)

        other-found : (m : ℕ) → ¬ (l ≡ m) → (n : code.Name) → seek_in t s m n with_it ≡ seek_in t s m n W.entries
        other-found m a n = rw (ne_eqb l m a)

        pub sofar-plain : (z₁ : List ℕ) → Filled t s g z₁ with_it (q + element_size)
            → is_opening s (q + element_size) ≡ false → Sofar t s g es₀ l z₁ (q + element_size)
        sofar-plain z₁ F o =
            record {
              entries = with_it;
              filled = F;
              same_entered = λ m u. other-entered m (λ e. omega arith) ∙ W.same_entered m u;
              same_found = λ m u n. other-found m (λ e. omega arith) n ∙ W.same_found m u n;
              inner = λ m u e. λ n.
                  other-found m (λ e. omega arith) n ∙ W.inner m u (sym (other-entered m (λ e. omega arith)) ∙ e) n;
              mid = λ n. rw (past-plain s (q + element_size) o) at (mid-next n);
            }

        pub sofar-inner : (z₂ : List ℕ) (r : ℕ) → l ≤ q → Grown t s g with_it z₂ (q + element_size + list_size) r
            → r ≡ past_inner s (q + element_size) → Sofar t s g es₀ l z₂ r
        sofar-inner z₂ r v G er =
            record {
              entries = G.entries;
              filled = G.filled;
              same_entered =
                  λ m u. G.same_entered m (omega arith) ∙ other-entered m (λ e. omega arith) ∙ W.same_entered m u;
              same_found =
                  λ m u n. G.same_found m (omega arith) n ∙ other-found m (λ e. omega arith) n ∙ W.same_found m u n;
              inner = λ m u e. go m u e (leb (q + element_size + list_size) m) refl;
              mid = λ n. rw (G.same_found l (omega arith) n, er) (mid-next n);
            }
          where
            go : (m : ℕ) → l < m → is_entered m G.entries ≡ true → (c : Bool)
                → leb (q + element_size + list_size) m ≡ c → Serves t s G.entries m
            go m u e true a = G.whole m (leb-true _ _ a) e
            go m u e false a =
                let b = leb-false (q + element_size + list_size) m a in
                λ n. G.same_found m b n ∙ other-found m (λ e. omega arith) n
                ∙ W.inner m u (sym (other-entered m (λ e. omega arith)) ∙ sym (G.same_entered m b) ∙ e) n

  -- the whole enumeration
  pub grown-whole : (z : List ℕ) (l q : ℕ) → Grown t s g [] z l q → Gathered t s g z
  grown-whole z l q G = record {
    entries = G.entries;
    top = q;
    filled = G.filled;
    whole = λ m e. go m e (leb l m) refl;
  }
    where
      go : (m : ℕ) → is_entered m G.entries ≡ true → (c : Bool) → leb l m ≡ c → Serves t s G.entries m
      go m e true a = G.whole m (leb-true l m a) e
      go m e false a = not-both e (G.same_entered m (leb-false l m a))

-- ---- what the code answers
module _ (t s : List ℕ) (g : Grid) (z : List ℕ) (l : ℕ) (n : code.Name) (m : Option ℕ)
    (f : (es : List Entry) (p : ℕ) → Filled t s g z es p → m ≡ seek_in t s l n es) (G : Gathered t s g z) where
  pub found-hit : is_some m ≡ true → m ≡ find_from (length s + 1) t s l n
  found-hit h =
      let e = f G.entries G.top G.filled in
      e ∙ G.whole l (found-entered t s g G.entries l n (rw e at h)) n

  pub found-listed : list_of g z l ≡ l + 1 → m ≡ find_from (length s + 1) t s l n
  found-listed h = f G.entries G.top G.filled ∙ G.whole l (G.filled.lists l l h) n
