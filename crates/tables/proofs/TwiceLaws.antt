-- Doubled elements: an element is the first of its name exactly when the search from the start of its list ends at it.
use mathlib.Core.Path.{◌≡◌, refl, sym, ap, ◌∙◌}
use mathlib.Core.Bool.{Bool, true, false, ◌||◌}
use mathlib.Core.Option.{Option, none, some}
use mathlib.Core.List.{List, [], ◌∷◌}
use Prim.Native.Nat.{ℕ, ◌+◌, ◌-◌, ◌≤◌, ◌<◌}
use native.Mathlib.Omega.{arith}
use lib.ListN.{length}
use Rattle.rules.specs.Bytes.{same, is_one_of}
use Rattle.rules.specs.Names.{Name}
use Rattle.rules.specs.Enumerations.{Enum, end, elem, final, first, twice}
use Rattle.rules.proofs.Tests.{never, not-both, or-fails, is_false}
use Rattle.rules.proofs.ByteLaws.{same_refl}
use Rattle.ground.specs.declared.Name as code
use Rattle.std.specs.Prelude.{Some, None, Result, Ok, Err}
use Rattle.std.specs.Prelude.{Option as code·Option}
use Rattle.enumerations.specs.Lists.{is_element, is_opening, past_inner, written, same_names, find_from}
use Rattle.enumerations.specs.Standing.{plain, DeepIn, Deep, part_of, end_of, InsideBy, ListAt, InsideAt}
use Rattle.tables.specs.Doubling.{checked_of, PastIn, found_of}
use Rattle.enumerations.proofs.StandLaws.{next_of, next-gt, end-gt, list-elements, past-inside, same_names_lem, found}
use Rattle.enumerations.proofs.StandLaws.{find-elements}
use Rattle.tables.specs.declared.twice.Repeated.{Repeated}
use Rattle.book.specs.Sizes.{element_size, list_size}

-- ---- answers
abbrev place_of : Result ℕ Repeated → ℕ
place_of (Ok q) = q
place_of (Err d) = d.place

pub twice_of : (x : Option ℕ) (q : ℕ) (d : Repeated) → Err d ≡ checked_of x q → x ≡ some d.place
twice_of none q d e = let z : ◌≡◌ {A = ℕ} 0 1 = cc in absurd (omega arith)
twice_of (some o) q d e = let z : d.place ≡ o = ap place_of e in rw z

pub past_of : (x : Option ℕ) (q p : ℕ) → Ok p ≡ checked_of x q → (x ≡ none) × (p ≡ q)
past_of none q p e = (refl, cc)
past_of (some o) q p e = let z : ◌≡◌ {A = ℕ} 0 1 = cc in absurd (omega arith)

pub past-in : (c : Result ℕ Repeated) (q l n : ℕ) → c ≡ Ok q → PastIn c l n → (l ≤ q) × (q ≤ n)
past-in c q l n e h = rw e at h

module _ (t s : List ℕ) where
  -- of the list e at p, the elements up to the place q are passed, their names `seen`, and `rest` is left
  pub record Walked (k : ℕ) (e : Enum) (p q : ℕ) : Type 0 where
    pub rest : Enum
    pub seen : List (List ℕ)
    pub stands : ListAt t s rest q
    pub deep : Deep k rest
    pub ends : end_of e p ≡ end_of rest q
    pub same-twice : twice e [] ≡ twice rest seen
    pub fresh : (n : List ℕ) → is_one_of n seen ≡ false → found t s n e p ≡ found t s n rest q
    pub old : (n : List ℕ) → is_one_of n seen ≡ true → (m : ℕ) → found t s n e p ≡ Some m → m ≤ q

  pub walked_start : (k : ℕ) (e : Enum) (p : ℕ) → ListAt t s e p → Deep k e → Walked k e p p
  walked_start k e p h d =
      record {
        rest = e;
        seen = [];
        stands = h;
        deep = d;
        ends = refl;
        same-twice = refl;
        fresh = λ n z. refl;
        old = λ n z m y. never z;
      }

  pub walked_end : (k : ℕ) (e : Enum) (p q : ℕ) → Walked k e p q → is_element s q ≡ false
      → (q < length s) × (Ok (q + 1) ≡ checked_of (twice e []) (end_of e p))
  walked_end k e p q W h = go W.rest W.stands W.ends W.same-twice
    where
      go : (r : Enum) → ListAt t s r q → end_of e p ≡ end_of r q → twice e [] ≡ twice r W.seen
          → (q < length s) × (Ok (q + 1) ≡ checked_of (twice e []) (end_of e p))
      go (end f) l u v = (l.0, rw (u, v))
      go (elem n i r) l u v = not-both l.0.there h

  -- ---- at an element
  module _ (k : ℕ) (e : Enum) (p q : ℕ) where
    pub record Here : Type 0 where
      pub n : Name
      pub i : Enum
      pub r : Enum
      pub seen : List (List ℕ)
      pub name : written s q ≡ part_of n
      pub inside : InsideAt t s i (q + element_size)
      pub stands : ListAt t s r (next_of i q)
      pub deep_in : DeepIn (plain i) k (Deep (k - 1) i)
      pub deep : Deep k r
      pub ends : end_of e p ≡ end_of r (next_of i q)
      pub search : find_from (length s + 1) t s p (written s q) ≡ found t s n.bytes e p
      pub same-twice : twice e [] ≡ twice (elem n i r) seen
      pub fresh : (m : List ℕ) → is_one_of m seen ≡ false → found t s m e p ≡ found t s m (elem n i r) q
      pub old : (m : List ℕ) → is_one_of m seen ≡ true → (o : ℕ) → found t s m e p ≡ Some o → o ≤ q
      pub own_name : same_names t (written s q) (written s q) ≡ true
      pub within : q + element_size ≤ end_of e p

    pub here : Walked k e p q → ListAt t s e p → is_element s q ≡ true → Here
    here W l h = go W.rest W.stands W.deep W.ends W.same-twice W.fresh
      where
        go : (r : Enum) → ListAt t s r q → Deep k r → end_of e p ≡ end_of r q → twice e [] ≡ twice r W.seen →
            ((n : List ℕ) → is_one_of n W.seen ≡ false → found t s n e p ≡ found t s n r q) → Here
        go (end f) a d u v w = not-both h (list-elements t s (end f) q a)
        go (elem n i r) a d u v w =
            record {
              n = n;
              i = i;
              r = r;
              seen = W.seen;
              name = a.0.name;
              inside = a.1;
              stands = a.2;
              deep_in = d.0;
              deep = d.1;
              ends = u;
              search = rw a.0.name
                  (find-elements t s n a.0.in_text e p (list-elements t s e p l) (length s + 1) (omega arith));
              same-twice = v;
              fresh = w;
              old = W.old;
              own_name = rw a.0.name (same_names_lem t s n n a.0.in_text a.0.in_text ∙ same_refl n.bytes);
              within = omega (arith, next-gt i q, end-gt r (next_of i q));
            }

    module _ (H : Here) (f : code·Option ℕ) (ef : f ≡ find_from (length s + 1) t s p (written s q)) where
      found-is : f ≡ found t s H.n.bytes e p
      found-is = ef ∙ H.search

      itself : found t s H.n.bytes (elem H.n H.i H.r) q ≡ Some (q + element_size)
      itself = rw (same_refl H.n.bytes)

      pub was-seen : ¬ (f ≡ Some (q + element_size)) → is_one_of H.n.bytes H.seen ≡ true
      was-seen h = go (is_one_of H.n.bytes H.seen) refl
        where
          go : (c : Bool) → is_one_of H.n.bytes H.seen ≡ c → c ≡ true
          go true z = refl
          go false z = absurd (h (found-is ∙ H.fresh H.n.bytes z ∙ itself))

      pub not_seen : f ≡ Some (q + element_size) → is_one_of H.n.bytes H.seen ≡ false
      not_seen h = is_false (λ z. let o = H.old H.n.bytes z (q + element_size) (sym found-is ∙ h) in omega arith)

      pub doubled-here : ¬ (f ≡ Some (q + element_size)) → (m : code.Name) → m ≡ written s q
          → Err (record { place = m.offset }) ≡ checked_of (twice e []) (end_of e p)
      doubled-here h m em =
          let a : m.offset ≡ H.n.offset = ap (λ (y : code.Name). y.offset) (em ∙ H.name) in
          rw (H.same-twice, was-seen h, a)

      module _ (h : f ≡ Some (q + element_size)) where
        passed : twice e [] ≡ first (twice H.i []) (twice H.r (H.n.bytes ∷ H.seen))
        passed = H.same-twice ∙ rw (not_seen h)

        -- what is inside has no doubled element: the walk goes on behind it
        further : twice H.i [] ≡ none → Walked k e p (next_of H.i q)
        further z =
            record {
              rest = H.r;
              seen = H.n.bytes ∷ H.seen;
              stands = H.stands;
              deep = H.deep;
              ends = H.ends;
              same-twice = passed ∙ rw z;
              fresh = λ m y. let g : (same m H.n.bytes ≡ false) × (is_one_of m H.seen ≡ false) = or-fails y in
                  H.fresh m g.1 ∙ rw g.0;
              old = λ m y o z. go m (is_one_of m H.seen) refl (same m H.n.bytes) refl y o z;
            }
          where
            go : (m : List ℕ) (c : Bool) → is_one_of m H.seen ≡ c → (d : Bool) → same m H.n.bytes ≡ d
                → (same m H.n.bytes || is_one_of m H.seen) ≡ true
                → (o : ℕ) → found t s m e p ≡ Some o → o ≤ next_of H.i q
            go m true a d b y o w = omega (arith, H.old m a o w, next-gt H.i q)
            go m false a true b y o w =
                let v : Some o ≡ Some (q + element_size) = sym w ∙ H.fresh m a ∙ rw b in
                let u : o ≡ q + element_size = cc in
                omega (arith, next-gt H.i q)
            go m false a false b y o w = not-both y (rw (a, b))

        pub passed-plain : is_opening s (q + element_size) ≡ false → Walked k e p (q + element_size)
        passed-plain o = go H.i refl H.inside
          where
            go : (i : Enum) → H.i ≡ i → InsideAt t s i (q + element_size) → Walked k e p (q + element_size)
            go (end false) a b = let w : next_of H.i q ≡ q + element_size = rw a in rw w at (further (rw a))
            go (end true) a b = not-both b.0 o
            go (elem n i r) a b = not-both b.0 o

        -- the list inside
        pub record Inner : Type 0 where
          pub i : Enum
          pub list : ListAt t s i (q + element_size + list_size)
          pub room : 0 < k
          pub deep : Deep (k - 1) i
          pub doubled : (o : ℕ) → twice i [] ≡ some o → twice e [] ≡ some o
          pub goes : twice i [] ≡ none → Walked k e p (end_of i (q + element_size + list_size))
          pub past : end_of i (q + element_size + list_size) ≡ past_inner s (q + element_size)
          pub within : end_of i (q + element_size + list_size) ≤ end_of e p

        pub inner-list : is_opening s (q + element_size) ≡ true → Inner
        inner-list o = go (plain H.i) refl H.inside H.deep_in
          where
            go : (c : Bool) → plain H.i ≡ c → InsideBy c s (final H.i) (q + element_size)
                (ListAt t s H.i (q + element_size + list_size)) → DeepIn c k (Deep (k - 1) H.i) → Inner
            go true a b d = not-both o b
            go false a b d =
                record {
                  i = H.i;
                  list = b.2;
                  room = d.0;
                  deep = d.1;
                  doubled = λ o z. passed ∙ rw z;
                  goes = λ z. let w : next_of H.i q ≡ end_of H.i (q + element_size + list_size) = rw a in
                      rw w at (further z);
                  past = sym (past-inside t s H.i (q + element_size) H.inside ∙ rw a);
                  within =
                      let w : next_of H.i q ≡ end_of H.i (q + element_size + list_size) = rw a in
                      omega (arith, end-gt H.r (next_of H.i q), H.ends);
                }

  pub walked_at : (k : ℕ) (e : Enum) (p : ℕ) {q r : ℕ} → q ≡ r → Walked k e p r → Walked k e p q
  walked_at k e p h w = rw h w

pub twice-is : (x : Option ℕ) (q : ℕ) (d : Repeated) → x ≡ some d.place → Err d ≡ checked_of x q
twice-is x q d h = rw h

pub found-twice : (x : Option ℕ) (q : ℕ) (d : Repeated) → Err d ≡ checked_of x q → Some d.place ≡ found_of x
found-twice x q d e = rw (twice_of x q d e)

pub found_none : (x : Option ℕ) (q p : ℕ) → Ok p ≡ checked_of x q → None ≡ found_of x
found_none x q p e = rw (past_of x q p e).0
