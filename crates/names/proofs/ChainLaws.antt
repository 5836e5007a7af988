-- A name looked up along the chain of its key, and a definition put at its chain's end.
use mathlib.Core.Path.{◌≡◌, refl, sym, ap, ◌∙◌}
use mathlib.Core.Logic.{◌⊎◌, inl, inr, ⊎_elim}
use mathlib.Core.Bool.{Bool, true, false, cond}
use mathlib.Core.Option.{none, some}
use mathlib.Core.List.{List, [], ◌∷◌}
use Prim.Native.Nat.{ℕ, suc, ◌+◌, ◌-◌, ◌≤◌, ◌<◌}
use native.Mathlib.Omega.{arith}
use lib.ListN.{get_or, drop}
use lib.Seq.{drop-drop}
use lib.Dec.{eqb}
use borrow.Author.Tests.{eqb-true, eq-eqb}
use Rattle.rules.specs.Declarations.{Def, lookup}
use Rattle.rules.proofs.Tests.{split, not-both, is_false}
use Rattle.rules.proofs.ByteLaws.{same-eq}
use Rattle.names.specs.Index.{nth, entry, row, Says, Known, defined_at, definition_width}
use Rattle.names.specs.Chains.{key_of, next_from, Chains, keys}
use Rattle.names.proofs.IndexLaws.{nth-within, nth-dropped, look-here, look-on}

abbrev key : Def → ℕ
key d = key_of d.name.bytes

-- ---- the next of a key
record Next (k i : ℕ) (l : List Def) : Type 0 where
  index : ℕ
  def : Def
  at : next_from k i l ≡ i + suc index
  there-is : nth l index ≡ some def
  has_key : key def ≡ k
  skipped : (q : Def → Bool) → ((d : Def) → q d ≡ true → key d ≡ k) → lookup q l ≡ lookup q (drop index l)

next_of : (k i : ℕ) (l : List Def)
    → ((next_from k i l ≡ 0) × ((q : Def → Bool) → ((d : Def) → q d ≡ true → key d ≡ k) → lookup q l ≡ none))
    ⊎ Next k i l
next_of k i [] = inl (refl, λ q h. refl)
next_of k i (d ∷ l) = go (eqb (key d) k) refl (next_of k (i + 1) l)
  where
    other : (q : Def → Bool) → ((e : Def) → q e ≡ true → key e ≡ k) → eqb (key d) k ≡ false → q d ≡ false
    other q h e = is_false (λ p. not-both (eq-eqb (key d) k (h d p)) e)

    go : (t : Bool) → eqb (key d) k ≡ t
        → ((next_from k (i + 1) l ≡ 0) × ((q : Def → Bool) → ((e : Def) → q e ≡ true → key e ≡ k) → lookup q l ≡ none))
        ⊎ Next k (i + 1) l
        → ((cond t (i + 1) (next_from k (i + 1) l) ≡ 0)
        × ((q : Def → Bool) → ((e : Def) → q e ≡ true → key e ≡ k) → lookup q (d ∷ l) ≡ none)) ⊎ Next k i (d ∷ l)
    go true e h = inr (record {
      index = 0;
      def = d;
      at = rw e (omega arith);
      there-is = refl;
      has_key = eqb-true (key d) k e;
      skipped = λ q f. refl;
    })
    go false e (inl (z, f)) = inl (z, λ q g. rw (other q g e) (f q g))
    go false e (inr n) = inr (record {
      index = suc n.index;
      def = n.def;
      at = let a = n.at in rw e (omega arith);
      there-is = n.there-is;
      has_key = n.has_key;
      skipped = λ q f. rw (other q f e) (n.skipped q f);
    })

-- ---- the search: p is the next behind i of the key of the name n
same_key : (n : List ℕ) (low high : ℕ) (d : Def) → defined_at n low high d ≡ true → key d ≡ key_of n
same_key n low high d e = let (p, r) = split e in ap key_of (sym (same-eq n d.name.bytes p))

pub record Behind (ks : List Def) (n : List ℕ) (low high p : ℕ) : Type 0 where
  pub passed : ℕ
  pub next : p ≡ next_from (key_of n) passed (drop passed ks)
  pub rest : lookup (defined_at n low high) ks ≡ lookup (defined_at n low high) (drop passed ks)

module _ (ks : List Def) (n : List ℕ) (low high p : ℕ) where
  pub behind-start : p ≡ next_from (key_of n) 0 ks → Behind ks n low high p
  behind-start e = record { passed = 0; next = e; rest = refl }

  module _ (b : Behind ks n low high p) where
    pub behind-none : p ≡ 0 → none ≡ lookup (defined_at n low high) ks
    behind-none z =
        ⊎_elim (λ h. sym (b.rest ∙ h.1 (defined_at n low high) (same_key n low high))) (λ h. let a = h.at in
        let e = b.next in absurd (omega arith)) (next_of (key_of n) b.passed (drop b.passed ks))

    -- the definition at p
    pub behind-there : 0 < p → (d : Def) × (nth ks (p - 1) ≡ some d) × (key d ≡ key_of n)
        × (lookup (defined_at n low high) ks ≡ lookup (defined_at n low high) (drop (p - 1) ks))
    behind-there z =
        ⊎_elim (λ h. let a = h.0 in let e = b.next in absurd (omega arith))
        (λ h.
        let e : p - 1 ≡ b.passed + h.index = let a = h.at in let c = b.next in omega arith in (
          h.def,
          rw (e, ← nth-dropped ks b.passed h.index) h.there-is,
          h.has_key,
          rw (e, ← drop-drop h.index b.passed ks)
              (b.rest ∙ h.skipped (defined_at n low high) (same_key n low high)),
        ))
        (next_of (key_of n) b.passed (drop b.passed ks))

-- ---- a turn: the row at p is judged by v
module _ (t : List ℕ) (ks : List Def) (x : List ℕ) (count : ℕ) (k : Known t ks x count) (z : List ℕ) (c : Chains ks z)
    (n : List ℕ) (low high p : ℕ) (b : Behind ks n low high p) (w : 0 < p) where
  from_one : p ≡ suc (p - 1)
  from_one = omega arith

  pub chain-within : p ≤ count
  chain-within =
      let (d, e, g, r) = behind-there ks n low high p b w in
      let h = nth-within ks (p - 1) d e in let a = k.all in omega arith

  module _ (v : Bool) (f : (d : Def) → Says t d (row definition_width x p) → v ≡ defined_at n low high d) where
    judged : (d : Def) → entry ks p ≡ some d → v ≡ defined_at n low high d
    judged d e = f d (k.says p d e)

    pub chain-hit : v ≡ true → entry ks p ≡ lookup (defined_at n low high) ks
    chain-hit e =
        let (d, a, g, r) = behind-there ks n low high p b w in
        let q : entry ks p ≡ some d = ap (entry ks) from_one ∙ a in
        q ∙ sym (r ∙ look-here (defined_at n low high) ks (p - 1) d a (sym (judged d q) ∙ e))

    module _ (e : v ≡ false) (m : ℕ) (em : m ≡ get_or z (keys + keys + p) 0) where
      pub chain-on : Behind ks n low high m
      chain-on =
          let (d, a, g, r) = behind-there ks n low high p b w in
          let q : entry ks p ≡ some d = ap (entry ks) from_one ∙ a in
          let y : lookup (defined_at n low high) (drop (p - 1) ks) ≡ lookup (defined_at n low high) (drop p ks) =
          look-on (defined_at n low high) ks (p - 1) d a (sym (judged d q) ∙ e)
          ∙ ap (λ (i : ℕ). lookup (defined_at n low high) (drop i ks)) (sym from_one) in
          record { passed = p; next = em ∙ c.links p d q ∙ ap (λ (j : ℕ). next_from j p (drop p ks)) g; rest = r ∙ y }

      pub chain-up : m ≤ p → m ≡ 0
      chain-up h =
          let y = chain-on.next in
          ⊎_elim (λ s. chain-on-next ∙ s.0) (λ s. let a = s.at in let u = chain-on-next in absurd (omega arith))
          (next_of (key_of n) p (drop p ks))
        where
          chain-on-next : m ≡ next_from (key_of n) p (drop p ks)
          chain-on-next =
              let (d, a, g, r) = behind-there ks n low high p b w in
              em ∙ c.links p d (ap (entry ks) from_one ∙ a) ∙ ap (λ (j : ℕ). next_from j p (drop p ks)) g

pub key_below : (a b : ℕ) → a ≡ b → a < keys → b < keys
key_below a b e h = omega arith
