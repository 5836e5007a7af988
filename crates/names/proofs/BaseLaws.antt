-- References into topics, and bases.
use mathlib.Core.Path.{◌≡◌, sym, ap, ◌∙◌, subst}
use mathlib.Core.Bool.{Bool, true, false}
use mathlib.Core.Option.{Option, none, some}
use mathlib.Core.List.{List}
use Prim.Native.Nat.{ℕ, zero, suc, ◌+◌, ◌≤◌, ◌<◌}
use native.Mathlib.Omega.{arith}
use lib.ListN.{length, get_or}
use borrow.Author.Tests.{eq-eqb, ne_eqb}
use Rattle.rules.specs.Bytes.{same}
use Rattle.rules.specs.Declarations.{Def, State, known, lookup, at_home, at_hand, in_topic_of, resolve, sort_number}
use Rattle.rules.specs.Judge.{bases_of, is_among}
use Rattle.ground.specs.declared.Name.{Name}
use Rattle.ground.specs.declared.Reference.{Reference}
use Rattle.ground.specs.declared.Reference.TheVariants.{Bare, InModel, InTopic}
use Rattle.names.specs.References.{bytes_of, Inside, AllInside, reference_of}
use Rattle.names.specs.Index.{entry, row, Says, Known, defined_at, Chained, definition_width}
use Rattle.names.proofs.IndexLaws.{there, at-home}

-- ---- positions that are there
pub entry-there : {A : Type 0} (l : List A) (p : ℕ) → 0 < p → p ≤ length l → (a : A) × (entry l p ≡ some a)
entry-there l zero z h = absurd (omega arith)
entry-there l (suc i) z h = there l i (omega arith)

-- ---- in a topic: p is what was found under the topic's name
module _ (t : List ℕ) (s : State) (x : List ℕ) (count : ℕ) (k : Known t (known s.decls) x count) (n : List ℕ)
    (o : Option Def) (p : ℕ) (e : entry (known s.decls) p ≡ o) where
  pub topic-none : p ≡ 0 → none ≡ in_topic_of s n o
  topic-none z = let q : none ≡ o = sym (ap (entry (known s.decls)) z) ∙ e in rw (← q)

  module _ (z : ¬ (p ≡ 0)) (w : p ≤ count) (f : ℕ)
      (ef : (d : Def) → Says t d (row definition_width x p) → f ≡ sort_number d.sort) where
    behind : (d : Def) × (o ≡ some d) × (entry (known s.decls) p ≡ some d)
    behind =
        let a = k.all in
        let (d, q) = entry-there (known s.decls) p (omega arith) (omega arith) in
        (d, sym e ∙ q, q)

    pub topic-other : ¬ (f ≡ 0) → none ≡ in_topic_of s n o
    topic-other u =
        let (d, a, q) = behind in
        let g = ef d (k.says p d q) in
        rw (a, ne_eqb 0 (sort_number d.sort) (λ v. u (g ∙ sym v)))

    pub topic-found : f ≡ 0 → (m r h : ℕ) → ((d : Def) → Says t d (row definition_width x p) → m ≡ d.number) → h ≡ m + 1
        → entry (known s.decls) r ≡ lookup (defined_at n h h) (known s.decls)
        → entry (known s.decls) r ≡ in_topic_of s n o
    topic-found u m r h em eh v =
        let (d, a, q) = behind in
        let g = ef d (k.says p d q) in
        let j = em d (k.says p d q) in
        rw (a, eq-eqb 0 (sort_number d.sort) (sym u ∙ g))
        (v ∙ at-home s n (some d.number) h (eh ∙ ap (λ (i : ℕ). i + 1) j))

-- ---- along the bases, from the position p
module _ (t : List ℕ) (ks : List Def) (x : List ℕ) (count : ℕ) (k : Known t ks x count) (c : Chained ks x)
    (number p : ℕ) (w : p ≤ count) (z : 0 < p) where
  from : (d : Def) × (entry ks p ≡ some d)
  from = let a = k.all in entry-there ks p z (omega arith)

  module _ (m : ℕ) (em : (d : Def) → Says t d (row definition_width x p) → m ≡ d.number) where
    pub among-here : m ≡ number → true ≡ is_among number (bases_of (entry ks p))
    among-here e = let (d, q) = from in rw (q, eq-eqb d.number number (sym (em d (k.says p d q)) ∙ e))

    pub among_next : ¬ (m ≡ number) → (b : ℕ) → b ≡ get_or (row definition_width x p) 7 0
        → is_among number (bases_of (entry ks p)) ≡ is_among number (bases_of (entry ks b))
    among_next e b eb =
        let (d, q) = from in
        let g : bases_of (entry ks b) ≡ d.bases = rw eb (c p d q).bases in
        rw (q, ne_eqb d.number number (λ v. e (em d (k.says p d q) ∙ v)), g)

  pub base-before : (b : ℕ) → b ≡ get_or (row definition_width x p) 7 0 → b < p
  base-before b eb = let (d, q) = from in let h = (c p d q).before in omega arith

-- ---- references, by their parts
module _ (t : List ℕ) (r : Reference) where
  pub bare-inside : (n : Name) → r ≡ Bare n → AllInside t r → Inside t n
  bare-inside n e h = subst (AllInside t) e h

  pub two-inside : (m n : Name) → r ≡ InModel m n → AllInside t r → Inside t m × Inside t n
  two-inside m n e h = subst (AllInside t) e h

  pub three-inside : (m p n : Name) → r ≡ InTopic m p n → AllInside t r → Inside t m × Inside t p × Inside t n
  three-inside m p n e h = subst (AllInside t) e h

  module _ (s : State) (o : Option Def) where
    pub bare-named : (n : Name) → r ≡ Bare n → o ≡ at_hand s (bytes_of t n) → o ≡ resolve s (reference_of t r)
    bare-named n e h = rw e h

    module _ (model m : Name) (em : bytes_of t model ≡ s.model.bytes) (b : Bool)
        (eb : b ≡ same (bytes_of t m) (bytes_of t model)) where
      in_model : (v : Bool) → b ≡ v → same (bytes_of t m) s.model.bytes ≡ v
      in_model v e = rw (← em, ← eb) e

      pub two-named : (n : Name) → r ≡ InModel m n → b ≡ true → o ≡ at_home s none (bytes_of t n)
          → o ≡ resolve s (reference_of t r)
      two-named n e q h = rw (e, in_model true q) h

      pub two-other : (n : Name) → r ≡ InModel m n → b ≡ false → o ≡ none → o ≡ resolve s (reference_of t r)
      two-other n e q h = rw (e, in_model false q) h

      pub three-named : (p n : Name) → r ≡ InTopic m p n → b ≡ true
          → o ≡ in_topic_of s (bytes_of t n) (at_home s none (bytes_of t p)) → o ≡ resolve s (reference_of t r)
      three-named p n e q h = rw (e, in_model true q) h

      pub three-other : (p n : Name) → r ≡ InTopic m p n → b ≡ false → o ≡ none → o ≡ resolve s (reference_of t r)
      three-other p n e q h = rw (e, in_model false q) h
