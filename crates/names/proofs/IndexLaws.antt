-- Positions and rows, and a name looked up by them.
use mathlib.Core.Path.{◌≡◌, refl, sym, ◌∙◌}
use mathlib.Core.Logic.{◌⊎◌, inl, inr, ⊎_elim}
use mathlib.Core.Bool.{Bool, true, false, ◌&&◌, ◌||◌}
use mathlib.Core.Option.{Option, none, some}
use mathlib.Core.List.{List, [], ◌∷◌, ◌++◌}
use Prim.Native.Nat.{ℕ, zero, suc, ◌+◌, ◌*◌, ◌≤◌, ◌<◌}
use native.Mathlib.Nat.{zero-add, suc-add}
use native.Mathlib.Omega.{arith}
use lib.ListN.{length, get_or, drop}
use lib.Seq.{get_or-take, get_or-drop}
use lib.Dec.{eqb}
use borrow.Author.Tests.{eqb-true, eq-eqb, ne_eqb}
use Rattle.rules.specs.Bytes.{same}
use Rattle.rules.specs.Declarations.{Def, State, known, lookup, same_home, number_in, defined_as, at_home, at_hand}
use Rattle.rules.proofs.Tests.{alike}
use Rattle.names.specs.Index.{nth, entry, row, home_number, defined_at}

-- ---- positions
pub there : {A : Type 0} (l : List A) (i : ℕ) → i < length l → (a : A) × (nth l i ≡ some a)
there [] i h = absurd (omega arith)
there (a ∷ l) zero h = (a, refl)
there (a ∷ l) (suc i) h = there l i (omega arith)

pub nth-within : {A : Type 0} (l : List A) (i : ℕ) (a : A) → nth l i ≡ some a → i < length l
nth-within [] i a e = let z : ◌≡◌ {A = ℕ} 0 1 = cc in absurd (omega arith)
nth-within (b ∷ l) zero a e = omega arith
nth-within (b ∷ l) (suc i) a e = let h = nth-within l i a e in omega arith

pub nth_drop : {A : Type 0} (l : List A) (i : ℕ) (a : A) → nth l i ≡ some a → drop i l ≡ a ∷ drop (suc i) l
nth_drop [] i a e = let z : ◌≡◌ {A = ℕ} 0 1 = cc in absurd (omega arith)
nth_drop (b ∷ l) zero a e = cc
nth_drop (b ∷ l) (suc i) a e = nth_drop l i a e

pub nth-dropped : {A : Type 0} (l : List A) (f i : ℕ) → nth (drop f l) i ≡ nth l (f + i)
nth-dropped l zero i = rw zero-add
nth-dropped [] (suc f) i = refl
nth-dropped (a ∷ l) (suc f) i = rw suc-add (nth-dropped l f i)

pub nth_left : {A : Type 0} (l m : List A) (i : ℕ) (a : A) → nth l i ≡ some a → nth (l ++ m) i ≡ some a
nth_left [] m i a e = let z : ◌≡◌ {A = ℕ} 0 1 = cc in absurd (omega arith)
nth_left (b ∷ l) m zero a e = e
nth_left (b ∷ l) m (suc i) a e = nth_left l m i a e

pub nth_last : {A : Type 0} (l : List A) (a : A) (i : ℕ) (b : A) → nth (l ++ (a ∷ [])) i ≡ some b
    → (nth l i ≡ some b) ⊎ ((i ≡ length l) × (a ≡ b))
nth_last [] a zero b e = let p : a ≡ b = cc in inr (refl, p)
nth_last [] a (suc i) b e = let z : ◌≡◌ {A = ℕ} 0 1 = cc in absurd (omega arith)
nth_last (c ∷ l) a zero b e = inl e
nth_last (c ∷ l) a (suc i) b e = ⊎_elim (λ p. inl p) (λ p. let q = p.0 in inr (omega arith, p.1)) (nth_last l a i b e)

nth-keep : {A : Type 0} (l m : List A) (i : ℕ) → i < length l → nth (l ++ m) i ≡ nth l i
nth-keep [] m i h = absurd (omega arith)
nth-keep (a ∷ l) m zero h = refl
nth-keep (a ∷ l) m (suc i) h = nth-keep l m i (omega arith)

pub entry-keep : {A : Type 0} (l m : List A) (p : ℕ) → p ≤ length l → entry (l ++ m) p ≡ entry l p
entry-keep l m zero h = refl
entry-keep l m (suc i) h = nth-keep l m i (omega arith)

pub entry-within : {A : Type 0} (l : List A) (p : ℕ) (a : A) → entry l p ≡ some a → p ≤ length l
entry-within l zero a e = omega arith
entry-within l (suc i) a e = let h = nth-within l i a e in omega arith

-- ---- rows
pub at_row : (w : ℕ) (x : List ℕ) (p f : ℕ) → f < w → get_or x (p * w + f) 0 ≡ get_or (row w x p) f 0
at_row w x p f h = sym (get_or-take w (drop (p * w) x) f 0 h ∙ get_or-drop (p * w) x f 0)

-- ---- looking up
module _ (q : Def → Bool) where
  pub look-here : (ks : List Def) (i : ℕ) (d : Def) → nth ks i ≡ some d → q d ≡ true → lookup q (drop i ks) ≡ some d
  look-here ks i d e h = rw (nth_drop ks i d e, h)

  pub look-on : (ks : List Def) (i : ℕ) (d : Def) → nth ks i ≡ some d → q d ≡ false
      → lookup q (drop i ks) ≡ lookup q (drop (suc i) ks)
  look-on ks i d e h = rw (nth_drop ks i d e, h)

pub look-alike : (q r : Def → Bool) → ((d : Def) → q d ≡ r d) → (ks : List Def) → lookup q ks ≡ lookup r ks
look-alike q r e [] = refl
look-alike q r e (d ∷ ks) = let h = e d in let i = look-alike q r e ks in cc

-- ---- at hand, and at a home
home-eq : (h k : Option ℕ) → eqb (home_number k) (home_number h) ≡ same_home h k
home-eq none none = refl
home-eq none (some k) = ne_eqb (k + 1) 0 (λ e. omega arith)
home-eq (some j) none = ne_eqb 0 (j + 1) (λ e. omega arith)
home-eq (some j) (some k) =
    alike
    (λ e. let q = eqb-true (k + 1) (j + 1) e in eq-eqb j k (omega arith))
    (λ e. let q = eqb-true j k e in eq-eqb (k + 1) (j + 1) (omega arith))

-- at the model's level and in the open topic; at one home
at-hand-test : (a b c : Bool) → ((a && b) || (a && c)) ≡ (a && (b || c))
at-hand-test true b c = refl
at-hand-test false b c = refl

pub at-hand : (s : State) (n : List ℕ) (h : ℕ) → h ≡ home_number (number_in s.topic)
    → lookup (defined_at n 0 h) (known s.decls) ≡ at_hand s n
at-hand s n h e = look-alike _ _ (λ d. test d) (known s.decls)
  where
    test : (d : Def) → defined_at n 0 h d ≡ (defined_as n none d || defined_as n (number_in s.topic) d)
    test d = rw (e, home-eq none d.home, home-eq (number_in s.topic) d.home) (sym
        (at-hand-test (same n d.name.bytes) (same_home none d.home) (same_home (number_in s.topic) d.home)))

twice : (b : Bool) → (b || b) ≡ b
twice true = refl
twice false = refl

pub at-home : (s : State) (n : List ℕ) (k : Option ℕ) (h : ℕ) → h ≡ home_number k
    → lookup (defined_at n h h) (known s.decls) ≡ at_home s k n
at-home s n k h e = look-alike _ _ (λ d. test d) (known s.decls)
  where
    test : (d : Def) → defined_at n h h d ≡ defined_as n k d
    test d = rw (e, home-eq k d.home, twice (same_home k d.home))
