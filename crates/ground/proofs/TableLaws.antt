-- A rule at every number of a range, from one test that the prover computes; and what a `match` says where it
-- takes none of its keys.
use mathlib.Core.Path.{◌≡◌, refl, subst}
use mathlib.Core.Bool.{Bool, true, false, not, ◌&&◌, ◌||◌}
use mathlib.Core.Logic.{◌⊎◌, inl, inr, ⊎_elim}
use mathlib.Core.List.{List, [], ◌∷◌}
use Prim.Native.Nat.{ℕ, zero, suc, ◌+◌, ◌≤◌, ◌<◌}
use native.Mathlib.Nat.{eq-or-lt_of_le}
use native.Mathlib.Omega.{arith}
use lib.Dec.{eqb}
use borrow.Author.Tests.{eqb-true}
use types.Run.{OneOf}
use Rattle.rules.proofs.Tests.{never, is_false, split, or_split}

-- by cases of a test
pub test {ℓ} : {A : Type ℓ} (b : Bool) → (b ≡ true → A) → (b ≡ false → A) → A
test true p q = p refl
test false p q = q refl

pub second : (x : Bool) {y : Bool} → (x && y) ≡ true → y ≡ true
second x p = (split {x = x} p).1

-- the test passes at n numbers from i on
abbrev pub every : (ℕ → Bool) → ℕ → ℕ → Bool
every p i zero = true
every p i (suc n) = p i && every p (suc i) n

pub on : (p : ℕ → Bool) (i n : ℕ) → every p i n ≡ true → (b : ℕ) → i ≤ b → b < i + n → p b ≡ true
on p i zero t b h k = absurd (omega arith)
on p i (suc n) t b h k =
    let (first, rest) = split t in
    ⊎_elim (λ (e : i ≡ b). subst (λ (x : ℕ). p x ≡ true) e first)
    (λ (l : i < b). on p (suc i) n rest b l (omega arith)) (eq-or-lt_of_le h)

-- a test of the form 'not x, or y'
pub implies : {x y : Bool} → (not x || y) ≡ true → x ≡ true → y ≡ true
implies {x = true} t e = t
implies {x = false} t e = never e

-- ---- keys
-- the keys of the arms, the last arm's first
abbrev pub Beside : List (List ℕ) → ℕ → Type 0
Beside [] b = Unit {0}
Beside (ks ∷ l) b = Beside l b × (OneOf ks b → ⊥)

abbrev is_key : ℕ → List ℕ → Bool
is_key b [] = false
is_key b (k ∷ ks) = let r = is_key b ks in eqb b k || r

abbrev pub is_key_of : ℕ → List (List ℕ) → Bool
is_key_of b [] = false
is_key_of b (ks ∷ l) = let r = is_key_of b l in is_key b ks || r

key : (b : ℕ) (ks : List ℕ) → is_key b ks ≡ true → OneOf ks b
key b [] p = never p
key b (k ∷ []) p = at (or_split p)
  where
    at : (eqb b k ≡ true) ⊎ (false ≡ true) → b ≡ k
    at (inl q) = eqb-true b k q
    at (inr q) = never q
key b (k ∷ j ∷ ks) p = at (or_split p) (λ q. key b (j ∷ ks) q)
  where
    at : (eqb b k ≡ true) ⊎ (is_key b (j ∷ ks) ≡ true)
        → (is_key b (j ∷ ks) ≡ true → OneOf (j ∷ ks) b) → OneOf (k ∷ j ∷ ks) b
    at (inl q) go = inl (eqb-true b k q)
    at (inr q) go = inr (go q)

pub beside : (b : ℕ) (l : List (List ℕ)) → Beside l b → is_key_of b l ≡ false
beside b [] h = refl
beside b (ks ∷ l) h = rw (is_false (λ p. h.1 (key b ks p)), beside b l h.0)
