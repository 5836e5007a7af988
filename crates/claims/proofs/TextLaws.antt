-- A length fits another exactly when every legal text of the first is one of the second; m says MTEXT.
use mathlib.Core.Path.{◌≡◌, refl, ap, ◌∙◌}
use mathlib.Core.Bool.{Bool, true, false, ◌||◌, true≢false}
use mathlib.Core.Option.{Option, none, some}
use mathlib.Core.List.{List}
use Prim.Native.Nat.{ℕ, zero, suc}
use native.Mathlib.Omega.{arith}
use lib.ListN.{length, replicate, length-replicate}
use lib.Dec.{leb}
use borrow.Author.Tests.{leb-true, leb-false, le-leb, lt-leb}
use Rattle.rules.specs.Texts.{within, one_line, legal_text, length_fits}
use Rattle.rules.proofs.Tests.{never, both, split, fail-l, or_r}

within-fits : (n l : Option ℕ) → length_fits n l ≡ true → (k : ℕ) → within n k ≡ true → within l k ≡ true
within-fits n none p k q = refl
within-fits none (some b) p k q = never p
within-fits (some a) (some b) p k q = le-leb k b (omega (arith, leb-true a b p, leb-true k a q))

pub text-sound : (m : Bool) (n l : Option ℕ) → length_fits n l ≡ true → (s : List ℕ)
    → legal_text m n s ≡ true → legal_text m l s ≡ true
text-sound m n l p s q =
    let r : (within n (length s) ≡ true) × ((m || one_line s) ≡ true) = split q in
    both (within-fits n l p (length s) r.0) r.1

-- the text that shows it where it does not fit: the letter a, once more than the base's length
letters : (k : ℕ) → one_line (replicate k 97) ≡ true
letters zero = refl
letters (suc k) = letters k

longer : (n : Option ℕ) (b : ℕ) → length_fits n (some b) ≡ false → within n (suc b) ≡ true
longer none b p = refl
longer (some a) b p = le-leb (suc b) a (omega (arith, leb-false a b p))

pub text-complete : (m : Bool) (n l : Option ℕ) → length_fits n l ≡ false
    → (s : List ℕ) × (legal_text m n s ≡ true) × (legal_text m l s ≡ false)
text-complete m none none p = absurd (true≢false p)
text-complete m (some a) none p = absurd (true≢false p)
text-complete m n (some b) p =
    let e : length (replicate {A = ℕ} (suc b) 97) ≡ suc b = length-replicate (suc b) 97 in (
      replicate (suc b) 97,
      both (ap (within n) e ∙ longer n b p) (or_r m (letters (suc b))),
      fail-l (m || one_line (replicate (suc b) 97)) (ap (λ (k : ℕ). leb k b) e ∙ lt-leb (suc b) b (omega arith)),
    )
