-- Scans of a text, byte by byte.
use mathlib.Core.Path.{◌≡◌}
use mathlib.Core.Bool.{Bool, true, false}
use mathlib.Core.List.{List, [], ◌∷◌}
use Prim.Native.Nat.{ℕ, suc, ◌+◌, ◌≤◌, ◌<◌}
use native.Mathlib.Numerals.{add-one}
use native.Mathlib.Omega.{arith}
use lib.ListN.{length, drop, get_or, length-drop, drop_of_length-le}
use lib.Seq.{drop-cons, drop-drop, get_or-drop}
use Rattle.rules.specs.Bytes.{span}
use Rattle.ground.specs.Parts.{run_end}
use Rattle.ground.proofs.TableLaws.{test}

-- what is behind the first byte
pub drop-tail : (t : List ℕ) (k : ℕ) {b : ℕ} {s : List ℕ} → drop k t ≡ b ∷ s → drop (suc k) t ≡ s
drop-tail t k e = rw (← add-one k, ← drop-drop 1 k t, e)

-- the first byte behind a place
pub next-byte : (t : List ℕ) (i : ℕ) → get_or (drop (suc i) t) 0 0 ≡ get_or t (i + 1) 0
next-byte t i =
    let e : suc i + 0 ≡ i + 1 = omega arith in
    rw (get_or-drop (suc i) t 0 0, e)

-- ---- runs
pub span-le : (p : ℕ → Bool) (s : List ℕ) → span p s ≤ length s
span-le p [] = omega arith
span-le p (b ∷ s) = let h = span-le p s in test (p b) (λ e. rw e (omega arith)) (λ e. rw e (omega arith))

module _ (p : ℕ → Bool) (t : List ℕ) (i : ℕ) where
  pub run-go : i < length t → p (get_or t i 0) ≡ true → run_end p t i ≡ run_end p t (i + 1)
  run-go h e = rw (add-one i, drop-cons t i 0 h, e) (omega arith)

  pub run-stop : i < length t → p (get_or t i 0) ≡ false → run_end p t i ≡ i
  run-stop h e = rw (drop-cons t i 0 h, e) (omega arith)

  pub run-done : length t ≤ i → run_end p t i ≡ i
  run-done h = rw (drop_of_length-le t h) (omega arith)

  pub run-le : i ≤ length t → run_end p t i ≤ length t
  run-le h = omega (arith, span-le p (drop i t), length-drop i t)
