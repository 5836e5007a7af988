-- Tests on symbols of the rules are tests on codes.
use mathlib.Core.Path.{◌≡◌, refl, ◌∙◌}
use mathlib.Core.Logic.{inl, inr}
use mathlib.Core.Bool.{Bool, true, false, ◌&&◌, ◌||◌}
use mathlib.Core.List.{List, [], ◌∷◌}
use Prim.Native.Nat.{ℕ, ◌+◌, ◌<◌}
use Prim.Native.Char.{Char, code}
use native.Mathlib.Omega.{arith}
use lib.Dec.{eqb}
use Rattle.rules.specs.Bytes.{same}
use Rattle.rules.specs.Reserved.{forms}
use Rattle.rules.specs.Symbols as rules
use Rattle.rules.specs.Symbols.{word, name, number, quoted, dots, stop, is_kind, is_mark, is_word, is_one_word}
use Rattle.words.specs.Words.{position}
use Rattle.symbols.specs.Cut.{code_of}
use Rattle.symbols.specs.Cut.{Sound}
use Rattle.symbols.proofs.CutLaws.{mark_of, kind-of, stop-of, word_of}

-- the test p is the test for the code k, which is no fault's
pub record Test (p : rules.Symbol → Bool) (k : ℕ) : Type 0 where
  pub test : (z : rules.Symbol) → Sound z.kind z.bytes → p z ≡ eqb (code_of z.kind z.bytes) k
  pub sound : k ≡ 5 → ⊥

-- ---- kinds
pub is_name : Test (is_kind name) 1
is_name = record { test = λ z i. kind-of 1 (omega arith) (omega arith) z.kind z.bytes i; sound = omega arith }

pub is_number : Test (is_kind number) 2
is_number = record { test = λ z i. kind-of 2 (omega arith) (omega arith) z.kind z.bytes i; sound = omega arith }

pub is-quoted : Test (is_kind quoted) 3
is-quoted = record { test = λ z i. kind-of 3 (omega arith) (omega arith) z.kind z.bytes i; sound = omega arith }

pub is-dots : Test (is_kind dots) 4
is-dots = record { test = λ z i. kind-of 4 (omega arith) (omega arith) z.kind z.bytes i; sound = omega arith }

pub is_stop : Test (is_kind stop) 0
is_stop = record { test = λ z i. stop-of z.kind z.bytes i; sound = omega arith }

-- ---- marks
pub is-mark : (c : Char) → 39 < code c → code c < 62 → Test (is_mark c) (code c)
is-mark c h l = record {
  test = λ z i. mark_of (code c) (omega arith) (inl (omega arith)) z.kind z.bytes;
  sound = omega arith;
}

-- a bracket
pub is-square : (c : Char) → 90 < code c → Test (is_mark c) (code c)
is-square c h = record {
  test = λ z i. mark_of (code c) (omega arith) (inr h) z.kind z.bytes;
  sound = omega arith;
}

-- ---- words of the forms
-- the word w, which has the position k among the forms
pub is_word_lem : (w : List ℕ) (k : ℕ) → 64 + position w forms ≡ k → Test (is_word w) k
is_word_lem w k e = record { test = λ z i. word_of w z.kind z.bytes i ∙ rw e; sound = omega arith }

only : (k a : Bool) → (k && (a || false)) ≡ (k && a)
only k true = refl
only k false = refl

spread : (k a b : Bool) → (k && (a || (b || false))) ≡ ((k && a) || (k && b))
spread true true b = refl
spread true false true = refl
spread true false false = refl
spread false a b = refl

pub is-only-word : (w : List ℕ) (k : ℕ) → 64 + position w forms ≡ k → (z : rules.Symbol) → Sound z.kind z.bytes
    → is_one_word (w ∷ []) z ≡ eqb (code_of z.kind z.bytes) k
is-only-word w k e z i = only (is_kind word z) (same z.bytes w) ∙ (is_word_lem w k e).test z i

-- one of the words v and w, which have the codes j and k
pub is-one-word : (v w : List ℕ) (j k : ℕ) → 64 + position v forms ≡ j → 64 + position w forms ≡ k
    → (z : rules.Symbol) → Sound z.kind z.bytes
    → is_one_word (v ∷ w ∷ []) z ≡ (eqb (code_of z.kind z.bytes) j || eqb (code_of z.kind z.bytes) k)
is-one-word v w j k e f z i =
    spread (is_kind word z) (same z.bytes v) (same z.bytes w)
    ∙ rw ((is_word_lem v j e).test z i, (is_word_lem w k f).test z i)
