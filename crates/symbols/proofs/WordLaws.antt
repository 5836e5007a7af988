-- Words as symbols, by their code.
use mathlib.Core.Path.{◌≡◌, refl, ap, ◌∙◌}
use mathlib.Core.Bool.{Bool, true, false, cond}
use mathlib.Core.List.{List}
use Prim.Native.Nat.{ℕ, ◌+◌, ◌≤◌, ◌<◌}
use native.Mathlib.Omega.{arith}
use lib.ListN.{length}
use borrow.Author.Tests.{lt-ltb, le-ltb}
use Rattle.rules.specs.Bytes.{part, is_one_of}
use Rattle.rules.specs.Reserved.{forms, table}
use Rattle.rules.specs.Symbols.{reserved, word, name, fault, symbol, word_kind, a_word}
use Rattle.rules.proofs.PartLaws.{length_part}
use Rattle.words.specs.Words.{position, word_code}
use Rattle.places.specs.declared.Line.{Line}
use Rattle.symbols.specs.Cut.{made, cut_on}

module _ (l : Line) where
  cut-reserved : (x y : Bool) (k : ℕ) (b : List ℕ) → cond x (64 + position b forms) (cond y 46 1) ≡ 46
      → cut_on l (symbol (cond x word (cond y (fault reserved) name)) k b) ≡ made 5 6 k (length b) l
  cut-reserved true y k b e = absurd (omega arith)
  cut-reserved false true k b e = refl
  cut-reserved false false k b e = absurd (omega arith)

  cut-other : (x y : Bool) (k : ℕ) (b : List ℕ) → ¬ (cond x (64 + position b forms) (cond y 46 1) ≡ 46)
      → cut_on l (symbol (cond x word (cond y (fault reserved) name)) k b)
      ≡ made (cond x (64 + position b forms) (cond y 46 1)) 5 k (length b) l
  cut-other true y k b e = refl
  cut-other false true k b e = absurd (e refl)
  cut-other false false k b e = refl

short : (b : List ℕ) → length b ≤ 255
    → word_kind b ≡ cond (is_one_of b forms) word (cond (is_one_of b table) (fault reserved) name)
short b h = rw (le-ltb 255 (length b) h)

module _ (t : List ℕ) (k n : ℕ) (x : Line) (l : k + n ≤ length t) where
  abbrev b : List ℕ
  b = part t k n

  abbrev size : length b ≡ n
  size = length_part t k n l

  pub word-large : 255 < n → cut_on x (a_word k (part t k n)) ≡ made 5 4 k n x
  word-large h = large b (omega (arith, size)) ∙ ap (λ n. made 5 4 k n x) size
    where
      large : (b : List ℕ) → 255 < length b → cut_on x (a_word k b) ≡ made 5 4 k (length b) x
      large b h = rw (lt-ltb 255 (length b) h)

  pub word-reserved : n ≤ 255 → word_code (part t k n) ≡ 46 → cut_on x (a_word k (part t k n)) ≡ made 5 6 k n x
  unfolding word_code
  word-reserved h e =
      ap (λ y. cut_on x (symbol y k b)) (short b (omega (arith, size)))
      ∙ cut-reserved x (is_one_of b forms) (is_one_of b table) k b e ∙ ap (λ n. made 5 6 k n x) size

  pub word-other : n ≤ 255 → ¬ (word_code (part t k n) ≡ 46)
      → cut_on x (a_word k (part t k n)) ≡ made (word_code (part t k n)) 5 k n x
  unfolding word_code
  word-other h e =
      ap (λ y. cut_on x (symbol y k b)) (short b (omega (arith, size)))
      ∙ cut-other x (is_one_of b forms) (is_one_of b table) k b e ∙ ap (λ n. made (word_code b) 5 k n x) size
