-- References, of one to three parts, what EXTENDS names, and the unit of a number in brackets.
use mathlib.Core.Path.{◌≡◌, refl, ap, ◌∙◌}
use mathlib.Core.List.{List}
use mathlib.Core.Option.{none, some}
use Prim.Native.Nat.{ℕ}
use native.Mathlib.Omega.{arith}
use Rattle.std.specs.Prelude.{Some, None}
use Rattle.rules.specs.Bytes.{ascii}
use Rattle.rules.specs.Symbols.{is_mark, is_word}
use Rattle.rules.specs.Grammar.{bare, in_model, in_topic, reference, extends, unit_reference, optional_unit}
use Rattle.symbols.specs.declared.Symbol.{Symbol}
use Rattle.ground.specs.declared.Name.{Name}
use Rattle.readers.specs.Reads.{passed, named, Reads}
use Rattle.readers.proofs.CodeLaws.{Test, is-mark, is-square, is_word_lem}
use Rattle.readers.proofs.ReadLaws.{onward, bind, stay, mapped, if-true, if-false, expected, is-yes, is-no, a-name}
use Rattle.ground.specs.declared.Reference.{Reference}
use Rattle.ground.specs.declared.Reference.TheVariants.{Bare, InModel, InTopic}
use Rattle.parts.specs.Forms.{reference_of, optional_of}

dot : Test (is_mark ".") 46
dot = is-mark "." (omega arith) (omega arith)

module _ {t : List ℕ} {y a : Symbol} {i : Name} (e : a ≡ passed t y 1) (f : i ≡ named y) where
  pub one-part : (a.code ≡ 46 → ⊥) → Reads t reference (λ r. Bare i ≡ reference_of r) y a
  unfolding reference
  one-part k =
      bind (a-name e) (λ x q. if-false (is_mark ".") _ _ (is-no dot k) (stay (bare x) (ap Bare (f ∙ q)))) (λ _ _ c. c)

  module _ {m b : Symbol} {j : Name} (k : a.code ≡ 46) (e₂ : m ≡ passed t a 46)
      (e₃ : b ≡ passed t m 1) (f₂ : j ≡ named m) where
    pub two-parts : (b.code ≡ 46 → ⊥) → Reads t reference (λ r. InModel i j ≡ reference_of r) y b
    unfolding reference
    two-parts l =
        let second = a-name e₃ in
        let first = expected dot e₂ in
        bind (a-name e) (λ x q. if-true (is_mark ".") _ _ (is-yes dot k) (bind first
        (λ _ _. bind second (λ z r. if-false (is_mark ".") _ _ (is-no dot l) (stay (in_model x z) (rw (f ∙ q, f₂ ∙ r))))
        (λ _ _ c. c)) second.passes))
        (onward first.passes second.passes)

    pub three-parts : {n c : Symbol} {o : Name} → b.code ≡ 46 → n ≡ passed t b 46 → c ≡ passed t n 1 → o ≡ named n →
        Reads t reference (λ r. InTopic i j o ≡ reference_of r) y c
    unfolding reference
    three-parts l e₄ e₅ f₃ =
        let first = expected dot e₂ in
        let second = a-name e₃ in
        let third = expected dot e₄ in
        let fourth = a-name e₅ in
        let last = onward third.passes fourth.passes in
        bind (a-name e) (λ x q. if-true (is_mark ".") _ _ (is-yes dot k) (bind first
        (λ _ _. bind second (λ z r. if-true (is_mark ".") _ _ (is-yes dot l)
        (bind third (λ _ _. mapped (in_topic x z) fourth (λ u s. rw (f ∙ q, f₂ ∙ r, f₃ ∙ s))) fourth.passes)) last)
        (onward second.passes last)))
        (onward first.passes (onward second.passes last))

module _ {t : List ℕ} {y : Symbol} where
  pub extended : {z n : Symbol} {v : Reference} → y.code ≡ 73 → z ≡ passed t y 73
      → Reads t reference (λ r. v ≡ reference_of r) z n
      → Reads t extends (λ a. Some v ≡ optional_of a) y n
  unfolding extends
  extended k e r =
      let w = is_word_lem (ascii "EXTENDS") 73 refl in
      if-true (is_word (ascii "EXTENDS")) _ _ (is-yes w k)
      (mapped some (bind (expected w e) (λ _ _. r) r.passes) (λ a q. ap Some q))

  pub not_extended : (y.code ≡ 73 → ⊥) → Reads t extends (λ a. None ≡ optional_of a) y y
  unfolding extends
  not_extended k =
      if-false (is_word (ascii "EXTENDS")) _ _ (is-no (is_word_lem (ascii "EXTENDS") 73 refl) k) (stay none refl)

  pub unit-there : {z m n : Symbol} {v : Reference} → y.code ≡ 91 → z ≡ passed t y 91
      → Reads t reference (λ r. v ≡ reference_of r) z m → n ≡ passed t m 93
      → Reads t optional_unit (λ a. Some v ≡ optional_of a) y n
  unfolding optional_unit unit_reference
  unit-there k e r f =
      let left = is-square "[" (omega arith) in
      let close = expected (is-square "]" (omega arith)) f in
      let inner = bind r (λ a q. bind close (λ _ _. stay a q) (λ _ _ c. c)) close.passes in
      if-true (is_mark "[") _ _ (is-yes left k)
      (mapped some (bind (expected left e) (λ _ _. inner) inner.passes) (λ a q. ap Some q))

  pub no_unit : (y.code ≡ 91 → ⊥) → Reads t optional_unit (λ a. None ≡ optional_of a) y y
  unfolding optional_unit
  no_unit k = if-false (is_mark "[") _ _ (is-no (is-square "[" (omega arith)) k) (stay none refl)
