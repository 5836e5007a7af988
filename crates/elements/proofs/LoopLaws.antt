-- The same laws as the loop of an enumeration meets them: k enumerations may still nest, this one among them.
use mathlib.Core.Path.{◌≡◌, refl, ◌∙◌}
use mathlib.Core.List.{List, [], ◌∷◌}
use Prim.Native.Nat.{ℕ, ◌-◌, ◌<◌}
use native.Mathlib.Omega.{arith}
use lib.ListN.{length}
use Rattle.rules.specs.Bytes.{ascii}
use Rattle.rules.specs.Symbols as rules
use Rattle.rules.specs.Symbols.{is_word}
use Rattle.rules.specs.Grammar.{enough, close_final, enumeration, elements, element}
use Rattle.symbols.specs.declared.Symbol.{Symbol}
use Rattle.symbols.specs.Cut.{faulty_as}
use Rattle.readers.specs.Reads.{fault_at, Cuts, Held, passed, Gives, Reads}
use Rattle.readers.proofs.CodeLaws.{is-mark, is_word_lem}
use Rattle.readers.proofs.ReadLaws.{bind, weaker, held, if-true, if-false, expected, is-yes, is-no}
use Rattle.elements.specs.Noted.{list_bytes, element_bytes, Put, Closed}
use Rattle.elements.specs.Ends.{list_end}
use Rattle.elements.proofs.PutLaws.{put-closed}
use Rattle.elements.proofs.ListLaws.{enumeration-reads, fault-elements, opened, too-deep, SoFar, begins, again}
use Rattle.elements.proofs.ListLaws.{over, forth}

-- o₀, z₀ and i₀ are the scratch, the symbol and the place behind the bracket; o, z and i those
-- that the loop has come to
abbrev pub Loop : List ℕ → ℕ → ℕ → List ℕ → Symbol → ℕ → List ℕ → Symbol → ℕ → Type 0
Loop t start k o₀ z₀ i₀ o z i =
    (length o ≡ length o₀) × Held t z
    × ((w : rules.Symbol) (b : List ℕ) → Cuts t w z₀ → length o₀ ≡ length b → Put b o₀ start (13 ∷ 0 ∷ []) i₀
    → SoFar t (k - 1) start b w o i z)

pub loop-first : (t : List ℕ) (start k : ℕ) (o : List ℕ) (y z : Symbol) (i : ℕ) → Held t y
    → z ≡ passed t y 40 → Loop t start k o z i o z i
loop-first t start k o y z i h e =
    (refl, held (expected (is-mark "(" (omega arith) (omega arith)) e) h, λ w b c l p. begins c p)

module _ (t : List ℕ) (start k : ℕ) (y z₀ n : Symbol) (i₀ r : ℕ) (b o₀ q : List ℕ) (e : z₀ ≡ passed t y 40)
    (u : Put b o₀ start (13 ∷ 0 ∷ []) i₀) (l : length o₀ ≡ length b) where
  pub whole-final : 0 < k → z₀.code ≡ 72 → Reads t close_final (Closed o₀ q start i₀ r) z₀ n →
      Reads t (enumeration (enough t) k) (λ x. Put b q start (list_bytes x) r) y n
  whole-final p f g =
      enumeration-reads t k
      (bind (opened p e) (λ _ _. if-true (is_word (ascii "FINAL")) _ _ (is-yes (is_word_lem (ascii "FINAL") 72 refl) f)
      (weaker g (λ x c. put-closed b o₀ q start i₀ r [] x l u c))) g.passes)

  pub whole-list : 0 < k → (z₀.code ≡ 72 → ⊥) → (o p : List ℕ) (i j : ℕ) (z m : Symbol) → Loop t start k o₀ z₀ i₀ o z i
      → Reads t (element (enough t) (k - 1)) (λ x. Put o p i (element_bytes x) j) z m
      → length p ≡ length o → (m.code ≡ 44 → ⊥)
      → Reads t list_end (Closed p q start j r) m n
      → Reads t (enumeration (enough t) k) (λ x. Put b q start (list_bytes x) r) y n
  whole-list h f o p i j z m (a, _, s) g v c x =
      enumeration-reads t k (bind (opened h e)
      (λ _ _. if-false (is_word (ascii "FINAL")) _ _ (is-no (is_word_lem (ascii "FINAL") 72 refl) f) list) list.passes)
    where
      at_first : (w : rules.Symbol) → Cuts t w z₀
          → Gives t (elements (enough t) (k - 1) t w) (λ x. Put b q start (list_bytes x) r) n
      at_first w cuts = over (a ∙ l) (s w b cuts l u) g (v ∙ a ∙ l) c x

      list : Reads t (elements (enough t) (k - 1)) (λ x. Put b q start (list_bytes x) r) z₀ n
      list =
          record {
            reads = at_first;
            passes =
                λ f p cuts. rw (fault-elements t (k - 1) f p cuts.stands) at (at_first (fault_at f p) cuts).next;
          }

pub whole-deep : (t : List ℕ) (start k : ℕ) (o : List ℕ) (y n : Symbol) (r : ℕ) → k ≡ 0
    → y.code ≡ 40 → n ≡ faulty_as 4 y
    → Reads t (enumeration (enough t) k) (λ x. Put o o start (list_bytes x) r) y n
whole-deep t start k o y n r h c e = enumeration-reads t k (too-deep _ h c e)

module _ (t : List ℕ) (start k : ℕ) (o₀ : List ℕ) (z₀ : Symbol) (i₀ : ℕ) (o p : List ℕ) (i j : ℕ) (z m z' : Symbol)
    (v : Loop t start k o₀ z₀ i₀ o z i)
    (h : 0 < k) (g : Reads t (element (enough t) (k - 1)) (λ x. Put o p i (element_bytes x) j) z m) (c : m.code ≡ 44)
    (e : z' ≡ passed t m 44) where
  pub loop-on : length p ≡ length o → Loop t start k o₀ z₀ i₀ p z' j
  loop-on l = (
    l ∙ v.0,
    held (expected (is-mark "," (omega arith) (omega arith)) e) (held g v.1),
    λ w b f a u. again (v.0 ∙ a) (v.2 w b f a u) g c e,
  )

  pub loop-falls : length t - z'.place < length t - z.place
  loop-falls = let f = forth t (k - 1) v.1 g c e in omega arith
