-- The records of an enumeration have at most three bytes for each byte of its text.
use mathlib.Core.Path.{ap}
use mathlib.Core.Bool.{true, false}
use mathlib.Core.List.{List, ◌∷◌}
use Prim.Native.Nat.{ℕ, zero, suc, ◌+◌, ◌-◌, ◌*◌, ◌≤◌}
use native.Mathlib.Nat.{le_refl}
use native.Mathlib.Omega.{arith}
use lib.ListN.{length, length-append}
use Rattle.rules.specs.Bytes.{ascii}
use Rattle.rules.specs.Symbols.{Symbol, is_mark, is_word}
use Rattle.rules.specs.Readers.{Result, done, refused, Reader, and_then, ◌>>=◌, ◌>>◌, ret, a_name, the_mark, the_word}
use Rattle.rules.specs.Readers.{if_next}
use Rattle.rules.specs.Enumerations.{Enum, end, elem}
use Rattle.rules.specs.Grammar.{enough, close_final, deepest, opening_bracket, enumeration, elements, element}
use Rattle.rules.specs.Book.{inner_records, open_record, element_records, bytes}
use Rattle.rules.proofs.SymbolLaws.{either, Lies, lies-from}
use Rattle.rules.proofs.ForwardLaws.{Ends, Forward, the-mark, the_word_lem, a-name, opening-forward}
use Rattle.symbols.specs.declared.Symbol as code
use Rattle.readers.specs.Reads.{Stands, Held, On, Gives, Reads}
use Rattle.elements.specs.Noted.{list_bytes, rest_bytes, element_bytes, Put, Whole}
use Rattle.elements.specs.Ends.{list_end}
use Rattle.elements.proofs.ListLaws.{rest-after}

-- what is read from the place i on has X of its bytes, but c, paid by three for each byte of the text
abbrev Spent : {A : Type 0} → (A → ℕ) → ℕ → List ℕ → ℕ → Result A → Type 0
Spent X c t i (done a z) = (X a + 3 * i ≤ 3 * z.place + c) × Lies 0 (length t) z
Spent X c t i (refused f p) = Unit {0}

then_spent : {A B : Type 0} (X : A → ℕ) (c i : ℕ) (Y : B → ℕ) (e j : ℕ) (t : List ℕ) (m : Result A) (k : A → Reader B)
    → Spent X c t i m
    → ((a : A) (z : Symbol) → X a + 3 * i ≤ 3 * z.place + c → Lies 0 (length t) z → Spent Y e t j (k a t z))
    → Spent Y e t j (and_then t m k)
then_spent X c i Y e j t (done a z) k h g = g a z h.0 h.1
then_spent X c i Y e j t (refused f p) k h g = tt

less-spent : {A : Type 0} (X : A → ℕ) (c i : ℕ) (Y : A → ℕ) (e j : ℕ) (t : List ℕ) (m : Result A) → Spent X c t i m
    → ((a : A) (k : ℕ) → X a + 3 * i ≤ 3 * k + c → Y a + 3 * j ≤ 3 * k + e) → Spent Y e t j m
less-spent X c i Y e j t (done a z) h g = (g a z.place h.0, h.1)
less-spent X c i Y e j t (refused f p) h g = tt

-- a reader that passes a symbol pays three
paid : {A : Type 0} {R : Reader A} (t : List ℕ) (i : ℕ) (z : Symbol) → Forward true R → Lies 0 (length t) z
    → i ≤ z.place → Spent (λ _. 3) 0 t i (R t z)
paid {A} {R} t i z h l s = go (R t z) (h.reads t i z (record { starts = s; ends = l.ends; solid = l.solid }))
  where
    go : (m : Result A) → Ends (λ a w. Lies (suc i) (length t) w) m → Spent (λ _. 3) 0 t i m
    go (done a w) k = (omega arith, lies-from (omega arith) k)
    go (refused f p) k = tt

abbrev size_of : Enum → ℕ
size_of x = length (rest_bytes x)

module _ (t : List ℕ) where
  final-spent : (i : ℕ) (z : Symbol) → Lies 0 (length t) z → i ≤ z.place → Spent size_of 1 t (suc i) (close_final t z)
  unfolding close_final
  final-spent i z l s =
      then_spent (λ _. 3) 0 i size_of 1 (suc i) t (the_word (ascii "FINAL") t z)
      (λ _. the_mark ")" >> ret (end true)) (paid t i z (the_word_lem _) l s)
      (λ a w h k. then_spent (λ _. 3) 0 i size_of 1 (suc i) t (the_mark ")" t w) (λ _. ret (end true))
      (paid t i w (the-mark ")") k (omega arith)) (λ b v g m. (omega arith, m)))

  end-spent : (i : ℕ) (z : Symbol) → Lies 0 (length t) z → i ≤ z.place → Spent size_of 1 t (suc i) (list_end t z)
  end-spent i z l s =
      either (Spent size_of 1 t (suc i)) (is_mark ":" z)
      (λ _. then_spent (λ _. 3) 0 i size_of 1 (suc i) t (the_mark ":" t z) (λ _. close_final)
      (paid t i z (the-mark ":") l s) (λ a w h k. final-spent i w k (omega arith)))
      (λ _. then_spent (λ _. 3) 0 i size_of 1 (suc i) t (the_mark ")" t z) (λ _. ret (end false))
      (paid t i z (the-mark ")") l s) (λ b v g m. (omega arith, m)))

  inner-size : (x : Enum) → length (bytes (inner_records x (open_record x ∷ element_records x))) ≤ length (list_bytes x)
  inner-size (end false) = omega arith
  inner-size (end true) = le_refl (length (list_bytes (end true)))
  inner-size (elem n i r) = le_refl (length (list_bytes (elem n i r)))

  mutual
    unfolding enumeration

    enumeration-spent : (f d i : ℕ) (z : Symbol) → Lies 0 (length t) z → i ≤ z.place
        → Spent (λ e. length (list_bytes e)) 0 t i (enumeration f d t z)
    enumeration-spent zero d i z l s = tt
    enumeration-spent (suc f) d i z l s =
        then_spent (λ _. 3) 0 i (λ e. length (list_bytes e)) 0 i t (opening_bracket d t z)
        (λ _. if_next (is_word (ascii "FINAL")) close_final (elements f (d - 1))) (paid t i z (opening-forward d) l s)
        (λ a w h k. less-spent size_of 1 (suc i) (λ e. length (list_bytes e)) 0 i t
        (if_next (is_word (ascii "FINAL")) close_final (elements f (d - 1)) t w)
        (either (Spent size_of 1 t (suc i)) (is_word (ascii "FINAL") w) (λ _. final-spent i w k (omega arith))
        (λ _. elements-spent f (d - 1) (suc i) w k (omega arith))) (λ e n g. omega arith))

    elements-spent : (f d i : ℕ) (z : Symbol) → Lies 0 (length t) z → i ≤ z.place
        → Spent size_of 1 t i (elements f d t z)
    elements-spent zero d i z l s = tt
    elements-spent (suc f) d i z l s =
        let more = if_next (is_mark ",") (the_mark "," >> elements f d) list_end in
        then_spent (λ e. length (element_bytes e)) 3 i size_of 1 i t (element f d t z)
        (λ e. more >>= λ r. ret (elem e.name e.inner r)) (element-spent f d i z l s)
        (λ e w h k.
        then_spent size_of 1 (suc w.place) size_of 1 i t (more t w) (λ r. ret (elem e.name e.inner r))
        (either (Spent size_of 1 t (suc w.place)) (is_mark "," w)
        (λ _. then_spent (λ _. 3) 0 w.place size_of 1 (suc w.place) t (the_mark "," t w) (λ _. elements f d)
        (paid t w.place w (the-mark ",") k (omega arith))
        (λ a v g m. elements-spent f d (suc w.place) v m (omega arith)))
        (λ _. end-spent w.place w k (omega arith)))
        (λ r v g m. (
          let q = ap length (rest-after e r) in
              let n = length-append (element_bytes e) (rest_bytes r) in omega arith,
          m,
        )))

    element-spent : (f d i : ℕ) (z : Symbol) → Lies 0 (length t) z → i ≤ z.place
        → Spent (λ e. length (element_bytes e)) 3 t i (element f d t z)
    element-spent zero d i z l s = tt
    element-spent (suc f) d i z l s =
        let inner = if_next (is_mark "(") (enumeration f d) (ret (end false)) in
        let size : Enum → ℕ = λ x. length (bytes (inner_records x (open_record x ∷ element_records x))) in
        then_spent (λ _. 3) 0 i (λ e. length (element_bytes e)) 3 i t (a_name t z)
        (λ n. inner >>= λ x. ret (record { name = n; inner = x })) (paid t i z a-name l s)
        (λ a w h k. then_spent size 0 w.place (λ e. length (element_bytes e)) 3 i t (inner t w)
        (λ x. ret (record { name = a; inner = x }))
        (either (Spent size 0 t w.place) (is_mark "(" w)
        (λ _. less-spent (λ e. length (list_bytes e)) 0 w.place size 0 w.place t (enumeration f d t w)
        (enumeration-spent f d w.place w k (omega arith))
        (λ e n g. let q = inner-size e in omega arith)) (λ _. (omega arith, k)))
        (λ x v g m. (omega arith, m)))

pub enumeration-size : (t : List ℕ) (d : ℕ) (z : Symbol) → Stands t z
    → On (λ e. length (list_bytes e) ≤ 3 * length t) (enumeration (enough t) d t z)
enumeration-size t d z s = go (enumeration (enough t) d t z) (enumeration-spent t (enough t) d 0 z
    (record { starts = omega arith; ends = s.ends; solid = s.solid }) (omega arith))
  where
    go : (m : Result Enum) → Spent (λ e. length (list_bytes e)) 0 t 0 m
        → On (λ e. length (list_bytes e) ≤ 3 * length t) m
    go (done e w) (h, l) = let q = l.ends in omega arith
    go (refused f p) h = tt

pub fits_whole : (t o p : List ℕ) (r : ℕ) {y n : code.Symbol} → Held t y → 3 * length t ≤ length o
    → Reads t (enumeration (enough t) deepest) (λ e. Put o p 0 (list_bytes e) r) y n
    → Reads t (enumeration (enough t) deepest) (Whole o p r) y n
fits_whole t o p r {y} {n} h l g = record {
  reads = λ z c. go (enumeration (enough t) deepest t z) (g.reads z c) (enumeration-size t deepest z c.stands);
  passes = g.passes;
}
  where
    go : (m : Result Enum) → Gives t m (λ e. Put o p 0 (list_bytes e) r) n
        → On (λ e. length (list_bytes e) ≤ 3 * length t) m → Gives t m (Whole o p r) n
    go (done e w) k s = let (a, b) = k.value (omega arith) in record { next = k.next; value = (omega arith, b) }
    go (refused f q) k s = record { next = k.next; value = tt }
