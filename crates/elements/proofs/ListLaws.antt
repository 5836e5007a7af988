-- How a list is read element by element, and its records written, as the rules read it whole.
use mathlib.Core.Path.{◌≡◌, refl, sym, ap, ◌∙◌, subst}
use mathlib.Core.Bool.{true, false}
use mathlib.Core.List.{List, [], ◌∷◌, ◌++◌, append_assoc}
use Prim.Native.Nat.{ℕ, zero, suc, ◌-◌, ◌≤◌, ◌<◌}
use native.Mathlib.Omega.{arith}
use lib.ListN.{length}
use borrow.Author.Tests.{lt-ltb}
use Rattle.rules.specs.Bytes.{ascii}
use Rattle.rules.specs.Names.{Name}
use Rattle.rules.specs.Symbols as rules
use Rattle.rules.specs.Symbols.{Fault, too_large, symbol_at, end_of, is_mark, is_word}
use Rattle.rules.specs.Readers.{Result, done, refused, Reader, and_then, ◌>>=◌, ◌>>◌, ret, a_name, the_mark, the_word}
use Rattle.rules.specs.Readers.{if_next}
use Rattle.rules.specs.Enumerations.{Enum, end, elem, final}
use Rattle.rules.specs.Grammar.{enough, close_final, opening_bracket, enumeration, elements, Element, element}
use Rattle.rules.specs.Book.{Record, bit, name_record, inner_records, open_record, element_records}
use Rattle.rules.proofs.GrowLaws.{bytes-append}
use Rattle.rules.proofs.SymbolLaws.{either, Lies, next-lies}
use Rattle.rules.proofs.ForwardLaws.{Ends, element-forward}
use Rattle.rules.proofs.FuelLaws.{enumeration-fuel, elements-fuel, element-fuel}
use Rattle.book.specs.Forms.{name_form}
use Rattle.symbols.specs.declared.Symbol.{Symbol}
use Rattle.symbols.specs.Cut.{faulty_as, length_at}
use Rattle.ground.specs.declared.Name as code
use Rattle.readers.specs.Reads.{fault_at, Stands, Cuts, Held, passed, named, name_cut, On, Gives, Reads}
use Rattle.readers.proofs.CodeLaws.{Test, is-mark, is_word_lem}
use Rattle.readers.proofs.StandLaws.{fault-stands, stands-lies}
use Rattle.readers.proofs.ReadLaws.{gives-map, gives-weaker, bind, stay, mapped, if-true, if-false, expected, is-yes}
use Rattle.readers.proofs.ReadLaws.{is-no, a-name, behind}
use Rattle.elements.specs.Noted.{list_bytes, rest_bytes, element_bytes, Put, Closed}
use Rattle.elements.specs.Ends.{list_end}
use Rattle.elements.proofs.PutLaws.{put-put, put-closed}

-- ---- at a symbol of the text, one more of the fuel changes nothing
module _ (t : List ℕ) (d : ℕ) where
  pub enumeration-reads : {P : Enum → Type 0} {y n : Symbol} →
      Reads t (opening_bracket d >> if_next (is_word (ascii "FINAL")) close_final (elements (enough t) (d - 1))) P y n
      → Reads t (enumeration (enough t) d) P y n
  unfolding enumeration
  enumeration-reads r =
      record {
        reads = λ z c. rw (enumeration-fuel t z (stands-lies c.stands) d (enough t) (suc (enough t)) (omega arith)
            (omega arith)) (r.reads z c);
        passes = r.passes;
      }

  pub element-reads : {P : Element → Type 0} {y n : Symbol} →
      Reads t (a_name >>= λ a. if_next (is_mark "(") (enumeration (enough t) d) (ret (end false))
      >>= λ i. ret (record { name = a; inner = i })) P y n
      → Reads t (element (enough t) d) P y n
  unfolding enumeration
  element-reads r =
      record {
        reads = λ z c. rw (element-fuel t z (stands-lies c.stands) d (enough t) (suc (enough t)) (omega arith)
            (omega arith)) (r.reads z c);
        passes = r.passes;
      }

  elements-step : (z : rules.Symbol) → Stands t z → elements (enough t) d t z ≡
      and_then t (element (enough t) d t z) (λ e.
      if_next (is_mark ",") (the_mark "," >> elements (enough t) d) list_end >>= λ r. ret (elem e.name e.inner r))
  unfolding enumeration
  elements-step z s = elements-fuel t z (stands-lies s) d (enough t) (suc (enough t)) (omega arith) (omega arith)

  pub fault-elements : (f : Fault) (p : ℕ) → Stands t (fault_at f p)
      → elements (enough t) d t (fault_at f p) ≡ refused f p
  unfolding enumeration
  fault-elements f p s =
      elements-step (fault_at f p) s
      ∙ rw (element-fuel t (fault_at f p) (stands-lies s) d (enough t) (suc (enough t)) (omega arith) (omega arith))

-- ---- the bracket
module _ {t : List ℕ} {d : ℕ} {y n : Symbol} where
  pub opened : 0 < d → n ≡ passed t y 40 → Reads t (opening_bracket d) (λ _. Unit {0}) y n
  opened h e =
      bind (expected (is-mark "(" (omega arith) (omega arith)) e)
      (λ a q. record { reads = λ z c. rw (lt-ltb 0 d h) (record { next = c; value = tt }); passes = λ f p c. c })
      (λ f p c. c)

  pub too-deep : {A : Type 0} {P : A → Type 0} (k : Reader A) → d ≡ 0 → y.code ≡ 40 → n ≡ faulty_as 4 y
      → Reads t (opening_bracket d >> k) P y n
  too-deep k h o e =
      record {
        reads = λ z c. rw (is-yes (is-mark "(" (omega arith) (omega arith)) o z c, h)
            (record {
              next = record {
                cuts = e ∙ rw c.cuts;
                stands = fault-stands t too_large z.place (let l = c.stands.ends in omega arith);
              };
              value = tt;
            });
        passes = λ f p c. absurd (let q : 5 ≡ 40 = rw c.cuts at o in omega arith);
      }

-- ---- the end of a list
module _ {t : List ℕ} {P : Enum → Type 0} {y : Symbol} where
  pub closes-final : {c n : Symbol} → c ≡ passed t y 72 → n ≡ passed t c 41 → P (end true) → Reads t close_final P y n
  unfolding close_final
  closes-final e f h =
      let g = expected (is-mark ")" (omega arith) (omega arith)) f in
      bind (expected (is_word_lem (ascii "FINAL") 72 refl) e)
      (λ a q. bind g (λ b w. stay (end true) h) (λ f p c. c)) g.passes

  pub ends-final : {f n : Symbol} → y.code ≡ 58 → f ≡ passed t y 58 → Reads t close_final P f n → Reads t list_end P y n
  ends-final k e h =
      let m = is-mark ":" (omega arith) (omega arith) in
      if-true (is_mark ":") _ _ (is-yes m k) (bind (expected m e) (λ a q. h) h.passes)

  pub ends-plain : {n : Symbol} → (y.code ≡ 58 → ⊥) → n ≡ passed t y 41 → P (end false) → Reads t list_end P y n
  ends-plain k e h =
      if-false (is_mark ":") _ _ (is-no (is-mark ":" (omega arith) (omega arith)) k)
      (bind (expected (is-mark ")" (omega arith) (omega arith)) e) (λ a q. stay (end false) h) (λ f p c. c))

-- ---- one element after another
-- an element's records stand before those of the rest of its list
pub rest-after : (e : Element) (x : Enum) → rest_bytes (elem e.name e.inner x) ≡ element_bytes e ++ rest_bytes x
rest-after e x =
    let i : List Record = inner_records e.inner (open_record e.inner ∷ element_records e.inner) in
    ap (λ (l : List ℕ). name_record 14 e.name ++ l) (bytes-append i (element_records x))

module _ (b q : List ℕ) (start r : ℕ) (vs : List ℕ) (e : Element) (x : Enum) where
  regrouped : Put b q start (13 ∷ bit (final x) 1 ∷ ((vs ++ element_bytes e) ++ rest_bytes x)) r →
      Put b q start (13 ∷ bit (final x) 1 ∷ (vs ++ rest_bytes (elem e.name e.inner x))) r
  regrouped =
      let g : vs ++ rest_bytes (elem e.name e.inner x) ≡ (vs ++ element_bytes e) ++ rest_bytes x =
      ap (λ (l : List ℕ). vs ++ l) (rest-after e x) ∙ sym (append_assoc vs (element_bytes e) (rest_bytes x)) in
      subst (λ (l : List ℕ). Put b q start (13 ∷ bit (final x) 1 ∷ l) r) (sym g)

-- the list began with the symbol w₀, in the scratch b at the place start; its elements before z have the records vs,
-- up to i in the scratch o
pub record SoFar (t : List ℕ) (d start : ℕ) (b : List ℕ) (w₀ : rules.Symbol) (o : List ℕ)
    (i : ℕ) (z : Symbol) : Type 0 where
  pub symbol : rules.Symbol
  pub cut-from : Cuts t symbol z
  pub records : List ℕ
  pub stored : Put b o start (13 ∷ 0 ∷ records) i
  pub goes_on : (q : List ℕ) (r : ℕ) (n : Symbol) →
      Gives t (elements (enough t) d t symbol)
      (λ x. Put b q start (13 ∷ bit (final x) 1 ∷ (records ++ rest_bytes x)) r) n
      → Gives t (elements (enough t) d t w₀) (λ x. Put b q start (list_bytes x) r) n

module _ {t : List ℕ} {d start : ℕ} {b : List ℕ} {w₀ : rules.Symbol} where
  pub begins : {o : List ℕ} {i : ℕ} {z : Symbol} → Cuts t w₀ z
      → Put b o start (13 ∷ 0 ∷ []) i → SoFar t d start b w₀ o i z
  begins c h = record { symbol = w₀; cut-from = c; records = []; stored = h; goes_on = λ q r n g. g }

  module _ {o p : List ℕ} {i j : ℕ} {z m : Symbol} (l : length o ≡ length b) (s : SoFar t d start b w₀ o i z)
      (h : Reads t (element (enough t) d) (λ e. Put o p i (element_bytes e) j) z m) where
    w : rules.Symbol
    w = s.symbol

    after : Element → Reader Enum
    after e =
        if_next (is_mark ",") (the_mark "," >> elements (enough t) d) list_end >>= λ r. ret (elem e.name e.inner r)

    pub again : {z' : Symbol} → m.code ≡ 44 → z' ≡ passed t m 44 → SoFar t d start b w₀ p j z'
    unfolding w after
    again {z'} k e = go (element (enough t) d t w) refl (h.reads w s.cut-from)
      where
        comma : Test (is_mark ",") 44
        comma = is-mark "," (omega arith) (omega arith)

        go : (r : Result Element) → element (enough t) d t w ≡ r
            → Gives t r (λ e. Put o p i (element_bytes e) j) m → SoFar t d start b w₀ p j z'
        go (done a v) f g =
            let yes = is-yes comma k v g.next in
            let u = symbol_at t (end_of v) in
            let vs = s.records in
            let step : elements (enough t) d t w
            ≡ and_then t (elements (enough t) d t u) (λ r. ret (elem a.name a.inner r)) =
            elements-step t d w s.cut-from.stands ∙ rw (f, yes) in
            record {
              symbol = u;
              cut-from = rw yes at ((expected comma e).reads v g.next).next;
              records = vs ++ element_bytes a;
              stored = put-put b o p start i j (13 ∷ 0 ∷ vs) (element_bytes a) l s.stored g.value;
              goes_on = λ q r n x.
                  s.goes_on q r n (rw step (gives-map (elements (enough t) d t u) (elem a.name a.inner)
                  (gives-weaker x (λ y c. regrouped b q start r vs a y c))));
            }
        go (refused f' p') f g = absurd (let q : 5 ≡ 44 = rw g.next.cuts at k in omega arith)

    pub over : {q : List ℕ} {r : ℕ} {n : Symbol} → length p ≡ length b → (m.code ≡ 44 → ⊥)
        → Reads t list_end (Closed p q start j r) m n
        → Gives t (elements (enough t) d t w₀) (λ x. Put b q start (list_bytes x) r) n
    unfolding w after
    over {q} {r} {n} l' k x = s.goes_on q r n
        (rw (elements-step t d w s.cut-from.stands) (go (element (enough t) d t w) (h.reads w s.cut-from)))
      where
        P : Enum → Type 0
        P y = Put b q start (13 ∷ bit (final y) 1 ∷ (s.records ++ rest_bytes y)) r

        go : (r' : Result Element) → Gives t r' (λ e. Put o p i (element_bytes e) j) m
            → Gives t (and_then t r' after) P n
        go (done a v) g =
            let stored = put-put b o p start i j (13 ∷ 0 ∷ s.records) (element_bytes a) l s.stored g.value in
            rw (is-no (is-mark "," (omega arith) (omega arith)) k v g.next)
            (gives-map (list_end t v) (elem a.name a.inner)
            (gives-weaker (x.reads v g.next) (λ y c. regrouped b q start r s.records a y
            (put-closed b p q start j r (s.records ++ element_bytes a) y l' stored c))))
        go (refused f' p') g = record { next = x.passes f' p' g.next; value = tt }

-- ---- the list goes forward
pub forth : (t : List ℕ) (d : ℕ) {Q : Element → Type 0} {z m z' : Symbol} → Held t z
    → Reads t (element (enough t) d) Q z m → m.code ≡ 44
    → z' ≡ passed t m 44 → (z.place < z'.place) × (z'.place ≤ length t)
forth t d {Q} {z} {m} {z'} (w, c) h k e =
    go (element (enough t) d t w) ((element-forward {b = true} (enough t) d).reads t w.place w l) (h.reads w c)
  where
    l : Lies w.place (length t) w
    l = record { starts = omega arith; ends = c.stands.ends; solid = c.stands.solid }

    go : (r : Result Element) → Ends (λ a v. Lies (suc w.place) (length t) v) r → Gives t r Q m
        → (z.place < z'.place) × (z'.place ≤ length t)
    go (done a v) f g =
        let i = next-lies t (end_of v) f.ends in
        let p : z.place ≡ w.place = rw c.cuts in
        let q : z'.place ≡ (symbol_at t (end_of v)).place =
        ap (λ (y : Symbol). y.place) (behind g.next (e ∙ ap (passed t m) (sym k))).cuts in
        (omega arith, omega arith)
    go (refused f' p') f g = absurd (let q : 5 ≡ 44 = rw g.next.cuts at k in omega arith)

-- ---- an element
-- an enumeration that is written has records, also if it has no elements
abbrev Listed : Enum → Type 0
Listed e = (l : List Record) → inner_records e l ≡ l

on_then : {A B : Type 0} (Q : B → Type 0) (t : List ℕ) (m : Result A) (k : A → Reader B)
    → ((a : A) (z : rules.Symbol) → On Q (k a t z)) → On Q (and_then t m k)
on_then Q t (done a z) k h = h a z
on_then Q t (refused f p) k h = tt

final-listed : (t : List ℕ) (z : rules.Symbol) → On Listed (close_final t z)
unfolding close_final
final-listed t z =
    on_then Listed t (the_word (ascii "FINAL") t z) (λ a. the_mark ")" >> ret (end true))
    (λ a v. on_then Listed t (the_mark ")" t v) (λ b. ret (end true)) (λ b u l. refl))

elements-listed : (f d : ℕ) (t : List ℕ) (z : rules.Symbol) → On Listed (elements f d t z)
unfolding enumeration
elements-listed zero d t z = tt
elements-listed (suc f) d t z =
    let more = if_next (is_mark ",") (the_mark "," >> elements f d) list_end in
    on_then Listed t (element f d t z) (λ e. more >>= λ r. ret (elem e.name e.inner r))
    (λ e v. on_then Listed t (more t v) (λ r. ret (elem e.name e.inner r)) (λ r u l. refl))

listed : (f d : ℕ) (t : List ℕ) (z : rules.Symbol) → On Listed (enumeration f d t z)
unfolding enumeration
listed zero d t z = tt
listed (suc f) d t z =
    on_then Listed t (opening_bracket d t z) (λ a. if_next (is_word (ascii "FINAL")) close_final (elements f (d - 1)))
    (λ a v. either (On Listed) (is_word (ascii "FINAL") v) (λ _. final-listed t v) (λ _. elements-listed f (d - 1) t v))

pub also : {A : Type 0} {t : List ℕ} {R : Reader A} {P Q : A → Type 0} {y n : Symbol} → Reads t R P y n
    → ((z : rules.Symbol) → On Q (R t z))
    → Reads t R (λ a. P a × Q a) y n
also {t} {R} {P} {Q} {y} {n} r h = record { reads = λ z c. go (R t z) (r.reads z c) (h z); passes = r.passes }
  where
    go : (m : Result _) → Gives t m P n → On Q m → Gives t m (λ a. P a × Q a) n
    go (done a w) g x = record { next = g.next; value = (g.value, x) }
    go (refused f p) g x = record { next = g.next; value = tt }

named-record : (y : Symbol) (a : Name) → named y ≡ name_cut a → name_form 14 y.place (length_at y) ≡ name_record 14 a
named-record y a q = ap (λ (n : code.Name). name_form 14 n.offset n.len) q

module _ (t : List ℕ) (d : ℕ) {y z : Symbol} (e : z ≡ passed t y 1) (o p : List ℕ) (i j : ℕ)
    (h : Put o p i (name_form 14 y.place (length_at y)) j) where
  pub leaf : (z.code ≡ 40 → ⊥) → Reads t (element (enough t) d) (λ x. Put o p i (element_bytes x) j) y z
  leaf k =
      element-reads t d (bind (a-name e) (λ a q. mapped (λ x. record { name = a; inner = x })
      (if-false (is_mark "(") _ _ (is-no (is-mark "(" (omega arith) (omega arith)) k)
      (stay {P = λ x. x ≡ end false} (end false) refl))
      (λ x f. rw f (subst (λ (l : List ℕ). Put o p i l j) (named-record y a q) h))) (λ f p c. c))

  pub branch : (q : List ℕ) (r : ℕ) {n : Symbol} → length p ≡ length o → z.code ≡ 40
      → Reads t (enumeration (enough t) d) (λ x. Put p q j (list_bytes x) r) z n
      → Reads t (element (enough t) d) (λ x. Put o q i (element_bytes x) r) y n
  branch q r l k g =
      element-reads t d (bind (a-name e) (λ a u. mapped (λ x. record { name = a; inner = x })
      (if-true (is_mark "(") _ _ (is-yes (is-mark "(" (omega arith) (omega arith)) k)
      (also g (λ w. listed (enough t) d t w)))
      (λ x f. rw (f.1 (open_record x ∷ element_records x)) (put-put o p q i j r (name_record 14 a) (list_bytes x) l
      (subst (λ (v : List ℕ). Put o p i v j) (named-record y a u) h) f.0)))
      g.passes)
