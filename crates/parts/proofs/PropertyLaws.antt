-- Properties: the flags of a list of words, word by word.
use mathlib.Core.Path.{◌≡◌, refl, sym, ap, ◌∙◌}
use mathlib.Core.Logic.{⊎_elim}
use mathlib.Core.Bool.{Bool, true, false, ◌||◌}
use mathlib.Core.List.{List, [], ◌∷◌, ◌++◌, append_assoc}
use Prim.Native.Nat.{ℕ, suc, ◌+◌, ◌-◌, ◌<◌}
use native.Mathlib.Omega.{arith}
use lib.ListN.{length}
use lib.Dec.{eqb}
use borrow.Author.Tests.{eqb-true}
use Rattle.rules.specs.Bytes.{ascii, same, is_one_of}
use Rattle.rules.specs.Symbols as rules
use Rattle.rules.specs.Reserved.{forms}
use Rattle.rules.specs.Symbols.{Fault, word, symbol_at, end_of, is_kind, is_mark, is_one_word}
use Rattle.rules.specs.Readers.{Reader, refused, and_then, ret, the_mark, if_next, ◌>>◌, ◌>>=◌, expect}
use Rattle.rules.specs.Grammar.{enough, properties_from, properties}
use Rattle.rules.specs.Judge.{has_twice}
use Rattle.rules.proofs.Tests.{never, split, or_split}
use Rattle.rules.proofs.ByteLaws.{same-eq, same-sym}
use Rattle.rules.proofs.SymbolLaws.{Lies, next-lies}
use Rattle.rules.proofs.ForwardLaws.{one_word}
use Rattle.rules.proofs.FuelLaws.{properties-fuel}
use Rattle.symbols.specs.declared.Symbol.{Symbol}
use Rattle.words.specs.Words.{position}
use Rattle.symbols.specs.Cut.{faulty_as}
use Rattle.readers.specs.Reads.{fault_at, Stands, Cuts, Held, passed, Gives, Reads}
use Rattle.readers.proofs.CodeLaws.{Test, is-mark, is_word_lem, is-only-word, is-one-word}
use Rattle.readers.proofs.StandLaws.{fault-stands, stands-lies}
use Rattle.readers.proofs.ReadLaws.{gives-map, gives-weaker, bind, stay, held, if-true, if-false, expected, taken}
use Rattle.readers.proofs.ReadLaws.{behind, is-yes, is-no}
use Rattle.parts.specs.declared.Owner.{Owner}
use Rattle.parts.specs.declared.Owner.TheVariants.{Attribute, Definition, Measure}
use Rattle.parts.specs.declared.Properties.{Properties}
use Rattle.parts.specs.Forms.{words_of, is_property, flags_of, with_word}

-- ---- a list with one word more
swap : (a b c : Bool) → (a || (b || c)) ≡ (b || (a || c))
swap true true c = refl
swap true false c = refl
swap false b c = refl

shuffle : (a b c d : Bool) → ((a || b) || (c || d)) ≡ ((b || c) || (a || d))
shuffle true true c d = refl
shuffle true false true d = refl
shuffle true false false d = refl
shuffle false true c d = refl
shuffle false false c d = refl

one_more : (n : List ℕ) (p : List (List ℕ)) (w : List ℕ) → is_one_of n (p ++ (w ∷ [])) ≡ (same n w || is_one_of n p)
one_more n [] w = refl
one_more n (x ∷ p) w = rw (one_more n p w) (swap (same n x) (same n w) (is_one_of n p))

twice-more : (p : List (List ℕ)) (w : List ℕ) → has_twice (p ++ (w ∷ [])) ≡ (has_twice p || is_one_of w p)
twice-more [] w = refl
twice-more (x ∷ p) w =
    rw (one_more x p w, twice-more p w, same-sym w x) (shuffle (same x w) (is_one_of x p) (has_twice p) (is_one_of w p))

module _ (p : List (List ℕ)) where
  more : (w : List ℕ) → flags_of (p ++ (w ∷ [])) ≡ record {
    is_abstract = same (ascii "ABSTRACT") w || is_one_of (ascii "ABSTRACT") p;
    is_final = same (ascii "FINAL") w || is_one_of (ascii "FINAL") p;
    extended = same (ascii "EXTENDED") w || is_one_of (ascii "EXTENDED") p;
    twice = has_twice p || is_one_of w p;
  }
  more w = rw
      (one_more (ascii "ABSTRACT") p w, one_more (ascii "FINAL") p w, one_more (ascii "EXTENDED") p w, twice-more p w)

  with-final : with_word (flags_of p) 72 ≡ flags_of (p ++ (ascii "FINAL" ∷ []))
  with-final = sym (more (ascii "FINAL"))

  with-extended : with_word (flags_of p) 76 ≡ flags_of (p ++ (ascii "EXTENDED" ∷ []))
  with-extended = sym (more (ascii "EXTENDED"))

  with-abstract : with_word (flags_of p) 71 ≡ flags_of (p ++ (ascii "ABSTRACT" ∷ []))
  with-abstract = sym (more (ascii "ABSTRACT"))

pub default-flags : (p : Properties)
    → (p.is_abstract ≡ false) × ((p.is_final ≡ false) × ((p.extended ≡ false) × (p.twice ≡ false))) → p ≡ flags_of []
default-flags p (a, (b, (c, d))) = rw (a, b, c, d)

-- ---- a symbol that is a property
pub word_bytes : {t : List ℕ} {y : Symbol} (w : List ℕ) (k : ℕ) → 64 + position w forms ≡ k → y.code ≡ k
    → (z : rules.Symbol) → Cuts t z y → z.bytes ≡ w
word_bytes w k e f z c =
    let q : (is_kind word z ≡ true) × (same z.bytes w ≡ true) = split (is-yes (is_word_lem w k e) f z c) in
    same-eq z.bytes w q.1

module _ {t : List ℕ} {y : Symbol} where
  owned : (b : Owner) (z : rules.Symbol) → Cuts t z y → is_one_word (words_of b) z ≡ is_property b y.code
  owned Attribute z c =
      is-one-word (ascii "EXTENDED") (ascii "FINAL") 76 72 refl refl z c.stands.coded ∙ rw c.cuts
  owned Definition z c =
      is-one-word (ascii "ABSTRACT") (ascii "FINAL") 71 72 refl refl z c.stands.coded ∙ rw c.cuts
  owned Measure z c = is-only-word (ascii "ABSTRACT") 71 refl z c.stands.coded ∙ rw c.cuts

  property-test : (b : Owner) (x : Bool) → x ≡ is_property b y.code → (z : rules.Symbol)
      → Cuts t z y → is_one_word (words_of b) z ≡ x
  property-test b x e z c = owned b z c ∙ sym e

  -- by the code
  module _ (p : List (List ℕ)) (z : rules.Symbol) (c : Cuts t z y) where
    by_word : (w : List ℕ) (k : ℕ) → 64 + position w forms ≡ k → with_word (flags_of p) k ≡ flags_of (p ++ (w ∷ []))
        → eqb y.code k ≡ true → with_word (flags_of p) y.code ≡ flags_of (p ++ (z.bytes ∷ []))
    by_word w k e q h = let f = eqb-true y.code k h in rw (f, word_bytes w k e f z c) q

    by-final : eqb y.code 72 ≡ true → with_word (flags_of p) y.code ≡ flags_of (p ++ (z.bytes ∷ []))
    by-final h = by_word (ascii "FINAL") 72 refl (with-final p) h

    by-abstract : eqb y.code 71 ≡ true → with_word (flags_of p) y.code ≡ flags_of (p ++ (z.bytes ∷ []))
    by-abstract h = by_word (ascii "ABSTRACT") 71 refl (with-abstract p) h

    with-property : (b : Owner) → is_property b y.code ≡ true
        → with_word (flags_of p) y.code ≡ flags_of (p ++ (z.bytes ∷ []))
    with-property Attribute e =
        ⊎_elim (by_word (ascii "EXTENDED") 76 refl (with-extended p)) by-final (or_split {x = eqb y.code 76} e)
    with-property Definition e = ⊎_elim by-abstract by-final (or_split {x = eqb y.code 71} e)
    with-property Measure e = by-abstract e

not-fault : (y : Symbol) (b : Owner) → is_property b y.code ≡ true → y.code ≡ 5 → ⊥
not-fault y Attribute e f = never (rw f at e)
not-fault y Definition e f = never (rw f at e)
not-fault y Measure e f = never (rw f at e)

-- ---- word by word
comma : Test (is_mark ",") 44
comma = is-mark "," (omega arith) (omega arith)

module _ (t : List ℕ) (l : List (List ℕ)) where
  after : rules.Symbol → Reader (List (List ℕ))
  after p =
      if_next (is_mark ",") (the_mark "," >> properties_from (enough t) l) (the_mark ")" >> ret [])
      >>= λ r. ret (p.bytes ∷ r)

  list-step : (z : rules.Symbol) → Stands t z
      → properties_from (enough t) l t z ≡ and_then t (expect (is_one_word l) t z) after
  unfolding properties_from after
  list-step z s = properties-fuel t z (stands-lies s) l (enough t) (suc (enough t)) (omega arith) (omega arith)

  fault-list : (f : Fault) (p : ℕ) → Stands t (fault_at f p)
      → properties_from (enough t) l t (fault_at f p) ≡ refused f p
  unfolding after
  fault-list f p s = list-step (fault_at f p) s

-- the list began with the symbol w₀; the words before z have the flags `have`
pub record Seen (t : List ℕ) (b : Owner) (w₀ : rules.Symbol) (have : Properties) (z : Symbol) : Type 0 where
  pub symbol : rules.Symbol
  pub cut-from : Cuts t symbol z
  pub words : List (List ℕ)
  pub flags : have ≡ flags_of words
  pub goes_on : (v : Properties) (n : Symbol)
      → Gives t (properties_from (enough t) (words_of b) t symbol) (λ p. v ≡ flags_of (words ++ p)) n
      → Gives t (properties_from (enough t) (words_of b) t w₀) (λ p. v ≡ flags_of p) n

module _ {t : List ℕ} {b : Owner} {w₀ : rules.Symbol} {have : Properties} {z : Symbol} (s : Seen t b w₀ have z) where
  w : rules.Symbol
  w = s.symbol

  module _ {more : Properties} {m : Symbol} (h : is_property b z.code ≡ true)
      (g : more ≡ with_word have z.code) (e : m ≡ passed t z z.code) where
    flags-more : more ≡ flags_of (s.words ++ (w.bytes ∷ []))
    unfolding w
    flags-more =
        g ∙ ap (λ (x : Properties). with_word x z.code) s.flags ∙ with-property s.words w s.cut-from b h

    yes : is_one_word (words_of b) w ≡ true
    unfolding w
    yes = property-test b true (sym h) w s.cut-from

    follows : Cuts t (symbol_at t (end_of w)) m
    unfolding w yes
    follows = rw yes at ((taken (property-test b true (sym h)) (not-fault z b h) e).reads w s.cut-from).next

    seen_more : {z' : Symbol} → m.code ≡ 44 → z' ≡ passed t m 44 → Seen t b w₀ more z'
    unfolding w after
    seen_more {z'} k e₂ =
        let v = symbol_at t (end_of w) in
        let is = is-yes comma k v follows in
        let u = symbol_at t (end_of v) in
        let step : properties_from (enough t) (words_of b) t w
        ≡ and_then t (properties_from (enough t) (words_of b) t u) (λ r. ret (w.bytes ∷ r)) =
        list-step t (words_of b) w s.cut-from.stands ∙ rw (yes, is) in
        record {
          symbol = u;
          cut-from = rw is at ((expected comma e₂).reads v follows).next;
          words = s.words ++ (w.bytes ∷ []);
          flags = flags-more;
          goes_on = λ x n q.
              s.goes_on x n (rw step (gives-map (properties_from (enough t) (words_of b) t u) (λ r. w.bytes ∷ r)
              (gives-weaker q (λ p r. r ∙ ap flags_of (append_assoc s.words (w.bytes ∷ []) p)))));
        }

    seen_end : {n : Symbol} → (m.code ≡ 44 → ⊥) → n ≡ passed t m 41
        → Gives t (properties_from (enough t) (words_of b) t w₀) (λ p. more ≡ flags_of p) n
    unfolding w after
    seen_end {n} k e₂ =
        let v = symbol_at t (end_of w) in
        let close = (expected (is-mark ")" (omega arith) (omega arith)) e₂).reads v follows in
        s.goes_on more n (rw (list-step t (words_of b) w s.cut-from.stands, yes, is-no comma k v follows)
        (gives-map (and_then t (the_mark ")" t v) (λ _. ret [])) (λ r. w.bytes ∷ r)
        (gives-map (the_mark ")" t v) (λ _. []) (gives-weaker close (λ _ _. flags-more)))))

  seen-fault : {n : Symbol} → is_property b z.code ≡ false
      → n ≡ faulty_as z.refusal z
      → Gives t (properties_from (enough t) (words_of b) t w₀) (λ p. have ≡ flags_of p) n
  unfolding w after
  seen-fault {n} h e =
      let c = s.cut-from in
      s.goes_on have n (rw (list-step t (words_of b) w c.stands, property-test b false (sym h) w c)
      (record {
        next = record {
          cuts = e ∙ ap (λ (x : Symbol). faulty_as x.refusal x) c.cuts;
          stands = fault-stands t _ _ (let l = c.stands.ends in omega arith);
        };
        value = tt;
      }))

-- ---- as the loop meets them
-- z₀ and have₀ are the first symbol and the flags before it
abbrev pub Loop : List ℕ → Owner → Properties → Symbol → Properties → Symbol → Type 0
Loop t b have₀ z₀ have z = Held t z × ((w : rules.Symbol) → Cuts t w z₀ → have₀ ≡ flags_of [] → Seen t b w have z)

pub loop-first : (t : List ℕ) (b : Owner) (have : Properties) (z : Symbol) → Held t z → Loop t b have z have z
loop-first t b have z h = (h, λ w c e. record { symbol = w; cut-from = c; words = []; flags = e; goes_on = λ v n g. g })

module _ (t : List ℕ) (b : Owner) (have₀ : Properties) (z₀ : Symbol) where
  reads-list : {more : Properties} {n : Symbol} → ((w : rules.Symbol) → Cuts t w z₀
      → Gives t (properties_from (enough t) (words_of b) t w) (λ p. more ≡ flags_of p) n)
      → Reads t (properties_from (enough t) (words_of b)) (λ p. more ≡ flags_of p) z₀ n
  reads-list g = record {
    reads = g;
    passes = λ f p c. rw (fault-list t (words_of b) f p c.stands) at (g (fault_at f p) c).next;
  }

  module _ (have : Properties) (z : Symbol) (v : Loop t b have₀ z₀ have z) (e₀ : have₀ ≡ flags_of []) where
    pub list-fault : {n : Symbol} → is_property b z.code ≡ false
        → n ≡ faulty_as z.refusal z
        → Reads t (properties_from (enough t) (words_of b)) (λ p. have ≡ flags_of p) z₀ n
    list-fault h e = reads-list (λ w c. seen-fault (v.1 w c e₀) h e)

    pub list-end : {more : Properties} {m n : Symbol} → is_property b z.code ≡ true
        → more ≡ with_word have z.code
        → m ≡ passed t z z.code → (m.code ≡ 44 → ⊥) → n ≡ passed t m 41
        → Reads t (properties_from (enough t) (words_of b)) (λ p. more ≡ flags_of p) z₀ n
    list-end h g e k f = reads-list (λ w c. seen_end (v.1 w c e₀) h g e k f)

  module _ (have more : Properties) (z m z' : Symbol) (v : Loop t b have₀ z₀ have z)
      (h : is_property b z.code ≡ true)
      (e : m ≡ passed t z z.code) (k : m.code ≡ 44) (f : z' ≡ passed t m 44) where
    pub loop-on : more ≡ with_word have z.code → Loop t b have₀ z₀ more z'
    loop-on g = (
      held (expected comma f)
          (held (taken {p = is_one_word (words_of b)} (property-test b true (sym h)) (not-fault z b h) e) v.0),
      λ w c e₀. seen_more (v.1 w c e₀) h g e k f,
    )

    pub loop-falls : length t - z'.place < length t - z.place
    loop-falls = go v.0
      where
        go : Held t z → length t - z'.place < length t - z.place
        go (w, c) =
            let at : Lies w.place (length t) w =
            record { starts = omega arith; ends = c.stands.ends; solid = c.stands.solid } in
            let yes = property-test b true (sym h) w c in
            let u = symbol_at t (end_of w) in
            let first : Lies (suc w.place) (length t) u =
            rw yes at ((one_word {b = true} (words_of b)).reads t w.place w at) in
            let q : Cuts t u m =
            rw yes at ((taken (property-test b true (sym h)) (not-fault z b h) e).reads w c).next in
            let second = next-lies t (end_of u) first.ends in
            let i : z.place ≡ w.place = ap (λ (x : Symbol). x.place) c.cuts in
            let j : z'.place ≡ (symbol_at t (end_of u)).place =
            ap (λ (x : Symbol). x.place) (behind q (f ∙ ap (passed t m) (sym k))).cuts in
            omega arith

-- ---- the whole list
module _ {t : List ℕ} (b : Owner) {y : Symbol} where
  pub list-there : {z n : Symbol} {v : Properties} → y.code ≡ 40 → z ≡ passed t y 40 →
      Reads t (properties_from (enough t) (words_of b)) (λ p. v ≡ flags_of p) z n
      → Reads t (properties (words_of b)) (λ p. v ≡ flags_of p) y n
  unfolding properties
  list-there k e r =
      let m = is-mark "(" (omega arith) (omega arith) in
      if-true (is_mark "(") _ _ (is-yes m k)
      (bind (expected m e) (λ _ _. record { reads = r.reads; passes = r.passes }) r.passes)

  pub list-absent : {v : Properties} → (y.code ≡ 40 → ⊥) → v ≡ flags_of []
      → Reads t (properties (words_of b)) (λ p. v ≡ flags_of p) y y
  unfolding properties
  list-absent k e = if-false (is_mark "(") _ _ (is-no (is-mark "(" (omega arith) (omega arith)) k) (stay [] e)
