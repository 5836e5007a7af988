-- Types, and MANDATORY before them.
use mathlib.Core.Path.{◌≡◌, refl, sym, ap, ◌∙◌}
use mathlib.Core.Bool.{Bool, true, false, cond, ◌&&◌, ◌||◌}
use mathlib.Core.Option.{Option, none, some}
use mathlib.Core.List.{List, [], ◌∷◌}
use Prim.Native.Nat.{ℕ, ◌+◌, ◌≤◌, ◌<◌}
use native.Mathlib.Omega.{arith}
use Rattle.std.specs.Prelude.{Option as code·Option, Some, None}
use lib.ListN.{length, get_or}
use lib.Dec.{eqb}
use borrow.Author.Tests.{eqb-true, ne_eqb, lt-ltb, le-ltb}
use Rattle.rules.specs.Bytes.{ascii, same, is_digit}
use Rattle.rules.specs.Symbols as rules
use Rattle.rules.specs.Symbols.{too_large, symbol_at, end_of, digit_count, Kind, word, name, number, quoted, dots, stop}
use Rattle.rules.specs.Symbols.{mark, fault, tag, is_kind, is_mark, is_word, is_one_word, most_digits}
use Rattle.rules.specs.Readers.{Reader, ret, ◌>>=◌, expect}
use Rattle.rules.specs.Numbers.{digits, value_of, decimals_of}
use Rattle.rules.specs.Grammar.{enough, deepest, enumeration, WrittenType, text, numeric, enum, named, is_length}
use Rattle.rules.specs.Grammar.{text_length, text_type, optional_unit, range_type, numeric_type, reference, type_of}
use Rattle.rules.specs.Grammar.{type_or_reference, place_of_next}
use Rattle.rules.specs.Grammar.{written}
use Rattle.rules.proofs.Tests.{never, both}
use Rattle.ground.specs.Parts.{part}
use Rattle.book.specs.Forms.{text_kind}
use Rattle.numbers.specs.declared.Number.{Number}
use Rattle.symbols.specs.declared.Symbol.{Symbol}
use Rattle.symbols.specs.Cut.{faulty_as, length_at, Sound}
use Rattle.readers.specs.Reads.{Cuts, Held, passed, Reads}
use Rattle.symbols.proofs.CutLaws.{its-length}
use Rattle.readers.proofs.CodeLaws.{Test, is_name, is_number, is-dots, is-mark, is_word_lem, is-one-word}
use Rattle.readers.proofs.StandLaws.{fault-stands}
use Rattle.readers.proofs.ReadLaws.{onward, bind, stay, mapped, weaker, if-true, if-false, expected, taken, passes-by}
use Rattle.readers.proofs.ReadLaws.{behind, refuses, is-yes, is-no}
use Rattle.elements.specs.Noted.{Whole}
use Rattle.ground.specs.declared.Reference.{Reference}
use Rattle.parts.specs.declared.types.Meant.{Meant}
use Rattle.parts.specs.declared.types.Meant.TheVariants.{Alone, Text, Limited, Range, Numeric, Enumeration}
use Rattle.parts.specs.declared.types.Meant.TheVariants.{Named}
use Rattle.parts.specs.declared.types.Meaning.{Meaning}
use Rattle.parts.specs.Forms.{reference_of, optional_of, number_of, whole_of, whole_at, text_code, limit_of, Plainly}
use Rattle.parts.specs.Forms.{Means, MeansAny}
use Rattle.parts.specs.Forms.{MeansAll, type_by, mandatory_by}
use Rattle.parts.proofs.PropertyLaws.{word_bytes}

-- ---- number symbols
few-digits : (k : Kind) (b : List ℕ) → eqb (tag k) 2 ≡ true → Sound k b → digit_count b ≤ most_digits
few-digits number b e c = c
few-digits word b e c = never e
few-digits name b e c = never e
few-digits quoted b e c = never e
few-digits dots b e c = never e
few-digits stop b e c = never e
few-digits (fault f) b e c = never e
few-digits (mark m) b e c = absurd (let q = eqb-true (7 + m) 2 e in omega arith)

solid-number : (k : Kind) → eqb (tag k) 2 ≡ true → ¬ (tag k ≡ 5) × ¬ (tag k ≡ 6)
solid-number k e = let q = eqb-true (tag k) 2 e in (omega arith, omega arith)

module _ {t : List ℕ} {y : Symbol} where
  pub bytes_of : (z : rules.Symbol) → Cuts t z y → part t y.place (length_at y) ≡ z.bytes
  bytes_of z c =
      ap (λ (x : Symbol). part t x.place (length_at x)) c.cuts
      ∙ ap (part t z.place) (its-length t z) ∙ sym c.stands.written

  pub number-stands : Held t y → y.code ≡ 2
      → (y.place + length_at y ≤ length t) × (0 < length_at y)
      × (digit_count (part t y.place (length_at y)) ≤ most_digits)
  number-stands (z, c) k =
      let e = is-yes is_number k z c in
      let p : y.place ≡ z.place = ap (λ (x : Symbol). x.place) c.cuts in
      let l : length_at y ≡ length z.bytes = ap length_at c.cuts ∙ its-length t z in
      let s = c.stands.ends in
      let q = c.stands.solid (solid-number z.kind e) in
      (omega arith, omega arith, rw (bytes_of z c) (few-digits z.kind z.bytes e c.stands.coded))

  pub number_read : {r : Number} → r.value ≡ value_of (part t y.place (length_at y))
      → r.decimals ≡ decimals_of (part t y.place (length_at y))
      → (z : rules.Symbol) → Cuts t z y → r ≡ number_of z.bytes
  number_read {r} f g z c =
      let h : r ≡ number_of (part t y.place (length_at y)) = joined r _ _ f g in h ∙ ap number_of (bytes_of z c)
    where
      joined : (r : Number) (v : _) (d : ℕ) → r.value ≡ v → r.decimals ≡ d → r ≡ record { value = v; decimals = d }
      joined r v d f g = rw (f, g)

-- ---- the length of a text
abbrev is_whole : List ℕ → Bool
is_whole b = is_digit (get_or b 0 0) && eqb (decimals_of b) 0

whole-count : (b : List ℕ) (n : ℕ) → whole_of b ≡ Some n → (is_whole b ≡ true) × (n ≡ digits b 0)
whole-count b n e = go (is_whole b) refl e
  where
    go : (x : Bool) → is_whole b ≡ x → cond x (Some (digits b 0)) None ≡ Some n
        → (is_whole b ≡ true) × (n ≡ digits b 0)
    go true f g = (f, cc)
    go false f g = cc

whole-other : (b : List ℕ) → whole_of b ≡ None → is_whole b ≡ false
whole-other b e = go (is_whole b) refl e
  where
    go : (x : Bool) → is_whole b ≡ x → cond x (Some (digits b 0)) None ≡ None → is_whole b ≡ false
    go true f g = cc
    go false f g = f

counts : (t : List ℕ) (y : Symbol) (u : ℕ) → Some u ≡ whole_at t y
    → (y.code ≡ 2) × (whole_of (part t y.place (length_at y)) ≡ Some u)
counts t y u e = go (eqb y.code 2) refl (sym e)
  where
    go : (b : Bool) → eqb y.code 2 ≡ b → cond b (whole_of (part t y.place (length_at y))) None ≡ Some u
        → (y.code ≡ 2) × (whole_of (part t y.place (length_at y)) ≡ Some u)
    go true f g = (eqb-true y.code 2 f, g)
    go false f g = cc

module _ {t : List ℕ} {y : Symbol} where
  pub not-whole : None ≡ whole_at t y → (z : rules.Symbol) → Cuts t z y → is_length z ≡ false
  not-whole e z c = go (eqb y.code 2) refl (sym e)
    where
      go : (b : Bool) → eqb y.code 2 ≡ b → cond b (whole_of (part t y.place (length_at y))) None ≡ None
          → is_length z ≡ false
      go true f g = rw (is-yes is_number (eqb-true y.code 2 f) z c) (whole-other z.bytes (rw (bytes_of z c) at g))
      go false f g = rw (is-no is_number (λ h. let q = rw h at f in cc) z c)

  length-read : (u : ℕ) → Some u ≡ whole_at t y → (z : rules.Symbol) → Cuts t z y
      → (is_length z ≡ true) × (u ≡ digits z.bytes 0)
  length-read u e z c =
      let (k, w) = counts t y u e in
      let q = whole-count z.bytes u (rw (bytes_of z c) at w) in
      (rw (is-yes is_number k z c) q.0, q.1)

module _ {t : List ℕ} {y n : Symbol} (m : Bool) where
  pub no_length : {v : Meant} → ((z : rules.Symbol) → Cuts t z y → is_length z ≡ false)
      → n ≡ faulty_as y.refusal y
      → Reads t text_length (λ s. v ≡ limit_of m (some s)) y n
  unfolding text_length
  no_length h e = refuses _ h e

  module _ {u : ℕ} (w : Some u ≡ whole_at t y) where
    pub long-length : {v : Meant} → 4294967295 < u → n ≡ faulty_as 4 y
        → Reads t text_length (λ s. v ≡ limit_of m (some s)) y n
    unfolding text_length
    long-length h e =
        record {
          reads = λ z c. let q = length-read u w z c in rw (q.0, lt-ltb 4294967295 (digits z.bytes 0) (omega arith))
              (record {
                next = record {
                  cuts = e ∙ ap (λ (x : Symbol). faulty_as 4 x) c.cuts;
                  stands = fault-stands t too_large z.place (let l = c.stands.ends in omega arith);
                };
                value = tt;
              });
          passes = λ f p c. absurd (let k = counts t y u w in let q : 5 ≡ 2 = rw c.cuts at k.0 in omega arith);
        }

    pub good_length : u ≤ 4294967295 → n ≡ passed t y 2
        → Reads t text_length (λ s. Limited (text_kind m) u y.place ≡ limit_of m (some s)) y n
    unfolding text_length
    good_length h e =
        record {
          reads = λ z c. let q = length-read u w z c in rw (q.0, le-ltb 4294967295 (digits z.bytes 0) (omega arith))
              (record {
                next = expected-next z c;
                value =
                    ap (λ (x : ℕ). Limited (text_kind m) x y.place) q.1
                    ∙ ap (λ (x : Symbol). Limited (text_kind m) (digits z.bytes 0) x.place) c.cuts;
              });
          passes = λ f p c. absurd (let k = counts t y u w in let q : 5 ≡ 2 = rw c.cuts at k.0 in omega arith);
        }
      where
        expected-next : (z : rules.Symbol) → Cuts t z y → Cuts t (symbol_at t (end_of z)) n
        expected-next z c = rw (is-yes is_number (counts t y u w).0 z c) at ((expected is_number e).reads z c).next

-- ---- TEXT and MTEXT
no-fault : (y : Symbol) (m : Bool) → y.code ≡ text_code m → y.code ≡ 5 → ⊥
no-fault y true k e = omega arith
no-fault y false k e = omega arith

module _ {t : List ℕ} {y : Symbol} where
  text-test : (z : rules.Symbol) → Cuts t z y → (x : Bool) → (eqb y.code 79 || eqb y.code 80) ≡ x
      → is_one_word (ascii "TEXT" ∷ ascii "MTEXT" ∷ []) z ≡ x
  text-test z c x e =
      is-one-word (ascii "TEXT") (ascii "MTEXT") 79 80 refl refl z c.stands.coded ∙ (rw c.cuts at e)

  is-text : (m : Bool) → y.code ≡ text_code m → (z : rules.Symbol) → Cuts t z y
      → is_one_word (ascii "TEXT" ∷ ascii "MTEXT" ∷ []) z ≡ true
  is-text true k z c = text-test z c true (rw k)
  is-text false k z c = text-test z c true (rw k)

  no_text : (y.code ≡ 79 → ⊥) → (y.code ≡ 80 → ⊥) → (z : rules.Symbol) → Cuts t z y
      → is_one_word (ascii "TEXT" ∷ ascii "MTEXT" ∷ []) z ≡ false
  no_text f g z c = text-test z c false (rw (ne_eqb y.code 79 f, ne_eqb y.code 80 g))

  text-kind : (m : Bool) → y.code ≡ text_code m → (z : rules.Symbol) → Cuts t z y → same z.bytes (ascii "MTEXT") ≡ m
  text-kind true k z c = rw (word_bytes (ascii "MTEXT") 80 refl k z c)
  text-kind false k z c = rw (word_bytes (ascii "TEXT") 79 refl k z c)

  module _ (m : Bool) (k : y.code ≡ text_code m) {z : Symbol} (e : z ≡ passed t y y.code) where
    text-with : {v : Meaning} {n : Symbol} (q : Reader (Option rules.Symbol)) → v.reference ≡ None
        → Reads t q (λ o. v.meant ≡ limit_of m o) z n
        → Reads t (expect (is_one_word (ascii "TEXT" ∷ ascii "MTEXT" ∷ []))
        >>= λ w. q >>= λ o. ret (text (same w.bytes (ascii "MTEXT")) o)) (Plainly v) y n
    text-with q i r =
        bind (taken (is-text m k) (no-fault y m k) e) (λ w c. mapped (λ o. text (same w.bytes (ascii "MTEXT")) o) r
        (λ o h. (rw (text-kind m k w c) h, i, λ _ _. tt))) r.passes

    pub text-limited : {v : Meaning} {s n : Symbol} → z.code ≡ 42 → s ≡ passed t z 42
        → Reads t text_length (λ x. v.meant ≡ limit_of m (some x)) s n → v.reference ≡ None
        → Reads t text_type (Plainly v) y n
    unfolding text_type
    text-limited f g r h =
        let star = is-mark "*" (omega arith) (omega arith) in
        text-with _ h (if-true (is_mark "*") _ _ (is-yes star f)
        (mapped some (bind (expected star g) (λ _ _. r) r.passes) (λ x h. h)))

    pub text-free : {kind : ℕ} → kind ≡ text_kind m → (z.code ≡ 42 → ⊥)
        → Reads t text_type (Plainly (record { meant = Text kind; reference = None })) y z
    unfolding text_type
    text-free h f = text-with _ refl
        (if-false (is_mark "*") _ _ (is-no (is-mark "*" (omega arith) (omega arith)) f) (stay none (ap Text h)))

-- ---- numbers
pub range-reads : {t : List ℕ} {y d z m n : Symbol} {a b : Number} {u : code·Option Reference} → d ≡ passed t y 2
    → z ≡ passed t d 4 → m ≡ passed t z 2
    → ((w : rules.Symbol) → Cuts t w y → y.code ≡ 2 → a ≡ number_of w.bytes)
    → ((w : rules.Symbol) → Cuts t w z → z.code ≡ 2 → b ≡ number_of w.bytes)
    → Reads t optional_unit (λ r. u ≡ optional_of r) m n
    → Reads t range_type (Plainly (record { meant = Range a b; reference = u })) y n
unfolding range_type
range-reads e₁ e₂ e₃ f g r =
    let first = passes-by is_number e₁ in
    let second = expected is-dots e₂ in
    let third = passes-by is_number e₃ in
    let last = onward third.passes r.passes in
    bind first (λ u h. bind second (λ _ _. bind third (λ w k.
    mapped (λ o. numeric (some (record { first = u; second = w })) o) r
    (λ o q. (rw (f u h.0 h.1, g w k.0 k.1), q, λ _ _. tt))) r.passes) last)
    (onward second.passes last)

numeric-word : Test (is_word (ascii "NUMERIC")) 81
numeric-word = is_word_lem (ascii "NUMERIC") 81 refl

pub numeric-reads : {t : List ℕ} {y m n : Symbol} {u : code·Option Reference} → m ≡ passed t y 81
    → Reads t optional_unit (λ r. u ≡ optional_of r) m n
    → Reads t numeric_type (Plainly (record { meant = Numeric; reference = u })) y n
unfolding numeric_type
numeric-reads e r =
    bind (expected numeric-word e) (λ _ _. mapped (numeric none) r (λ o q. (refl, q, λ _ _. tt))) r.passes

-- ---- types
module _ {t : List ℕ} {y n : Symbol} where
  pub type-text : {P : WrittenType → Type 0} (m : Bool) → y.code ≡ text_code m
      → Reads t text_type P y n → Reads t type_of P y n
  unfolding type_of
  type-text m k r = if-true (is_one_word (ascii "TEXT" ∷ ascii "MTEXT" ∷ [])) _ _ (is-text m k) r

  pub type-numeric : {P : WrittenType → Type 0} → y.code ≡ 81 → Reads t numeric_type P y n → Reads t type_of P y n
  unfolding type_of
  type-numeric k r =
      if-false (is_one_word (ascii "TEXT" ∷ ascii "MTEXT" ∷ [])) _ _ (no_text (omega arith) (omega arith))
      (if-true (is_word (ascii "NUMERIC")) _ _ (is-yes numeric-word k) r)

  pub type-range : {P : WrittenType → Type 0} → (y.code ≡ 79 → ⊥) → (y.code ≡ 80 → ⊥)
      → (y.code ≡ 81 → ⊥) → (y.code ≡ 40 → ⊥)
      → Reads t range_type P y n → Reads t type_of P y n
  unfolding type_of
  type-range a b c d r =
      if-false (is_one_word (ascii "TEXT" ∷ ascii "MTEXT" ∷ [])) _ _ (no_text a b)
      (if-false (is_word (ascii "NUMERIC")) _ _ (is-no numeric-word c)
      (if-false (is_mark "(") _ _ (is-no (is-mark "(" (omega arith) (omega arith)) d) r))

  pub type-enum : (o : List ℕ) {p : List ℕ} {u : ℕ} → y.code ≡ 40
      → Reads t (enumeration (enough t) deepest) (Whole o p u) y n
      → Reads t type_of (Means o p (record { meant = Enumeration u; reference = None })) y n
  unfolding type_of
  type-enum o k r =
      if-false (is_one_word (ascii "TEXT" ∷ ascii "MTEXT" ∷ [])) _ _ (no_text (omega arith) (omega arith))
      (if-false (is_word (ascii "NUMERIC")) _ _ (is-no numeric-word (omega arith))
      (if-true (is_mark "(") _ _ (is-yes (is-mark "(" (omega arith) (omega arith)) k)
      (mapped {R = λ s z. enumeration (enough s) deepest s z} enum (record { reads = r.reads; passes = r.passes })
      (λ e h. (ap Enumeration h.0, refl, h.1)))))

  pub type-plain : {o : List ℕ} {v : Meaning} → Reads t type_of (Plainly v) y n → Reads t type_of (Means o o v) y n
  type-plain {o} r = weaker r (λ x h. (h.0, h.1, h.2 o o))

  pub type-named : {o : List ℕ} {v : Reference} → y.code ≡ 1 → Reads t reference (λ a. v ≡ reference_of a) y n
      → Reads t type_or_reference (Means o o (record { meant = Named; reference = Some v })) y n
  unfolding type_or_reference
  type-named k r = if-true (is_kind name) _ _ (is-yes is_name k) (mapped named r (λ a h. (refl, ap Some h, tt)))

  pub type-other : {P : WrittenType → Type 0} → (y.code ≡ 1 → ⊥) → Reads t type_of P y n
      → Reads t type_or_reference P y n
  unfolding type_or_reference
  type-other k r = if-false (is_kind name) _ _ (is-no is_name k) r

-- ---- MANDATORY
pub semicolon : Test (is_mark ";") 59
semicolon = is-mark ";" (omega arith) (omega arith)

module _ {t o : List ℕ} {y : Symbol} (based or-reference : Bool) where
  pub alone : based ≡ true → y.code ≡ 59
      → Reads t (mandatory_by based (type_by or-reference))
      (MeansAny o o (record { meant = Alone; reference = None })) y y
  alone h k =
      if-true (λ z. based && is_mark ";" z) _ _ (λ z c. both h (is-yes semicolon k z c)) (stay none (refl, refl, tt))

module _ {t : List ℕ} (o : List ℕ) {p : List ℕ} {y n : Symbol} (based or-reference : Bool) {v : Meaning} where
  pub not-alone : ((z : rules.Symbol) → Cuts t z y → (based && is_mark ";" z) ≡ false)
      → Reads t (type_by or-reference) (Means o p v) y n
      → Reads t (mandatory_by based (type_by or-reference)) (MeansAny o p v) y n
  not-alone h r = if-false (λ z. based && is_mark ";" z) _ _ h (mapped some r (λ x q. q))

pub here_reads : {t : List ℕ} {y : Symbol} → Reads t place_of_next (λ p. y.place ≡ p) y y
here_reads = record {
  reads = λ z c. record { next = c; value = ap (λ (x : Symbol). x.place) c.cuts };
  passes = λ f p c. c;
}

mandatory-word : Test (is_word (ascii "MANDATORY")) 78
mandatory-word = is_word_lem (ascii "MANDATORY") 78 refl

module _ {t : List ℕ} (o : List ℕ) {p : List ℕ} {y n : Symbol} (based or-reference : Bool) {v : Meaning} where
  pub with-mandatory : {z : Symbol} → y.code ≡ 78 → z ≡ passed t y 78
      → Reads t (mandatory_by based (type_by or-reference)) (MeansAny o p v) z n
      → Reads t (written based (type_by or-reference))
      (MeansAll o p (record { mandatory = true; place = z.place; meant = v.meant; reference = v.reference })) y n
  unfolding written
  with-mandatory k e r =
      if-true (is_word (ascii "MANDATORY")) _ _ (is-yes mandatory-word k) (bind (expected mandatory-word e)
      (λ _ _. bind here_reads (λ i q. mapped (λ x. record { mandatory = true; place = i; type = x }) r
      (λ x h. (rw (q, h.0, h.1), h.2))) r.passes) r.passes)

  pub not-mandatory : (y.code ≡ 78 → ⊥) → Reads t (type_by or-reference) (Means o p v) y n →
      Reads t (written based (type_by or-reference))
      (MeansAll o p (record { mandatory = false; place = y.place; meant = v.meant; reference = v.reference })) y n
  unfolding written
  not-mandatory k r =
      if-false (is_word (ascii "MANDATORY")) _ _ (is-no mandatory-word k)
      (bind here_reads (λ i q.
      mapped (λ x. record { mandatory = false; place = i; type = some x }) r
      (λ x h. (rw (q, h.0, h.1), h.2))) r.passes)

-- ---- behind a symbol that is taken
pub held-behind : {t : List ℕ} {y n : Symbol} → Held t y → n ≡ passed t y y.code → Held t n
held-behind (z, c) e = (_, behind c e)
