-- "Sizes": a number symbol is within the limits of digits and, as one digit stands before the dot, of decimals.
use mathlib.Core.Path.{◌≡◌, refl, sym, ap}
use mathlib.Core.Logic.{⊎_elim}
use mathlib.Core.Bool.{Bool, true, false, cond, ◌&&◌, ◌||◌}
use mathlib.Core.List.{List, [], ◌∷◌}
use Prim.Native.Nat.{ℕ, zero, suc, ◌+◌, ◌≤◌, ◌<◌}
use native.Mathlib.Nat.{suc-add, zero-add, add-zero, add-suc, lt_of_not-le}
use native.Mathlib.Omega.{arith}
use borrow.Author.Tests.{eqb-true, leb-true, ltb-false, ne_eqb}
use lib.ListN.{length, take, drop, get_or, length-take, get_or-eq_default}
use lib.Seq.{drop-cons}
use lib.Dec.{leb, ltb}
use Rattle.rules.specs.Bytes.{is, is_letter, is_digit, is_word_byte, is_one_of, span}
use Rattle.rules.specs.Symbols.{Kind, Symbol, Quote, Gap, number, symbol, tag, closed, bad, endless, up_to, open_at}
use Rattle.rules.specs.Symbols.{gap}
use Rattle.rules.specs.Symbols.{apart, quote}
use Rattle.rules.specs.Symbols.{digit_count, unsigned_length, word_kind, number_kind, a_string, is_mark_byte, symbol_of}
use Rattle.rules.specs.Symbols.{beyond}
use Rattle.rules.specs.Symbols.{symbol_at, most_digits}
use Rattle.rules.specs.Reserved.{forms, table}
use Rattle.rules.specs.Numbers.{most_decimals, decimals_of}
use Rattle.rules.proofs.Tests.{never, split, or_split}
use Rattle.rules.proofs.SymbolLaws.{either}

digit-no-dot : (b : ℕ) → is_digit b ≡ true → is "." b ≡ false
digit-no-dot b p = ne_eqb b 46 (λ e. omega (arith, leb-true 48 b (split {x = leb 48 b} p).0))

-- ---- past the digits at the front of s, with j bytes more
module _ (j b : ℕ) (s : List ℕ) where
  -- the digits at the front of b ∷ s, if b is one or is none
  abbrev run : Bool → ℕ
  run t = cond t (suc (span is_digit s)) zero

  decimals-by : (t : Bool) → is_digit b ≡ t
      → decimals_of (take (span is_digit s + j) s) ≡ decimals_of (take j (drop (span is_digit s) s))
      → decimals_of (take (run t + j) (b ∷ s)) ≡ decimals_of (take j (drop (run t) (b ∷ s)))
  decimals-by true p r = rw (suc-add, digit-no-dot b p) r
  decimals-by false p r = rw zero-add

  digits-by : (t : Bool) → is_digit b ≡ t →
      digit_count (take (span is_digit s + j) s) ≡ span is_digit s + digit_count (take j (drop (span is_digit s) s)) →
      digit_count (take (run t + j) (b ∷ s)) ≡ run t + digit_count (take j (drop (run t) (b ∷ s)))
  digits-by true p r = rw (suc-add, suc-add, p) (ap suc r)
  digits-by false p r = rw (zero-add, zero-add)

past-decimals : (j : ℕ) (s : List ℕ)
    → decimals_of (take (span is_digit s + j) s) ≡ decimals_of (take j (drop (span is_digit s) s))
past-decimals j [] = rw zero-add
past-decimals j (b ∷ s) = decimals-by j b s (is_digit b) refl (past-decimals j s)

past-digits : (j : ℕ) (s : List ℕ)
    → digit_count (take (span is_digit s + j) s) ≡ span is_digit s + digit_count (take j (drop (span is_digit s) s))
past-digits j [] = rw (zero-add, zero-add)
past-digits j (b ∷ s) = digits-by j b s (is_digit b) refl (past-digits j s)

count-more : (b : ℕ) (l : List ℕ) → digit_count l ≤ digit_count (b ∷ l)
count-more b l = either (digit_count l ≤◌) (is_digit b) (λ _. omega arith) (λ _. omega arith)

-- ---- a number without its sign has more digits than decimals
module _ (s : List ℕ) where
  -- how many digits stand before the dot, and behind it
  abbrev front : ℕ
  front = span is_digit s

  abbrev back : ℕ
  back = span is_digit (drop (suc front) s)

  dot-inside : is "." (get_or s front 0) ≡ true → front < length s
  dot-inside p =
      lt_of_not-le (λ h. omega (arith, eqb-true (get_or s front 0) 46 p, get_or-eq_default s 0 {n = front} h))

  few-by : 0 < front → (t : Bool) → (t ≡ true → is "." (get_or s front 0) ≡ true) →
      decimals_of (take (cond t (suc (front + back)) front) s)
      < digit_count (take (cond t (suc (front + back)) front) s)
  few-by h false p = omega (arith, rw add-zero at (past-decimals 0 s), rw add-zero at (past-digits 0 s))
  few-by h true p =
      let b = get_or s front 0 in
      let u = drop (suc front) s in
      let e = drop-cons s front 0 (dot-inside (p refl)) in
      let l : take (suc (front + back)) s
      ≡ take (front + suc back) s = ap (λ (n : ℕ). take n s) (sym (add-suc front back)) in
      let d : decimals_of (take (front + suc back) s) ≡ length (take back u) = rw (past-decimals, e, p refl) in
      let c : digit_count (take (front + suc back) s) ≡ front + digit_count (b ∷ take back u) = rw (past-digits, e) in
      omega (
        arith,
        ap decimals_of l,
        ap digit_count l,
        d,
        c,
        count-more b (take back u),
        length-take back u,
        rw add-zero at (past-digits 0 u),
      )

few : (b : ℕ) (s : List ℕ) → is_digit b ≡ true
    → decimals_of (take (unsigned_length (b ∷ s)) (b ∷ s)) < digit_count (take (unsigned_length (b ∷ s)) (b ∷ s))
few b s p =
    let dot = is "." (get_or (b ∷ s) (front (b ∷ s)) 0) in
    let digit = is_digit (get_or (b ∷ s) (suc (front (b ∷ s))) 0) in
    few-by (b ∷ s) (rw p (omega arith)) (dot && digit) (λ q. (split {x = dot} {y = digit} q).0)

-- with a sign b
few-signed : (b : ℕ) (s : List ℕ) → ((is "+" b || is "-" b) && is_digit (get_or s 0 0)) ≡ true →
    decimals_of (b ∷ take (unsigned_length s) s) < digit_count (b ∷ take (unsigned_length s) s)
few-signed b [] p = never (split {x = is "+" b || is "-" b} p).1
few-signed b (d ∷ s) p =
    let r = split {x = is "+" b || is "-" b} p in
    let e : is "." b ≡ false =
    ne_eqb b 46 (⊎_elim (λ q e. omega (arith, eqb-true b 43 q)) (λ q e. omega (arith, eqb-true b 45 q))
    (or_split {x = is "+" b} r.0)) in
    rw e (omega (arith, few d s r.1, count-more b (take (unsigned_length (d ∷ s)) (d ∷ s))))

-- ---- number symbols
pub record Sized (b : List ℕ) : Type 0 where
  pub digits : digit_count b ≤ most_digits
  pub decimals : decimals_of b ≤ most_decimals

-- a record, so that antt reads the symbol off it
record SizedNumber (y : Symbol) : Type 0 where
  sized : y.kind ≡ number → Sized y.bytes

other : {k : Kind} {p : ℕ} {b : List ℕ} → ¬ (tag k ≡ 2) → SizedNumber (symbol k p b)
other f = record { sized = λ q. absurd (f (ap tag q)) }

word-tag : (b : List ℕ) → ¬ (tag (word_kind b) ≡ 2)
word-tag b =
    either (λ k. ¬ (tag k ≡ 2)) (ltb 255 (length b)) (λ _ q. omega arith)
    (λ _. either (λ k. ¬ (tag k ≡ 2)) (is_one_of b forms) (λ _ q. omega arith)
    (λ _. either (λ k. ¬ (tag k ≡ 2)) (is_one_of b table) (λ _ q. omega arith) (λ _ q. omega arith)))

counted : {p : ℕ} (b : List ℕ) → decimals_of b < digit_count b → SizedNumber (symbol (number_kind b) p b)
counted {p} b h =
    either (λ k. SizedNumber (symbol k p b)) (ltb most_digits (digit_count b)) (λ _. other (λ q. omega arith))
    (λ e. let l = ltb-false most_digits (digit_count b) e in
    record { sized = λ _. record { digits = l; decimals = omega (arith, l) } })

string-sized : (k : ℕ) (s : List ℕ) (q : Quote) → SizedNumber (a_string k s q)
string-sized k s (closed n) = other (λ q. omega arith)
string-sized k s (bad n) = other (λ q. omega arith)
string-sized k s endless = other (λ q. omega arith)

symbol-sized : (k : ℕ) (s : List ℕ) → SizedNumber (symbol_of k s)
unfolding symbol_of
symbol-sized k [] = other (λ q. omega arith)
symbol-sized k (b ∷ s) =
    either SizedNumber (is_letter b) (λ _. other (word-tag (take (suc (span is_word_byte s)) (b ∷ s))))
    (λ _. either SizedNumber (is_digit b) (λ e. counted _ (few b s e))
    (λ _. either SizedNumber ((is "+" b || is "-" b) && is_digit (get_or s 0 0)) (λ e. counted _ (few-signed b s e))
    (λ _. either SizedNumber (is "\"" b) (λ _. string-sized k (b ∷ s) (quote s 0 0))
    (λ _. either SizedNumber (is_mark_byte b) (λ _. other (λ q. omega arith))
    (λ _. either SizedNumber (is "." b)
    (λ _. either SizedNumber (is "." (get_or s 0 0)) (λ _. other (λ q. omega arith)) (λ _. other (λ q. omega arith)))
    (λ _. other (λ q. omega arith)))))))

beyond-sized : (t : List ℕ) (g : Gap) → SizedNumber (beyond t g)
beyond-sized t (up_to k) = symbol-sized k (drop k t)
beyond-sized t (open_at k) = other (λ q. omega arith)

-- the next symbol of a text, if it is a number
pub number-sized : (t : List ℕ) (at : ℕ) → (symbol_at t at).kind ≡ number → Sized (symbol_at t at).bytes
unfolding symbol_at
number-sized t at = (beyond-sized t (gap (drop at t) apart at)).sized
