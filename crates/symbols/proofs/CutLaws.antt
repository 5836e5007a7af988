-- For the floors above: what holds of every symbol of a text, and the tests of the rules as tests of a symbol's code (a
-- mark is its byte). The place and the end of `symbol_at t i` lie in the text by `next-lies` of the rules; they are
-- those of its cut as they stand.
use mathlib.Core.Path.{◌≡◌, refl, sym, ap, ◌∙◌}
use mathlib.Core.Logic.{◌⊎◌, inl, inr}
use mathlib.Core.Bool.{Bool, true, false, cond, ◌&&◌, ◌||◌}
use mathlib.Core.List.{List, [], ◌∷◌}
use Prim.Native.Nat.{ℕ, zero, suc, ◌+◌, ◌-◌, ◌≤◌, ◌<◌}
use native.Mathlib.Omega.{arith}
use lib.ListN.{length, take, drop, get_or}
use lib.Dec.{eqb, leb, ltb}
use borrow.Author.Tests.{ltb-false, leb-true, eqb-true, eq-eqb, ne_eqb}
use Rattle.rules.specs.Bytes.{same, is_one_of, is, from, is_letter, is_digit, is_word_byte, is_line_end, span}
use Rattle.rules.specs.Reserved.{forms, table}
use Rattle.rules.specs.Symbols.{Fault, Kind, word, name, number, quoted, dots, stop, mark, fault, Symbol, symbol}
use Rattle.rules.specs.Symbols.{end_of}
use Rattle.rules.specs.Symbols.{tag}
use Rattle.rules.specs.Symbols.{Gap, up_to, open_at, apart, gap, Quote, closed, bad, endless, quote, unsigned_length}
use Rattle.rules.specs.Symbols.{digit_count, word_kind, number_kind, a_word, a_number, a_string}
use Rattle.rules.specs.Symbols.{is_mark_byte, symbol_of}
use Rattle.rules.specs.Symbols.{beyond}
use Rattle.rules.specs.Symbols.{symbol_at, most_digits}
use Rattle.rules.proofs.Tests.{never, alike, or_split, split}
use Rattle.rules.proofs.ByteLaws.{same-eq, same_refl}
use Rattle.rules.proofs.SymbolLaws.{either, next-lies}
use Rattle.places.specs.Standing.{position_in, first_line, lines_on, line_to, line_at}
use Rattle.places.proofs.StandingLaws.{line-to, on_line_lem}
use Rattle.places.proofs.LevelLaws.{Level, no_end, level-run, level-two, to_level}
use Rattle.words.specs.Words.{position}
use Rattle.symbols.specs.Cut.{code_of, length_at, position_at, cut_on, cut, start, next_of, NoWord, Sound}
use Rattle.symbols.proofs.LineLaws.{number-level, QuoteLevel, quote-level}
use Rattle.ground.proofs.TableLaws.{test}

-- ---- what holds of a symbol's kind and bytes
pub record Cut (t : List ℕ) (y : Symbol) : Type 0 where
  pub stands : y.bytes ≡ take (length y.bytes) (drop y.place t)
  pub sound : Sound y.kind y.bytes
  pub level : Level y.bytes

take-take-length : (n : ℕ) (s : List ℕ) → take n s ≡ take (length (take n s)) s
take-take-length zero s = refl
take-take-length (suc n) [] = refl
take-take-length (suc n) (b ∷ s) = ap (λ (l : List ℕ). b ∷ l) (take-take-length n s)

-- the bytes of a run pass its test
span_run : (p : ℕ → Bool) (s : List ℕ) → span p (take (span p s) s) ≡ length (take (span p s) s)
span_run p [] = refl
span_run p (b ∷ s) = go (p b) refl (span_run p s)
  where
    go : (c : Bool) → p b ≡ c → span p (take (span p s) s) ≡ length (take (span p s) s) →
        span p (take (cond c (suc (span p s)) zero) (b ∷ s)) ≡ length (take (cond c (suc (span p s)) zero) (b ∷ s))
    go true e h = rw e (ap suc h)
    go false e h = refl

-- a word is a letter with word bytes behind it
word_sound : (b : ℕ) (s : List ℕ) → is_letter b ≡ true → span is_word_byte s ≡ length s
    → Sound (word_kind (b ∷ s)) (b ∷ s)
word_sound b s l q =
    either (λ k. Sound k w) (ltb 255 (length w)) (λ _. tt)
    (λ e. either (λ k. Sound k w) (is_one_of w forms) (λ f. f)
    (λ f. either (λ k. Sound k w) (is_one_of w table) (λ _. tt)
    (λ g. (ltb-false 255 (length w) e, let r = eq-eqb (span is_word_byte s) (length s) q in rw (l, r, e, f, g)))))
  where
    w : List ℕ
    w = b ∷ s

number-sound : (b : List ℕ) → Sound (number_kind b) b
number-sound b =
    either (λ k. Sound k b) (ltb most_digits (digit_count b)) (λ _. tt) (λ e. ltb-false most_digits (digit_count b) e)

mark-sound : (b : ℕ) → is_mark_byte b ≡ true → (40 ≤ b) × NoWord b
mark-sound b e = one (or_split {x = from "(" "*" b} e)
  where
    range : (c d : ℕ) → 40 ≤ c → d < 64 → (leb c b && leb b d) ≡ true → (40 ≤ b) × NoWord b
    range c d h l p =
        let (x, y) = split {x = leb c b} p in
        (omega (arith, leb-true c b x), inl (omega (arith, leb-true b d y)))

    five : (is "[" b ≡ true) ⊎ (is "]" b ≡ true) → (40 ≤ b) × NoWord b
    five (inl p) = let q = eqb-true b 91 p in (omega arith, inr (omega arith))
    five (inr p) = let q = eqb-true b 93 p in (omega arith, inr (omega arith))

    four : (is "=" b ≡ true) ⊎ ((is "[" b || is "]" b) ≡ true) → (40 ≤ b) × NoWord b
    four (inl p) = let q = eqb-true b 61 p in (omega arith, inl (omega arith))
    four (inr p) = five (or_split {x = is "[" b} p)

    three : (from ":" ";" b ≡ true) ⊎ ((is "=" b || (is "[" b || is "]" b)) ≡ true) → (40 ≤ b) × NoWord b
    three (inl p) = range 58 59 (omega arith) (omega arith) p
    three (inr p) = four (or_split {x = is "=" b} p)

    two : (is "," b ≡ true) ⊎ ((from ":" ";" b || (is "=" b || (is "[" b || is "]" b))) ≡ true)
        → (40 ≤ b) × NoWord b
    two (inl p) = let q = eqb-true b 44 p in (omega arith, inl (omega arith))
    two (inr p) = three (or_split {x = from ":" ";" b} p)

    one : (from "(" "*" b ≡ true) ⊎ ((is "," b || (from ":" ";" b || (is "=" b || (is "[" b || is "]" b)))) ≡ true)
        → (40 ≤ b) × NoWord b
    one (inl p) = range 40 42 (omega arith) (omega arith) p
    one (inr p) = two (or_split {x = is "," b} p)

module _ (t : List ℕ) (k : ℕ) where
  empty-cut : (f : Fault) (p : ℕ) → Cut t (symbol (fault f) p [])
  empty-cut f p = record { stands = refl; sound = tt; level = tt }

  first-cut : (y : Kind) (n : ℕ) → Sound y (take n (drop k t)) → Level (take n (drop k t))
      → Cut t (symbol y k (take n (drop k t)))
  first-cut y n h l = record { stands = take-take-length n (drop k t); sound = h; level = l }

  number_cut_lem : (n : ℕ) → Level (take n (drop k t)) → Cut t (a_number k (take n (drop k t)))
  number_cut_lem n l = first-cut (number_kind (take n (drop k t))) n (number-sound (take n (drop k t))) l

  module _ (b : ℕ) (s : List ℕ) (e : drop k t ≡ b ∷ s) where
    word_cut_lem : is_letter b ≡ true → Cut t (a_word k (take (suc (span is_word_byte s)) (b ∷ s)))
    word_cut_lem l =
        let w = take (span is_word_byte s) s in
        let v : Level (b ∷ w) = (no_end is_letter refl refl b l, level-run is_word_byte refl refl s) in
        rw e at (first-cut (word_kind (b ∷ w)) (suc (span is_word_byte s))
        (rw e (word_sound b w l (span_run is_word_byte s))) (rw e v))

    signed_cut_lem : (is "+" b || is "-" b) ≡ true → Cut t (a_number k (take (suc (unsigned_length s)) (b ∷ s)))
    signed_cut_lem l =
        let v : is_line_end b ≡ false = no_end (λ x. is "+" x || is "-" x) refl refl b l in
        rw e at (number_cut_lem (suc (unsigned_length s)) (rw e (v, number-level s)))

    string-cut : is_line_end b ≡ false → (q : Quote) → QuoteLevel s 0 q → Cut t (a_string k (b ∷ s) q)
    string-cut v (closed n) l =
        let z : n - 0 ≡ n = omega arith in
        rw e at (first-cut quoted (suc (suc n)) tt (rw e (v, rw z at l.1)))
    string-cut v (bad n) l = empty-cut _ _
    string-cut v endless l = empty-cut _ _

    mark-cut : is_line_end b ≡ false → (40 ≤ b) × NoWord b → Cut t (symbol (mark b) k (b ∷ []))
    mark-cut v h = rw e at (first-cut (mark b) 1 h (rw e (v, tt)))

    dot-cut : is "." b ≡ true → Cut t
        (cond (is "." (get_or s 0 0)) (symbol dots k (take 2 (b ∷ s))) (symbol (mark b) k (b ∷ [])))
    dot-cut p =
        let q = eqb-true b 46 p in
        let v : is_line_end b ≡ false = no_end (λ x. is "." x) refl refl b p in
        either (Cut t) (is "." (get_or s 0 0))
        (λ r. rw e at (first-cut dots 2 tt
        (rw e (level-two (b ∷ s) v (no_end (λ x. is "." x) refl refl (get_or s 0 0) r)))))
        (λ _. mark-cut v (omega arith, inl (omega arith)))

  of_cut : (s : List ℕ) → drop k t ≡ s → Cut t (symbol_of k s)
  unfolding symbol_of
  of_cut [] e = record { stands = refl; sound = tt; level = tt }
  of_cut (b ∷ s) e =
      either (Cut t) (is_letter b) (word_cut_lem b s e)
      (λ _. either (Cut t) (is_digit b)
      (λ _. rw e at (number_cut_lem (unsigned_length (b ∷ s)) (rw e (number-level (b ∷ s)))))
      (λ _. either (Cut t) ((is "+" b || is "-" b) && is_digit (get_or s 0 0))
      (λ p. signed_cut_lem b s e (split {x = is "+" b || is "-" b} p).0)
      (λ _. either (Cut t) (is "\"" b)
      (λ p. string-cut b s e (no_end (λ x. is "\"" x) refl refl b p) (quote s 0 0) (quote-level s 0 0 tt))
      (λ _. either (Cut t) (is_mark_byte b) (λ m. mark-cut b s e (no_end is_mark_byte refl refl b m) (mark-sound b m))
      (λ _. either (Cut t) (is "." b) (dot-cut b s e) (λ _. empty-cut _ _))))))

beyond-cut : (t : List ℕ) (g : Gap) → Cut t (beyond t g)
beyond-cut t (up_to k) = of_cut t k (drop k t) refl
beyond-cut t (open_at k) = empty-cut t 0 _ k

pub cut_at : (t : List ℕ) (i : ℕ) → Cut t (symbol_at t i)
unfolding symbol_at
cut_at t i = beyond-cut t (gap (drop i t) apart i)

-- ---- its bytes
pub its-length : (t : List ℕ) (y : Symbol) → length_at (cut t y) ≡ length y.bytes
its-length t y = omega arith

-- ---- lines
-- the place behind a symbol of the text stands on its line
pub same_line : (t : List ℕ) (y : Symbol) → Cut t y → line_at t (end_of y) ≡ line_at t y.place
same_line t y c =
    let n = length y.bytes in
    let z : end_of y - y.place ≡ n = omega arith in
    sym (line-to t y.place (end_of y) (omega arith))
    ∙ to_level t y.place (end_of y) (line_at t y.place) (rw (z, ← c.stands) c.level)

-- the line and the column of a symbol of the text are those of its place
pub its-position : (t : List ℕ) (y : Symbol) → y.place ≤ length t → y.place < 4294967295
    → position_at (cut t y) ≡ position_in t y.place
its-position t y h l = on_line_lem t y.place h l

pub next-first : (t : List ℕ) → next_of t start ≡ cut t (symbol_at t 0)
unfolding next_of
next-first t =
    let z : (symbol_at t 0).place - 0 ≡ (symbol_at t 0).place = omega arith in
    ap (λ n. cut_on (lines_on t 0 n first_line) (symbol_at t 0)) z

-- behind the symbol y of the text
pub next-cut : (t : List ℕ) (y : Symbol) → line_at t (end_of y) ≡ line_at t y.place → end_of y ≤ length t
    → next_of t (cut t y).next ≡ cut t (symbol_at t (end_of y))
unfolding next_of
next-cut t y e h =
    let p = (symbol_at t (end_of y)).place in
    ap (λ x. cut_on x (symbol_at t (end_of y)))
    (ap (line_to t (end_of y) p) (sym e) ∙ line-to t (end_of y) p (next-lies t (end_of y) h).starts)

-- ---- tests on a symbol's kind and bytes are tests on its code
neither : (a b c d : ℕ) → ¬ (a ≡ b) → ¬ (c ≡ d) → eqb a b ≡ eqb c d
neither a b c d p q = ne_eqb a b p ∙ sym (ne_eqb c d q)

-- no word of the forms has the code of a mark
position-most : (b : List ℕ) (l : List (List ℕ)) → position b l ≤ length l
position-most b [] = omega arith
position-most b (w ∷ l) =
    let go = position-most b l in
    test (same b w) (λ e. rw e (omega arith)) (λ e. rw e (omega arith))

no_word : (m : ℕ) → NoWord m → (b : List ℕ) → 64 + position b forms ≡ m → ⊥
no_word m (inl h) b e = omega arith
no_word m (inr h) b e = let l : position b forms ≤ 19 = position-most b forms in omega arith

pub mark_of : (m : ℕ) → 5 < m → NoWord m → (k : Kind) (b : List ℕ) → eqb (tag k) (7 + m) ≡ eqb (code_of k b) m
mark_of m h l word b = neither 0 (7 + m) (64 + position b forms) m (λ e. omega arith) (no_word m l b)
mark_of m h l name b = neither 1 (7 + m) 1 m (λ e. omega arith) (λ e. omega arith)
mark_of m h l number b = neither 2 (7 + m) 2 m (λ e. omega arith) (λ e. omega arith)
mark_of m h l quoted b = neither 3 (7 + m) 3 m (λ e. omega arith) (λ e. omega arith)
mark_of m h l dots b = neither 4 (7 + m) 4 m (λ e. omega arith) (λ e. omega arith)
mark_of m h l stop b = neither 5 (7 + m) 0 m (λ e. omega arith) (λ e. omega arith)
mark_of m h l (fault f) b = neither 6 (7 + m) 5 m (λ e. omega arith) (λ e. omega arith)
mark_of m h l (mark x) b =
    alike (λ p. let e = eqb-true (7 + x) (7 + m) p in eq-eqb x m (omega arith))
    (λ p. let e = eqb-true x m p in eq-eqb (7 + x) (7 + m) (omega arith))

-- name 1, number 2, quoted 3, dots 4
pub kind-of : (n : ℕ) → 0 < n → n < 5 → (k : Kind) (b : List ℕ) → Sound k b → eqb (tag k) n ≡ eqb (code_of k b) n
kind-of n h l word b s = neither 0 n (64 + position b forms) n (λ e. omega arith) (λ e. omega arith)
kind-of n h l name b s = refl
kind-of n h l number b s = refl
kind-of n h l quoted b s = refl
kind-of n h l dots b s = refl
kind-of n h l stop b s = neither 5 n 0 n (λ e. omega arith) (λ e. omega arith)
kind-of n h l (fault f) b s = neither 6 n 5 n (λ e. omega arith) (λ e. omega arith)
kind-of n h l (mark x) b s = neither (7 + x) n x n (λ e. omega arith) (λ e. omega arith)

pub stop-of : (k : Kind) (b : List ℕ) → Sound k b → eqb (tag k) 5 ≡ eqb (code_of k b) 0
stop-of word b s = neither 0 5 (64 + position b forms) 0 (λ e. omega arith) (λ e. omega arith)
stop-of name b s = refl
stop-of number b s = refl
stop-of quoted b s = refl
stop-of dots b s = refl
stop-of stop b s = refl
stop-of (fault f) b s = refl
stop-of (mark x) b s = neither (7 + x) 5 x 0 (λ e. omega arith) (λ e. omega arith)

-- a word of a list that is at another's position is that other
position-same : (b w : List ℕ) (l : List (List ℕ)) → is_one_of b l ≡ true
    → position b l ≡ position w l → same b w ≡ true
position-same b w [] h e = never h
position-same b w (v ∷ l) h e =
    let go = position-same b w l in
    test (same w v)
    (λ p.
    test (same b v) (λ q. let x = same-eq b v q in let y = same-eq w v p in let z : b ≡ w = cc in rw z (same_refl w))
    (λ q. absurd (let z : suc (position b l) ≡ 0 = rw (p, q) at e in omega arith)))
    (λ p.
    test (same b v) (λ q. absurd (let z : 0 ≡ suc (position w l) = rw (p, q) at e in omega arith))
    (λ q.
    let z : suc (position b l) ≡ suc (position w l) = rw (p, q) at e in
    go (rw q at h) (omega arith)))

-- a word of the forms is 64 and its position
pub word_of : (w : List ℕ) (k : Kind) (b : List ℕ) → Sound k b
    → (eqb (tag k) 0 && same b w) ≡ eqb (code_of k b) (64 + position w forms)
word_of w word b s =
    alike (λ p.
    eq-eqb (64 + position b forms) (64 + position w forms) (ap (λ (x : List ℕ). 64 + position x forms) (same-eq b w p)))
    (λ p. let e = eqb-true (64 + position b forms) (64 + position w forms) p in position-same b w forms s (omega arith))
word_of w name b s = sym (ne_eqb 1 (64 + position w forms) (λ e. omega arith))
word_of w number b s = sym (ne_eqb 2 (64 + position w forms) (λ e. omega arith))
word_of w quoted b s = sym (ne_eqb 3 (64 + position w forms) (λ e. omega arith))
word_of w dots b s = sym (ne_eqb 4 (64 + position w forms) (λ e. omega arith))
word_of w stop b s = sym (ne_eqb 0 (64 + position w forms) (λ e. omega arith))
word_of w (fault f) b s = sym (ne_eqb 5 (64 + position w forms) (λ e. omega arith))
word_of w (mark x) b s =
    rw (ne_eqb (7 + x) 0 (λ e. omega arith)) (sym (ne_eqb x (64 + position w forms) (λ e. no_word x s.1 w (sym e))))
