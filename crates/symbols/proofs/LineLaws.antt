-- No symbol holds a line end, and none stands in a string before a byte that is not allowed.
use mathlib.Core.Path.{◌≡◌, refl}
use mathlib.Core.Bool.{true, false, not, ◌&&◌, ◌||◌}
use mathlib.Core.List.{List, [], ◌∷◌}
use Prim.Native.Nat.{ℕ, zero, suc, ◌+◌, ◌-◌, ◌≤◌, ◌<◌}
use native.Mathlib.Numerals.{add-one}
use native.Mathlib.Omega.{arith}
use lib.ListN.{length, take, drop, get_or}
use lib.Seq.{drop-cons}
use lib.Dec.{eqb, ltb}
use Rattle.rules.specs.Bytes.{is, is_digit, is_hexadecimal, is_line_end, span}
use Rattle.rules.specs.Symbols.{Quote, closed, bad, endless, escape, quote, unsigned_length, a_string}
use Rattle.rules.proofs.Tests.{split}
use Rattle.rules.proofs.SymbolLaws.{either}
use Rattle.places.specs.declared.Line.{Line}
use Rattle.places.specs.Standing.{line_to}
use Rattle.places.proofs.StandingLaws.{to-here}
use Rattle.places.proofs.LevelLaws.{Level, no_end, level-run, level-over, to_level}

-- ---- numbers
pub number-level : (s : List ℕ) → Level (take (unsigned_length s) s)
number-level s =
    let n = span is_digit s in
    let h = level-run is_digit refl refl s in
    either (λ m. Level (take m s)) (is "." (get_or s n 0) && is_digit (get_or s (suc n) 0))
    (λ e. level-over n (span is_digit (drop (suc n) s)) s h
    (no_end (λ x. is "." x) refl refl (get_or s n 0) (split {x = is "." (get_or s n 0)} e).0)
    (level-run is_digit refl refl (drop (suc n) s))) (λ _. h)

-- ---- strings
-- what belongs to a backslash
escape-level : (s : List ℕ) → Level (take (escape s) s)
escape-level [] = tt
escape-level (b ∷ s) =
    either (λ n. Level (take n (b ∷ s))) (is "\"" b || is "\\" b)
    (λ e. (no_end (λ x. is "\"" x || is "\\" x) refl refl b e, tt))
    (λ _. either (λ n. Level (take n (b ∷ s))) (is "u" b && (is_hexadecimal (get_or s 0 0)
    && (is_hexadecimal (get_or s 1 0) && (is_hexadecimal (get_or s 2 0) && is_hexadecimal (get_or s 3 0)))))
    five (λ _. tt))
  where
    hex : (a : ℕ) → is_hexadecimal a ≡ true → is_line_end a ≡ false
    hex = no_end is_hexadecimal refl refl

    four : (s : List ℕ) → is_hexadecimal (get_or s 0 0) ≡ true → is_hexadecimal (get_or s 1 0) ≡ true
        → is_hexadecimal (get_or s 2 0) ≡ true → is_hexadecimal (get_or s 3 0) ≡ true → Level (take 4 s)
    four [] h k l m = tt
    four (a ∷ []) h k l m = (hex a h, tt)
    four (a ∷ b ∷ []) h k l m = (hex a h, (hex b k, tt))
    four (a ∷ b ∷ c ∷ []) h k l m = (hex a h, (hex b k, (hex c l, tt)))
    four (a ∷ b ∷ c ∷ d ∷ s) h k l m = (hex a h, (hex b k, (hex c l, (hex d m, tt))))

    five : (is "u" b && (is_hexadecimal (get_or s 0 0)
        && (is_hexadecimal (get_or s 1 0) && (is_hexadecimal (get_or s 2 0) && is_hexadecimal (get_or s 3 0))))) ≡ true
        → Level (take 5 (b ∷ s))
    five e =
        let (u, r) = split {x = is "u" b} e in
        let (h, r₁) = split {x = is_hexadecimal (get_or s 0 0)} r in
        let (k, r₂) = split {x = is_hexadecimal (get_or s 1 0)} r₁ in
        let (l, m) = split {x = is_hexadecimal (get_or s 2 0)} r₂ in
        (no_end (λ x. is "u" x) refl refl b u, four s h k l m)

-- the bytes from behind the k that are passed already up to the closing quote, or to the one that is not allowed
abbrev pub QuoteLevel : List ℕ → ℕ → Quote → Type 0
QuoteLevel s k (closed n) = (k ≤ n) × Level (take (suc (n - k)) s)
QuoteLevel s k (bad n) = (k ≤ n) × Level (take (n - k) s)
QuoteLevel s k endless = Unit {0}

step-level : (b : ℕ) (s : List ℕ) (k : ℕ) (q : Quote) → is_line_end b ≡ false → QuoteLevel s (suc k) q
    → QuoteLevel (b ∷ s) k q
step-level b s k (closed n) e (h, l) = let z : n - k ≡ suc (n - suc k) = omega arith in (omega arith, rw z (e, l))
step-level b s k (bad n) e (h, l) = let z : n - k ≡ suc (n - suc k) = omega arith in (omega arith, rw z (e, l))
step-level b s k endless e h = tt

pub quote-level : (s : List ℕ) (n k : ℕ) → Level (take n s) → QuoteLevel s k (quote s n k)
quote-level [] n k h = tt
quote-level (b ∷ s) (suc n) k h = step-level b s k (quote s n (suc k)) h.0 (quote-level s n (suc k) h.1)
quote-level (b ∷ s) zero k h =
    let z : k - k ≡ 0 = omega arith in
    either (QuoteLevel (b ∷ s) k) (is "\"" b) (λ e. (omega arith, rw z (no_end (λ x. is "\"" x) refl refl b e, tt)))
    (λ _. either (QuoteLevel (b ∷ s) k) (ltb b 32) (λ _. (omega arith, rw z tt))
    (λ f. let e : is_line_end b ≡ false = no_end (λ x. not (ltb x 32)) refl refl b (rw f) in
    either (QuoteLevel (b ∷ s) k) (is "\\" b)
    (λ _. either (QuoteLevel (b ∷ s) k) (eqb (escape s) 0) (λ _. (omega arith, rw z tt))
    (λ _. step-level b s k (quote s (escape s) (suc k)) e (quote-level s (escape s) (suc k) (escape-level s))))
    (λ _. step-level b s k (quote s 0 (suc k)) e (quote-level s 0 (suc k) tt))))

-- a string's symbol stands on the line that the string begins on
pub string-level : (t : List ℕ) (i : ℕ) (x : Line) → i < length t → get_or t i 0 ≡ 34
    → line_to t i (a_string i (drop i t) (quote (drop (i + 1) t) 0 0)).place x ≡ x
string-level t i x h e = go (quote (drop (i + 1) t) 0 0) (quote-level (drop (i + 1) t) 0 0 tt)
  where
    go : (q : Quote) → QuoteLevel (drop (i + 1) t) 0 q → line_to t i (a_string i (drop i t) q).place x ≡ x
    go (closed n) l = to-here t i x
    go (bad n) (_, l) =
        let z : suc (i + n) - i ≡ suc n = omega arith in
        let y : n - 0 ≡ n = omega arith in
        let v : is_line_end (get_or t i 0) ≡ false = rw e in
        to_level t i (suc (i + n)) x (rw (z, drop-cons t i 0 h) (v, rw (y, add-one i) at l))
    go endless l = to-here t i x
