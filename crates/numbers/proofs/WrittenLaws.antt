-- The number that a symbol writes, byte by byte: with no more digits than "Sizes" allows it is below the limit.
use mathlib.Core.Path.{◌≡◌, refl, sym}
use mathlib.Core.Bool.{Bool, true, false, cond, not}
use mathlib.Core.List.{List, [], ◌∷◌}
use Prim.Native.Nat.{ℕ, suc, ◌+◌, ◌-◌, ◌*◌, ◌^◌, ◌≤◌, ◌<◌}
use native.Mathlib.Omega.{arith}
use borrow.Author.Tests.{leb-true}
use native.Mathlib.Numerals.{add-one}
use lib.ListN.{length, drop, get_or}
use lib.Seq.{drop-cons}
use lib.Dec.{eqb, leb, ltb}
use Rattle.std.specs.Prelude.{Some, None}
use Rattle.std.specs.List.{position_or_len, position, starts_with}
use Rattle.std.proofs.lemmas.Bool.Decides.{nat_tests}
use lib.IntN.{nat_abs, pos, neg_ℤ}
use Rattle.rules.specs.Bytes.{is, is_digit}
use Rattle.rules.specs.Symbols.{most_digits, digit_count}
use Rattle.rules.specs.Numbers.{magnitude_limit, digits, value_of, decimals_of}
use Rattle.rules.proofs.Tests.{split}
use Rattle.numbers.proofs.PowerLaws.{ten-most, ten-more}
use Rattle.numbers.proofs.SignedLaws.{abs_neg}

-- n with the byte b behind it
abbrev pub with_digit : ℕ → ℕ → ℕ
with_digit n b = cond (is_digit b) (n * 10 + (b - 48)) n

-- ---- there is room for the digits to come
pub record Room (s : List ℕ) (n : ℕ) : Type 0 where
  pub few : digit_count s ≤ most_digits
  pub small : n < 10 ^ (most_digits - digit_count s)

room_by : (t : Bool) (b : ℕ) (s : List ℕ) (n : ℕ) → (t ≡ true → b ≤ 57)
    → cond t (suc (digit_count s)) (digit_count s) ≤ most_digits
    → n < 10 ^ (most_digits - cond t (suc (digit_count s)) (digit_count s)) → Room s (cond t (n * 10 + (b - 48)) n)
room_by false b s n d f h = record { few = f; small = h }
room_by true b s n d f h =
    let e : most_digits - digit_count s ≡ most_digits - suc (digit_count s) + 1 = omega arith in
    record { few = omega arith; small = rw (e, ten-more) (omega (arith, d refl)) }

room_next : (b : ℕ) (s : List ℕ) (n : ℕ) → Room (b ∷ s) n → Room s (with_digit n b)
room_next b s n r = room_by (is_digit b) b s n (λ p. leb-true b 57 (split {x = leb 48 b} p).1) r.few r.small

room_small : (s : List ℕ) (n : ℕ) → Room s n → n < magnitude_limit
room_small s n r = omega (arith, r.small, ten-most (most_digits - digit_count s) most_digits (omega arith))

digits-small : (s : List ℕ) (n : ℕ) → Room s n → digits s n < magnitude_limit
digits-small [] n r = r.small
digits-small (b ∷ s) n r = digits-small s (with_digit n b) (room_next b s n r)

room-first : (s : List ℕ) → digit_count s ≤ most_digits → Room s 0
room-first s h = record { few = h; small = omega (arith, ten-most 0 (most_digits - digit_count s) (omega arith)) }

pub written_small : (s : List ℕ) → digit_count s ≤ most_digits → digits s 0 < magnitude_limit
written_small s h = digits-small s 0 (room-first s h)

-- ---- the bytes s, read up to its last bytes t: n so far
pub record Scanned (s t : List ℕ) (n : ℕ) : Type 0 where
  pub room : Room t n
  pub value : digits s 0 ≡ digits t n

pub scanned-first : (s : List ℕ) → digit_count s ≤ most_digits → Scanned s s 0
scanned-first s h = record { room = room-first s h; value = refl }

pub scanned-small : {s t : List ℕ} {n : ℕ} → Scanned s t n → n < magnitude_limit
scanned-small x = room_small _ _ x.room

pub scanned-next : (s : List ℕ) (i n : ℕ) {m : ℕ} → i < length s → Scanned s (drop i s) n
    → m ≡ with_digit n (get_or s i 0) → Scanned s (drop (i + 1) s) m
scanned-next s i n h x p =
    let y = rw (drop-cons s i 0 h) at x in
    rw (p, add-one)
    (record { room = room_next (get_or s i 0) (drop (suc i) s) n y.room; value = y.value })

pub scanned-whole : {s : List ℕ} {n : ℕ} → Scanned s [] n → n ≡ digits s 0
scanned-whole x = sym x.value

-- ---- the decimals: the bytes behind the first dot
by-dot : (s : List ℕ) → let k = position_or_len (is ".") s in
    decimals_of s ≡ cond (ltb k (length s)) (length s - k - 1) 0
by-dot [] = refl
by-dot (b ∷ s) = go (is "." b) (by-dot s)
  where
    k : ℕ
    k = position_or_len (is ".") s

    go : (t : Bool) → decimals_of s ≡ cond (ltb k (length s)) (length s - k - 1) 0
        → let j = cond (not t) (1 + k) 0 in
        cond t (length s) (decimals_of s) ≡ cond (ltb j (suc (length s))) (suc (length s) - j - 1) 0
    go true e = grind (arith, nat_tests)
    go false e = grind (arith, nat_tests)

pub dot-some : (s : List ℕ) (k : ℕ) → Some k ≡ position (is ".") s → length s - k - 1 ≡ decimals_of s
dot-some s k e = let f = by-dot s in grind (arith, nat_tests)

pub dot-none : (s : List ℕ) → None ≡ position (is ".") s → 0 ≡ decimals_of s
dot-none s e = let f = by-dot s in grind (arith, nat_tests)

-- ---- the value, by the sign
by_sign : (t : Bool) (n : ℕ) → nat_abs (cond t (neg_ℤ (pos n)) (pos n)) ≡ n
by_sign true n = abs_neg n
by_sign false n = refl

pub value-small : (s : List ℕ) → digit_count s ≤ most_digits → nat_abs (value_of s) < magnitude_limit
value-small s h = rw (by_sign (is "-" (get_or s 0 0)) (digits s 0)) (written_small s h)

pub value-is : (s : List ℕ) {t : Bool} {n : ℕ} → t ≡ is "-" (get_or s 0 0) → n ≡ digits s 0
    → cond t (neg_ℤ (pos n)) (pos n) ≡ value_of s
value-is s p e = rw (p, e)

-- a sign is the first byte
pub minus : (s : List ℕ) → starts_with eqb s (45 ∷ []) ≡ is "-" (get_or s 0 0)
minus [] = refl
minus (b ∷ s) = grind (arith, nat_tests)
