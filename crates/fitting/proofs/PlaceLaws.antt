-- What is read where a type's record stands.
use mathlib.Core.Path.{◌≡◌, refl, sym, ap, ◌∙◌}
use mathlib.Core.Bool.{Bool, true, false, cond}
use mathlib.Core.Option.{Option, none, some}
use mathlib.Core.List.{List, [], ◌∷◌, ◌++◌, append_assoc}
use Prim.Native.Nat.{ℕ, suc, ◌+◌, ◌-◌, ◌*◌, ◌/◌, ◌%◌, ◌≤◌, ◌<◌, ◌^◌}
use native.Mathlib.Nat.{add_assoc, div-add-mod', mod-lt}
use native.Mathlib.Omega.{arith}
use lib.ListN.{length, get_or, drop, length-append, length-drop}
use lib.Seq.{get_or-drop}
use Rattle.std.specs.Prelude.{None, Option as code·Option}
use lib.IntN.{ℤ, pos, negsuc, nat_abs}
use mir.Syntax.{w64}
use mir.Val.{to_z}
use lib.Dec.{lit<, eqb, leb}
use borrow.Author.Tests.{lt-ltb, le-leb, ne_eqb}
use Rattle.rules.specs.Numbers.{magnitude_limit, Range}
use Rattle.rules.specs.Enumerations.{final}
use Rattle.rules.specs.Types.{Measure, Ty, text, numeric, structure, enum}
use Rattle.rules.specs.Book.{bit, low_first, twos, length_or, bytes, number_record, unit_records, type_records}
use Rattle.rules.specs.Book.{open_record}
use Rattle.rules.specs.Book.{element_records}
use Rattle.rules.specs.Show.{read4}
use Rattle.numbers.proofs.SignedLaws.{kept}
use Rattle.book.specs.Places.{Stands}
use Rattle.book.proofs.StandLaws.{stands-behind}
use Rattle.rules.specs.All.{AnyIs}
use Rattle.wellformed.specs.Fairness.{FairLimit, Fair}
use Rattle.fitting.specs.Values.{unit_number, limit_by, Typed, UnitNumbered}
use Rattle.fitting.specs.Places.{signed_of, signed_at, limit_read, text_at, unit_at, range_at, typing_at}
use Rattle.fitting.specs.declared.Typing.{Typing}
use Rattle.fitting.specs.declared.Typing.TheVariants as typing

-- ---- numbers back from their bytes
abbrev low_half : ℕ → ℕ
low_half n = n % 256 + n / 256 % 256 * 256 + n / 256 / 256 % 256 * 65536 + n / 256 / 256 / 256 % 256 * 16777216

abbrev rest4 : ℕ → ℕ
rest4 n = n / 256 / 256 / 256 / 256

byte : (n : ℕ) → (n / 256 * 256 + n % 256 ≡ n) × (n % 256 < 256)
byte n = (div-add-mod' n 256, mod-lt n (lit< tt))

four : (n : ℕ) → (low_half n + rest4 n * 4294967296 ≡ n) × (low_half n < 4294967296)
four n =
    let a = byte n in
    let b = byte (n / 256) in
    let c = byte (n / 256 / 256) in
    let d = byte (n / 256 / 256 / 256) in
    (omega arith, omega arith)

pub low-four : (n : ℕ) → n < 4294967296 → low_half n ≡ n
low-four n h = let a = four n in omega arith

eight : (n : ℕ) → n < 18446744073709551616
    → (low_half n + low_half (rest4 n) * 4294967296 ≡ n) × (low_half n < 4294967296) × (low_half (rest4 n) < 4294967296)
eight n h = let a = four n in let b = four (rest4 n) in (omega arith, omega arith, omega arith)

signed_back : (v : ℤ) → nat_abs v < magnitude_limit → signed_of (low_half (twos v)) (low_half (rest4 (twos v))) ≡ v
signed_back (pos n) s =
    ap (to_z w64) (eight n (omega arith)).0 ∙ kept (pos n) (omega arith)
signed_back (negsuc n) s =
    ap (to_z w64) (eight (2 ^ 64 - suc n) (omega arith)).0 ∙ kept (negsuc n) (omega arith)

-- ---- records
read4-drop : (b : List ℕ) (i j : ℕ) → read4 b (i + j) ≡ read4 (drop i b) j
read4-drop b i j = simp (get_or-drop, add_assoc)

get_d_at : (b x : List ℕ) (i j : ℕ) → drop i b ≡ x → get_or b (i + j) 0 ≡ get_or x j 0
get_d_at b x i j e = sym (get_or-drop i b j 0) ∙ ap (λ (l : List ℕ). get_or l j 0) e

read4-at : (b x : List ℕ) (i j : ℕ) → drop i b ≡ x → read4 b (i + j) ≡ read4 x j
read4-at b x i j e = read4-drop b i j ∙ ap (λ (l : List ℕ). read4 l j) e

signed-at : (b x : List ℕ) (i j : ℕ) → drop i b ≡ x → signed_at b (i + j) ≡ signed_of (read4 x j) (read4 x (j + 4))
signed-at b x i j e =
    let f : i + j + 4 ≡ i + (j + 4) = omega arith in
    rw (f, read4-at b x i j e, read4-at b x i (j + 4) e)

long-enough : (b x more : List ℕ) (i : ℕ) → drop i b ≡ x ++ more → i ≤ length b → i + length x ≤ length b
long-enough b x more i e h =
    let l : length b - i ≡ length x + length more = sym (length-drop i b) ∙ ap length e ∙ length-append x more in
    omega arith

module _ (b : List ℕ) (i : ℕ) (h : i ≤ length b) where
  first_byte : (k : ℕ) (l more : List ℕ) → drop i b ≡ (k ∷ l) ++ more → (i < length b) × (get_or b i 0 ≡ k)
  first_byte k l more e =
      let n = long-enough b (k ∷ l) more i e h in
      let z : i ≡ i + 0 = omega arith in
      (omega arith, ap (λ (j : ℕ). get_or b j 0) z ∙ get_d_at b _ i 0 e)

  text-there : (k n : ℕ) (more : List ℕ) → n < 4294967296 → drop i b ≡ (k ∷ low_first 4 n) ++ more
      → text_at k b i ≡ typing.Text k (limit_read n)
  unfolding text_at
  text-there k n more s e =
      let l = long-enough b (k ∷ low_first 4 n) more i e h in
      let r : read4 b (i + 1) ≡ n = read4-at b _ i 1 e ∙ low-four n s in
      rw (le-leb (i + 5) (length b) l, r)

  range-there : (d : ℕ) (v w : ℤ) (more : List ℕ) → nat_abs v < magnitude_limit → nat_abs w < magnitude_limit →
      drop i b ≡ (10 ∷ d ∷ (low_first 8 (twos v) ++ low_first 8 (twos w))) ++ more
      → range_at b i ≡ typing.Range d v w (unit_at b (i + 18))
  unfolding range_at
  range-there d v w more s t e =
      let l = long-enough b (10 ∷ d ∷ (low_first 8 (twos v) ++ low_first 8 (twos w))) more i e h in
      let x : get_or b (i + 1) 0 ≡ d = get_d_at b _ i 1 e in
      let y : signed_at b (i + 2) ≡ v = signed-at b _ i 2 e ∙ signed_back v s in
      let z : signed_at b (i + 10) ≡ w = signed-at b _ i 10 e ∙ signed_back w t in
      rw (le-leb (i + 18) (length b) l, x, y, z)

  -- what stands behind a number: its unit, or no record of one
  unit-there : (u : Option Measure) → AnyIs (λ (x : Measure). x.number < 4294967296) u → Stands b i (unit_records u)
      → unit_at b i ≡ unit_number u
  unfolding unit_at
  unit-there none f s =
      let z : i ≡ i + 0 = omega arith in
      let k : eqb (get_or b i 0) 19 ≡ false =
      ap (λ (n : ℕ). eqb n 19) (ap (λ (j : ℕ). get_or b j 0) z ∙ get_d_at b _ i 0 s.bytes_are) ∙ s.no_unit in
      rw k (either (leb (i + 5) (length b)))
    where
      either : (x : Bool) → ◌≡◌ {A = code·Option ℕ} (cond x None None) None
      either true = refl
      either false = refl
  unit-there (some u) f s =
      let e : drop i b ≡ (19 ∷ low_first 4 u.number) ++ s.behind = s.bytes_are in
      let p = first_byte 19 (low_first 4 u.number) _ e in
      let l = long-enough b (19 ∷ low_first 4 u.number) s.behind i e h in
      let r : read4 b (i + 1) ≡ u.number = read4-at b _ i 1 e ∙ low-four u.number f in
      rw (le-leb (i + 5) (length b) l, p.1, r)

-- ---- types
limit-low : (n : Option ℕ) → AnyIs FairLimit n → length_or n < 4294967296
limit-low none f = omega arith
limit-low (some n) f = f.1

limit-read : (n : Option ℕ) → AnyIs FairLimit n → limit_read (length_or n) ≡ limit_by n
limit-read none f = refl
limit-read (some n) f = rw (ne_eqb n 0 (λ e. omega arith))

module _ (t b : List ℕ) (i : ℕ) where
  typed-text : (m : Bool) (n : Option ℕ) → Fair t (text m n) → Stands b i (type_records (text m n))
      → typing_at b i ≡ typing.Text (cond m 9 8) (limit_by n)
  unfolding typing_at
  typed-text true n f s =
      let u : drop i b ≡ (9 ∷ low_first 4 (length_or n)) ++ s.behind = s.bytes_are in
      let p = first_byte b i s.within 9 (low_first 4 (length_or n)) _ u in
      rw (lt-ltb i (length b) p.0, p.1, ← limit-read n f)
      (text-there b i s.within 9 (length_or n) _ (limit-low n f) u)
  typed-text false n f s =
      let u : drop i b ≡ (8 ∷ low_first 4 (length_or n)) ++ s.behind = s.bytes_are in
      let p = first_byte b i s.within 8 (low_first 4 (length_or n)) _ u in
      rw (lt-ltb i (length b) p.0, p.1, ← limit-read n f)
      (text-there b i s.within 8 (length_or n) _ (limit-low n f) u)

  -- the unit's record behind the number's
  unit-behind : (r : Option Range) (u : Option Measure) → UnitNumbered (numeric r u)
      → Stands b i (type_records (numeric r u)) → unit_at b (i + length (number_record r)) ≡ unit_number u
  unit-behind r u g s =
      let k = stands-behind b i (number_record r) (unit_records u) s in
      unit-there b (i + length (number_record r)) k.within u g k

  pub typed-here : (x : Ty) (c : Typing) → c ≡ typing_at b i → Fair t x → UnitNumbered x → Stands b i (type_records x)
      → Typed t b x c
  unfolding typing_at
  typed-here (text m n) c e f g s = e ∙ typed-text m n f s
  typed-here (numeric (some r) u) c e f g s =
      let d : drop i b ≡ number_record (some r) ++ (bytes (unit_records u) ++ s.behind) =
      s.bytes_are ∙ append_assoc (number_record (some r)) (bytes (unit_records u)) s.behind in
      let p = first_byte b i s.within 10
      (r.decimals ∷ (low_first 8 (twos r.low) ++ low_first 8 (twos r.high))) _ d in
      e ∙ rw (lt-ltb i (length b) p.0, p.1)
      (range-there b i s.within r.decimals r.low r.high _ f.1 f.2 d
      ∙ rw (unit-behind (some r) u g s))
  typed-here (numeric none u) c e f g s =
      let p = first_byte b i s.within 11 [] _
      (s.bytes_are ∙ append_assoc (number_record none) (bytes (unit_records u)) s.behind) in
      e ∙ rw (lt-ltb i (length b) p.0, p.1, unit-behind none u g s)
  typed-here (enum x) c e f g s =
      let u : drop i b ≡ bytes (open_record x ∷ element_records x) ++ s.behind = s.bytes_are in
      let p = first_byte b i s.within 13 (bit (final x) 1 ∷ bytes (element_records x)) s.behind u in (
        i,
        e ∙ rw (lt-ltb i (length b) p.0, p.1),
        record { more = s.behind; here = u; named = f.named; deep = f.deep },
      )
  typed-here structure c e f g s = absurd f
