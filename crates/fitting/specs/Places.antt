-- The type whose record is at a place of a book, read from any bytes.
use Rattle.std.specs.Prelude.{cond, List, ℕ, ◌+◌, ◌*◌, length, get_or, ℤ, eqb, ltb, leb, Option, Some, None}
use Rattle.std.specs.Int.{cast_signed, w64}
use Rattle.rules.specs.Show.{read4}
use Rattle.fitting.specs.declared.Typing.{Typing}
use Rattle.fitting.specs.declared.Typing.TheVariants.{Text, Range, Numeric, Enumeration, Structure}

-- 64 bits in two's complement, of their low and their high half
abbrev pub signed_of : ℕ → ℕ → ℤ
signed_of l h = cast_signed w64 (l + h * 4294967296)

abbrev pub signed_at : List ℕ → ℕ → ℤ
signed_at b i = signed_of (read4 b i) (read4 b (i + 4))

-- of a text without a greatest length it is written 0
abbrev pub limit_read : ℕ → Option ℕ
limit_read n = cond (eqb n 0) None (Some n)

unfoldable pub text_at : ℕ → List ℕ → ℕ → Typing
text_at k b i = cond (leb (i + 5) (length b)) (Text k (limit_read (read4 b (i + 1)))) Structure

-- the unit of a number whose record ends at the place i, by its record number
unfoldable pub unit_at : List ℕ → ℕ → Option ℕ
unit_at b i = cond (leb (i + 5) (length b)) (cond (eqb (get_or b i 0) 19) (Some (read4 b (i + 1))) None) None

unfoldable pub range_at : List ℕ → ℕ → Typing
range_at b i =
    cond (leb (i + 18) (length b))
    (Range (get_or b (i + 1) 0) (signed_at b (i + 2)) (signed_at b (i + 10)) (unit_at b (i + 18))) Structure

abbrev pub typing_by : ℕ → List ℕ → ℕ → Typing
typing_by k b i =
    cond (eqb k 8) (text_at 8 b i)
    (cond (eqb k 9) (text_at 9 b i)
    (cond (eqb k 10) (range_at b i)
    (cond (eqb k 11) (Numeric (unit_at b (i + 1))) (cond (eqb k 13) (Enumeration i) Structure))))

unfoldable pub typing_at : List ℕ → ℕ → Typing
typing_at b i = cond (ltb i (length b)) (typing_by (get_or b i 0) b i) Structure
