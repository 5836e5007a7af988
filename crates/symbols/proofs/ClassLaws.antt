-- What a byte's class says of it.
use mathlib.Core.Path.{◌≡◌, refl}
use mathlib.Core.Bool.{Bool, true, false, not, ◌&&◌, ◌||◌}
use Prim.Native.Nat.{ℕ, ◌<◌}
use native.Mathlib.Omega.{arith}
use Rattle.rules.specs.Bytes.{is, is_letter, is_digit, is_line_end, is_separator}
use Rattle.rules.specs.Symbols.{is_mark_byte}
use Rattle.rules.proofs.Tests.{or-fails, not_is}
use Rattle.symbols.specs.declared.Class.{Class}
use Rattle.symbols.specs.declared.Class.TheVariants.{Letter, Digit, Sign, Quote, Comment, Punctuation, Blank}
use Rattle.symbols.specs.declared.Class.TheVariants.{LineEnd, Other}
use Rattle.scans.specs.Scans.{is_blank}
use Rattle.symbols.specs.Begins.{class_of}
use Rattle.ground.proofs.TableLaws.{on}

-- ---- what begins with a byte
abbrev pub begins : ℕ → Bool
begins b = is_letter b || (is_digit b || ((is "+" b || is "-" b) || is "\"" b))

-- a byte that begins no symbol
abbrev pub begins_none : ℕ → Bool
begins_none b = not (begins b || (is_mark_byte b || is "." b))

abbrev pub first : Class → ℕ → Bool
first Letter b = is_letter b
first Digit b = not (is_letter b) && is_digit b
first Sign b = not (is_digit b) && (is "+" b || is "-" b)
first Quote b = is "\"" b
first Comment b = not (is_separator b) && begins_none b
first Punctuation b = not (begins b) && (is_mark_byte b || is "." b)
first Blank b = is_blank b
first LineEnd b = is_line_end b
first Other b = begins_none b

pub class-first : (b : ℕ) (k : Class) → b < 256 → class_of b ≡ k → first k b ≡ true
unfolding class_of
class-first b k h e = rw e at (on (λ x. first (class_of x) x) 0 256 refl b (omega arith) (omega arith))

-- ---- what stands between symbols
abbrev pub is_between : Class → Bool
is_between Letter = false
is_between Digit = false
is_between Sign = false
is_between Quote = false
is_between Comment = true
is_between Punctuation = false
is_between Blank = true
is_between LineEnd = true
is_between Other = false

-- no other class has the first byte of a separator or a comment
pub class-between : (b : ℕ) (k : Class) → b < 256 → class_of b ≡ k → is_between k ≡ false
    → (is_separator b ≡ false) × (is "!" b ≡ false) × (is "/" b ≡ false)
unfolding class_of
class-between b k h e f =
    let t : (is_between k || not (is_separator b || (is "!" b || is "/" b)))
    ≡ true = rw e at (on (λ x. is_between (class_of x) || not (is_separator x || (is "!" x || is "/" x))) 0 256 refl b
    (omega arith) (omega arith)) in
    let (s, r) = or-fails {x = is_separator b} (not_is (rw f at t)) in
    let (x, y) = or-fails {x = is "!" b} r in
    (s, x, y)
