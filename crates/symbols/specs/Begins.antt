-- What begins at a place of a text, by its byte.
use Rattle.std.specs.Prelude.{cond, ◌||◌, List, ℕ, ◌+◌, ◌-◌, drop, get_or, ltb}
use Rattle.rules.specs.Bytes.{part, is, is_letter, is_digit, is_word_byte, is_line_end}
use Rattle.rules.specs.Symbols.{quote, unsigned_length, most_digits, a_word, a_number, a_string, is_mark_byte}
use Rattle.ground.specs.Parts.{run_end}
use Rattle.places.specs.declared.Line.{Line}
use Rattle.scans.specs.Scans.{is_blank, two_at}
use Rattle.symbols.specs.declared.Symbol.{Symbol}
use Rattle.symbols.specs.declared.Class.{Class}
use Rattle.symbols.specs.declared.Class.TheVariants.{Letter, Digit, Sign, Quote, Comment, Punctuation, Blank}
use Rattle.symbols.specs.declared.Class.TheVariants.{LineEnd, Other}
use Rattle.symbols.specs.Cut.{made, cut_on}

-- what begins with a byte
unfoldable pub class_of : ℕ → Class
class_of b =
    cond (is_letter b) Letter
    (cond (is_digit b) Digit
    (cond (is "+" b || is "-" b) Sign
    (cond (is "\"" b) Quote
    (cond (is "!" b || is "/" b) Comment
    (cond (is_mark_byte b || is "." b) Punctuation
    (cond (is_blank b) Blank
    (cond (is_line_end b) LineEnd Other)))))))

-- what begins at i, on the line x: with a letter; with a quote; with a digit, behind a sign of so many bytes
abbrev pub word_cut : List ℕ → ℕ → Line → Symbol
word_cut t i x = cut_on x (a_word i (part t i (run_end is_word_byte t (i + 1) - i)))

abbrev pub string_cut : List ℕ → ℕ → Line → Symbol
string_cut t i x = cut_on x (a_string i (drop i t) (quote (drop (i + 1) t) 0 0))

abbrev pub unsigned_cut : List ℕ → ℕ → ℕ → Line → Symbol
unsigned_cut t i sign x = cut_on x (a_number i (part t i (sign + unsigned_length (drop (i + sign) t))))

-- a number of so many bytes and digits
abbrev pub number_cut : ℕ → ℕ → ℕ → Line → Symbol
number_cut p l d x = cond (ltb most_digits d) (made 5 4 p l x) (made 2 5 p l x)

-- with a sign, and with a mark
abbrev pub signed_cut : List ℕ → ℕ → Line → Symbol
signed_cut t i x = cond (is_digit (get_or t (i + 1) 0)) (unsigned_cut t i 1 x) (made 5 2 i 0 x)

abbrev pub mark_cut : List ℕ → ℕ → Line → Symbol
mark_cut t i x = cond (two_at t i 46 46) (made 4 5 i 2 x) (made (get_or t i 0) 5 i 1 x)
