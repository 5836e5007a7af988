-- Document 01, "Symbols": a symbol of the rules as the code hands it on.
use Rattle.std.specs.Prelude.{◌≡◌, true, List, ◌⊎◌, ℕ, ◌+◌, ◌-◌, ◌≤◌, ◌<◌, length}
use Rattle.rules.specs.Bytes.{is_one_of}
use Rattle.rules.specs.Reserved.{forms}
use Rattle.rules.specs.Readers.{fault_of}
use Rattle.rules.specs.Symbols.{number_of, Kind, word, name, number, quoted, dots, stop, mark, fault, digit_count}
use Rattle.rules.specs.Symbols.{is_name_text, most_digits}
use Rattle.rules.specs.Symbols as rules
use Rattle.words.specs.Words.{position}
use Rattle.places.specs.declared.Line.{Line}
use Rattle.places.specs.declared.Position.{Position}
use Rattle.places.specs.Standing.{on_line, first_line, line_to, line_at}
use Rattle.symbols.specs.declared.Cursor.{Cursor}
use Rattle.symbols.specs.declared.Symbol.{Symbol}

-- what a symbol is, as a number: a mark is its byte, 40 to 61, 91 or 93, and a word of the forms 64 and its position
-- among them
abbrev pub code_of : Kind → List ℕ → ℕ
code_of stop b = 0
code_of name b = 1
code_of number b = 2
code_of quoted b = 3
code_of dots b = 4
code_of (fault f) b = 5
code_of (mark m) b = m
code_of word b = 64 + position b forms

-- the code, the number to refuse with, the place, the length and the line
abbrev pub made : ℕ → ℕ → ℕ → ℕ → Line → Symbol
made c n p l x = record { code = c; refusal = n; place = p; next = record { at = p + l; line = x } }

-- a faulty symbol with the number n in the place of y
abbrev pub faulty_as : ℕ → Symbol → Symbol
faulty_as n y = made 5 n y.place 0 y.next.line

-- how many bytes y has: those up to the cursor behind it
abbrev pub length_at : Symbol → ℕ
length_at y = y.next.at - y.place

-- the line and the column of y, by the line that it carries
abbrev pub position_at : Symbol → Position
position_at y = on_line y.next.line y.place

-- the symbol y, on the line x
abbrev pub cut_on : Line → rules.Symbol → Symbol
cut_on x y = made (code_of y.kind y.bytes) (number_of (fault_of y.kind)) y.place (length y.bytes) x

-- the symbol y of the text t
abbrev pub cut : List ℕ → rules.Symbol → Symbol
cut t y = cut_on (line_at t y.place) y

abbrev pub start : Cursor
start = record { at = 0; line = first_line }

-- the next symbol of the text t, and its line, counted on from the cursor's
unfoldable pub next_of : List ℕ → Cursor → Symbol
next_of t c = let y = rules.symbol_at t c.at in cut_on (line_to t c.at y.place c.line) y

-- no code of a word of the forms, which are fewer than 27
abbrev pub NoWord : ℕ → Type 0
NoWord m = (m < 64) ⊎ (90 < m)

-- what holds of a symbol's kind and bytes
abbrev pub Sound : Kind → List ℕ → Type 0
Sound word b = is_one_of b forms ≡ true
Sound name b = (length b ≤ 255) × (is_name_text b ≡ true)
Sound number b = digit_count b ≤ most_digits
Sound (mark m) b = (40 ≤ m) × NoWord m
Sound quoted b = Unit {0}
Sound dots b = Unit {0}
Sound stop b = Unit {0}
Sound (fault f) b = Unit {0}
