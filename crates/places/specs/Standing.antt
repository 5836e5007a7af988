-- How the code counts lines: it keeps of a place the line that it stands on.
use Rattle.std.specs.Prelude.{ℕ, zero, suc, ◌+◌, ◌-◌, ◌%◌, cond, List}
use Rattle.rules.specs.Lines.{ends_at, position_of}
use Rattle.places.specs.declared.Line.{Line}
use Rattle.places.specs.declared.Position.{Position}

-- the position of the place p, which stands on the line x: its bytes from where the line begins on, and one
abbrev pub on_line : Line → ℕ → Position
on_line x p = record {
  line = x.number;
  column = (p + 18446744073709551617 - x.begin) % 18446744073709551616;
}

-- the position by definition, as the code hands it on
abbrev pub position_in : List ℕ → ℕ → Position
position_in t p = record { line = (position_of t p).line; column = (position_of t p).column }

abbrev pub first_line : Line
first_line = record { number = 1; begin = 0 }

-- the line behind the byte at i, which stands on the line x
unfoldable pub behind_byte : List ℕ → ℕ → Line → Line
behind_byte t i x =
    cond (ends_at t i) (record { number = (x.number + 1) % 4294967296; begin = (i + 1) % 4294967296 }) x

-- n bytes behind i
abbrev pub lines_on : List ℕ → ℕ → ℕ → Line → Line
lines_on t i zero x = x
lines_on t i (suc n) x = lines_on t (suc i) n (behind_byte t i x)

-- the line at j, where the line at i is x
abbrev pub line_to : List ℕ → ℕ → ℕ → Line → Line
line_to t i j x = lines_on t i (j - i) x

abbrev pub line_at : List ℕ → ℕ → Line
line_at t p = lines_on t 0 p first_line
