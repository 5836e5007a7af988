-- Document 01's number and value for each case of the answer to "Reading a number", and the promise in these terms.
use Rattle.std.specs.Prelude.{◌≡◌, ℕ, ℤ, pos, Result, Ok, Err}
use Rattle.rules.specs.Numbers.{read_number, read_refusal, read_value}
use Rattle.numbers.specs.declared.Unreadable.{Unreadable}
use Rattle.numbers.specs.declared.Unreadable.TheVariants.{OutOfScope, TooGreat}

-- a number read, or why it cannot be
abbrev pub Reading : Type 0
Reading = Result ℤ Unreadable

abbrev pub refusal_of : Unreadable → ℕ
refusal_of OutOfScope = 20
refusal_of TooGreat = 21

-- 0 where it is read
abbrev pub number_of : Reading → ℕ
number_of (Ok w) = 0
number_of (Err u) = refusal_of u

-- 0 where it is refused
abbrev pub reading_of : Reading → ℤ
reading_of (Ok w) = w
reading_of (Err u) = pos 0

-- the answer r to reading v, of d decimals, at a base of db
pub record Promised (v : ℤ) (d db : ℕ) (r : Reading) : Type 0 where
  pub number : number_of r ≡ read_refusal (read_number v d db)
  pub value : reading_of r ≡ read_value (read_number v d db)
