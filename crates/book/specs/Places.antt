-- Where records stand in a book.
use Rattle.std.specs.Prelude.{◌≡◌, false, List, ◌++◌, ℕ, ◌≤◌, length, get_or, drop, eqb}
use Rattle.rules.specs.Book.{Record, bytes}

-- what follows begins with no record 19, which would be the unit of a number before it
abbrev pub NoUnit : List ℕ → Type 0
NoUnit v = eqb (get_or v 0 0) 19 ≡ false

-- the records stand in the book from a place on, with the unit of their last number if it has one
pub record Stands (b : List ℕ) (place : ℕ) (rs : List Record) : Type 0 where
  pub within : place ≤ length b
  pub behind : List ℕ
  pub bytes_are : drop place b ≡ bytes rs ++ behind
  pub no_unit : NoUnit behind
