-- Document 01, "Refusals in order": a refusal has one number of the table and one place of the text; and an acceptance
-- has a length and a count that the limits bound.
use Rattle.std.specs.Prelude.{◌≡◌, true, List, [], ◌∷◌, ℕ, ◌≤◌, length}
use Rattle.rules.specs.Check.{Given, accepting, refusing, check}
use Rattle.claims.specs.Ranking.{is_in}

-- what the table has for a text, and 22 of units; 20 and 21 are of reading a number
abbrev pub table : List ℕ
table = 1 ∷ 2 ∷ 3 ∷ 4 ∷ 5 ∷ 6 ∷ 7 ∷ 8 ∷ 9 ∷ 10 ∷ 11 ∷ 12 ∷ 13 ∷ 14 ∷ 15 ∷ 16 ∷ 17 ∷ 18 ∷ 19 ∷ 22 ∷ []

-- a text that is too long is refused at 0, so that every place is at most 65,535
pub record Numbered (t : List ℕ) (n p : ℕ) : Type 0 where
  pub number : is_in n table ≡ true
  pub place : p ≤ length t
  pub short : p ≤ 65535

abbrev pub RefusedNumbered : Type 0
RefusedNumbered = (t : List ℕ) (g : Given) (n p : ℕ) → (check t g).answer ≡ refusing t n p → Numbered t n p

-- the book's length, and the definition count
pub record Small (n k : ℕ) : Type 0 where
  pub short : n ≤ 65535
  pub count : k ≤ n

abbrev pub AcceptedSmall : Type 0
AcceptedSmall = (t : List ℕ) (g : Given) (n k : ℕ) → (check t g).answer ≡ accepting n k → Small n k
