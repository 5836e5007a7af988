-- Finding: the value for each case of the answer, and what stands at a place of a book.
use Rattle.std.specs.Prelude.{◌≡◌, List, [], ◌∷◌, ℕ, ◌+◌, length, Option as code·Option, Some, None}
use Rattle.std.proofs.Math.Option.{Option, none, some}
use Rattle.rules.specs.Book.{Record}
use Rattle.rules.specs.Show.{records_at, beginning_in, find_record}

-- the place that was found, or that there is none, of the code as the rules have it
abbrev pub found_at : code·Option ℕ → Option ℕ
found_at (Some i) = some i
found_at None = none

-- where the first record ends that stands from the place i on
abbrev pub end_in : ℕ → List Record → Option ℕ
end_in i [] = none
end_in i (r ∷ l) = some (i + length r)

-- where the record ends that is read from byte i on
unfoldable pub record_end : List ℕ → ℕ → Option ℕ
record_end b i = end_in i (records_at b i)

-- the records that stand from the place i on are those with the numbers from k on
abbrev pub Listed : List ℕ → ℕ → ℕ → Type 0
Listed b k i = (m : ℕ) → find_record b (k + m) ≡ beginning_in i (records_at b i) m
