-- Document 01, "Refusals in order", and document 02, No. 6: the number and values of each case of the answer.
use Rattle.std.specs.Prelude.{Bool, false, ℕ, length, eqb, Result, Ok, Err}
use Rattle.rules.specs.Declarations.{State}
use Rattle.rules.specs.Book.{book, definitions, records}
use Rattle.rules.specs.Check.{Answer, accepted, refusal, accepting, refusal_of}
use Rattle.answers.specs.declared.Accepted.{Accepted}
use Rattle.answers.specs.declared.Refusal.{Refusal}

-- the answer of the code, and its two cases by their values
abbrev pub Coded : Type 0
Coded = Result Accepted Refusal

abbrev pub accepted_as : ℕ → ℕ → Coded
accepted_as n k = Ok (record { length = n; definitions = k })

abbrev pub refused_as : ℕ → ℕ → ℕ → ℕ → Coded
refused_as n p l c = Err (record { number = n; place = p; line = l; column = c })

-- the number and values of each case
abbrev pub answer_of : Coded → Answer
answer_of (Ok a) = accepting a.length a.definitions
answer_of (Err r) = refusal_of r.number r.place r.line r.column

-- where no unit is refused: how many bytes the book has, and how many definitions
abbrev pub accepted_in : State → Coded
accepted_in s = accepted_as (length (book s)) (definitions (records s))

-- how much of the buffer an answer keeps
abbrev pub kept_of : Coded → ℕ
kept_of (Ok a) = a.length
kept_of (Err r) = 0

-- 19
abbrev pub full : Answer → Bool
full (accepted a) = false
full (refusal r) = eqb r.number 19
