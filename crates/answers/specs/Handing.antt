-- The answer of a check in eight numbers, in the order in which the export hands them out: number (0 for acceptance),
-- place, line and column; length of the book and count of definitions; two that no answer has yet. What an answer does
-- not have is 0.
use Rattle.std.specs.Prelude.{cond, List, [], ◌∷◌, ℕ, get_or, eqb}
use Rattle.rules.specs.Check.{Answer, accepted, refusal, accepting, refusal_of}

abbrev pub handed : Answer → List ℕ
handed (accepted a) = 0 ∷ 0 ∷ 0 ∷ 0 ∷ a.length ∷ a.definitions ∷ 0 ∷ 0 ∷ []
handed (refusal r) = r.number ∷ r.place ∷ r.line ∷ r.column ∷ 0 ∷ 0 ∷ 0 ∷ 0 ∷ []

-- taken back out of them
abbrev pub taken : List ℕ → Answer
taken h =
    let a = accepting (get_or h 4 0) (get_or h 5 0) in
    let r = refusal_of (get_or h 0 0) (get_or h 1 0) (get_or h 2 0) (get_or h 3 0) in
    cond (eqb (get_or h 0 0) 0) a r
