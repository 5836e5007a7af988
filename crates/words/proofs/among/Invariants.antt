use Rattle.std.proofs.Common.{◌≡◌, true, List, ℕ, ◌+◌, length}
use Rattle.std.specs.Slice.Iter.{chunks_exact_rest, chunks_exact_size}
use Rattle.words.specs.Words.{rows, are_long}
use Rattle.words.proofs.WordLaws.{Left}
use Rattle.words.proofs.among.Given as goal

abbrev pub invariant-loop-row : goal.invariant-loop-row
invariant-loop-row l =
    (goal.iterator-loop-row).can_next l.row-iterator × (goal.iterator-loop-row).is_finite l.row-iterator
    × (chunks_exact_size l.row-iterator ≡ length l.word + 1)
    × ((w : List (List ℕ)) → l.list ≡ rows w → are_long (length l.word) w ≡ true
    → (r : List (List ℕ)) × Left l.word w (chunks_exact_rest l.row-iterator) r)
