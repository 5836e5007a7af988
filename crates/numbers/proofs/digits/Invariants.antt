use lib.ListN.{drop}
use Rattle.numbers.proofs.WrittenLaws.{Scanned}
use Rattle.numbers.proofs.digits.Given as goal

-- The number that the whole writes is the one so far with the bytes to come, for whose digits there is room.
abbrev pub invariant-loop-b : goal.invariant-loop-b
invariant-loop-b l = Scanned l.part (drop l.b-index l.part) l.value
