use Rattle.records.specs.Finding.{Listed}
use Rattle.records.proofs.find_record.Given as goal

abbrev pub invariant-loop : goal.invariant-loop
invariant-loop l = Listed l.book l.counter l.at
