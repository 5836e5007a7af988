use Rattle.std.proofs.Common.{◌≡◌, ◌%◌, ◌<◌, drop}
use Rattle.tables.specs.Tables.{hash_from}
use Rattle.tables.proofs.hash.Given as goal

abbrev pub invariant-loop-b : goal.invariant-loop-b
invariant-loop-b l = (l.k < 16777216) × (hash_from l.k (drop l.b-index l.name) ≡ hash_from (l.list % 16777216) l.name)
