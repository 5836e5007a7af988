use mathlib.Core.Path.{ap, ◌∙◌}
use lib.ListN.{length-set}
use Rattle.tables.specs.Tables.{key_of}
use Rattle.enumerations.proofs.ListLaws.{as_written}
use Rattle.tables.proofs.TableLaws.{filled_more}
use native.Mathlib.Omega.{arith}
use Rattle.tables.proofs.enter.Goals as goal

pub bounds-table-keys-then-j-keys : goal.bounds-table-keys-then-j-keys
bounds-table-keys-then-j-keys c =
    simp length-set (omega (arith, c.requires.0.fits))

pub bounds-table-k-then-j-keys : goal.bounds-table-k-then-j-keys
bounds-table-k-then-j-keys c =
    simp length-set (omega (arith, c.requires.0.fits, c.key_of-k.ensures.1))

pub returns-then-j-keys : goal.returns-then-j-keys
returns-then-j-keys c =
    let a = c.args in
    λ es F N. filled_more a.text.now a.s.now a.g a.table.now c.requires.0 a.list a.at
    c.key_of-k.result c.slot-j.result N
    (c.key_of-k.ensures.0
    ∙ ap (key_of a.text.now a.g.keys a.list) (as_written c.written_name.ensures))
    c.key_of-k.ensures.1 c.slot-j.ensures es F

pub returns-else-j-keys : goal.returns-else-j-keys
returns-else-j-keys c = λ es F N. absurd (omega (arith, N.room, c.slot-j.ensures, c.if-j-keys.false))
