use Rattle.tables.specs.Tables.{Sized}
use Rattle.tables.proofs.TableLaws.{none-gathered}
use Rattle.std.proofs.Common.{sym, ◌∙◌, arith}
use Rattle.tables.proofs.CheckedLaws.{none_is}
use Rattle.tables.proofs.twice.gather.Goals as goal
use Rattle.tables.proofs.twice.gather.Goals.{then-is_some, else-is_some}

pub entered-requires : goal.entered-requires
entered-requires c = (
  record {
    some = c.grid_of-grid.ensures.some;
    fits = omega (arith, c.grid_of-grid.ensures.small, c.requires.1);
  },
  c.requires.0,
  c.grid_of-grid.ensures,
)

pub returns-clause-gathered : goal.returns-clause-gathered
returns-clause-gathered c =
    let a = c.args in
    let g = c.grid_of-grid.result in
    λ e u. elim c.if-is_some.branch [
      | then-is_some w ↦
          let z : Sized g w.clear.new.table =
          record {
            some = c.grid_of-grid.ensures.some;
            fits = omega
                (arith, c.grid_of-grid.ensures.small, c.requires.1, c.entered.auto.table, w.clear.auto.table);
          } in
          rw w.table-is (none-gathered a.text.now a.s.now g w.clear.new.table z (λ i h. w.clear.ensures i h))
      | else-is_some w ↦
          rw w.table-is ((c.entered.ensures e u).1 (none_is _ (sym c.is_some.ensures ∙ w.if-is_some.false)))
    ]
