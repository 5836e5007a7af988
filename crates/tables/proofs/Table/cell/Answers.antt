use Rattle.std.proofs.Common.{ℕ, ◌+◌, get_or, ap, ◌∙◌, arith}
use Rattle.tables.proofs.TableLaws.{cell_in, cell_out}
use Rattle.tables.proofs.Table.cell.Goals as goal

pub returns-then-j-self : goal.returns-then-j-self
returns-then-j-self c =
    let t = c.args.self.now in (
      c.place_of.ensures.0
          ∙ ap (λ (j : ℕ). get_or t.numbers.now (c.args.i + j) 0) c.slot-j.ensures
          ∙ cell_in t.grid t.numbers.now c.args.i c.args.p (omega arith),
      omega (arith, c.place_of.ensures),
    )

pub returns : goal.returns
returns c =
    let t = c.args.self.now in (cell_out t.grid t.numbers.now c.args.i c.args.p (omega arith), omega arith)
