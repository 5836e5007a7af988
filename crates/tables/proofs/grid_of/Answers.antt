use mathlib.Core.Path.{sym, ◌∙◌}
use Rattle.enumerations.proofs.WrittenLaws.{not-stands}
use Rattle.tables.proofs.GatherLaws.{list-past, end-within}
use native.Mathlib.Omega.{arith}
use Rattle.tables.proofs.grid_of.Goals as goal

pub returns-then-end-s : goal.returns-then-end-s
returns-then-end-s c =
    record {
      some = omega arith;
      small = omega arith;
      room = λ t e u.
          let q = list-past t c.args.s.now e c.args.at c.list_end-end.result
          c.list_end-end.ensures.0 u in
          (omega arith, omega arith);
    }

pub returns-else-end-s : goal.returns-else-end-s
returns-else-end-s c =
    let a = c.args in
    record {
      some = omega arith;
      small = omega arith;
      room = λ t e u.
          let q = list-past t a.s.now e a.at c.list_end-end.result c.list_end-end.ensures.0 u in
          let w = end-within t a.s.now e a.at u in
          absurd (omega (arith, c.if-end-s.false));
    }

pub returns-else-is_opening : goal.returns-else-is_opening
returns-else-is_opening c =
    record {
      some = omega arith;
      small = omega arith;
      room = λ t e u. not-stands t c.args.s.now e c.args.at u
          (sym c.is_opening.ensures.value ∙ c.if-is_opening.false);
    }
