use Rattle.std.proofs.Common.{sym, ap, ◌∙◌}
use Rattle.std.specs.Option.{is_some}
use Rattle.rules.proofs.Tests.{never}
use Rattle.ground.specs.declared.Name as code
use Rattle.tables.specs.Tables.{seek_in}
use Rattle.enumerations.proofs.ListLaws.{as_written}
use Rattle.tables.proofs.clashes.Goals as goal

pub returns-then-is_some : goal.returns-then-is_some
returns-then-is_some c =
    let a = c.args in
    λ es F N. record {
      says =
          sym c.if-is_some.true ∙ c.is_some.ensures
          ∙ ap is_some (c.seek.ensures es a.at F
          ∙ ap (λ (n : code.Name). seek_in a.text.now a.s.now a.list n es) (as_written c.written_name.ensures));
      more = λ e. never (sym e);
    }

pub returns : goal.returns
returns c =
    let a = c.args in
    λ es F N. record {
      says =
          sym c.if-is_some.false ∙ c.is_some.ensures
          ∙ ap is_some (c.seek.ensures es a.at F
          ∙ ap (λ (n : code.Name). seek_in a.text.now a.s.now a.list n es) (as_written c.written_name.ensures));
      more = λ e. c.enter.ensures es F N;
    }
