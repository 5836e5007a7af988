use Rattle.std.proofs.Common.{◌≡◌, Some, sym, ap, ◌∙◌}
use Rattle.enumerations.specs.Lists.{find_of}
use borrow.Author.Tests.{eqb-true}
use Rattle.tables.proofs.GatherLaws.{found-hit, found-listed}
use Rattle.tables.proofs.Table.find.Goals as goal
use Rattle.tables.proofs.Table.find.Goals.{then-is_some-via-then-is_some, then-is_some-via-else-is_some+then-is_of_list}

pub returns-then-is_some : goal.returns-then-is_some
returns-then-is_some c =
    let t = c.args.self.now in
    let l : c.args.list ≡ Some c.in_ok-list.list = c.in_ok-list.was in
    λ G. elim c.then-is_some.branch [
      | then-is_some-via-then-is_some w ↦
          found-hit t.text.now t.s.now t.grid t.numbers.now c.in_ok-list.list c.args.name c.seek-m.result
          c.seek-m.ensures G (sym c.is_some.ensures ∙ w.if-is_some.true)
          ∙ ap (λ o. find_of t.text.now t.s.now o c.args.name) (sym l)
      | then-is_some-via-else-is_some+then-is_of_list w ↦
          found-listed t.text.now t.s.now t.grid t.numbers.now c.in_ok-list.list c.args.name c.seek-m.result
          c.seek-m.ensures G (eqb-true _ _ (sym w.is_of_list.ensures ∙ w.if-is_of_list.true))
          ∙ ap (λ o. find_of t.text.now t.s.now o c.args.name) (sym l)
    ]
