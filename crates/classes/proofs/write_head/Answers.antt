use mathlib.Core.Path.{ap, ◌∙◌}
use Rattle.names.specs.Index.{entry}
use Rattle.state.specs.Desks.{with_book, with_index}
use Rattle.state.proofs.DeskLaws.{stays-trans, stays-book}
use Rattle.classes.proofs.ClassLaws.{class-row, class-narrow, class-record}
use native.Mathlib.Omega.{arith}
use Rattle.classes.proofs.write_head.Goals as goal

pub enter-requires : goal.enter-requires
enter-requires c = (
  c.requires.head_size_in_bounds.2,
  class-narrow c.args.st c.args.head c.args.base _ _ c.requires.len_bound.0
      c.requires.head_size_in_bounds.0 c.requires.len_bound.1
      c.requires.head_size_in_bounds.1 c.requires.base_le_count.0 c.requires.base_le_count.1 (omega arith),
)

pub returns-clause-stays : goal.returns-clause-stays
returns-clause-stays c =
    stays-trans _ _ _ (stays-book c.args.desk.now c.put.new.out c.put.auto.out) c.enter.ensures.stays

pub returns-clause-only : goal.returns-clause-only
returns-clause-only c =
    rw c.enter.ensures.only (ap (with_index (with_book c.args.desk.now c.put.new.out))
    (class-row c.args.desk.now.index.now c.args.st c.args.head c.args.base _ (cc)))

pub returns-clause-book : goal.returns-clause-book
returns-clause-book c =
    λ t ks k. rw c.enter.ensures.only (c.put.ensures
    ∙ class-record c.args.desk.now.book.now c.args.st.extent.used c.args.head
    (entry ks c.args.base) _ _ _ _ c.head_record-record.ensures c.head_kind-kind.ensures c.flags-flags.ensures.0
    (c.base_number-number.ensures t ks c.args.st.listing.count c.requires.base_le_count.0 k))
