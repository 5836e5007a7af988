use mathlib.Core.Path.{refl, sym, ◌∙◌}
use lib.ListN.{length}
use Prim.Native.Nat.{◌+◌}
use borrow.Author.Tests.{leb-true}
use Rattle.rules.specs.Book.{book}
use Rattle.rules.specs.Declarations.{known}
use Rattle.book.specs.Sizes.{head_size}
use Rattle.members.specs.Held.{attributes_in}
use Rattle.state.proofs.DeskLaws.{stays-trans, stays-hand}
use Rattle.state.proofs.RoomLaws.{attribute_rows}
use Rattle.attributes.proofs.EndLaws.{was, held-front, end-over, end-fine}
use native.Mathlib.Omega.{arith}
use Rattle.attributes.proofs.end_attribute.Goals as goal

pub overflow_add-size : goal.overflow_add-size
overflow_add-size c =
    let r = leb-true (c.args.st.extent.used + head_size + c.args.size.bytes) (length c.args.desk.now.book.now)
    (sym c.has_room.ensures ∙ c.if-not-has_room.false) in
    omega (arith, c.requires.used_in_bounds.1, r)

pub overflow_add-size-2 : goal.overflow_add-size-2
overflow_add-size-2 c =
    let r = leb-true (c.args.st.extent.used + head_size + c.args.size.bytes) (length c.args.desk.now.book.now)
    (sym c.has_room.ensures ∙ c.if-not-has_room.false) in
    omega (arith, c.requires.used_in_bounds.1, c.requires.len_bound.1, r)

pub with_member-requires : goal.with_member-requires
with_member-requires c =
    let r = leb-true (c.args.st.extent.used + head_size + c.args.size.bytes) (length c.args.desk.now.book.now)
    (sym c.has_room.ensures ∙ c.if-not-has_room.false) in record {
      bytes_bound = (
        omega (arith, c.requires.used_in_bounds.1, r),
        omega (arith, c.requires.used_in_bounds.1, c.requires.len_bound.1, c.requires.used_in_bounds.2.fewer, r),
        omega (
          arith,
          c.requires.used_in_bounds.1,
          c.requires.used_in_bounds.2.fewer,
          c.requires.used_in_bounds.2.defined,
          r,
        ),
      );
      total_bound =
          omega (arith, c.requires.used_in_bounds.0, c.requires.used_in_bounds.1, c.requires.used_in_bounds.2.rows);
    }

pub returns-clause-stays : goal.returns-clause-stays
returns-clause-stays c =
    stays-trans _ _ _ c.put_head-f.ensures.stays
    (stays-trans _ _ _ c.enter_attribute.ensures.stays (stays-hand _ c.hold-n.new.hand c.hold-n.auto.hand))

pub returns-clause-judged : goal.returns-clause-judged
returns-clause-judged c =
    λ q o rs d n ps w el h.
    let f = c.put_head-f.ensures.only in
    let x = was h el c.requires.used_in_bounds.1 in
    let v = c.put_head-f.ensures.value.1 c.args.desk.now.text.now (book q) (known q.decls) (attributes_in q) x.hand
    c.args.st.context.in_hand n ps w rs (held-front h el c.requires.used_in_bounds.1) h.given
    x.filled (h.at_slot x) in
    rw (c.enter_attribute.ensures.only, f)
    (end-fine h el c.requires.used_in_bounds.1
    (sym c.has_room.ensures ∙ c.if-not-has_room.false) c.from.result (c.from.ensures ∙ v.0) _
    v.1 _ refl _ _ _ refl refl refl _
    c.hold-n.result c.hold-n.ensures.0
    (rw (c.enter_attribute.ensures.only, f) at c.hold-n.ensures.1) c.requires.within.2
    (attribute_rows c.args.desk.now c.args.st c.requires.used_in_bounds.3 (c.args.st.listing.total + 1) (omega arith)) _
    c.with_member.ensures)

pub returns-then-not-has_room-clause-judged : goal.returns-then-not-has_room-clause-judged
returns-then-not-has_room-clause-judged c =
    λ q o rs d n p w el h.
    end-over h el c.requires.used_in_bounds.1 (sym c.has_room.ensures ∙ c.if-not-has_room.true) _ refl _ _ _ _ _
