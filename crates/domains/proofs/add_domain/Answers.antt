use mathlib.Core.Path.{refl, sym, ◌∙◌}
use Rattle.rules.specs.Declarations.{known}
use Rattle.members.proofs.HeldLaws.{indexed}
use Rattle.domains.proofs.RowLaws.{numbers, kept-domain, refused-room}
use native.Mathlib.Omega.{arith}
use Rattle.state.proofs.RoomLaws.{definition-rows}
use Prim.Native.Nat.{◌+◌}
use Rattle.domains.proofs.add_domain.Goals as goal

pub overflow_add-size-2 : goal.overflow_add-size-2
overflow_add-size-2 c =
    let (s, n, p, b, w, o, hs, rs, h, l, z) = c.requires.some_sized in
    let v = numbers h c.args.desk.now.book.now l c.requires.text_len_bound.1 c.args.size z
    (sym c.has_room.ensures ∙ c.if-not-has_room.false) in
    let k = v.records in
    omega arith

pub declared-requires-clause-bytes_bound : goal.declared-requires-clause-bytes_bound
declared-requires-clause-bytes_bound c =
    let (s, n, p, b, w, o, hs, rs, h, l, z) = c.requires.some_sized in
    let v = numbers h c.args.desk.now.book.now l c.requires.text_len_bound.1 c.args.size z
    (sym c.has_room.ensures ∙ c.if-not-has_room.false) in
    (v.used, v.recorded, v.defined)

pub returns-clause-judged : goal.returns-clause-judged
returns-clause-judged c =
    λ s n p b w o hs rs h l e f.
    let m = (indexed h.keeps.held).known in
    rw c.enter_domain.ensures.only
    (kept-domain h c.args.desk.now.book.now l c.requires.text_len_bound.1 c.args.size e.sized
    (sym c.has_room.ensures ∙ c.if-not-has_room.false) e.laid
    c.is_mandatory-mandatory.result
    (c.is_mandatory-mandatory.ensures c.args.desk.now.text.now (known s.decls)
    c.args.st.listing.count c.requires.text_len_bound.2 m)
    c.flags-flags.result c.flags-flags.ensures.0 c.base_number-of_base.result
    (c.base_number-of_base.ensures c.args.desk.now.text.now (known s.decls)
    c.args.st.listing.count c.requires.text_len_bound.2 m)
    c.head_record-head.result c.put.new.out _ _
    c.head_record-head.ensures c.put.ensures c.put.auto.out refl c.enter_domain.ensures.chains
    (definition-rows c.args.desk.now c.args.st c.requires.ample
    (c.args.st.listing.count + 2) (omega arith)) c.requires.text_len_bound.2 f c.declared.result
    c.declared.ensures _ refl _ refl)

pub returns-then-not-has_room-clause-judged : goal.returns-then-not-has_room-clause-judged
returns-then-not-has_room-clause-judged c =
    λ s n p b w o hs rs h l e f.
    refused-room h c.args.desk.now.book.now l c.requires.text_len_bound.1 c.args.size e.sized
    (sym c.has_room.ensures ∙ c.if-not-has_room.true)
    _ refl _ _ _
