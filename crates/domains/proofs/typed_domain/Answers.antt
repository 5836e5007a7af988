use mathlib.Core.Path.{refl, sym, ap, subst}
use mathlib.Core.List.{[]}
use Prim.Native.Nat.{◌+◌}
use lib.ListN.{length}
use Rattle.std.specs.Prelude.{Err}
use Rattle.std.proofs.lemmas.Result.{err_from_is_err_and}
use Rattle.rules.specs.Judge as J
use Rattle.rules.specs.Judge.{or_no_def, resolved, target_in, domain_type}
use Rattle.rules.specs.Check.{lent, room}
use Rattle.units.specs.declared.DomainUnit.{DomainUnit}
use Rattle.state.specs.Keeping.{AnsweredOver}
use Rattle.domains.specs.Stages.{declared_in, records_of}
use Rattle.domains.proofs.StageLaws.{is-unit, own-sized, laid, whole, refused-head}
use Rattle.domains.proofs.StageLaws.{refused-type, fine-type, next-fair}
use Rattle.book.specs.Sizes.{head_size}
use Rattle.domains.proofs.typed_domain.Goals as goal

pub returns-then-is_bad_head-clause-judged : goal.returns-then-is_bad_head-clause-judged
returns-then-is_bad_head-clause-judged c =
    λ s n p b w hs h.
    let v = c.over_base-over.ensures s n p b w _ _ c.args.d refl h in
    refused-head c.args.desk.now.text.now n p w (resolved s b) (target_in s w) (declared_in s n p b w)
    (lent (length c.args.desk.now.book.now)) _ _ _ _ _ c.is_bad_head.result
    (c.is_bad_head.ensures p (domain_type w.type (target_in s w) (or_no_def (resolved s b)).type)
    (ap (λ (u : DomainUnit). u.properties) (is-unit h)) v.own) _
    c.if-is_bad_head.true (ap (λ (u : DomainUnit). Err (record { number = 13; place = u.name.offset })) (is-unit h))

pub lay_written-requires-clause-sized : goal.lay_written-requires-clause-sized
lay_written-requires-clause-sized c =
    let (s, n, p, b, w, hs, h) = c.requires.some_extending in
    own-sized h c.over_base-over.result (c.over_base-over.ensures s n p b w _ _ c.args.d refl h)

pub returns-in_err-size-clause-judged : goal.returns-in_err-size-clause-judged
returns-in_err-size-clause-judged c =
    let q = err_from_is_err_and c.from_residual.result c.from_residual.ensures.1 in
    rw (q.1, q.2) (
    λ s n p b w hs h.
    let v = c.over_base-over.ensures s n p b w _ _ c.args.d refl h in
    refused-type c.args.desk.now.text.now n p w (resolved s b) (target_in s w) (declared_in s n p b w)
    (lent (length c.args.desk.now.book.now)) _ _ _ _ _ c.is_bad_head.result
    (c.is_bad_head.ensures p (domain_type w.type (target_in s w) (or_no_def (resolved s b)).type)
    (ap (λ (u : DomainUnit). u.properties) (is-unit h)) v.own) c.if-is_bad_head.false (records_of s b w)
    (c.args.st.extent.used + head_size) c.args.desk.now.book.now c.lay_written.new.book _
    (laid h c.over_base-over.result v c.lay_written.new.book _ c.in_err-size.ensures))

pub add_domain-requires-clause-some_sized : goal.add_domain-requires-clause-some_sized
add_domain-requires-clause-some_sized c =
    let (s, n, p, b, w, hs, h) = c.requires.some_extending in
    let v = c.over_base-over.ensures s n p b w _ _ c.args.d refl h in
    let q = laid h c.over_base-over.result v c.lay_written.new.book _ c.in_ok-size.ensures in (
      s,
      n,
      p,
      b,
      w,
      c.args.desk.now.book.now,
      hs,
      c.args.desk.now.scratch.now,
      h,
      sym c.lay_written.auto.book,
      (whole h c.over_base-over.result v c.lay_written.new.book c.in_ok-size.size q).0,
    )

pub returns-clause-judged : goal.returns-clause-judged
returns-clause-judged c =
    λ s n p b w hs h.
    let v = c.over_base-over.ensures s n p b w _ _ c.args.d refl h in
    let q = laid h c.over_base-over.result v c.lay_written.new.book _ c.in_ok-size.ensures in
    let g = whole h c.over_base-over.result v c.lay_written.new.book c.in_ok-size.size q in
    let f = fine-type c.args.desk.now.text.now n p w (resolved s b) (target_in s w) (declared_in s n p b w)
    (lent (length c.args.desk.now.book.now)) [] [] [] [] [] c.is_bad_head.result
    (c.is_bad_head.ensures p (domain_type w.type (target_in s w) (or_no_def (resolved s b)).type)
    (ap (λ (u : DomainUnit). u.properties) (is-unit h)) v.own) c.if-is_bad_head.false (records_of s b w)
    (c.args.st.extent.used + head_size) c.args.desk.now.book.now
    c.lay_written.new.book c.in_ok-size.size q in
    subst (λ (j : J.Judged). AnsweredOver c.add_domain.new.desk hs
    (room (lent (length c.args.desk.now.book.now)) n.offset j) c.add_domain.result)
    (sym f) (c.add_domain.ensures.judged s n p b w c.args.desk.now.book.now hs _ h
    (sym c.lay_written.auto.book) (record { sized = g.0; laid = g.1 }) (next-fair h f))
