use mathlib.Core.Path.{sym, ap, ◌∙◌}
use Rattle.std.proofs.lemmas.Result.{err_from_is_err_and}
use Rattle.std.specs.Prelude.{Ok, Err}
use Rattle.rules.specs.Declarations.{known}
use Rattle.rules.specs.Judge.{or_no_attribute, reference_in}
use Rattle.names.specs.Index.{entry}
use Rattle.members.specs.Held.{attributes_in}
use Rattle.state.specs.declared.desk.Desk.{Desk}
use Rattle.state.proofs.JudgeLaws.{small}
use Rattle.state.proofs.TargetLaws.{reference-fair}
use Rattle.attribute_names.proofs.GivenLaws.{is-meant, is-reference, name-inside}
use Rattle.attributes.proofs.WholeLaws.{unit-is, class-is, answers, judged-first, refers_to, typings, judged-second}
use Rattle.attributes.proofs.WholeLaws.{laid-by}
use Rattle.attributes.proofs.WholeLaws.{judged-third, size-solid, passes, judged-end}
use native.Mathlib.Omega.{arith}
use Rattle.attributes.proofs.judge_attribute.Goals as goal

pub judge_name-requires : goal.judge_name-requires
judge_name-requires c =
    let (q, n, p, w, k, m) = c.requires.comes in
    let g = unit-is k m in record {
      inside = (
        k.model.inside,
        name-inside c.args.desk.now.text.now n p w c.args.desk.now.scratch.now c.args.a g,
        c.requires.text_len_bound.3,
      );
      in_hand_bound = (k.hand, c.requires.text_len_bound.4);
      scratch_len_bound = (c.requires.text_len_bound.2, omega (arith, c.requires.tables_for));
      reference_value = (
        reference_in w.type,
        is-reference c.args.desk.now.text.now n p w c.args.desk.now.scratch.now c.args.a g,
        reference-fair c.args.desk.now.text.now w.type g.fair.type,
      );
    }

pub returns-in_err-b-clause-judged : goal.returns-in_err-b-clause-judged
returns-in_err-b-clause-judged c =
    let i = err_from_is_err_and c.from_residual.result c.from_residual.ensures.1 in
    let o = c.in_err-b.ensures.only in
    rw (i.1, i.2, o) (λ q n p w k m.
    let (d, ed) = class-is k m in
    answers k m _ _ _ _ _ _
    (judged-first k m _ (c.in_err-b.ensures.bonds.1 q d n p w c.args.desk.now.book.now k ed (unit-is k m))))

pub returns-in_err-u-clause-judged : goal.returns-in_err-u-clause-judged
returns-in_err-u-clause-judged c =
    let i = err_from_is_err_and c.from_residual-in_err-u.result c.from_residual-in_err-u.ensures.1 in
    let o = c.in_ok-b.ensures.only in
    let ru = rw o at c.in_err-u.ensures.1 in
    rw (i.1, i.2, o) (λ q n p w k m.
    let (d, ed) = class-is k m in
    let ei = c.in_ok-b.ensures.bonds.1 q d n p w c.args.desk.now.book.now k ed (unit-is k m) in
    answers k m _ _ _ _ _ _
    (judged-second k m ei _ (typings k m ei c.requires.text_len_bound.1 (Err c.in_err-u.field-0.0) ru)))

pub lay_use-requires-clause-sized : goal.lay_use-requires-clause-sized
lay_use-requires-clause-sized c =
    let (q, n, p, w, k, m) = c.requires.comes in
    let (d, ed) = class-is k m in
    let o = c.in_ok-b.ensures.only in
    let ei = c.in_ok-b.ensures.bonds.1 q d n p w c.args.desk.now.book.now k ed (unit-is k m) in
    let ri = typings k m ei c.requires.text_len_bound.1 (Ok c.in_ok-u.u) (rw o at c.in_ok-u.ensures.1) in
    rw o (
      ri.1.sized_own,
      ri.1.sized_base,
      omega (arith, c.in_ok-u.ensures.0.named, c.in_ok-b.ensures.bonds.0.target),
      c.in_ok-u.ensures.0.kept,
      c.requires.text_len_bound.3,
    )

pub returns-in_err-size-clause-judged : goal.returns-in_err-size-clause-judged
returns-in_err-size-clause-judged c =
    let i = err_from_is_err_and c.from_residual-in_err-size.result c.from_residual-in_err-size.ensures.1 in
    let o = c.in_ok-b.ensures.only in
    let e = c.in_err-size.ensures.only in
    let ru = rw o at c.in_ok-u.ensures.1 in
    let rl = rw o at c.in_err-size.ensures.value in
    rw (i.1, i.2, e, o) (λ q n p w k m.
    let (d, ed) = class-is k m in
    let ei = c.in_ok-b.ensures.bonds.1 q d n p w c.args.desk.now.book.now k ed (unit-is k m) in
    let bi = c.in_ok-u.ensures.0 in
    let ri = typings k m ei c.requires.text_len_bound.1 (Ok c.in_ok-u.u) ru in
    answers k m _ _ _ _ _ _
    (judged-third k m ei bi ri _ _
    (laid-by k m ei bi ri c.lay_use.new.desk.book.now c.in_ok-b.ensures.bonds.0.base c.requires.text_len_bound.1
    (Err c.in_err-size.field-0.0) rl)))

pub end_attribute-requires-clause-used_in_bounds : goal.end_attribute-requires-clause-used_in_bounds
end_attribute-requires-clause-used_in_bounds c =
    let (q, n, p, w, k, m) = c.requires.comes in
    let o = c.in_ok-b.ensures.only in
    let same = rw o at c.in_ok-size.ensures.stays.1.1 in
    rw (c.in_ok-size.ensures.only, o) (
      omega (arith, k.within, same),
      omega (arith, c.requires.text_len_bound.1, same),
      small c.args.desk.now.text.now q c.args.st _ _ _ _ _ k,
      c.requires.text_len_bound.3,
      c.requires.text_len_bound.4,
    )

pub end_attribute-requires-clause-within : goal.end_attribute-requires-clause-within
end_attribute-requires-clause-within c =
    let (q, n, p, w, k, m) = c.requires.comes in
    let bi = c.in_ok-u.ensures.0 in (
      c.in_ok-b.ensures.bonds.0,
      k.hand,
      c.use_at-d.ensures.by_index c.args.st.listing.count
          (omega (arith, bi.named, c.in_ok-b.ensures.bonds.0.target)) bi.kept,
    )

pub end_attribute-requires-clause-len_bound : goal.end_attribute-requires-clause-len_bound
end_attribute-requires-clause-len_bound c =
    let (q, n, p, w, k, m) = c.requires.comes in
    let (d, ed) = class-is k m in
    let o = c.in_ok-b.ensures.only in
    let ei = c.in_ok-b.ensures.bonds.1 q d n p w c.args.desk.now.book.now k ed (unit-is k m) in
    let bi = c.in_ok-u.ensures.0 in
    let ri = typings k m ei c.requires.text_len_bound.1 (Ok c.in_ok-u.u) (rw o at c.in_ok-u.ensures.1) in
    let li = laid-by k m ei bi ri c.lay_use.new.desk.book.now c.in_ok-b.ensures.bonds.0.base
    c.requires.text_len_bound.1 (Ok c.in_ok-size.size) (rw o at c.in_ok-size.ensures.value) in
    let i = name-inside c.args.desk.now.text.now n p w c.args.desk.now.scratch.now c.args.a (unit-is k m) in
    (omega (arith, c.requires.text_len_bound.0, i), size-solid k m ei bi ri _ _ li)

pub returns-clause-judged : goal.returns-clause-judged
returns-clause-judged c =
    let o = c.in_ok-b.ensures.only in
    let e = c.in_ok-size.ensures.only in
    let t = c.end_attribute.ensures.stays.0 ∙ ap (λ (x : Desk). x.text) e ∙ ap (λ (x : Desk). x.text) o in
    let ru = rw o at c.in_ok-u.ensures.1 in
    let rl = rw o at c.in_ok-size.ensures.value in
    let same = rw o at c.in_ok-size.ensures.stays.1.1 in
    rw t (λ q n p w k m.
    let (d, ed) = class-is k m in
    let g = unit-is k m in
    let ei = c.in_ok-b.ensures.bonds.1 q d n p w c.args.desk.now.book.now k ed g in
    let bi = c.in_ok-u.ensures.0 in
    let ri = typings k m ei c.requires.text_len_bound.1 (Ok c.in_ok-u.u) ru in
    let li = laid-by k m ei bi ri c.lay_use.new.desk.book.now c.in_ok-b.ensures.bonds.0.base
    c.requires.text_len_bound.1 (Ok c.in_ok-size.size) rl in
    let u = c.use_at-d.ensures.v_value (known q.decls) w.type
    (or_no_attribute (entry (attributes_in q) c.in_ok-b.b.base)).use_of c.in_ok-b.b.target
    (is-meant c.args.desk.now.text.now n p w c.args.desk.now.scratch.now c.args.a g) ri.1.named (refers_to k m ei)
    ri.1.kept in
    judged-end k m ei bi ri _ _ li c.end_attribute.result _ _ _ _ _
    (rw t at (c.end_attribute.ensures.judged q c.args.desk.now.book.now c.args.desk.now.scratch.now d n p w
    (sym same) (rw (e, o) (passes k m ei bi ri _ _ li c.use_at-d.result u)))))
