use Rattle.std.proofs.Common.{arith}
use Rattle.readers.proofs.CodeLaws.{is_name}
use Rattle.readers.proofs.ReadLaws.{held, expected}
use Rattle.elements.proofs.ListLaws.{leaf, branch}
use Rattle.elements.proofs.LoopLaws.{loop-first, loop-on, loop-falls, whole-deep, whole-final, whole-list}
use Rattle.elements.proofs.+element_enumeration.Goals as goal

pub element-enumeration-requires : goal.element-enumeration-requires
element-enumeration-requires t c =
    (omega (arith, c.decreases), (held (expected is_name c.expect-z.ensures) c.requires, c.if-z-eq-ROUND.true))

pub element-returns-then-z-eq-ROUND : goal.element-returns-then-z-eq-ROUND
element-returns-then-z-eq-ROUND t c =
    let a = c.args in
    branch a.text.now a.nesting c.expect-z.ensures _ _ _ _
    (rw (c.name_record-record.ensures, c.name_of-name.ensures) at c.put_record-end.ensures) _ _
    c.put_record-end.auto.scratch c.if-z-eq-ROUND.true c.enumeration.ensures

pub element-returns : goal.element-returns
element-returns t c =
    let a = c.args in
    leaf a.text.now a.nesting c.expect-z.ensures _ _ _ _
    (rw (c.name_record-record.ensures, c.name_of-name.ensures) at c.put_record-end.ensures) c.if-z-eq-ROUND.false

pub enumeration-returns-then-nesting-eq0 : goal.enumeration-returns-then-nesting-eq0
enumeration-returns-then-nesting-eq0 t c =
    let a = c.args in
    whole-deep a.text.now a.start a.nesting _ _ _ _ c.if-nesting-eq0.true c.requires.code_value c.faulty.ensures

pub enumeration-returns-then-z-eq-FINAL : goal.enumeration-returns-then-z-eq-FINAL
enumeration-returns-then-z-eq-FINAL t c =
    let a = c.args in
    whole-final a.text.now a.start a.nesting _ _ _ _ _ _ _ _ c.expect-z.ensures
    c.put_record-at.ensures c.put_record-at.auto.scratch
    (omega (arith, c.if-nesting-eq0.false)) c.if-z-eq-FINAL.true c.close_final.ensures

pub enumeration-loop-scratch-init : goal.enumeration-loop-scratch-init
enumeration-loop-scratch-init t c =
    let a = c.args in
    loop-first a.text.now a.start a.nesting _ a.y _ _ c.requires.held c.expect-z.ensures

pub enumeration-element-e-requires : goal.enumeration-element-e-requires
enumeration-element-e-requires t c =
    (omega (arith, c.decreases, c.if-nesting-eq0.false), c.loop-scratch.invariant.1)

pub enumeration-loop-scratch-smaller : goal.enumeration-loop-scratch-smaller
enumeration-loop-scratch-smaller t c =
    let a = c.args in
    loop-falls a.text.now a.start a.nesting _ _ _ _ _ _ _ _ _ _ c.loop-scratch.invariant
    (omega (arith, c.if-nesting-eq0.false)) c.element-e.ensures
    c.if-m-ne-COMMA.false c.expect-z-in-loop-scratch.ensures

pub enumeration-loop-scratch-preserved : goal.enumeration-loop-scratch-preserved
enumeration-loop-scratch-preserved t c =
    let a = c.args in
    loop-on a.text.now a.start a.nesting _ _ _ _ _ _ _ _ _ _ c.loop-scratch.invariant
    (omega (arith, c.if-nesting-eq0.false)) c.element-e.ensures
    c.if-m-ne-COMMA.false c.expect-z-in-loop-scratch.ensures c.element-e.auto.scratch

pub enumeration-returns-then-m-ne-COMMA : goal.enumeration-returns-then-m-ne-COMMA
enumeration-returns-then-m-ne-COMMA t c =
    let a = c.args in
    whole-list a.text.now a.start a.nesting _ _ _ _ _ _ _ _ c.expect-z.ensures
    c.put_record-at.ensures c.put_record-at.auto.scratch
    (omega (arith, c.if-nesting-eq0.false)) c.if-z-eq-FINAL.false _ _ _ _ _ _ c.loop-scratch.invariant
    c.element-e.ensures c.element-e.auto.scratch
    c.if-m-ne-COMMA.true c.list_end.ensures
