use Rattle.std.proofs.Common.{◌≡◌, Err, refl, sym, ◌∙◌, arith, rules}
use Rattle.enumerations.proofs.ListLaws.{element-in, opening-in, as_written}
use Rattle.tables.proofs.TwiceLaws.{past-in}
use Rattle.tables.proofs.CheckedLaws.{going_start, going_end, clash-twice, has_room, going-plain}
use Rattle.tables.proofs.CheckedLaws.{inner-twice, inner-past}
use Rattle.tables.proofs.twice.+in_list.Goals as goal

pub loop-g-init : goal.loop-g-init
loop-g-init t c =
    let a = c.args in (
      omega arith,
      omega (arith, c.requires.1),
      refl,
      λ e es l d i F.
          going_start a.text.now a.s.now a.g a.left e es a.list l i a.table.now d F,
    )

pub clashes-requires : goal.clashes-requires
clashes-requires t c = (
  record { some = c.requires.0.some; fits = omega (arith, c.requires.0.fits, c.loop-g.invariant.2) },
  omega (arith, c.loop-g.invariant.0),
  (element-in _ _ (sym c.is_element.ensures.value ∙ c.loop-g-test.true)).0,
  c.requires.2,
)

pub returns-then-clashes-clause-first : goal.returns-then-clashes-clause-first
returns-then-clashes-clause-first t c =
    let a = c.args in
    let v = c.loop-g in
    λ e es l d i F. clash-twice a.text.now a.s.now a.g a.left e es a.list l i
    v.table v.at (v.invariant.3 e es l d i F) v.invariant.0 (sym c.is_element.ensures.value ∙ c.loop-g-test.true)
    c.clashes.new.table c.clashes.result c.clashes.ensures c.if-clashes.true c.written_name-name.result
    (as_written c.written_name-name.ensures)

pub returns-then-left-eq0-clause-first : goal.returns-then-left-eq0-clause-first
returns-then-left-eq0-clause-first t c =
    let a = c.args in
    let v = c.loop-g in
    λ e es l d i F. absurd
    (omega (
      arith,
      has_room a.text.now a.s.now a.g a.left e es a.list l i
          v.table v.at (v.invariant.3 e es l d i F) v.invariant.0 (sym c.is_element.ensures.value ∙ c.loop-g-test.true)
          c.clashes.new.table c.clashes.result c.clashes.ensures c.if-clashes.false
          (sym c.is_opening.ensures.value ∙ c.if-is_opening.true),
      c.if-left-eq0.true,
    ))

pub in_list-requires : goal.in_list-requires
in_list-requires t c = (
  omega (arith, c.decreases, c.if-left-eq0.false),
  (
    record {
      some = c.requires.0.some;
      fits = omega (arith, c.requires.0.fits, c.loop-g.invariant.2, c.clashes.auto.table);
    },
    omega (arith, opening-in _ _ (sym c.is_opening.ensures.value ∙ c.if-is_opening.true)),
    c.requires.2,
  ),
)

pub returns-in_err-at-clause-first : goal.returns-in_err-at-clause-first
returns-in_err-at-clause-first t c =
    let a = c.args in
    let v = c.loop-g in
    let r : c.from_residual.result ≡ Err c.in_err-at.field-0.0 = search rules in
    λ e es l d i F. rw r (inner-twice a.text.now a.s.now a.g a.left e es a.list l i
    v.table v.at (v.invariant.3 e es l d i F) v.invariant.0 (sym c.is_element.ensures.value ∙ c.loop-g-test.true)
    c.clashes.new.table c.clashes.result c.clashes.ensures c.if-clashes.false
    (sym c.is_opening.ensures.value ∙ c.if-is_opening.true) c.in_list.new.table c.in_list.result
    c.in_list.ensures.first _ c.in_err-at.was)

pub loop-g-smaller-then-is_opening : goal.loop-g-smaller-then-is_opening
loop-g-smaller-then-is_opening t c =
    omega (
      arith,
      element-in _ _ (sym c.is_element.ensures.value ∙ c.loop-g-test.true),
      past-in _ _ _ _ c.in_ok-at.was c.in_list.ensures.within,
    )

pub loop-g-preserved-then-is_opening : goal.loop-g-preserved-then-is_opening
loop-g-preserved-then-is_opening t c =
    let a = c.args in
    let v = c.loop-g in
    let w = past-in _ _ _ _ c.in_ok-at.was c.in_list.ensures.within in (
      omega (arith, v.invariant.0),
      w.1,
      c.in_list.auto.table ∙ c.clashes.auto.table ∙ v.invariant.2,
      λ e es l d i F. inner-past a.text.now a.s.now a.g a.left e es a.list l i
          v.table v.at (v.invariant.3 e es l d i F) v.invariant.0 (sym c.is_element.ensures.value ∙ c.loop-g-test.true)
          c.clashes.new.table c.clashes.result c.clashes.ensures c.if-clashes.false
          (sym c.is_opening.ensures.value ∙ c.if-is_opening.true) c.in_list.new.table c.in_list.result
          c.in_list.ensures.first _ c.in_ok-at.was,
    )

pub loop-g-preserved : goal.loop-g-preserved
loop-g-preserved t c =
    let a = c.args in
    let v = c.loop-g in (
      omega (arith, v.invariant.0),
      (element-in _ _ (sym c.is_element.ensures.value ∙ c.loop-g-test.true)).0,
      c.clashes.auto.table ∙ v.invariant.2,
      λ e es l d i F. going-plain a.text.now a.s.now a.g a.left e es a.list l i
          v.table v.at (v.invariant.3 e es l d i F) v.invariant.0 (sym c.is_element.ensures.value ∙ c.loop-g-test.true)
          c.clashes.new.table c.clashes.result c.clashes.ensures c.if-clashes.false
          (sym c.is_opening.ensures.value ∙ c.if-is_opening.false),
    )

pub returns-then-at-s-clause-first : goal.returns-then-at-s-clause-first
returns-then-at-s-clause-first t c =
    let a = c.args in
    let v = c.loop-g in
    λ e es l d i F. (going_end a.text.now a.s.now a.g a.left e es a.list l i
    v.table v.at (v.invariant.3 e es l d i F) (sym c.is_element.ensures.value ∙ c.loop-g-test.false)).1

pub returns-clause-first : goal.returns-clause-first
returns-clause-first t c =
    let a = c.args in
    let v = c.loop-g in
    λ e es l d i F. absurd
    (omega (
      arith,
      (going_end a.text.now a.s.now a.g a.left e es a.list l i
          v.table v.at (v.invariant.3 e es l d i F) (sym c.is_element.ensures.value ∙ c.loop-g-test.false)).0,
      c.if-at-s.false,
    ))
