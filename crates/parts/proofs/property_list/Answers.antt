use Rattle.parts.proofs.PropertyLaws.{default-flags, loop-first, loop-on, loop-falls, list-end, list-fault}
use mathlib.Core.Path.{sym, ◌∙◌}
use Rattle.parts.proofs.property_list.Goals as goal

pub loop-owner-init : goal.loop-owner-init
loop-owner-init c =
    loop-first c.args.text.now c.args.owner _ _ c.requires

pub loop-owner-smaller : goal.loop-owner-smaller
loop-owner-smaller c =
    loop-falls c.args.text.now c.args.owner _ _ _ c.with-have.result _ _ _ c.loop-owner.invariant
    (sym c.is_property.ensures ∙ c.loop-owner-test.true) c.expect-m.ensures c.if-m-ne-COMMA.false c.expect-z.ensures

pub loop-owner-preserved : goal.loop-owner-preserved
loop-owner-preserved c =
    loop-on c.args.text.now c.args.owner _ _ _ _ _ _ _ c.loop-owner.invariant
    (sym c.is_property.ensures ∙ c.loop-owner-test.true) c.expect-m.ensures c.if-m-ne-COMMA.false
    c.expect-z.ensures c.with-have.ensures

pub returns-then-m-ne-COMMA : goal.returns-then-m-ne-COMMA
returns-then-m-ne-COMMA c =
    list-end c.args.text.now c.args.owner _ _ _ _ c.loop-owner.invariant
    (default-flags c.default-have.result c.default-have.ensures)
    (sym c.is_property.ensures ∙ c.loop-owner-test.true) c.with-have.ensures c.expect-m.ensures
    c.if-m-ne-COMMA.true c.expect.ensures

pub returns : goal.returns
returns c =
    list-fault c.args.text.now c.args.owner _ _ _ _ c.loop-owner.invariant
    (default-flags c.default-have.result c.default-have.ensures)
    (sym c.is_property.ensures ∙ c.loop-owner-test.false) c.faulty.ensures
