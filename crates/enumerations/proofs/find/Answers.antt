use native.Mathlib.Omega.{arith}
use mathlib.Core.Path.{refl, sym, ◌∙◌}
use Prim.Native.Nat.{◌+◌}
use Rattle.std.specs.Prelude.{Some, None}
use Rattle.enumerations.specs.Lists.{find_from}
use Rattle.enumerations.proofs.ListLaws.{as_written, element-in, more, find-here, find-next, find_none}
use Rattle.book.specs.Sizes.{element_size}
use Rattle.enumerations.proofs.find.Goals as goal

pub loop-name-init : goal.loop-name-init
loop-name-init c = λ r q. q

pub returns-then-same_name : goal.returns-then-same_name
returns-then-same_name c =
    let a = c.args in
    let e = sym c.is_element.ensures.value ∙ c.loop-name-test.true in
    let h = element-in _ _ e in
    let m = rw (as_written c.written_name.ensures) at (sym c.same_name.ensures ∙ c.if-same_name.true) in
    c.loop-name.invariant (Some (c.loop-name.at + element_size)) (more a.s.now c.loop-name.at (c.loop-name.at + 1)
    (λ f. find_from f a.text.now a.s.now c.loop-name.at a.name)
    (λ f. Some (c.loop-name.at + element_size)) (omega arith) (omega arith)
    (λ f. find-here f a.text.now a.s.now c.loop-name.at a.name e m) (λ g h. refl))

pub loop-name-preserved : goal.loop-name-preserved
loop-name-preserved c =
    let a = c.args in
    let e = sym c.is_element.ensures.value ∙ c.loop-name-test.true in
    let h = element-in _ _ e in
    let m = rw (as_written c.written_name.ensures) at (sym c.same_name.ensures ∙ c.if-same_name.false) in
    λ r q. c.loop-name.invariant r (more a.s.now c.loop-name.at c.past_inner-at.result
    (λ f. find_from f a.text.now a.s.now c.loop-name.at a.name)
    (λ f. find_from f a.text.now a.s.now c.past_inner-at.result a.name) (omega arith)
    (omega (arith, c.past_inner-at.ensures.1))
    (λ f. find-next f a.text.now a.s.now c.loop-name.at a.name e m ∙ rw c.past_inner-at.ensures.0) q)

pub returns : goal.returns
returns c =
    let a = c.args in
    c.loop-name.invariant None (λ g h. sym
    (find_none g a.text.now a.s.now c.loop-name.at a.name (sym c.is_element.ensures.value ∙ c.loop-name-test.false)))
