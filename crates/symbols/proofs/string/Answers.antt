use Rattle.std.proofs.Common.{◌≡◌, ◌+◌, ◌-◌, sym, ◌∙◌, arith}
use Rattle.symbols.proofs.StringLaws.{step_in, string-closed, string-bad, string-open, string-on}
use Rattle.symbols.proofs.string.Goals as goal

pub loop-i-init : goal.loop-i-init
loop-i-init c =
    let z : c.args.at + 1 - (c.args.at + 1) ≡ 0 = omega arith in
    (omega arith, omega arith, rw z)

pub returns-then-text-i-eq34 : goal.returns-then-text-i-eq34
returns-then-text-i-eq34 c =
    let a = c.args in
    c.make.ensures
    ∙ sym (string-closed a.text.now a.at c.loop-i.i a.line (omega arith) c.loop-i.invariant.2
    (omega arith) c.if-text-i-eq34.true)

pub returns-in-None : goal.returns-in-None
returns-in-None c =
    let a = c.args in
    c.fault.ensures
    ∙ sym (string-bad a.text.now a.at c.loop-i.i a.line (omega arith) c.loop-i.invariant.2
    (omega arith) c.if-text-i-eq34.false
    (sym c.step.ensures ∙ c.in-None.is))

pub overflow_add-i-in-Some : goal.overflow_add-i-in-Some
overflow_add-i-in-Some c =
    let (p, q) = step_in c.args.text.now c.loop-i.i c.in-Some.n (omega arith) (sym c.step.ensures ∙ c.in-Some.is) in
    omega arith

pub loop-i-smaller : goal.loop-i-smaller
loop-i-smaller c =
    let (p, q) = step_in c.args.text.now c.loop-i.i c.in-Some.n (omega arith) (sym c.step.ensures ∙ c.in-Some.is) in
    omega arith

pub loop-i-preserved : goal.loop-i-preserved
loop-i-preserved c =
    let a = c.args in
    let e = sym c.step.ensures ∙ c.in-Some.is in
    let (p, q) = step_in a.text.now c.loop-i.i c.in-Some.n (omega arith) e in (
      omega arith,
      q,
      string-on a.text.now a.at c.loop-i.i a.line (omega arith) c.loop-i.invariant.2 c.in-Some.n (omega arith)
          c.if-text-i-eq34.false e,
    )

pub returns : goal.returns
returns c =
    let a = c.args in
    c.fault-2.ensures
    ∙ sym (string-open a.text.now a.at c.loop-i.i a.line (omega arith) c.loop-i.invariant.2 (omega arith))
