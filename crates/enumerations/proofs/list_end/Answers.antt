use native.Mathlib.Omega.{arith}
use mathlib.Core.Path.{refl, sym}
use Prim.Native.Nat.{◌+◌, ◌-◌}
use Rattle.enumerations.specs.Lists.{end_from}
use Rattle.enumerations.specs.declared.End.{End}
use Rattle.enumerations.proofs.ListLaws.{end-out, end-element, end-opening, end-last, end-close, more}
use Rattle.book.specs.Sizes.{element_size, list_size}
use Rattle.enumerations.proofs.list_end.Goals as goal

pub loop-at-init : goal.loop-at-init
loop-at-init c = (omega arith, omega arith, omega arith, omega arith, λ r q. q)

pub loop-at-preserved-in-14 : goal.loop-at-preserved-in-14
loop-at-preserved-in-14 c =
    let s = c.args.s.now in (
      omega arith,
      omega arith,
      omega arith,
      omega arith,
      λ r q. c.loop-at.invariant.4 r (more s c.loop-at.at (c.loop-at.at + element_size)
          (λ f. end_from f s c.loop-at.at c.loop-at.inner c.loop-at.records)
          (λ f. end_from f s (c.loop-at.at + element_size) c.loop-at.inner (c.loop-at.records + 1)) (omega arith)
          (omega arith)
          (λ f. end-element f s c.loop-at.at c.loop-at.inner c.loop-at.records (omega arith) c.in-14.is) q),
    )

pub loop-at-preserved-in-13 : goal.loop-at-preserved-in-13
loop-at-preserved-in-13 c =
    let s = c.args.s.now in (
      omega arith,
      omega arith,
      omega arith,
      omega arith,
      λ r q. c.loop-at.invariant.4 r (more s c.loop-at.at (c.loop-at.at + list_size)
          (λ f. end_from f s c.loop-at.at c.loop-at.inner c.loop-at.records)
          (λ f. end_from f s (c.loop-at.at + list_size) (c.loop-at.inner + 1) (c.loop-at.records + 1)) (omega arith)
          (omega arith)
          (λ f. end-opening f s c.loop-at.at c.loop-at.inner c.loop-at.records (omega arith) c.in-13.is) q),
    )

pub returns-then-inner-eq0 : goal.returns-then-inner-eq0
returns-then-inner-eq0 c =
    let s = c.args.s.now in
    let e : End = record { at = c.loop-at.at + 1; records = c.loop-at.records + 1 } in (
      c.loop-at.invariant.4 e (more s c.loop-at.at (c.loop-at.at + 1)
          (λ f. end_from f s c.loop-at.at c.loop-at.inner c.loop-at.records) (λ f. e) (omega arith)
          (omega arith)
          (λ f. end-last f s c.loop-at.at c.loop-at.inner c.loop-at.records (omega arith) (λ z. omega arith)
          (λ z. omega arith) c.if-inner-eq0.true) (λ g h. refl)),
      omega arith,
      omega arith,
    )

pub loop-at-preserved : goal.loop-at-preserved
loop-at-preserved c =
    let s = c.args.s.now in (
      omega arith,
      omega arith,
      omega arith,
      omega arith,
      λ r q. c.loop-at.invariant.4 r
          (more s c.loop-at.at (c.loop-at.at + 1) (λ f. end_from f s c.loop-at.at c.loop-at.inner c.loop-at.records)
          (λ f. end_from f s (c.loop-at.at + 1) (c.loop-at.inner - 1) (c.loop-at.records + 1)) (omega arith)
          (omega arith)
          (λ f. end-close f s c.loop-at.at c.loop-at.inner c.loop-at.records (omega arith) (λ z. omega arith)
          (λ z. omega arith) c.if-inner-eq0.false) q),
    )

pub returns-after-loop-at : goal.returns-after-loop-at
returns-after-loop-at c =
    let s = c.args.s.now in (
      c.loop-at.invariant.4 _ (λ g h. sym (end-out g s c.loop-at.at c.loop-at.inner c.loop-at.records (omega arith))),
      omega arith,
      omega arith,
    )
