use mathlib.Core.Path.{ap, ◌∙◌}
use mathlib.Core.Logic.{inl, inr}
use mathlib.Core.Bool.{true, false}
use borrow.Author.Tests.{le-leb, lt-leb}
use Rattle.attribute_names.proofs.NameLaws.{name_new, name_old, broken_at}
use native.Mathlib.Omega.{arith}
use Rattle.attribute_names.proofs.name_ruling.Goals as goal

pub returns-then-in_hand-ge-MOST : goal.returns-then-in_hand-ge-MOST
returns-then-in_hand-ge-MOST c = (
  tt,
  λ ms d n o p ec ep es. ap (broken_at 4) ep ∙ name_new ms _ _ d n o c.args.slot es c.args.extended c.if-slot-eq0.true
      true (le-leb _ _ c.if-in_hand-ge-MOST.true),
)

pub returns-then-slot-eq0 : goal.returns-then-slot-eq0
returns-then-slot-eq0 c = (
  λ y. omega (arith, c.if-in_hand-ge-MOST.false),
  λ ms d n o p ec ep es. name_new ms _ _ d n o c.args.slot es c.args.extended c.if-slot-eq0.true
      false (lt-leb _ _ (omega (arith, c.if-in_hand-ge-MOST.false))),
)

pub returns-then-is_own : goal.returns-then-is_own
returns-then-is_own c = (
  tt,
  λ ms d n o p ec ep es. ap (broken_at 9) ep ∙ name_old ms _ _ d n o c.args.slot es c.args.extended c.if-slot-eq0.false
      _ (c.is_own.ensures ms _ d n.bytes o p ec es)
      true (elim c.then-is_own.either [ inl e ↦ rw e | inr e ↦ rw (e.0, e.1) ]),
)

pub returns : goal.returns
returns c = (
  λ y. absurd (c.if-slot-eq0.false y),
  λ ms d n o p ec ep es. name_old ms _ _ d n o c.args.slot es c.args.extended c.if-slot-eq0.false
      _ (c.is_own.ensures ms _ d n.bytes o p ec es) false (rw (c.if-is_own.false, c.if-not-extended.false)),
)
