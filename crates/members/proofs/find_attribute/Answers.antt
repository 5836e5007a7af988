use mathlib.Core.Path.{refl, sym, ◌∙◌}
use Rattle.names.specs.References.{bytes_of}
use Rattle.members.proofs.MemberLaws.{slot-end, slot-found, slot_next, positions-many, position-at}
use mathlib.Core.List.{List}
use Prim.Native.Nat.{ℕ, ◌+◌, ◌-◌, ◌≤◌, ◌<◌}
use lib.ListN.{length, take, drop}
use Rattle.members.specs.Members.{most, Hand}
use native.Mathlib.Omega.{arith}
use Rattle.members.proofs.find_attribute.Goals as goal

-- a position that the loop comes to is within those held
within : (hs : List ℕ) (n i : ℕ) → n ≤ most → Hand hs → i < length (take (most + n - most) (drop most hs)) → i < n
within hs n i w h t = omega (arith, positions-many hs n w h)

pub loop-i-init : goal.loop-i-init
loop-i-init c = λ ms h k f. refl

pub returns-then-is_named : goal.returns-then-is_named
returns-then-is_named c = (
  omega (arith, within c.args.hand.now c.args.count c.loop-i.i c.requires.2 c.requires.3 c.loop-i-test.true),
  λ ms h k f. slot-found c.args.text.now ms c.args.rows.now c.args.total k c.args.hand.now
      c.args.count h f (bytes_of c.args.text.now c.args.name) c.loop-i.i
      (within c.args.hand.now c.args.count c.loop-i.i c.requires.2 c.requires.3 c.loop-i-test.true) _
      (position-at c.args.hand.now c.args.count c.loop-i.i
      (within c.args.hand.now c.args.count c.loop-i.i c.requires.2 c.requires.3 c.loop-i-test.true))
      _ c.is_named.ensures c.if-is_named.true
      ∙ sym (c.loop-i.invariant ms h k f),
)

pub loop-i-preserved : goal.loop-i-preserved
loop-i-preserved c =
    λ ms h k f. c.loop-i.invariant ms h k f
    ∙ slot_next c.args.text.now ms c.args.rows.now c.args.total k c.args.hand.now
    c.args.count h f (bytes_of c.args.text.now c.args.name) c.loop-i.i
    (within c.args.hand.now c.args.count c.loop-i.i c.requires.2 c.requires.3 c.loop-i-test.true) _
    (position-at c.args.hand.now c.args.count c.loop-i.i
    (within c.args.hand.now c.args.count c.loop-i.i c.requires.2 c.requires.3 c.loop-i-test.true))
    _ c.is_named.ensures c.if-is_named.false

pub returns : goal.returns
returns c = (
  omega arith,
  λ ms h k f. slot-end c.args.text.now ms c.args.rows.now c.args.total k c.args.hand.now
      c.args.count h f (bytes_of c.args.text.now c.args.name) c.loop-i.i
      (omega (arith, positions-many c.args.hand.now c.args.count c.requires.2 c.requires.3))
      ∙ sym (c.loop-i.invariant ms h k f),
)
