use mathlib.Core.Path.{refl}
use Prim.Native.Nat.{◌+◌}
use Rattle.rules.specs.Declarations.{known}
use Rattle.members.proofs.HeldLaws.{indexed}
use Rattle.state.proofs.DeskLaws.{stays-trans}
use Rattle.state.proofs.RoomLaws.{definition-rows}
use Rattle.classes.proofs.ClassLaws.{class-opened, opened-self}
use native.Mathlib.Omega.{arith}
use Rattle.classes.proofs.open_class.Goals as goal

pub returns-clause-stays : goal.returns-clause-stays
returns-clause-stays c = stays-trans _ _ _ c.inherited-n.ensures.stays c.write_head.ensures.stays

pub returns-clause-value : goal.returns-clause-value
returns-clause-value c = opened-self c.args.st _ _ c.opened.ensures

pub returns-clause-kept : goal.returns-clause-kept
returns-clause-kept c =
    λ s k n p b K e h w eb f.
    let i = c.inherited-n.ensures.only in
    rw (c.write_head.ensures.only, i)
    (class-opened c.args.desk.now.text.now s c.args.st _ _ _ _
    c.args.desk.now.hand.now K n p b c.args.head h w c.args.base c.requires.hand.2 eb
    _ (rw i at (c.write_head.ensures.book c.args.desk.now.text.now (known s.decls) (rw i (indexed K.held).known)))
    c.requires.head_size_in_bounds.0
    _ refl
    (definition-rows c.args.desk.now c.args.st c.requires.head_size_in_bounds.2
    (c.args.st.listing.count + 2) (omega arith))
    _ refl k e _ _ c.opened.ensures c.inherited-n.ensures.value
    _ (λ d eo ei. c.inherited-n.ensures.hand s _ d K w eo ei)
    _ refl f)
