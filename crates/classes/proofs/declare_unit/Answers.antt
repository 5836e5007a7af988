use mathlib.Core.Path.{refl}
use Prim.Native.Nat.{◌+◌}
use Rattle.rules.specs.Declarations.{known}
use Rattle.members.proofs.HeldLaws.{indexed}
use Rattle.state.proofs.DeskLaws.{stays-trans}
use Rattle.state.proofs.RoomLaws.{definition-rows}
use Rattle.classes.proofs.ClassLaws.{unit-declared}
use native.Mathlib.Omega.{arith}
use Rattle.classes.proofs.declare_unit.Goals as goal

pub returns-clause-stays : goal.returns-clause-stays
returns-clause-stays c = stays-trans _ _ _ c.write_head.ensures.stays c.make_known.ensures.stays

pub returns-clause-kept : goal.returns-clause-kept
returns-clause-kept c =
    λ s n p b hs K e h w eb f.
    let o = c.write_head.ensures.only in
    rw (c.make_known.ensures.only, o)
    (unit-declared c.args.desk.now.text.now s c.args.st _ _ _ _ _ K n p b
    c.args.head h w c.args.base c.requires.base_le_count.0 eb
    _ (c.write_head.ensures.book c.args.desk.now.text.now (known s.decls) (indexed K.held).known)
    c.requires.head_size_in_bounds.0
    _ refl
    (definition-rows c.args.desk.now c.args.st c.requires.head_size_in_bounds.2
    (c.args.st.listing.count + 2) (omega arith))
    _ refl e
    _ (λ d q. c.make_known.ensures.chains (known s.decls) d
    (rw o K.chained) K.held.all_defs (rw o q)) f)
