use mathlib.Core.Path.{refl, ap, subst}
use mathlib.Core.List.{List}
use Prim.Native.Nat.{ℕ, ◌+◌}
use Rattle.rules.specs.Declarations.{known}
use Rattle.names.specs.Chains.{Chains}
use Rattle.state.proofs.DeskLaws.{stays-trans, stays-book}
use Rattle.state.proofs.RoomLaws.{definition-rows}
use Rattle.heads.proofs.EndLaws.{class-ended}
use native.Mathlib.Omega.{arith}
use Rattle.heads.proofs.end_class.Goals as goal

pub returns-clause-stays : goal.returns-clause-stays
returns-clause-stays c =
    stays-trans _ _ _ (stays-trans _ _ _ (stays-book c.args.desk.now c.put.new.out c.put.auto.out)
    c.close.ensures.stays) c.make_known.ensures.stays

pub returns-clause-kept : goal.returns-clause-kept
returns-clause-kept c =
    λ s d hs k e b f.
    rw (c.make_known.ensures.only, c.close.ensures.only)
    (class-ended c.args.desk.now.text.now s c.args.st _ _ _ _ _ k d e _ _ refl
    c.put.ensures c.requires.class_end_size_in_bounds.0
    _ refl
    (definition-rows c.args.desk.now c.args.st c.requires.class_end_size_in_bounds.2
    (c.args.st.listing.count + 2) (omega arith))
    _ refl
    _ (c.make_known.ensures.chains (known s.decls) d
    (rw c.close.ensures.only k.chained)
    k.held.all_defs (rw c.close.ensures.only b)) f)
