use mathlib.Core.Path.{refl, ap, ◌∙◌}
use Prim.Native.Nat.{◌+◌}
use Rattle.rules.specs.Declarations.{known}
use Rattle.rules.specs.Judge.{new_topic}
use Rattle.names.specs.References.{bytes_of}
use Rattle.state.proofs.DeskLaws.{stays-trans, stays-book}
use Rattle.state.proofs.RoomLaws.{definition-rows}
use Rattle.heads.proofs.UnitLaws.{topic-declared}
use native.Mathlib.Omega.{arith}
use Rattle.heads.proofs.declare_topic.Goals as goal

pub returns-clause-stays : goal.returns-clause-stays
returns-clause-stays c =
    stays-trans _ _ _ (stays-book c.args.desk.now c.put.new.out c.put.auto.out) c.declare.ensures.stays

pub returns-clause-kept : goal.returns-clause-kept
unfolding new_topic
returns-clause-kept c =
    λ s n hs k e h o f.
    rw c.declare.ensures.only (topic-declared c.args.desk.now.text.now s c.args.st _ _ _ _ _ k n
    c.args.name e h o _ _ c.name_record-record.ensures c.put.ensures c.requires.topic_size_in_bounds.0
    _ refl
    (definition-rows c.args.desk.now c.args.st c.requires.topic_size_in_bounds.2
    (c.args.st.listing.count + 2) (omega arith)) _ refl
    _ (c.declare.ensures.chains (known s.decls) (new_topic s n) k.chained k.held.all_defs
    (ap (bytes_of c.args.desk.now.text.now) e ∙ h.there)) f)
