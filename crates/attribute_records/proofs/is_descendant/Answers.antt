use Rattle.members.proofs.HeldLaws.{indexed}
use Rattle.attribute_records.proofs.LayLaws.{descends-named}
use Rattle.attribute_records.proofs.is_descendant.Goals as goal

pub returns-then-u-ne0 : goal.returns-then-u-ne0
returns-then-u-ne0 c =
    λ t b ks ms y total d v r e eu k.
    let i = indexed r.held in
    descends-named t b ks ms _ _ y total r c.args.named d e c.args.u c.requires.1 c.if-u-ne0.true v eu k _
    c.number_of.ensures.1 _ (c.descends.ensures t ks i.known i.chained)
