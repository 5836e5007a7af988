use Rattle.state.proofs.TargetLaws.{target_fits, target-wrong}
use Rattle.state.proofs.target_ruling.Goals as goal

pub returns-then-not-may_stand_in : goal.returns-then-not-may_stand_in
returns-then-not-may_stand_in c =
    λ t ks n w k v h e g. target-wrong ks c.args.target w c.args.reference e _ c.in-Some.is _
    c.first_place-place.ensures t _ n k v c.if-target-eq0.false _ (c.sort_of.ensures t) _
    (λ d i. c.may_stand_in.ensures w d h i) c.if-not-may_stand_in.true

pub returns-else-not-may_stand_in : goal.returns-else-not-may_stand_in
returns-else-not-may_stand_in c =
    λ t ks n w k v h e g. target_fits ks c.args.target w c.args.reference e _ c.in-Some.is _
    c.first_place-place.ensures t _ n k v c.if-target-eq0.false _ (c.sort_of.ensures t) _
    (λ d i. c.may_stand_in.ensures w d h i) c.if-not-may_stand_in.false
