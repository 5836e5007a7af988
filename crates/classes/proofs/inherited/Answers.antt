use Rattle.rules.specs.Declarations.{known}
use Rattle.members.specs.Held.{attributes_in}
use Rattle.members.proofs.HeldLaws.{indexed}
use Rattle.classes.proofs.ClassLaws.{in-hand}
use Rattle.classes.proofs.inherited.Goals as goal

pub returns-clause-hand : goal.returns-clause-hand
returns-clause-hand c =
    λ s o d k e eo ei. c.inherit.ensures.1 (known s.decls) (attributes_in s) d (indexed k.held)
    (in-hand c.args.desk.now.text.now s c.args.st _ _ _ _ c.args.desk.now.hand.now k e) eo ei
