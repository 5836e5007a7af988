use Rattle.members.proofs.OpenLaws.{own-slot}
use Rattle.members.proofs.is_own.Goals as goal

pub returns : goal.returns
returns c = λ ms n d m o p e s. rw e (own-slot ms c.args.hand.now n d m o p c.args.r c.requires.0 s)
