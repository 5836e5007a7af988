use Rattle.rules.specs.Units.{body_end}
use Rattle.units.proofs.body_end.Goals as goal

pub returns-then-in_topic : goal.returns-then-in_topic
unfolding body_end
returns-then-in_topic c = λ o. rw c.if-in_topic.true (c.close.ensures o)

pub returns : goal.returns
unfolding body_end
returns c = λ o. rw c.if-in_topic.false (c.close-2.ensures o)
