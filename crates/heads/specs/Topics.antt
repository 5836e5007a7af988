-- Heads of topics, as the code has them.
use Rattle.std.specs.Prelude.{◌+◌}
use Rattle.ground.specs.declared.Name.{Name}
use Rattle.book.specs.Sizes.{topic_size}
use Rattle.state.specs.declared.State.{State}
use Rattle.state.specs.Next.{declared_by, in_topic_by}

-- the state after the head of the topic m
abbrev pub topic_by : State → Name → State
topic_by st m = in_topic_by (declared_by st topic_size 1 0) m (st.extent.records + 1)
