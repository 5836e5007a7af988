-- The code's state after a unit.
use Rattle.std.specs.Prelude.{ℕ, ◌+◌}
use Rattle.ground.specs.declared.Name.{Name}
use Rattle.book.specs.Sizes.{model_size, head_size, class_end_size}
use Rattle.state.specs.declared.Extent.{Extent}
use Rattle.state.specs.declared.Listing.{Listing}
use Rattle.state.specs.declared.Context.{Context}
use Rattle.state.specs.declared.State.{State}

-- b bytes, r records and d definitions of the book more
abbrev pub longer : Extent → ℕ → ℕ → ℕ → Extent
longer e b r d = record { used = e.used + b; records = e.records + r; definitions = e.definitions + d }

-- a definition of the index more
abbrev pub one_definition : Listing → Listing
one_definition l = record { count = l.count + 1; total = l.total }

-- an attribute more
abbrev pub one_attribute : Listing → Listing
one_attribute l = record { count = l.count; total = l.total + 1 }

abbrev pub grown_by : State → ℕ → ℕ → ℕ → State
grown_by st b r d = record { extent = longer st.extent b r d; listing = st.listing; context = st.context }

-- the model n
abbrev pub begun_by : State → Name → State
begun_by st n = record {
  extent = longer st.extent model_size 1 0;
  listing = st.listing;
  context = record {
    model = n;
    topic = st.context.topic;
    home = st.context.home;
    «open» = st.context.open;
    in_hand = st.context.in_hand;
    held = st.context.held;
  };
}

-- a topic, a domain or a unit
abbrev pub declared_by : State → ℕ → ℕ → ℕ → State
declared_by st b r d = record {
  extent = longer st.extent b r d;
  listing = one_definition st.listing;
  context = st.context;
}

-- in the topic n, by its number as a home
abbrev pub in_topic_by : State → Name → ℕ → State
in_topic_by st n h = record {
  extent = st.extent;
  listing = st.listing;
  context = record {
    model = st.context.model;
    topic = n;
    home = h;
    «open» = st.context.open;
    in_hand = st.context.in_hand;
    held = st.context.held;
  };
}

-- how many classes are open, how many attributes are in hand, and whose they are
abbrev pub holding : Context → ℕ → ℕ → ℕ → Context
holding c o n h = record { model = c.model; topic = c.topic; home = c.home; «open» = o; in_hand = n; held = h }

-- the head of a class that has n attributes
abbrev pub opened_by : State → ℕ → State
opened_by st n = record {
  extent = longer st.extent head_size 1 1;
  listing = st.listing;
  context = holding st.context 1 n st.context.held;
}

-- an attribute of the open class, which then has n
abbrev pub member_by : State → ℕ → ℕ → ℕ → State
member_by st b r n = record {
  extent = longer st.extent b r 1;
  listing = one_attribute st.listing;
  context = holding st.context st.context.open n st.context.held;
}

-- the END of the open class, whose attributes stay in hand
abbrev pub closed_by : State → State
closed_by st = record {
  extent = longer st.extent class_end_size 1 0;
  listing = one_definition st.listing;
  context = holding st.context 0 st.context.in_hand (st.listing.count + 1);
}
