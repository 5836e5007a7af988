-- Index, rows of attributes and chains of so many numbers, so that they have room for every definition and attribute of
-- a book of m bytes.
use Rattle.std.specs.Prelude.{ℕ, ◌+◌, ◌*◌, ◌/◌, ◌≤◌}
use Rattle.book.specs.Sizes.{topic_size, head_size}
use Rattle.names.specs.Index.{definition_width}
use Rattle.names.specs.Chains.{keys}
use Rattle.members.specs.Members.{attribute_width}

pub record RoomFor (m index rows chains : ℕ) : Type 0 where
  pub definitions : (m / topic_size + 3) * definition_width ≤ index
  pub attributes : (m / head_size + 2) * attribute_width ≤ rows
  pub links : keys + keys + m / topic_size + 3 ≤ chains
