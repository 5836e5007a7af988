-- The row that the code writes of an attribute.
use Rattle.std.specs.Prelude.{List, [], ◌∷◌, ℕ, ◌<◌}
use Rattle.members.specs.declared.NewAttribute.{NewAttribute}

abbrev pub member_row : NewAttribute → List ℕ
member_row m = m.name.offset ∷ m.name.len ∷ m.number ∷ m.place ∷ m.flags ∷ m.use_of ∷ []

-- every number fits its 16 bits
pub record Narrow (m : NewAttribute) : Type 0 where
  pub offset : m.name.offset < 65536
  pub size : m.name.len < 65536
  pub number : m.number < 65536
  pub place : m.place < 65536
  pub flags : m.flags < 65536
  pub used : m.use_of < 65536
