-- The row that the code writes of a definition.
use Rattle.std.specs.Prelude.{List, [], ◌∷◌, ℕ, ◌<◌}
use Rattle.names.specs.declared.NewDefinition.{NewDefinition}

abbrev pub definition_row : NewDefinition → List ℕ
definition_row d =
    d.name.offset ∷ d.name.len ∷ d.home ∷ d.number ∷ d.sort ∷ d.flags ∷ d.place
    ∷ d.base ∷ d.first ∷ d.first ∷ []

-- every number fits its 16 bits
pub record Narrow (d : NewDefinition) : Type 0 where
  pub offset : d.name.offset < 65536
  pub size : d.name.len < 65536
  pub home : d.home < 65536
  pub number : d.number < 65536
  pub sort : d.sort < 65536
  pub flags : d.flags < 65536
  pub place : d.place < 65536
  pub base : d.base < 65536
  pub first : d.first < 65536
