-- The name that is written in a record.
use Rattle.std.specs.Prelude.{◌≡◌, List, ℕ, ◌+◌, ◌<◌, get_or}
use Rattle.rules.specs.Show.{read4}
use Rattle.ground.specs.declared.Name as code

-- what a record at a place says of its name
pub record Written (b : List ℕ) (i : ℕ) (p : code.Name) : Type 0 where
  pub offset : p.offset ≡ read4 b (i + 1)
  pub length : p.len ≡ get_or b (i + 5) 0
  pub offset_fits : p.offset < 4294967296
  pub length_in_range : p.len < 256
