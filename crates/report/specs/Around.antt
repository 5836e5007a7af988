-- What is shown of the line that begins and ends at these places, around a place on it: the place is within, nothing
-- beyond the line is, at most 78 bytes are; and of a line that has no more, all.
use Rattle.std.specs.Prelude.{◌≡◌, ℕ, ◌+◌, ◌≤◌}

pub record Around (begin place end from to : ℕ) : Type 0 where
  pub begins : begin ≤ from
  pub before : from ≤ place
  pub behind : place ≤ to
  pub ends : to ≤ end
  pub width : to ≤ from + 78
  pub whole : end ≤ begin + 78 → (from ≡ begin) × (to ≡ end)
