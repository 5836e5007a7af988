-- What is promised with a part of the buffer.
use Rattle.std.specs.Prelude.{◌≡◌, false, List, ℕ, ◌≤◌}
use Rattle.rules.specs.Check.{lent, Answer, capacity}
use Rattle.rules.specs.Promise.{Promise}
use Rattle.answers.specs.Answers.{full}

-- with only the first `most` bytes of the buffer: the promise holds if the rest does not count, or if the answer is
-- not 19
pub record Tried (t : List ℕ) (m most : ℕ) (a : Answer) (b : List ℕ) : Type 0 where
  pub whole : capacity (lent m) ≤ most → Promise t (lent m) a b
  pub unless_full : full a ≡ false → Promise t (lent m) a b
