-- Document 01, "What a reader may rely on": what is promised of checking a text, as a relation between the text, what
-- is given beside it, the answer, and the buffer at the end.
use Rattle.std.specs.Prelude.{◌≡◌, List, ℕ}
use Rattle.rules.specs.Check.{Given, Answer, check}

pub record Promise (t : List ℕ) (g : Given) (a : Answer) (b : List ℕ) : Type 0 where
  pub answer : a ≡ (check t g).answer
  pub buffer : b ≡ (check t g).buffer
