-- Parts of a text, and parts written into a lent buffer.
use Rattle.std.specs.Prelude.{Bool, cond, List, ◌++◌, ℕ, ◌+◌, length, take, drop, leb}
use Rattle.rules.specs.Bytes.{span}
pub use Rattle.rules.specs.Bytes.{part}

-- where the bytes from i on that pass the test end
abbrev pub run_end : (ℕ → Bool) → List ℕ → ℕ → ℕ
run_end p t i = i + span p (drop i t)

-- l with the bytes vs from the place i on
abbrev pub splice : {A : Type 0} → List A → ℕ → List A → List A
splice l i vs = take i l ++ vs ++ drop (i + length vs) l

-- the same, if they fit, and else l
unfoldable pub put_at : List ℕ → ℕ → List ℕ → List ℕ
put_at l i vs = cond (leb (i + length vs) (length l)) (splice l i vs) l
