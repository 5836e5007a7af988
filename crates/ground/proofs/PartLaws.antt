-- What stands in a part.
use mathlib.Core.Path.{◌≡◌, ◌∙◌}
use mathlib.Core.List.{List}
use Prim.Native.Nat.{ℕ, ◌+◌, ◌≤◌, ◌<◌}
use native.Mathlib.Nat.{add_assoc}
use native.Mathlib.Omega.{arith}
use lib.ListN.{get_or, drop}
use lib.Seq.{get_or-take, get_or-drop}
use Rattle.rules.specs.Show.{read4}
use Rattle.ground.specs.Parts.{part}

-- a number of four bytes, read in a part
pub read4-part : (b : List ℕ) (i n j : ℕ) → j + 4 ≤ n → read4 (part b i n) j ≡ read4 b (i + j)
read4-part b i n j h =
    rw (
      get_or-take n (drop i b) j 0 (omega arith),
      get_or-take n (drop i b) (j + 1) 0 (omega arith),
      get_or-take n (drop i b) (j + 2) 0 (omega arith),
      get_or-take n (drop i b) (j + 3) 0 (omega arith),
    )
    (simp (get_or-drop, add_assoc))

pub get_d_part : (b : List ℕ) (i n j : ℕ) → j < n → get_or (part b i n) j 0 ≡ get_or b (i + j) 0
get_d_part b i n j h = get_or-take n (drop i b) j 0 h ∙ get_or-drop i b j 0
