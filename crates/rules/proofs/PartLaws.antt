-- Parts of a text.
use mathlib.Core.Path.{◌≡◌}
use mathlib.Core.List.{List, ◌∷◌}
use Prim.Native.Nat.{ℕ, zero, suc, ◌+◌, ◌-◌, ◌≤◌, ◌<◌}
use native.Mathlib.Numerals.{add-one, sub-one}
use native.Mathlib.Omega.{arith}
use lib.ListN.{length, drop, get_or, length-drop}
use lib.Seq.{drop-cons, length-take-le}
use Rattle.rules.specs.Bytes.{part}

pub length_part : (t : List ℕ) (i n : ℕ) → i + n ≤ length t → length (part t i n) ≡ n
length_part t i n h = length-take-le n (drop i t) (rw length-drop (omega arith))

-- a part that is not empty is its first byte and the rest
pub part-cons : (t : List ℕ) (i n : ℕ) → 0 < n → i < length t → part t i n ≡ get_or t i 0 ∷ part t (i + 1) (n - 1)
part-cons t i zero z h = absurd (omega arith)
part-cons t i (suc n) z h = rw (drop-cons t i 0, sub-one, add-one)
