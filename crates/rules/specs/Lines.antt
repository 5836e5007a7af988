-- Document 02, No. 6: the line and the column of a place in a text, both from 1, columns in bytes. CR LF is one line
-- end, CR or LF alone is one.
use Rattle.std.specs.Prelude.{Bool, cond, not, ◌&&◌, ◌||◌, List, [], ◌∷◌, ℕ, zero, suc, drop, get_or}
use Rattle.rules.specs.Bytes.{is}

pub record Position : Type 0 where
  pub line : ℕ
  pub column : ℕ

abbrev pub position : ℕ → ℕ → Position
position l c = record { line = l; column = c }

-- the byte b, before the bytes s, ends a line
abbrev pub ends_line : ℕ → List ℕ → Bool
ends_line b s = is "\n" b || (is "\r" b && not (is "\n" (get_or s 0 0)))

-- the byte at the place p ends a line
abbrev pub ends_at : List ℕ → ℕ → Bool
ends_at t p = ends_line (get_or t p 0) (drop (suc p) t)

-- n bytes on from the line l and the column c, at which the bytes s begin; the last position is that behind them all
abbrev pub further : List ℕ → ℕ → ℕ → ℕ → Position
further s zero l c = position l c
further [] (suc n) l c = position l c
further (b ∷ s) (suc n) l c =
    let below = further s n (suc l) 1 in
    let beside = further s n l (suc c) in
    cond (ends_line b s) below beside

unfoldable pub position_of : List ℕ → ℕ → Position
position_of t p = further t p 1 1
