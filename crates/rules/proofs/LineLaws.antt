-- The line and the column of a place, from one place to the next: at the text's front, behind a byte, and behind them
-- all; and how large they are.
use mathlib.Core.Path.{◌≡◌, refl}
use mathlib.Core.Bool.{Bool, true, false, cond}
use mathlib.Core.List.{List, [], ◌∷◌}
use Prim.Native.Nat.{ℕ, zero, suc, ◌+◌, ◌≤◌, ◌<◌}
use native.Mathlib.Omega.{arith}
use lib.ListN.{length}
use Rattle.rules.specs.Lines.{Position, position, ends_line, ends_at, further, position_of}

-- ---- from a position to that behind the byte there, which ends a line or not
abbrev pub behind : Bool → Position → Position
behind e q = cond e (position (suc q.line) 1) (position q.line (suc q.column))

further-next : (s : List ℕ) (n l c : ℕ) → n < length s → further s (suc n) l c ≡ behind (ends_at s n) (further s n l c)
further-next [] n l c h = absurd (omega arith)
further-next (b ∷ s) zero l c h = refl
further-next (b ∷ s) (suc n) l c h =
    go (ends_line b s) (further-next s n (suc l) 1 (omega arith)) (further-next s n l (suc c) (omega arith))
  where
    go : (e : Bool) → further s (suc n) (suc l) 1 ≡ behind (ends_at s n) (further s n (suc l) 1)
        → further s (suc n) l (suc c) ≡ behind (ends_at s n) (further s n l (suc c))
        → cond e (further s (suc n) (suc l) 1) (further s (suc n) l (suc c))
        ≡ behind (ends_at s n) (cond e (further s n (suc l) 1) (further s n l (suc c)))
    go true p q = p
    go false p q = q

further-end : (s : List ℕ) (n l c : ℕ) → length s ≤ n → further s n l c ≡ further s (length s) l c
further-end [] zero l c h = refl
further-end [] (suc n) l c h = refl
further-end (b ∷ s) zero l c h = absurd (omega arith)
further-end (b ∷ s) (suc n) l c h =
    rw (further-end s n (suc l) 1 (omega arith), further-end s n l (suc c) (omega arith))

pub position_first : (t : List ℕ) → position_of t 0 ≡ position 1 1
unfolding position_of
position_first t = refl

pub position-next : (t : List ℕ) (p : ℕ) → p < length t → position_of t (suc p) ≡ behind (ends_at t p) (position_of t p)
unfolding position_of
position-next t p h = further-next t p 1 1 h

-- the end of the text is the last position
pub position-end : (t : List ℕ) (p : ℕ) → length t ≤ p → position_of t p ≡ position_of t (length t)
unfolding position_of
position-end t p h = further-end t p 1 1 h

-- ---- line and column are from 1, and each byte before the place adds at most one to their sum
record Within (k : ℕ) (q : Position) : Type 0 where
  line : 1 ≤ q.line
  column : 1 ≤ q.column
  sum : q.line + q.column ≤ k

further-within : (s : List ℕ) (n l c : ℕ) → 1 ≤ l → 1 ≤ c → Within (l + c + n) (further s n l c)
further-within s zero l c h k = record { line = h; column = k; sum = omega arith }
further-within [] (suc n) l c h k = record { line = h; column = k; sum = omega arith }
further-within (b ∷ s) (suc n) l c h k =
    go (ends_line b s) (further-within s n (suc l) 1 (omega arith) (omega arith))
    (further-within s n l (suc c) h (omega arith))
  where
    go : (e : Bool) → Within (suc l + 1 + n) (further s n (suc l) 1) → Within (l + suc c + n) (further s n l (suc c))
        → Within (l + c + suc n) (cond e (further s n (suc l) 1) (further s n l (suc c)))
    go true p q = record { line = p.line; column = p.column; sum = omega arith }
    go false p q = record { line = q.line; column = q.column; sum = omega arith }

module _ (t : List ℕ) (p : ℕ) where
  within : Within (p + 2) (position_of t p)
  unfolding position_of
  within = let w = further-within t p 1 1 (omega arith) (omega arith) in
      record { line = w.line; column = w.column; sum = omega arith }

  pub line-bound : (1 ≤ (position_of t p).line) × ((position_of t p).line ≤ suc p)
  line-bound = let w = within in (w.line, omega arith)

  pub column-bound : (1 ≤ (position_of t p).column) × ((position_of t p).column ≤ suc p)
  column-bound = let w = within in (w.column, omega arith)
