-- Bytes written into a lent buffer, and a book with zeros behind it.
use mathlib.Core.Path.{◌≡◌, refl, sym, ap, ◌∙◌}
use mathlib.Core.Bool.{Bool, true, false, cond}
use mathlib.Core.List.{List, [], ◌∷◌, ◌++◌, append_assoc, append-nil}
use Prim.Native.Nat.{ℕ, ◌+◌, ◌≤◌, ◌<◌}
use native.Mathlib.Nat.{add_assoc, add-zero, sub-zero}
use native.Mathlib.Numerals.{add-one}
use native.Mathlib.Omega.{arith}
use lib.ListN.{length, take, drop, set, replicate, length-append, take-append-drop}
use lib.Dec.{leb}
use lib.Seq.{length-take-le, take-append-le, take-take, take_at, drop-append-add, drop-drop, append_snoc, paste}
use lib.Seq.{take-length, set_split, sets-eq, length-sets}
use borrow.Author.Tests.{leb-true, le-leb}
use Rattle.rules.specs.Book.{padded}
use Rattle.ground.specs.Parts.{splice, put_at}

-- ---- splice
pub length-splice : (l : List ℕ) (i : ℕ) (a : List ℕ) → i + length a ≤ length l → length (splice l i a) ≡ length l
length-splice l i a h = ap length (sym (sets-eq a l i h)) ∙ length-sets l i a

-- one part right after another
pub splice-splice : (l : List ℕ) (i n : ℕ) (a b : List ℕ) → i + length a ≡ n → n ≤ length l
    → splice (splice l i a) n b ≡ splice l i (a ++ b)
splice-splice l i n a b e h =
    let q : List ℕ = drop (i + length a) l in
    let p : List ℕ = take i l ++ a in
    let lp : length p ≡ n = length-append (take i l) a ∙ rw (length-take-le i l (omega arith)) e in
    ap (λ (x : List ℕ). x ++ b ++ drop (n + length b) (p ++ q)) (take_at p q n lp)
    ∙ ap (λ (x : List ℕ). p ++ b ++ x) (ap (λ (k : ℕ). drop (k + length b) (p ++ q)) (sym lp)
    ∙ drop-append-add p q (length b) ∙ drop-drop (length b) (i + length a) l)
    ∙ rw (append_assoc (take i l) a b, length-append a b, add_assoc)

pub splice-none : (l : List ℕ) (i : ℕ) → splice l i [] ≡ l
splice-none l i = rw (add-zero, append-nil) (take-append-drop i l)

-- a byte stored is a part of one byte
pub set-splice : (l : List ℕ) (i b : ℕ) → i < length l → set l i b ≡ splice l i (b ∷ [])
set-splice l i b h = rw (add-one, append_snoc) (set_split l i b h)

-- a copy that has gone through
pub paste-done : {A : Type 0} (l : List A) (i : ℕ) (s : List A) (n : ℕ) → n ≡ length s
    → paste l i s n ≡ splice l i s
paste-done l i s n e = rw (e, take-length s)

-- ---- what is written if it fits
pub put-fits : (l : List ℕ) (i : ℕ) (vs : List ℕ) → i + length vs ≤ length l → put_at l i vs ≡ splice l i vs
unfolding put_at
put-fits l i vs h = rw (le-leb (i + length vs) (length l) h)

pub length-put : (l : List ℕ) (i : ℕ) (vs : List ℕ) → length (put_at l i vs) ≡ length l
unfolding put_at
length-put l i vs = go (leb (i + length vs) (length l)) refl
  where
    go : (c : Bool) → leb (i + length vs) (length l) ≡ c → length (cond c (splice l i vs) l) ≡ length l
    go true e = length-splice l i vs (leb-true _ _ e)
    go false e = refl

-- what stands before the place stays
pub take_put : (l : List ℕ) (n i : ℕ) (vs : List ℕ) → n ≤ i → take n (put_at l i vs) ≡ take n l
unfolding put_at
take_put l n i vs h = go (leb (i + length vs) (length l)) refl
  where
    go : (c : Bool) → leb (i + length vs) (length l) ≡ c → take n (cond c (splice l i vs) l) ≡ take n l
    go true e =
        let f : i + length vs ≤ length l = leb-true _ _ e in
        let k : length (take i l) ≡ i = length-take-le i l (omega arith) in
        let u : n ≤ length (take i l) = omega arith in
        let v : n ≤ length (take i l ++ vs) = rw (length-append (take i l) vs) (omega arith) in
        take-append-le n (take i l ++ vs) (drop (i + length vs) l) v
        ∙ take-append-le n (take i l) vs u ∙ take-take n i l h
    go false e = refl

-- ---- padded
pub padded-none : (m : ℕ) → padded [] m ≡ replicate m 0
padded-none m = rw sub-zero
