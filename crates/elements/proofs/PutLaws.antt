-- Parts written one after another, and the flag of a list that is set when it closes.
use mathlib.Core.Path.{◌≡◌, refl, sym, ap, ◌∙◌}
use mathlib.Core.Bool.{Bool, true, false}
use mathlib.Core.List.{List, [], ◌∷◌, ◌++◌, append_assoc}
use Prim.Native.Nat.{ℕ, suc, ◌+◌, ◌≤◌}
use native.Mathlib.Omega.{arith}
use lib.ListN.{length, set, take, drop, length-append}
use lib.Seq.{length-take-le, set_at}
use Rattle.std.specs.Int.{from_bool}
use Rattle.rules.specs.Enumerations.{Enum, end, final}
use Rattle.rules.specs.Book.{bit}
use Rattle.ground.specs.Parts.{splice}
use Rattle.ground.proofs.BufferLaws.{length-splice, splice-splice, set-splice}
use Rattle.elements.specs.Noted.{rest_bytes, Put, Closed}

pub put-put : (o p q : List ℕ) (i u v : ℕ) (a b : List ℕ) → length p ≡ length o → Put o p i a u
    → Put p q u b v → Put o q i (a ++ b) v
put-put o p q i u v a b l x y h =
    let n : length (a ++ b) ≡ length a + length b = length-append a b in
    let (e, w) = x (omega arith) in
    let (f, z) = y (omega arith) in
    (omega arith, z ∙ rw w (splice-splice o i u a b (sym e) (omega arith)))

flag_byte : (b : Bool) → from_bool b ≡ bit b 1
flag_byte true = refl
flag_byte false = refl

flag-set : (b : List ℕ) (start f : ℕ) (vs : List ℕ) → start ≤ length b
    → set (splice b start (13 ∷ 0 ∷ vs)) (start + 1) f ≡ splice b start (13 ∷ f ∷ vs)
flag-set b start f vs h =
    ap (λ (l : List ℕ). set l (start + 1) f) (parts 0)
    ∙ set_at (head ++ (13 ∷ [])) 0 (vs ++ after) f (start + 1) len ∙ sym (parts f)
  where
    head : List ℕ
    head = take start b

    after : List ℕ
    after = drop (start + suc (suc (length vs))) b

    parts : (x : ℕ) → splice b start (13 ∷ x ∷ vs) ≡ (head ++ (13 ∷ [])) ++ (x ∷ (vs ++ after))
    parts x = append_assoc head (13 ∷ x ∷ vs) after ∙ sym (append_assoc head (13 ∷ []) (x ∷ (vs ++ after)))

    len : length (head ++ (13 ∷ [])) ≡ start + 1
    len = length-append head (13 ∷ []) ∙ rw (length-take-le start b h)

module _ (o : List ℕ) (start i : ℕ) (last : Bool) where
  pub close-law : (f : ℕ) → f ≡ from_bool last → Closed o (set (set o (start + 1) f) i 15) start i (i + 1) (end last)
  close-law f k b vs e u h =
      let x : ℕ = bit last 1 in
      let g : f ≡ x = k ∙ flag_byte last in
      let h1 : start + length (13 ∷ x ∷ vs) ≤ length b = omega arith in
      let h2 : length (splice b start (13 ∷ x ∷ vs)) ≡ length b = length-splice b start (13 ∷ x ∷ vs) h1 in
      let q : set o (start + 1) f ≡ splice b start (13 ∷ x ∷ vs) = rw (g, e) (flag-set b start x vs (omega arith)) in (
        refl,
        ap (λ (l : List ℕ). set l i 15) q ∙ set-splice (splice b start (13 ∷ x ∷ vs)) i 15 (omega arith)
            ∙ splice-splice b start i (13 ∷ x ∷ vs) (15 ∷ []) (sym u) (omega arith),
      )

-- a list that was written up to i, and then closed
pub put-closed : (o p q : List ℕ) (start i r : ℕ) (vs : List ℕ) (x : Enum) → length p ≡ length o
    → Put o p start (13 ∷ 0 ∷ vs) i → Closed p q start i r x
    → Put o q start (13 ∷ bit (final x) 1 ∷ (vs ++ rest_bytes x)) r
put-closed o p q start i r vs x l w c h =
    let n : length (vs ++ rest_bytes x) ≡ length vs + length (rest_bytes x) = length-append vs (rest_bytes x) in
    let (e, s) = w (omega arith) in
    let (f, y) = c o vs s e (omega arith) in
    (omega arith, y)
