-- The reserved words: a word's code is the one in its row.
use mathlib.Core.Path.{◌≡◌, refl, sym, ap, ◌∙◌}
use mathlib.Core.Logic.{◌⊎◌, inl, inr}
use mathlib.Core.Bool.{Bool, true, false, cond, not, ◌&&◌, ◌||◌}
use mathlib.Core.List.{List, [], ◌∷◌, ◌++◌}
use Prim.Native.Nat.{ℕ, ◌+◌, ◌-◌, ◌≤◌, ◌<◌}
use native.Mathlib.Omega.{arith}
use lib.ListN.{length, take, drop, get_or, length-drop, length-append}
use lib.Seq.{take_at, drop_at, take-length, get_or-drop, get_or-take}
use lib.Pointwise.{pointwise}
use lib.Dec.{eqb, leb}
use borrow.Author.Tests.{eqb-true, eq-eqb, lt-leb}
use Rattle.rules.specs.Bytes.{part, same, is_one_of}
use Rattle.rules.specs.Reserved.{forms, table}
use Rattle.rules.proofs.Tests.{never, contra, split, or_split}
use Rattle.rules.proofs.ByteLaws.{same-eq, same_refl, same-sym}
use Rattle.ground.proofs.TableLaws.{test, second, Beside, is_key_of, beside}
use Rattle.words.specs.Words.{position, word_code, rows, are_long, code_among}
use Rattle.rules.proofs.PartLaws.{length_part}

-- ---- words in lists
abbrev those : (List ℕ → Bool) → List (List ℕ) → List (List ℕ)
those p [] = []
those p (w ∷ l) = let r = those p l in cond (p w) (w ∷ r) r

abbrev every : (List ℕ → Bool) → List (List ℕ) → Bool
every p [] = true
every p (w ∷ l) = let r = every p l in p w && r

module _ (b : List ℕ) where
  those-in : (p : List ℕ → Bool) → p b ≡ true → (l : List (List ℕ)) → is_one_of b (those p l) ≡ is_one_of b l
  those-in p h [] = refl
  those-in p h (w ∷ l) =
      let go = those-in p h l in
      test (p w) (λ e. rw (e, go))
      (λ e. let f : same b w ≡ false = contra (λ q. rw (← same-eq b w q) h) e in rw (e, f, go))

  append-in : (l m : List (List ℕ)) → is_one_of b (l ++ m) ≡ (is_one_of b l || is_one_of b m)
  append-in [] m = refl
  append-in (w ∷ l) m = let go = append-in l m in test (same b w) (λ e. rw e) (λ e. rw (e, go))

  every_in : (p : List ℕ → Bool) (l : List (List ℕ)) → every p l ≡ true → is_one_of b l ≡ true → p b ≡ true
  every_in p [] a h = never h
  every_in p (w ∷ l) a h = at (split a) (or_split h) (λ x y. every_in p l x y)
    where
      at : (p w ≡ true) × (every p l ≡ true) → (same b w ≡ true) ⊎ (is_one_of b l ≡ true)
          → (every p l ≡ true → is_one_of b l ≡ true → p b ≡ true) → p b ≡ true
      at s (inl e) go = rw (same-eq b w e) s.0
      at s (inr e) go = go s.1 e

-- the words of n bytes of f and t, those of f first
abbrev pub words_of : ℕ → List (List ℕ) → List (List ℕ) → List (List ℕ)
words_of n f t = those (λ w. eqb (length w) n) (f ++ those (λ w. not (is_one_of w f)) t)

words-in : (b : List ℕ) (f t : List (List ℕ)) → is_one_of b (words_of (length b) f t) ≡ (is_one_of b f || is_one_of b t)
words-in b f t =
    those-in b (λ w. eqb (length w) (length b)) (eq-eqb (length b) (length b) refl)
    (f ++ those (λ w. not (is_one_of w f)) t)
    ∙ append-in b f (those (λ w. not (is_one_of w f)) t)
    ∙ test (is_one_of b f) (λ e. rw e) (λ e. rw (e, those-in b (λ w. not (is_one_of w f)) (rw e) t))

by_code : (x y : Bool) (n : ℕ) → cond (x || y) (cond x n (cond y 46 1)) 1 ≡ cond x n (cond y 46 1)
by_code true y n = refl
by_code false true n = refl
by_code false false n = refl

code_in : (b : List ℕ) (n m : ℕ) (f t : List (List ℕ)) → length b ≡ n → cond (is_one_of b (words_of n f t))
    (cond (is_one_of b f) m (cond (is_one_of b t) 46 1)) 1 ≡ cond (is_one_of b f) m (cond (is_one_of b t) 46 1)
code_in b n m f t e = rw (← e, words-in b f t) (by_code (is_one_of b f) (is_one_of b t) m)

-- a word's code, from the rows of its length
pub code_of : (b : List ℕ) (n : ℕ) → length b ≡ n → code_among b (words_of n forms table) ≡ word_code b
unfolding word_code
code_of b n e = code_in b n (64 + position b forms) forms table e

-- what holds of every reserved word, and not of b: b is a name
pub no_word : (b : List ℕ) (p : List ℕ → Bool) → every p (forms ++ table) ≡ true → p b ≡ false → 1 ≡ word_code b
unfolding word_code
no_word b p a h =
    let q : (is_one_of b forms || is_one_of b table)
    ≡ false = sym (append-in b forms table) ∙ contra (every_in b p (forms ++ table) a) h in
    at (is_one_of b forms) (is_one_of b table) (64 + position b forms) q
  where
    at : (x y : Bool) (n : ℕ) → (x || y) ≡ false → 1 ≡ cond x n (cond y 46 1)
    at true y n q = never (sym q)
    at false true n q = never (sym q)
    at false false n q = refl

-- a byte above `Z` in second place or at its end tells a name
pub no_second : (t : List ℕ) (at n : ℕ) → 1 < n → 90 < get_or t (at + 1) 0 → 1 ≡ word_code (part t at n)
no_second t at n z l =
    let e : get_or (part t at n) 1 0 ≡ get_or t (at + 1) 0 = get_or-take n (drop at t) 1 0 z ∙ get_or-drop at t 1 0 in
    no_word (part t at n) (λ w. leb (get_or w 1 0) 90) refl (rw e (lt-leb _ _ l))

pub no_last : (t : List ℕ) (at n : ℕ) → 0 < n → at + n ≤ length t
    → 90 < get_or t (at + n - 1) 0 → 1 ≡ word_code (part t at n)
no_last t at n z h l =
    let m : at + (n - 1) ≡ at + n - 1 = omega arith in
    let e : get_or (part t at n) (n - 1) 0
    ≡ get_or t (at + n - 1) 0 =
    get_or-take n (drop at t) (n - 1) 0 (omega arith) ∙ rw m at (get_or-drop at t (n - 1) 0) in
    no_word (part t at n) (λ w. leb (get_or w (length w - 1) 0) 90) refl (rw (length_part t at n h, e) (lt-leb _ _ l))

those-long : (n : ℕ) (l : List (List ℕ)) → are_long n (those (λ w. eqb (length w) n) l) ≡ true
those-long n [] = refl
those-long n (w ∷ l) = let go = those-long n l in test (eqb (length w) n) (λ e. rw (e, e) go) (λ e. rw e go)

-- a word's code, found in the rows of its length
pub word-found : (b list : List ℕ) (n r : ℕ) → length b ≡ n → list ≡ rows (words_of n forms table)
    → ((l : List (List ℕ)) → list ≡ rows l → are_long (length b) l ≡ true → r ≡ code_among b l) → r ≡ word_code b
word-found b list n r e q f =
    let g : are_long (length b) (words_of n forms table)
    ≡ true = rw e (those-long n (forms ++ those (λ w. not (is_one_of w forms)) table)) in
    f (words_of n forms table) q g ∙ code_of b n e

-- a word of a length that no reserved word has
pub no_length : (b : List ℕ) (keys : List (List ℕ)) → every (λ w. is_key_of (length w) keys) (forms ++ table) ≡ true
    → Beside keys (length b) → 1 ≡ word_code b
no_length b keys a k = no_word b (λ w. is_key_of (length w) keys) a (beside (length b) keys k)

-- ---- rows: of the words l those of r are left, in the bytes s
pub record Left (b : List ℕ) (l : List (List ℕ)) (s : List ℕ) (r : List (List ℕ)) : Type 0 where
  pub are : s ≡ rows r
  pub long : are_long (length b) r ≡ true
  pub alike : is_one_of b l ≡ is_one_of b r

pointwise-same : (m n : List ℕ) → pointwise eqb m n ≡ same m n
pointwise-same [] [] = refl
pointwise-same [] (b ∷ n) = refl
pointwise-same (a ∷ m) [] = refl
pointwise-same (a ∷ m) (b ∷ n) = ap (λ r. eqb a b && r) (pointwise-same m n)

-- the row that the bytes s begin with
module _ (b : List ℕ) (l : List (List ℕ)) (s row rest : List ℕ) (e : s ≡ row ++ rest)
    (n : length row ≡ length b + 1) where
  module _ (w : List ℕ) (r : List (List ℕ)) (x : Left b l s (w ∷ r)) where
    long : length (word_code w ∷ w) ≡ length b + 1
    long = omega (arith, eqb-true (length w) (length b) (split {x = eqb (length w) (length b)} x.long).0)

    both : row ++ rest ≡ (word_code w ∷ w) ++ rows r
    both = sym e ∙ x.are

    row_is : row ≡ word_code w ∷ w
    row_is =
        sym (take_at row rest (length b + 1) n) ∙ ap (take (length b + 1)) both
        ∙ take_at (word_code w ∷ w) (rows r) (length b + 1) long

    rest_is : rest ≡ rows r
    rest_is =
        sym (drop_at row rest (length b + 1) n) ∙ ap (drop (length b + 1)) both
        ∙ drop_at (word_code w ∷ w) (rows r) (length b + 1) long

  some : s ≡ [] → ⊥
  some z = omega (arith, ap length (sym e ∙ z), length-append row rest)

  -- the word in the row, as the code compares it
  word_of : pointwise eqb (take (length row - 1) (drop 1 row)) b ≡ same (drop 1 row) b
  word_of =
      let f : length (drop 1 row) ≡ length row - 1 = omega (arith, length-drop {A = ℕ}) in
      rw (← f, take-length) (pointwise-same (drop 1 row) b)

  pub row-found : (r : List (List ℕ)) → Left b l s r
      → pointwise eqb (take (length row - 1) (drop 1 row)) b ≡ true → get_or row 0 0 ≡ code_among b l
  row-found [] x q = absurd (some x.are)
  row-found (w ∷ r) x q =
      let f : w ≡ b = same-eq w b (rw (row_is w r x) at (sym word_of ∙ q)) in
      let g : same b w ≡ true = rw f (same_refl b) in
      rw (row_is w r x, x.alike, g, f)

  pub row_next : (r : List (List ℕ)) → Left b l s r
      → pointwise eqb (take (length row - 1) (drop 1 row)) b ≡ false → (k : List (List ℕ)) × Left b l rest k
  row_next [] x q = absurd (some x.are)
  row_next (w ∷ r) x q =
      let f : same b w ≡ false = same-sym b w ∙ rw (row_is w r x) at (sym word_of ∙ q) in (
        r,
        record { are = rest_is w r x; long = second (eqb (length w) (length b)) x.long; alike = x.alike ∙ rw f },
      )

pub rows-done : (b : List ℕ) (l r : List (List ℕ)) (s : List ℕ) → Left b l s r → length s < length b + 1
    → 1 ≡ code_among b l
rows-done b l [] s x h = rw x.alike
rows-done b l (w ∷ r) s x h =
    let n : length w ≡ length b = eqb-true (length w) (length b) (split {x = eqb (length w) (length b)} x.long).0 in
    absurd (omega (arith, ap length x.are, length-append w (rows r)))
