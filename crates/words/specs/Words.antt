-- How the code holds the reserved words: words of one length in rows, each its code and the word.
use Rattle.std.specs.Prelude.{Bool, true, cond, ◌&&◌, List, [], ◌∷◌, ◌++◌, ℕ, suc, ◌+◌, length, eqb}
use Rattle.rules.specs.Bytes.{same, is_one_of}
use Rattle.rules.specs.Reserved.{forms, table}

-- the place of the first word of the list that is b, or else the list's length
abbrev pub position : List ℕ → List (List ℕ) → ℕ
position b [] = 0
position b (w ∷ l) = let r = suc (position b l) in cond (same b w) 0 r

-- the code of a word of the forms, a dot for another reserved word, and 1 for a name
unfoldable pub word_code : List ℕ → ℕ
word_code b =
    let other : ℕ = cond (is_one_of b table) 46 1 in
    cond (is_one_of b forms) (64 + position b forms) other

abbrev pub rows : List (List ℕ) → List ℕ
rows [] = []
rows (w ∷ l) = (word_code w ∷ w) ++ rows l

-- every word of the list has n bytes
abbrev pub are_long : ℕ → List (List ℕ) → Bool
are_long n [] = true
are_long n (w ∷ l) = let r = are_long n l in eqb (length w) n && r

-- the code of a word, if it is one of the list, and else that of a name
abbrev pub code_among : List ℕ → List (List ℕ) → ℕ
code_among b l = cond (is_one_of b l) (word_code b) 1
