-- The records' bytes, by the numbers that stand in them.
use Rattle.std.specs.Prelude.{Bool, cond, ◌∷◌, ◌++◌, ℕ, ℤ}
use Rattle.rules.specs.Book.{Record, low_first, twos}

-- kind, and a name's offset and length
abbrev pub name_form : ℕ → ℕ → ℕ → Record
name_form k o n = k ∷ (low_first 4 o ++ low_first 1 n)

-- kind, name, flags, base
abbrev pub head_form : ℕ → ℕ → ℕ → ℕ → ℕ → Record
head_form k o n f b = k ∷ (low_first 4 o ++ low_first 1 n ++ (f ∷ low_first 4 b))

-- decimals and both bounds
abbrev pub range_form : ℕ → ℤ → ℤ → Record
range_form d l h = 10 ∷ d ∷ (low_first 8 (twos l) ++ low_first 8 (twos h))

-- the kind of MTEXT, of TEXT
abbrev pub text_kind : Bool → ℕ
text_kind m = cond m 9 8

-- kind, and a length or a record number
abbrev pub length_form : ℕ → ℕ → Record
length_form k n = k ∷ low_first 4 n
