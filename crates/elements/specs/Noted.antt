-- What the readers of enumerations write into a lent scratch, if it fits.
use Rattle.std.specs.Prelude.{◌≡◌, List, ◌∷◌, ◌++◌, ℕ, ◌+◌, ◌≤◌, length}
use Rattle.rules.specs.Enumerations.{Enum, final}
use Rattle.rules.specs.Grammar.{Element}
use Rattle.rules.specs.Book.{bit, name_record, open_record, inner_records, element_records, bytes}
use Rattle.ground.specs.Parts.{splice}

-- the records of an enumeration; those behind its opening; those of one element
abbrev pub list_bytes : Enum → List ℕ
list_bytes e = bytes (open_record e ∷ element_records e)

abbrev pub rest_bytes : Enum → List ℕ
rest_bytes e = bytes (element_records e)

abbrev pub element_bytes : Element → List ℕ
element_bytes e =
    bytes (name_record 14 e.name ∷ inner_records e.inner (open_record e.inner ∷ element_records e.inner))

-- o becomes p: where vs fits from i on it stands there, and r is behind it
abbrev pub Put : List ℕ → List ℕ → ℕ → List ℕ → ℕ → Type 0
Put o p i vs r = i + length vs ≤ length o → (r ≡ i + length vs) × (p ≡ splice o i vs)

-- the list that opened at start, with the records vs behind its opening, ends as x does: its flag is set
abbrev pub Closed : List ℕ → List ℕ → ℕ → ℕ → ℕ → Enum → Type 0
Closed o p start i r x =
    (b vs : List ℕ) → o ≡ splice b start (13 ∷ 0 ∷ vs) → i ≡ start + length (13 ∷ 0 ∷ vs)
    → i + length (rest_bytes x) ≤ length b
    → (r ≡ i + length (rest_bytes x)) × (p ≡ splice b start (13 ∷ bit (final x) 1 ∷ (vs ++ rest_bytes x)))

-- the records of e stand at the scratch's start, and r is behind them
abbrev pub Whole : List ℕ → List ℕ → ℕ → Enum → Type 0
Whole o p r e = (r ≡ length (list_bytes e)) × (p ≡ splice o 0 (list_bytes e))
