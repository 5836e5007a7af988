-- What merging promises: the records of the merged enumeration, written where they fit, or that it
-- does not fit its base.
use Rattle.std.specs.Prelude.{◌≡◌, Bool, true, false, List, [], ℕ, ◌+◌, ◌≤◌, length}
use Rattle.std.specs.Prelude.{Result, Ok, Err}
use Rattle.std.proofs.Math.Option.{none}
use Rattle.rules.specs.Enumerations.{Enum, merge, enum_fits, twice}
use Rattle.rules.specs.Book.{Record, bytes}
use Rattle.ground.specs.Parts.{splice}
use Rattle.enumerations.specs.Records.{records, size_of}
use Rattle.enumerations.specs.declared.Size.{Size}
use Rattle.merging.specs.declared.Misfit.{Misfit}

-- these records are counted, and written at the place i of the buffer o if they fit it; or the answer
-- is that they may not be
abbrev pub LaidAs : Bool → List Record → ℕ → List ℕ → List ℕ → Result Size Misfit → Type 0
LaidAs true l i o o₁ r = (r ≡ Ok (size_of l)) × (i + length (bytes l) ≤ length o → o₁ ≡ splice o i (bytes l))
LaidAs false l i o o₁ r = r ≡ Err (record {})

-- of the base b and the written e, neither of which has an element twice
abbrev pub Merges : Enum → Enum → ℕ → List ℕ → List ℕ → Result Size Misfit → Type 0
Merges b e i o o₁ r =
    twice b [] ≡ none → twice e [] ≡ none → LaidAs (enum_fits (merge b e) b) (records (merge b e)) i o o₁ r
