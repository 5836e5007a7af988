-- Showing a name: the part of the lent text that is the name of a record.
use Rattle.std.specs.Prelude.{◌≡◌, List, ℕ, ◌+◌}
use Rattle.std.specs.Borrow.{Bor}
use Rattle.rules.specs.Show.{Part, show_name}
use Rattle.ground.specs.Parts.{part}
use Rattle.ground.specs.declared.Name as code

-- a part, as the code holds it
abbrev pub part_of : Part → code.Name
part_of p = record { offset = p.start; len = p.length }

-- r is this part of the lent text t: it lies in the same memory, from that place on, and has those bytes
pub record Lent (t r : Bor (List ℕ)) (p : Part) : Type 0 where
  pub block : r.ref_ptr.0 ≡ t.ref_ptr.0
  pub place : r.ref_ptr.1 ≡ t.ref_ptr.1 + p.start
  pub bytes : r.now ≡ part t.now p.start p.length

-- what showing a name promises
abbrev pub Shows : Bor (List ℕ) → List ℕ → ℕ → Bor (List ℕ) → Type 0
Shows t b i r = Lent t r (show_name t.now b i)
