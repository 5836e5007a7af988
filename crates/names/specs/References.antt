-- A reference as the code has it.
use Rattle.std.specs.Prelude.{List, ℕ, ◌+◌, ◌≤◌, length}
use Rattle.rules.specs.Names as R
use Rattle.rules.specs.Grammar as G
use Rattle.ground.specs.Parts.{part}
use Rattle.ground.specs.declared.Name.{Name}
use Rattle.ground.specs.declared.Reference.{Reference}
use Rattle.ground.specs.declared.Reference.TheVariants.{Bare, InModel, InTopic}

abbrev pub bytes_of : List ℕ → Name → List ℕ
bytes_of t n = part t n.offset n.len

abbrev pub name_of : List ℕ → Name → R.Name
name_of t n = record { offset = n.offset; bytes = bytes_of t n }

abbrev pub Inside : List ℕ → Name → Type 0
Inside t n = n.offset + n.len ≤ length t

abbrev pub AllInside : List ℕ → Reference → Type 0
AllInside t (Bare n) = Inside t n
AllInside t (InModel m n) = Inside t m × Inside t n
AllInside t (InTopic m p n) = Inside t m × Inside t p × Inside t n

abbrev pub reference_of : List ℕ → Reference → G.Reference
reference_of t (Bare n) = G.bare (name_of t n)
reference_of t (InModel m n) = G.in_model (name_of t m) (name_of t n)
reference_of t (InTopic m p n) = G.in_topic (name_of t m) (name_of t p) (name_of t n)
