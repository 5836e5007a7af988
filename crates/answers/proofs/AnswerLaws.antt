-- What is answered of a book that the code keeps.
use mathlib.Core.Path.{◌≡◌}
use mathlib.Core.List.{List}
use Prim.Native.Nat.{ℕ}
use Rattle.rules.specs.Declarations.{State}
use Rattle.state.specs.declared.State as code
use Rattle.state.specs.Keeping.{Keeps}
use Rattle.answers.specs.Answers.{accepted_as, accepted_in}

pub accepted-is : (st : code.State) (s : State) (t o x z y hs : List ℕ) → Keeps t s st o x z y hs
    → accepted_as st.extent.used st.extent.definitions ≡ accepted_in s
accepted-is st s t o x z y hs k = rw (k.used, k.defined)
