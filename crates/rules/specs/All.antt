-- Words that statements use: what holds of all in a list, of what may be there, and of rules.
use Rattle.std.specs.Prelude.{◌≡◌, false, List, [], ◌∷◌}
use Rattle.std.proofs.Math.Option.{Option, none, some}
use Rattle.rules.specs.Judge.{Rule}

abbrev pub All : {A : Type 0} → (A → Type 0) → List A → Type 0
All P [] = Unit {0}
All P (a ∷ l) = P a × All P l

abbrev pub AnyIs : {A : Type 0} → (A → Type 0) → Option A → Type 0
AnyIs P none = Unit {0}
AnyIs P (some a) = P a

-- a member of a list
pub data In {A : Type 0} (a : A) : List A → Type 0 where
  first : {l : List A} → In a (a ∷ l)
  later : {b : A} {l : List A} → In a l → In a (b ∷ l)

abbrev pub Unbroken : Rule → Type 0
Unbroken r = r.broken ≡ false
