-- What is written over a base's type, and which part of 17 it is judged by.
use Rattle.std.specs.Prelude.{◌≡◌, Bool, true, List, [], ℕ}
use Rattle.std.proofs.Math.Option.{Option, none, some}
use Rattle.std.specs.Int.Signed.{le_z}
use Rattle.rules.specs.Numbers.{value_of}
use Rattle.rules.specs.Enumerations.{merge, enum_fits, twice}
use Rattle.rules.specs.Grammar as G
use Rattle.rules.specs.Grammar.{Bounds, WrittenType}
use Rattle.rules.specs.Types.{Ty, text, numeric, structure, enum, fits}
use Rattle.rules.specs.Judge.{meant}
use Rattle.rules.specs.All.{AnyIs}
use Rattle.enumerations.specs.Standing.{Stands}

-- an enumeration's records stand at the start of the scratch x
abbrev pub Scratched : List ℕ → List ℕ → Option WrittenType → Type 0
Scratched t x none = Unit {0}
Scratched t x (some (G.text m n)) = Unit {0}
Scratched t x (some (G.numeric q r)) = Unit {0}
Scratched t x (some (G.enum e)) = Stands t x e 0
Scratched t x (some (G.named r)) = Unit {0}

-- and it has no element twice
abbrev pub Once : Option WrittenType → Type 0
Once none = Unit {0}
Once (some (G.text m n)) = Unit {0}
Once (some (G.numeric q r)) = Unit {0}
Once (some (G.enum e)) = twice e [] ≡ none
Once (some (G.named r)) = Unit {0}

-- a range's first bound is not the greater
abbrev pub Ordered : Option WrittenType → Type 0
Ordered none = Unit {0}
Ordered (some (G.text m n)) = Unit {0}
Ordered (some (G.numeric q r)) =
    AnyIs (λ (b : Bounds). le_z (value_of b.first.bytes) (value_of b.second.bytes) ≡ true) q
Ordered (some (G.enum e)) = Unit {0}
Ordered (some (G.named r)) = Unit {0}

-- 17 of all but a written enumeration, and of a written enumeration, over a base's type of its kind; the unit is not
-- looked at
abbrev pub plain_fits : Option WrittenType → Ty → Bool
plain_fits none b = true
plain_fits (some (G.text m n)) b = fits (meant (G.text m n) none b) b
plain_fits (some (G.numeric q r)) b = fits (meant (G.numeric q r) none b) b
plain_fits (some (G.enum e)) b = true
plain_fits (some (G.named r)) b = true

abbrev pub merge_fits : Option WrittenType → Ty → Bool
merge_fits none b = true
merge_fits (some (G.text m n)) b = true
merge_fits (some (G.numeric q r)) b = true
merge_fits (some (G.enum e)) (enum b) = enum_fits (merge b e) b
merge_fits (some (G.enum e)) (text m n) = true
merge_fits (some (G.enum e)) (numeric r u) = true
merge_fits (some (G.enum e)) structure = true
merge_fits (some (G.named r)) b = true
