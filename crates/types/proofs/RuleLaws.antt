-- What holds where 14 is kept.
use mathlib.Core.Path.{◌≡◌, refl}
use mathlib.Core.Bool.{Bool, true, false, not, ◌||◌}
use mathlib.Core.Option.{Option, none, some}
use mathlib.Core.List.{[], ◌∷◌}
use Prim.Native.Nat.{ℕ}
use lib.Signed.{lt_z}
use lib.Dec.{eqb}
use Rattle.std.specs.Prelude.{⊤, Ok}
use Rattle.rules.specs.Numbers.{value_of, decimals_of}
use Rattle.rules.specs.Grammar as G
use Rattle.rules.specs.Grammar.{WrittenType}
use Rattle.rules.specs.Judge.{rule, type_rules}
use Rattle.rules.proofs.NumberLaws.{in_order_lem}
use Rattle.ground.specs.Rulings.{ruling_of}
use Rattle.types.specs.Writing.{Ordered}

kept : (p : ℕ) (b : Bool) (x : ⊤) → ruling_of (rule 14 p b ∷ []) ≡ Ok x → b ≡ false
kept p true x h = cc
kept p false x h = refl

pub ordered_of : (based : Bool) (p : ℕ) (w : Option WrittenType) (x : ⊤) → ruling_of (type_rules based p w) ≡ Ok x
    → Ordered w
ordered_of based p none x h = tt
ordered_of based p (some (G.text m n)) x h = tt
ordered_of based p (some (G.numeric none r)) x h = tt
ordered_of based p (some (G.numeric (some b) r)) x h =
    let y = b.first in
    let z = b.second in
    in_order_lem y.bytes z.bytes (kept y.place
    (not (eqb (decimals_of y.bytes) (decimals_of z.bytes)) || lt_z (value_of z.bytes) (value_of y.bytes)) x h)
ordered_of based p (some (G.enum e)) x h = tt
ordered_of based p (some (G.named r)) x h = tt
