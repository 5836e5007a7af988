-- 10 and 11 of the reference in a type, and rules that are judged in two lists.
use Rattle.std.specs.Prelude.{◌≡◌, cond, List, [], ◌∷◌, ltb, ⊤, Result, Ok, Err}
use Rattle.std.proofs.Math.Option.{Option}
use Rattle.rules.specs.Grammar.{Reference, WrittenType}
use Rattle.rules.specs.Declarations.{Sort, Def}
use Rattle.rules.specs.Judge.{Rule, reference_in, unknown_rule, extends11, extends12, type11}
use Rattle.ground.specs.declared.Ruling.{Ruling}
use Rattle.ground.specs.Rulings.{ruling_of}

-- of the reference in the type w, which leads to target
abbrev pub target_rules : Option WrittenType → Option Def → List Rule
target_rules w target = unknown_rule (reference_in w) target ∷ type11 w target ∷ []

-- 10 to 12 of EXTENDS r, which leads to base, among 10 and 11 of the reference in the type w, in the order of their
-- numbers
abbrev pub among_rules : Sort → Option Reference → Option Def → Option WrittenType → Option Def → List Rule
among_rules c r base w target =
    unknown_rule r base ∷ unknown_rule (reference_in w) target ∷ extends11 c r base ∷ type11 w target
    ∷ extends12 r base ∷ []

-- the rules l are judged: the first that is broken, else a value of which P holds
abbrev pub Ruled : {A : Type 0} → Result A Ruling → List Rule → (A → Type 0) → Type 0
Ruled (Ok x) l P = (ruling_of l ≡ Ok tt) × P x
Ruled (Err r) l P = ruling_of l ≡ Err r

-- of two rulings the one with the lesser number, the first where they are alike; the value where neither is broken
abbrev pub earlier_of : {A : Type 0} → Result A Ruling → Result ⊤ Ruling → Result A Ruling
earlier_of (Ok x) (Ok y) = Ok x
earlier_of (Ok x) (Err b) = Err b
earlier_of (Err a) (Ok y) = Err a
earlier_of (Err a) (Err b) = cond (ltb b.number a.number) (Err b) (Err a)
