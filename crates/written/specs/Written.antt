-- 14 to 17 and 22 of a type that is written over a base's, and the records of what breaks none of them.
use Rattle.std.specs.Prelude.{◌≡◌, Bool, not, ◌&&◌, List, [], ◌∷◌, ◌++◌, ℕ, ◌+◌, ◌≤◌, length, ⊤, Result, Ok, Err}
use Rattle.std.proofs.Math.Option.{Option}
use Rattle.rules.specs.Grammar.{WrittenType}
use Rattle.rules.specs.Types.{Ty, fits, keeps_unit}
use Rattle.rules.specs.Declarations.{Def}
use Rattle.rules.specs.Book.{Record, bytes}
use Rattle.rules.specs.Judge.{Rule, rule, domain_type, type_rules, kind_rule}
use Rattle.ground.specs.Parts.{splice}
use Rattle.enumerations.specs.Records.{size_of}
use Rattle.enumerations.specs.declared.Size.{Size}
use Rattle.ground.specs.declared.Ruling.{Ruling}
use Rattle.types.specs.Writing.{plain_fits}

-- of the type w at the place p, whose reference leads to x, over the type b; f says whether it fits
abbrev pub rules_by : Bool → Bool → ℕ → Option WrittenType → Option Def → Ty → List Rule
rules_by f based p w x b =
    type_rules based p w
    ++ (kind_rule p based (domain_type w x b) b
    ∷ rule 17 p (based && not f)
    ∷ rule 22 p (based && not (keeps_unit (domain_type w x b) b))
    ∷ [])

abbrev pub written_rules : Bool → ℕ → Option WrittenType → Option Def → Ty → List Rule
written_rules based p w x b = rules_by (fits (domain_type w x b) b) based p w x b

-- with 17 of all but a written enumeration
abbrev pub plain_rules : Bool → ℕ → Option WrittenType → Option Def → Ty → List Rule
plain_rules based p w x b = rules_by (plain_fits w b) based p w x b

-- the rule that is broken is the answer; or the records l are counted, and written at the place i of the buffer o if
-- they fit it
abbrev pub LaidWhen : Result ⊤ Ruling → List Record → ℕ → List ℕ → List ℕ → Result Size Ruling → Type 0
LaidWhen (Err q) l i o o₁ r = r ≡ Err q
LaidWhen (Ok u) l i o o₁ r = (r ≡ Ok (size_of l)) × (i + length (bytes l) ≤ length o → o₁ ≡ splice o i (bytes l))
