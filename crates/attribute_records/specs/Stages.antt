-- 14 to 18 and 22 of what types an attribute.
use Rattle.std.specs.Prelude.{Bool, List, ◌∷◌, ◌++◌, ℕ}
use Rattle.std.proofs.Math.Option.{Option}
use Rattle.rules.specs.Grammar.{WrittenType}
use Rattle.rules.specs.Declarations.{Use, ty_of}
use Rattle.rules.specs.Judge.{Rule, is_naming, type_rules, kind_rule, attribute_from_17}

-- 16 to 18 and 22
abbrev pub base_rules : ℕ → Bool → Bool → Use → Use → List Rule
base_rules p based names u b = kind_rule p based (ty_of u) (ty_of b) ∷ attribute_from_17 p based names u b

-- 14 to 18 and 22; the type stands at p
abbrev pub use_rules : ℕ → Bool → Option WrittenType → Use → Use → List Rule
use_rules p based w u b = type_rules based p w ++ base_rules p based (is_naming w) u b
