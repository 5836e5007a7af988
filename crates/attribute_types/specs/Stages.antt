-- 12 and 13 of an attribute.
use Rattle.std.specs.Prelude.{Bool, false, ◌&&◌, ◌||◌, List, [], ◌∷◌, ℕ}
use Rattle.std.proofs.Math.Option.{Option, none, some}
use Rattle.rules.specs.Declarations.{Use, ty_of, domain, is_sort, Def}
use Rattle.rules.specs.Judge.{Rule, rule, or_no_def, is_numeric, is_domain}

abbrev pub abstract_domain : Option Def → Bool
abstract_domain none = false
abstract_domain (some d) = is_sort domain d.sort && d.abstract

-- 12 and 13; u types the attribute
abbrev pub head_rules : ℕ → Bool → Bool → Use → Option Def → List Rule
head_rules p final twice u g =
    rule 12 p final ∷ rule 13 p (twice || (is_numeric (ty_of u) || (is_domain u && (or_no_def g).abstract))) ∷ []
