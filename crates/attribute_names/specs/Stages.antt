-- The rules of an attribute's name and of what it refers to, in stages.
use Rattle.std.specs.Prelude.{Bool, not, ◌&&◌, ◌||◌, List, [], ◌∷◌, ◌++◌, ℕ, leb}
use Rattle.std.proofs.Math.Option.{Option}
use Rattle.rules.specs.Names.{Name}
use Rattle.rules.specs.Grammar.{WrittenType}
use Rattle.rules.specs.Declarations.{Def, attributes_of, attribute_at, is_found, name_count}
use Rattle.rules.specs.Judge.{Rule, rule, element_rule}
use Rattle.members.specs.Members.{most}
use Rattle.state.specs.Targets.{target_rules}

-- 4 and 9 of the name
abbrev pub name_rules : Def → Name → Bool → List Rule
name_rules c n extended =
    rule 4 n.offset
    (not (is_found (attribute_at n.bytes (attributes_of c))) && leb most (name_count (attributes_of c)))
    ∷ rule 9 n.offset
    (is_found (attribute_at n.bytes c.own) || (is_found (attribute_at n.bytes c.inherited) && not extended))
    ∷ []

-- 10 and 11; the name stands at p, the reference in the type w leads to g
abbrev pub reference_rules : ℕ → Bool → Bool → Option WrittenType → Option Def → List Rule
reference_rules p extended based w g = rule 10 p (extended && not based) ∷ target_rules w g

-- 4 to 11
abbrev pub rules_to_11 : Def → Name → Bool → Bool → Option WrittenType → Option Def → List Rule
rules_to_11 c n extended based w g =
    name_rules c n extended ++ (element_rule w ∷ reference_rules n.offset extended based w g)
