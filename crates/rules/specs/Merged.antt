-- Words on enumerations that statements use: the names of a list, elements that stand once, and what an extension adds.
use Rattle.std.specs.Prelude.{Bool, true, cond, not, ◌&&◌, List, [], ◌∷◌}
use Rattle.rules.specs.Names.{Name}
use Rattle.rules.specs.Enumerations.{Enum, end, elem, final, at, has, or_else}

-- ---- the names of a list, each with its place, and of those of x the ones that b lacks
abbrev pub names : Enum → List Name
names (end f) = []
names (elem n i r) = n ∷ names r

abbrev pub new_names : Enum → Enum → List Name
new_names b (end f) = []
new_names b (elem n i r) = let l = new_names b r in cond (has n.bytes b) l (n ∷ l)

-- no list has an element twice, at any level
abbrev pub distinct : Enum → Bool
distinct (end f) = true
distinct (elem n i r) = not (has n.bytes r) && (distinct i && distinct r)

-- the written x has no element that a FINAL list of b lacks, and none below a FINAL leaf of b
abbrev pub adds_nothing : Enum → Enum → Bool
adds_nothing (end f) b = true
adds_nothing (elem n i r) b = or_else (at n.bytes b) (not (final b)) (λ j. adds_nothing i j) && adds_nothing r b
