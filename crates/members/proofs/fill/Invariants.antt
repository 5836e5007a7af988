use mathlib.Core.List.{List}
use Prim.Native.Nat.{◌≤◌}
use Rattle.rules.specs.Declarations.{Attribute, Def, attributes_of, name_count}
use Rattle.rules.specs.Judge.{or_no_def}
use Rattle.names.specs.Index.{entry}
use Rattle.members.specs.Members.{Indexed, most, Hand}
use Rattle.members.proofs.FillLaws.{Chain}
use Rattle.members.proofs.fill.Given as goal

abbrev pub invariant-loop-c : goal.invariant-loop-c
invariant-loop-c l = (l.c ≤ l.base) × (l.n ≤ most) × Hand l.hand
    × ((ks : List Def) (ms : List Attribute) → Indexed l.text ks ms l.index l.count l.rows l.total
    → name_count (attributes_of (or_no_def (entry ks l.base))) ≤ most → Chain ks ms l.base l.hand l.n l.c)

abbrev pub decreases-loop-c : goal.decreases-loop-c
decreases-loop-c l = l.c
