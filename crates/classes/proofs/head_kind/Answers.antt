use Rattle.classes.proofs.ClassLaws.{kind-class, kind-structure, kind-unit}
use Rattle.classes.proofs.head_kind.Goals as goal

pub returns-then-sort-eq-CLASS : goal.returns-then-sort-eq-CLASS
returns-then-sort-eq-CLASS c = kind-class c.args.sort c.if-sort-eq-CLASS.true

pub returns-then-sort-eq-STRUCTURE : goal.returns-then-sort-eq-STRUCTURE
returns-then-sort-eq-STRUCTURE c = kind-structure c.args.sort c.if-sort-eq-STRUCTURE.true

pub returns : goal.returns
returns c = kind-unit c.args.sort c.if-sort-eq-CLASS.false c.if-sort-eq-STRUCTURE.false
