use mathlib.Core.Path.{◌≡◌}
use mathlib.Core.List.{List}
use lib.ListN.{drop}
use Rattle.rules.specs.Declarations.{Attribute}
use Rattle.members.specs.Members.{Members, Filled, slot_from, slot_of}
use Rattle.names.specs.References.{bytes_of}
use Rattle.members.proofs.find_attribute.Given as goal

abbrev pub invariant-loop-i : goal.invariant-loop-i
invariant-loop-i l =
    (ms h : List Attribute) → Members l.text ms l.rows l.total → Filled ms l.hand l.count h
    → slot_of (bytes_of l.text l.name) h ≡ slot_from (bytes_of l.text l.name) l.i (drop l.i h)
