-- Document 02, No. 1: runs of units, units on numbers, 22, and values with their units; each rule by itself, and beside
-- it what is near and passes. Order has 22 among the other numbers, and EveryKind the records 18 and 19.
use Rattle.std.proofs.Math.Option.{none, some}
use Rattle.std.specs.Prelude.{List, [], ◌∷◌, pos}
use Prim.Native.String.{String}
use Rattle.rules.specs.Types.{Measure, number}
use Rattle.computed.specs.Cases.{Case, passes, gives, gives_in, reads_at, strays}

-- UNIT opens a run, perhaps empty, in the model or a topic; no run comes back; 19 at the unit's name; a unit is no
-- definition of the count
abbrev pub runs : List Case
runs =
    passes "UNIT UNIT a;b;DOMAIN D=1..2;UNIT c;" 68 1
    ∷ passes "UNIT a;TOPIC T=UNIT b EXTENDS M.a;DOMAIN D=1..2[M.T.b];END T;DOMAIN E=1..2[M.a];" 103 2
    ∷ gives "UNIT a;DOMAIN b;" 5 55
    ∷ gives "DOMAIN UNIT b=1..2;" 5 53
    ∷ gives "UNIT a;CLASS C=END C;b;" 5 61
    ∷ gives "CLASS C=UNIT a;END C;" 5 48
    ∷ passes "UNIT a;" 17 0
    ∷ gives_in 16 "UNIT a;" 19 45
    ∷ []

-- a unit is a name, with ABSTRACT, which no rule looks at, and a base; a reference to one stands in brackets behind a
-- range or NUMERIC
abbrev pub written : List Case
written =
    passes "UNIT a;b(ABSTRACT)EXTENDS a;c EXTENDS b;CLASS C=x:1..2[b];END C;" 85 2
    ∷ gives "UNIT a(ABSTRACT,ABSTRACT);" 13 45
    ∷ gives "UNIT a(FINAL);" 5 47
    ∷ gives "UNIT a();" 5 47
    ∷ gives "UNIT a[m];" 5 46
    ∷ gives "UNIT a=1..2;" 5 46
    ∷ gives "DOMAIN D=TEXT[a];" 5 53
    ∷ gives "UNIT a;DOMAIN D=1..2;CLASS C=x:D[a];END C;" 5 72
    ∷ gives "DOMAIN D=1..2[INTERLIS.m];" 5 54
    ∷ gives "UNIT a;DOMAIN D=1..2[M.T.a.a];" 5 66
    ∷ gives "UNIT a;CLASS C=x:NUMERIC[a];END C;" 13 55
    ∷ []

-- 9: one name space with all others; 10: known from its closing `;` on; 11: in brackets only a unit, and no unit in
-- place of a type (OverStructures has which sort extends which)
abbrev pub named : List Case
named =
    gives "UNIT a;DOMAIN a=1..2;" 9 54
    ∷ gives "DOMAIN a=1..2;UNIT a;" 9 59
    ∷ gives "TOPIC T=UNIT T;END T;" 9 53
    ∷ gives "UNIT a EXTENDS a;" 10 55
    ∷ gives "DOMAIN D=1..2[m];" 10 54
    ∷ gives "UNIT a;DOMAIN D=1..2[M.a.a];" 10 61
    ∷ gives "TOPIC T=UNIT b;END T;DOMAIN D=1..2[b];" 10 75
    ∷ gives "UNIT a;CLASS C=x:a;END C;" 11 57
    ∷ gives "DOMAIN D=1..2;E=1..2[D];" 11 61
    ∷ gives "UNIT a;DOMAIN C(FINAL)=1..2;D EXTENDS C=1..2[C];" 11 85
    ∷ []

-- 22 of domains: the base's unit or one that descends from it, none where the base has none; MANDATORY alone keeps it
abbrev pub domains : List Case
domains =
    passes "UNIT a;b EXTENDS a;DOMAIN D=1..2[a];E EXTENDS D=1..2[a];F EXTENDS E=1..2[b];" 130 3
    ∷ passes "UNIT a;b EXTENDS a;c EXTENDS b;DOMAIN D(ABSTRACT)=NUMERIC[a];E EXTENDS D=1..2[c];" 90 2
    ∷ gives "UNIT a;DOMAIN D=1..2;E EXTENDS D=1..2[a];" 22 73
    ∷ gives "UNIT a;DOMAIN D=1..2[a];E EXTENDS D=MANDATORY 1..2;" 22 86
    ∷ gives "UNIT a;b EXTENDS a;DOMAIN D=1..2[b];E EXTENDS D=1..2[a];" 22 88
    ∷ gives "UNIT a;b EXTENDS a;c EXTENDS a;DOMAIN D=1..2[b];E EXTENDS D=1..2[c];" 22 100
    ∷ gives "UNIT a;DOMAIN D(ABSTRACT)=NUMERIC;E EXTENDS D=1..2[a];" 22 86
    ∷ passes "UNIT a;DOMAIN D=1..2[a];E EXTENDS D=MANDATORY;" 85 2
    ∷ gives "UNIT a;b;DOMAIN D=1..2[a];E EXTENDS D=MANDATORY;F EXTENDS E=1..2[b];" 22 100
    ∷ []

-- 22 of attributes: a type in place, held against the base's; where a domain is named, 17 or 18
abbrev pub attributes : List Case
attributes =
    passes "UNIT a;b EXTENDS a;CLASS C=x:1..2[a];END C;CLASS E EXTENDS C=x(EXTENDED):1..2[b];END E;" 120 4
    ∷ gives "UNIT a;CLASS C=x:1..2[a];END C;CLASS E EXTENDS C=x(EXTENDED):1..2;END E;" 22 101
    ∷ gives "UNIT a;DOMAIN D=1..2[a];CLASS C=x:D;END C;CLASS E EXTENDS C=x(EXTENDED):1..2;END E;" 22 112
    ∷ passes
    "UNIT a;b EXTENDS a;DOMAIN D=1..2[a];E EXTENDS D=1..2[b];CLASS C=x:D;END C;CLASS F EXTENDS C=x(EXTENDED):E;END F;"
    152 6
    ∷ gives "UNIT a;DOMAIN D=1..2[a];E=1..2;CLASS C=x:D;END C;CLASS F EXTENDS C=x(EXTENDED):E;END F;" 18 119
    ∷ gives "UNIT a;DOMAIN D=1..2[a];E=1..3;CLASS C=x:D;END C;CLASS F EXTENDS C=x(EXTENDED):E;END F;" 17 119
    ∷ []

-- ---- values: four units, the records 1 to 4, c over b, b and d over a; a domain in b over one in a; one without; and
-- one in b over NUMERIC in a
abbrev measured : String
measured = "UNIT a;b EXTENDS a;c EXTENDS b;d EXTENDS a;DOMAIN A=1..7[a];B EXTENDS A=0.5..7.0[b];N=1..7;"

abbrev unbounded : String
unbounded = "UNIT a;b EXTENDS a;DOMAIN A(ABSTRACT)=NUMERIC[a];B EXTENDS A=0.5..7.0[b];"

abbrev in_a : Measure
in_a = record { number = 1; bases = [] }

abbrev in_b : Measure
in_b = record { number = 2; bases = 1 ∷ [] }

abbrev in_c : Measure
in_c = record { number = 3; bases = 2 ∷ 1 ∷ [] }

abbrev in_d : Measure
in_d = record { number = 4; bases = 1 ∷ [] }

-- read at the base, a number is in the unit that it was in, perhaps one that descends from the type's; one is illegal
-- where the type has the descendant, another, or none
abbrev pub readings : List Case
readings =
    reads_at measured "B" (number 1 (pos 5) (some in_b)) "A" (number 0 (pos 1) (some in_b))
    ∷ reads_at measured "B" (number 1 (pos 5) (some in_c)) "A" (number 0 (pos 1) (some in_c))
    ∷ reads_at unbounded "B" (number 1 (pos 5) (some in_b)) "A" (number 1 (pos 5) (some in_b))
    ∷ reads_at measured "N" (number 0 (pos 1) none) "N" (number 0 (pos 1) none)
    ∷ strays measured "B" (number 1 (pos 70) (some in_b)) (number 1 (pos 70) (some in_a))
    ∷ strays measured "B" (number 1 (pos 70) (some in_b)) (number 1 (pos 70) (some in_d))
    ∷ strays measured "B" (number 1 (pos 70) (some in_b)) (number 1 (pos 70) none)
    ∷ strays measured "N" (number 0 (pos 7) none) (number 0 (pos 7) (some in_a))
    ∷ []
