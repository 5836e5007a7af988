-- Document 02, No. 2: each sort over each, a class over a structure, and what reads the same across that step, each
-- beside what is near. Order has 11 before 12, AttributeCount 4 by count, and AcrossStep a reading.
use Rattle.std.specs.Prelude.{◌≡◌, List, [], ◌∷◌, ℕ}
use Rattle.rules.specs.Check.{lent, accepting, check}
use Rattle.computed.specs.Cases.{Case, passes, gives, model_of}

-- over a class, a structure, a domain, a unit and a topic, in this order: a class, then a structure
abbrev pub sorts : List Case
sorts =
    passes "CLASS B=END B;CLASS C EXTENDS B=END C;" 30 2
    ∷ passes "STRUCTURE B=END B;CLASS C EXTENDS B=END C;" 30 2
    ∷ gives "DOMAIN B=1..2;CLASS C EXTENDS B=END C;" 11 70
    ∷ gives "UNIT B;CLASS C EXTENDS B=END C;" 11 63
    ∷ gives "TOPIC B=CLASS C EXTENDS B=END C;END B;" 11 64
    ∷ gives "CLASS B=END B;STRUCTURE S EXTENDS B=END S;" 11 74
    ∷ passes "STRUCTURE B=END B;STRUCTURE S EXTENDS B=END S;" 30 2
    ∷ gives "DOMAIN B=1..2;STRUCTURE S EXTENDS B=END S;" 11 74
    ∷ gives "UNIT B;STRUCTURE S EXTENDS B=END S;" 11 67
    ∷ gives "TOPIC B=STRUCTURE S EXTENDS B=END S;END B;" 11 68
    ∷ []

-- likewise a domain, then a unit
abbrev pub other_sorts : List Case
other_sorts =
    gives "CLASS B=END B;DOMAIN D EXTENDS B=1..2;" 11 71
    ∷ gives "STRUCTURE B=END B;DOMAIN D EXTENDS B=1..2;" 11 75
    ∷ passes "DOMAIN B=1..2;D EXTENDS B=1..2;" 64 2
    ∷ gives "UNIT B;DOMAIN D EXTENDS B=1..2;" 11 64
    ∷ gives "TOPIC B=DOMAIN D EXTENDS B=1..2;END B;" 11 65
    ∷ gives "CLASS B=END B;UNIT a EXTENDS B;" 11 69
    ∷ gives "STRUCTURE B=END B;UNIT a EXTENDS B;" 11 73
    ∷ gives "DOMAIN B=1..2;UNIT a EXTENDS B;" 11 69
    ∷ passes "UNIT B;a EXTENDS B;" 28 0
    ∷ gives "TOPIC B=UNIT a EXTENDS B;END B;" 11 63
    ∷ []

-- a class over a structure is a class: other classes extend it, no structure does, and it types no attribute, also
-- where the base is typed by that structure; 12 looks at the structure's FINAL
abbrev pub classes : List Case
classes =
    passes "STRUCTURE S=END S;CLASS C EXTENDS S=END C;CLASS D EXTENDS C=END D;" 42 3
    ∷ passes "TOPIC T=STRUCTURE S(ABSTRACT)=END S;END T;CLASS C EXTENDS M.T.S=END C;" 37 2
    ∷ gives "STRUCTURE S=END S;CLASS C EXTENDS S=END C;STRUCTURE T EXTENDS C=END T;" 11 102
    ∷ gives "STRUCTURE S=END S;CLASS C EXTENDS S=END C;CLASS D=x:C;END D;" 11 92
    ∷ gives "STRUCTURE S=END S;CLASS C EXTENDS S=END C;CLASS A=x:S;END A;CLASS D EXTENDS A=x(EXTENDED):C;END D;" 11 130
    ∷ gives "STRUCTURE S(FINAL)=END S;CLASS C EXTENDS S=END C;" 12 81
    ∷ []

-- attributes that a class has from a structure, or from a class over one: 9, 12, and 16 to 18 and 22 of their types
abbrev pub attributes : List Case
attributes =
    passes "STRUCTURE S=a:1..9;END S;CLASS C EXTENDS S=a(EXTENDED):1..8;END C;" 88 4
    ∷ passes "STRUCTURE S=a:1..9;END S;CLASS C EXTENDS S=a(EXTENDED):MANDATORY;b:TEXT;END C;" 104 5
    ∷ passes
    "STRUCTURE S=END S;STRUCTURE T EXTENDS S=END T;STRUCTURE A=x:S;END A;CLASS C EXTENDS A=x(EXTENDED):T;END C;" 86 6
    ∷ gives "STRUCTURE S=a:1..9;END S;CLASS C EXTENDS S=a:1..2;END C;" 9 83
    ∷ gives "STRUCTURE S=a(FINAL):1..9;END S;CLASS C EXTENDS S=a(EXTENDED):1..9;END C;" 12 90
    ∷ gives "STRUCTURE S=a:1..9;END S;CLASS C EXTENDS S=a(EXTENDED):TEXT;END C;" 16 95
    ∷ gives "STRUCTURE S=a:1..9;END S;CLASS C EXTENDS S=a(EXTENDED):0..9;END C;" 17 95
    ∷ gives "STRUCTURE S=a:1..9;END S;CLASS C EXTENDS S=END C;CLASS D EXTENDS C=a(EXTENDED):0..9;END D;" 17 119
    ∷ gives "DOMAIN D=1..9;E=1..9;STRUCTURE S=a:D;END S;CLASS C EXTENDS S=a(EXTENDED):E;END C;" 18 113
    ∷ gives "UNIT u;STRUCTURE S=a:1..9[u];END S;CLASS C EXTENDS S=a(EXTENDED):1..9;END C;" 22 105
    ∷ []

-- ---- the book of a class over a structure, written by hand: a record a line, with its number
abbrev pub text : List ℕ
text = model_of "STRUCTURE S=a:1..9;END S;CLASS C EXTENDS S=a(EXTENDED):1..8;END C;"

abbrev pub book : List ℕ
book =
    1 ∷ 19 ∷ 0 ∷ 0 ∷ 0 ∷ 1  -- 0: the model M
    ∷ 5 ∷ 50 ∷ 0 ∷ 0 ∷ 0 ∷ 1 ∷ 0 ∷ 255 ∷ 255 ∷ 255 ∷ 255  -- 1: the structure S, no base
    ∷ 6 ∷ 52 ∷ 0 ∷ 0 ∷ 0 ∷ 1 ∷ 0 ∷ 255 ∷ 255 ∷ 255 ∷ 255  -- 2: its attribute a
    ∷ 10 ∷ 0 ∷ 1 ∷ 0 ∷ 0 ∷ 0 ∷ 0 ∷ 0 ∷ 0 ∷ 0 ∷ 9 ∷ 0 ∷ 0 ∷ 0 ∷ 0 ∷ 0 ∷ 0 ∷ 0  -- 3: no decimals, 1..9
    ∷ 16  -- 4: END S
    ∷ 4 ∷ 71 ∷ 0 ∷ 0 ∷ 0 ∷ 1 ∷ 0 ∷ 1 ∷ 0 ∷ 0 ∷ 0  -- 5: the class C, over S
    ∷ 6 ∷ 83 ∷ 0 ∷ 0 ∷ 0 ∷ 1 ∷ 4 ∷ 2 ∷ 0 ∷ 0 ∷ 0  -- 6: its attribute a, EXTENDED, over 2
    ∷ 10 ∷ 0 ∷ 1 ∷ 0 ∷ 0 ∷ 0 ∷ 0 ∷ 0 ∷ 0 ∷ 0 ∷ 8 ∷ 0 ∷ 0 ∷ 0 ∷ 0 ∷ 0 ∷ 0 ∷ 0  -- 7: no decimals, 1..8
    ∷ 16  -- 8: END C
    ∷ []

abbrev pub Exact : Type 0
Exact = check text (lent 88) ≡ record { answer = accepting 88 4; buffer = book }
