-- Document 01, "Symbols", "Grammar", "Sizes", "Names", "Types and bases", "Refusals in order": each number from 2 to 19
-- by itself, and beside it what is near and passes. Example has 7, Order the rules that meet in one unit, and
-- OverStructures 11 of EXTENDS.
use Rattle.std.specs.Prelude.{List, [], ◌∷◌, ℕ, zero, suc}
use Prim.Native.String.{String, ◌++◌}
use Rattle.computed.specs.Cases.{Case, passes, gives, gives_in}

-- 2, 3, 6 and 5
abbrev pub unreadable : List Case
unreadable =
    gives "DOMAIN B=1..2;#" 2 54
    ∷ gives "DOMAIN B=1..2;\"\\n\"" 2 55
    ∷ gives "DOMAIN B=1..2;\"" 3 54
    ∷ gives "DOMAIN B=1..2;/*" 3 54
    ∷ passes "DOMAIN/**/B!!\n=1..2;" 35 1
    ∷ gives "DOMAIN OTHERS=1..2;" 6 47
    ∷ gives "DOMAIN B=A;" 5 49
    ∷ gives "DOMAIN B=MANDATORY;" 5 58
    ∷ gives "CLASS C(EXTENDED)=END C;" 5 48
    ∷ gives "/*/" 3 40
    ∷ gives "\"\\u00f\"" 2 41
    ∷ gives "\"\\u00fC\"" 5 40
    ∷ gives "DOMAIN B=1...2;" 5 52
    ∷ gives "DOMAIN B=TEXT*+5;" 5 54
    ∷ passes "DOMAIN\ta_1\r=+1..2;" 35 1
    ∷ []

-- 5 of units where they may not stand: runs of domains, topics, ATTRIBUTE, properties
abbrev pub placed : List Case
placed =
    gives "DOMAIN B=1..2;CLASS C=END C;D=1..2;" 5 68
    ∷ gives "TOPIC T=TOPIC U=END U;END T;" 5 48
    ∷ passes "CLASS C=ATTRIBUTE a:1..2;END C;" 47 2
    ∷ gives "CLASS C=a:1..2;ATTRIBUTE b:1..2;END C;" 5 55
    ∷ gives "CLASS C()=END C;" 5 48
    ∷ []

-- a word of so many letters
abbrev letters : ℕ → String
letters zero = ""
letters (suc k) = "a" ++ letters k

-- 4, but for the attribute count: both sides of a word, a number, a TEXT length and nesting
abbrev pub sizes : List Case
sizes =
    passes ("DOMAIN " ++ (letters 255 ++ "=1..2;")) 35 1
    ∷ gives ("DOMAIN " ++ (letters 256 ++ "=1..2;")) 4 47
    ∷ passes "DOMAIN B=0..999999999999999999;" 35 1
    ∷ gives "DOMAIN B=0..1000000000000000000;" 4 52
    ∷ passes "DOMAIN B=TEXT*4294967295;" 22 1
    ∷ gives "DOMAIN B=TEXT*4294967296;" 4 54
    ∷ passes "DOMAIN B=(a(a(a(a(a(a(a(a))))))));" 89 1
    ∷ gives "DOMAIN B=(a(a(a(a(a(a(a(a(a)))))))));" 4 65
    ∷ []

-- 9: the one name space of "Names"; a closed topic's names are free; then attributes
abbrev pub taken : List Case
taken =
    gives "TOPIC T=END T;TOPIC T=END T;" 9 60
    ∷ gives "DOMAIN T=1..2;TOPIC T=END T;" 9 60
    ∷ gives "TOPIC T=DOMAIN T=1..2;END T;" 9 55
    ∷ gives "CLASS C=END C;STRUCTURE C=END C;" 9 64
    ∷ passes "TOPIC T=DOMAIN B=1..2;END T;DOMAIN B=1..2;" 71 2
    ∷ gives "CLASS C=a:1..2;a:1..2;END C;" 9 55
    ∷ gives "CLASS A=a:1..2;END A;CLASS C EXTENDS A=a:1..2;END C;" 9 79
    ∷ gives "CLASS C=a:1..2;a(EXTENDED):1..2;END C;" 9 55
    ∷ gives "DOMAIN B=(a(x),a(y,y));" 9 55
    ∷ passes "TOPIC M=END M;" 13 0
    ∷ []

-- 10: a bare reference is looked up at the model's level and in the open topic; 11: what it names is of another sort
abbrev pub references : List Case
references =
    passes "TOPIC T=DOMAIN B=1..2;E EXTENDS B=1..2;END T;" 71 2
    ∷ passes "DOMAIN B=1..2;TOPIC T=DOMAIN E EXTENDS B=1..2;END T;" 71 2
    ∷ gives "TOPIC T=DOMAIN B=1..2;END T;DOMAIN E EXTENDS B=1..2;" 10 85
    ∷ passes "TOPIC T=DOMAIN B=1..2;END T;DOMAIN E EXTENDS M.T.B=1..2;" 71 2
    ∷ passes "DOMAIN B=1..2;E EXTENDS M.B=1..2;" 64 2
    ∷ gives "TOPIC T=DOMAIN B=1..2;E EXTENDS M.B=1..2;END T;" 10 72
    ∷ gives "DOMAIN B=1..2;E EXTENDS N.B=1..2;" 10 64
    ∷ gives "STRUCTURE S=a:S;END S;" 10 54
    ∷ gives "CLASS A=END A;CLASS C=a:A;END C;" 11 64
    ∷ gives "TOPIC T=CLASS C=a:T;END C;END T;" 11 58
    ∷ passes "TOPIC T=DOMAIN B=1..2;E EXTENDS M.T.B=1..2;END T;" 71 2
    ∷ gives "TOPIC T=DOMAIN B=1..2;END T;DOMAIN E EXTENDS N.T.B=1..2;" 10 85
    ∷ []

-- 12: a FINAL base; 13: properties, NUMERIC and ABSTRACT domains
abbrev pub flagged : List Case
flagged =
    gives "DOMAIN B(FINAL)=1..2;E EXTENDS B=1..2;" 12 71
    ∷ gives "CLASS A=a(FINAL):1..2;END A;CLASS C EXTENDS A=a(EXTENDED):1..2;END C;" 12 86
    ∷ passes "DOMAIN B(FINAL)=1..2;CLASS C=a:B;END C;" 63 3
    ∷ gives "CLASS C(ABSTRACT,FINAL)=END C;" 13 46
    ∷ gives "CLASS C=a(FINAL,FINAL):1..2;END C;" 13 48
    ∷ gives "CLASS C=a:NUMERIC;END C;" 13 48
    ∷ gives "DOMAIN B(ABSTRACT)=1..2;CLASS C=a:B;END C;" 13 72
    ∷ passes "STRUCTURE S(ABSTRACT)=END S;CLASS C=a:S;END C;" 46 3
    ∷ gives "DOMAIN B=NUMERIC;" 13 47
    ∷ gives "DOMAIN B(ABSTRACT)=NUMERIC;E EXTENDS B=MANDATORY;" 13 67
    ∷ passes "DOMAIN B(ABSTRACT)=NUMERIC;E(ABSTRACT)EXTENDS B=MANDATORY;" 30 2
    ∷ gives "CLASS C(FINAL,FINAL)=END C;" 13 46
    ∷ []

-- 14 to 18, of a type over its base's; MANDATORY alone means the base's type
abbrev pub bases : List Case
bases =
    gives "CLASS C=a:2..1;END C;" 14 50
    ∷ gives "CLASS C=a:(FINAL);END C;" 15 50
    ∷ passes "DOMAIN B=(a);E EXTENDS B=(FINAL);" 46 2
    ∷ gives "STRUCTURE S=END S;CLASS A=a:TEXT;END A;CLASS C EXTENDS A=a(EXTENDED):S;END C;" 16 109
    ∷ gives "DOMAIN B=1..2;E(ABSTRACT)EXTENDS B=NUMERIC;" 17 75
    ∷ gives "CLASS A=a:1..2;END A;CLASS C EXTENDS A=a(EXTENDED):1..3;END C;" 17 91
    ∷ gives "DOMAIN B=1..2;CLASS A=a:1..2;END A;CLASS C EXTENDS A=a(EXTENDED):B;END C;" 18 105
    ∷ gives "STRUCTURE S=END S;STRUCTURE T=END T;CLASS A=a:S;END A;CLASS C EXTENDS A=a(EXTENDED):T;END C;" 18 124
    ∷ passes
    "STRUCTURE S=END S;STRUCTURE T EXTENDS S=END T;CLASS A=a:S;END A;CLASS C EXTENDS A=a(EXTENDED):T;END C;" 86 6
    ∷ passes "DOMAIN B=1..2;CLASS A=a:B;END A;CLASS C EXTENDS A=a(EXTENDED):MANDATORY;END C;" 91 5
    ∷ passes "DOMAIN B=1..2;E EXTENDS B=MANDATORY;" 64 2
    ∷ gives "DOMAIN B=TEXT;E EXTENDS B=MANDATORY 1..2;" 16 76
    ∷ gives "CLASS A=a:(a(x),b);END A;DOMAIN E=(a,b);CLASS C EXTENDS A=a(EXTENDED):E;END C;" 17 110
    ∷ gives "DOMAIN B=(a,b:FINAL);E=(a,b);CLASS A=a:B;END A;CLASS C EXTENDS A=a(EXTENDED):E;END C;" 17 117
    ∷ gives "DOMAIN B=(a,b:FINAL);E=(a,b:FINAL);CLASS A=a:B;END A;CLASS C EXTENDS A=a(EXTENDED):E;END C;" 18 123
    ∷ []

-- 8 of END; 19 at the unit's name, which for END is the name after it
abbrev pub ends : List Case
ends =
    gives "TOPIC T=END U;" 8 52
    ∷ gives_in 5 "" 19 19
    ∷ gives_in 11 "TOPIC T=END T;" 19 46
    ∷ gives_in 12 "TOPIC T=END T;" 19 52
    ∷ gives_in 16 "CLASS C=END C;" 19 46
    ∷ gives_in 17 "CLASS C=END C;" 19 52
    ∷ gives_in 45 "CLASS C=a:1..2;END C;" 19 48
    ∷ gives "END N.#" 8 44
    ∷ gives "END M.#" 2 46
    ∷ []
