-- Document 01, "Refusals in order": units broken by two rules at once, a text for each two neighbouring numbers from 7
-- to 19, with 22 before 19, that can meet in one unit, and the two places of one number; bounds of 18 digits with 17
-- decimals against none; the other examples on both sides.
use Rattle.std.specs.Prelude.{List, [], ◌∷◌}
use Rattle.computed.specs.Cases.{Case, passes, gives, gives_in}

-- 7 stands alone in the header and 8 in END, where only 19 can follow; 14 is of ranges and lengths, 15 of enumerations
-- without a base and 16 of any type with one, so 14 meets 16, and 15 meets 13 and 19; 18 is of domains and structures
-- that are named and 22 of types in place, so 22 meets 17 and 19. AttributeCount has 4 by count
abbrev pub neighbours : List Case
neighbours =
    gives_in 17 "CLASS C=END D;" 8 52
    ∷ gives "DOMAIN B=1..2;B EXTENDS X=1..2;" 9 54
    ∷ gives "CLASS A=END A;CLASS C=a(EXTENDED):A;END C;" 10 62
    ∷ gives "CLASS C(FINAL)=END C;STRUCTURE S EXTENDS C=END S;" 11 81
    ∷ gives "CLASS A(FINAL)=END A;CLASS C(FINAL,FINAL)EXTENDS A=END C;" 12 89
    ∷ gives "DOMAIN B(ABSTRACT,FINAL)=5..4;" 13 47
    ∷ gives "DOMAIN B(FINAL,FINAL)=(FINAL);" 13 47
    ∷ gives "DOMAIN B=TEXT;E EXTENDS B=5..4;" 14 66
    ∷ gives_in 6 "DOMAIN B=(FINAL);" 15 49
    ∷ gives "DOMAIN B=TEXT*10;E EXTENDS B=MTEXT*11;" 16 69
    ∷ gives "DOMAIN B=1..2;E=0..2;CLASS A=a:B;END A;CLASS C EXTENDS A=a(EXTENDED):E;END C;" 17 109
    ∷ gives_in 110 "DOMAIN B=1..2;E=1..2;CLASS A=a:B;END A;CLASS C EXTENDS A=a(EXTENDED):E;END C;" 18 109
    ∷ gives "DOMAIN B=1..2;B=(a,a);" 9 54
    ∷ gives "CLASS C=a(EXTENDED):X;END C;" 10 48
    ∷ gives "DOMAIN B=(a(x,y,x),b,a);" 9 56
    ∷ gives "UNIT a;DOMAIN D=TEXT;E EXTENDS D=1..3[a];" 16 73
    ∷ gives "UNIT a;DOMAIN D=1..2[a];E EXTENDS D=1..3;" 17 76
    ∷ gives_in 51 "UNIT a;DOMAIN D=1..2[a];E EXTENDS D=1..2;" 22 76
    ∷ gives "UNIT a;DOMAIN D EXTENDS x=1..2[y];" 10 64
    ∷ gives "UNIT a;DOMAIN D EXTENDS a=1..2[y];" 10 71
    ∷ gives "UNIT a;DOMAIN C=1..2;D EXTENDS a=1..2[C];" 11 71
    ∷ gives "UNIT a;CLASS C=x(EXTENDED):1..2[q];END C;" 10 55
    ∷ []

abbrev pub others : List Case
others =
    passes "DOMAIN B=0..9;E EXTENDS B=0.00000000000000000..9.49999999999999999;" 64 2
    ∷ gives "DOMAIN B=0..9;E EXTENDS B=0.00000000000000000..9.50000000000000000;" 17 66
    ∷ passes "DOMAIN B=0.00000000000000000..9.99999999999999999;E EXTENDS B=0..9;" 64 2
    ∷ gives "DOMAIN B=0.00000000000000000..9.99999999999999999;E EXTENDS B=0..185;" 17 102
    ∷ gives "DOMAIN B=0.00000000000000000..9.99999999999999999;E EXTENDS B=0..999999999999999999;" 17 102
    ∷ passes "DOMAIN B=4..4;" 35 1
    ∷ gives "DOMAIN B=5..4;" 14 49
    ∷ gives "DOMAIN B=1..2.0;" 14 49
    ∷ gives "DOMAIN B=TEXT*10;E EXTENDS B=MTEXT*5;" 16 69
    ∷ gives "DOMAIN B=TEXT*0;" 14 54
    ∷ gives_in 34 "DOMAIN T=-10..40;" 19 47
    ∷ []
