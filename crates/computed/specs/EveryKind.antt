-- Document 01, "The book", and document 02, No. 1: a text whose book has records of every kind from 1 to 19, and its
-- book, written by hand.
use Rattle.std.specs.Prelude.{◌≡◌, List, [], ◌∷◌, ℕ, length}
use Rattle.std.proofs.Math.Option.{none, some}
use Prim.Native.String.{String, ◌++◌}
use Rattle.rules.specs.Check.{lent, accepting, check}
use Rattle.rules.specs.Show.{find_record, show_name}
use Rattle.computed.specs.Cases.{model_of}

-- the lines begin at the places 40, 69, 106, 140, 179, 190, 290, 389, 398, 438 and 461
abbrev units : String
units =
    "DOMAIN Any(ABSTRACT)=NUMERIC;"
    ++ ("Half EXTENDS Any=MANDATORY -1.5..2.5;"
    ++ ("Less(FINAL)EXTENDS Half=-0.5..0.5;"
    ++ ("STRUCTURE Line=words:TEXT*300;END Line;"
    ++ ("TOPIC Town="
    ++ ("CLASS Place(ABSTRACT)=note:MANDATORY MTEXT;step:Half;line(FINAL):Line;sort:(a(x:FINAL),b);END Place;"
    ++ ("CLASS House(FINAL)EXTENDS Place=note(EXTENDED):MTEXT*7;sort(EXTENDED,FINAL):(c,b(FINAL));END House;"
    ++ ("END Town;"
    ++ ("UNIT Metre(ABSTRACT);Foot EXTENDS Metre;"
    ++ ("DOMAIN Long=1..2[Foot];"
    ++ "Word=TEXT;")))))))))

abbrev pub text : List ℕ
text = model_of units

-- a record a line, with its number; a name is its place (4 bytes) and its length, then follow flags and base
abbrev pub book : List ℕ
book =
    1 ∷ 19 ∷ 0 ∷ 0 ∷ 0 ∷ 1  -- 0: the model M
    ∷ 7 ∷ 47 ∷ 0 ∷ 0 ∷ 0 ∷ 3 ∷ 1 ∷ 255 ∷ 255 ∷ 255 ∷ 255  -- 1: the domain Any, ABSTRACT, no base
    ∷ 11  -- 2: NUMERIC
    ∷ 7 ∷ 69 ∷ 0 ∷ 0 ∷ 0 ∷ 4 ∷ 8 ∷ 1 ∷ 0 ∷ 0 ∷ 0  -- 3: the domain Half, mandatory, over Any
    ∷ 10 ∷ 1 ∷ 241 ∷ 255 ∷ 255 ∷ 255 ∷ 255 ∷ 255 ∷ 255 ∷ 255 ∷ 25 ∷ 0 ∷ 0 ∷ 0 ∷ 0 ∷ 0 ∷ 0 ∷ 0  -- 4: 1 decimal, -15..25
    ∷ 7 ∷ 106 ∷ 0 ∷ 0 ∷ 0 ∷ 4 ∷ 10 ∷ 3 ∷ 0 ∷ 0 ∷ 0  -- 5: the domain Less, FINAL, over Half, mandatory as Half is
    ∷ 10 ∷ 1 ∷ 251 ∷ 255 ∷ 255 ∷ 255 ∷ 255 ∷ 255 ∷ 255 ∷ 255 ∷ 5 ∷ 0 ∷ 0 ∷ 0 ∷ 0 ∷ 0 ∷ 0 ∷ 0  -- 6: 1 decimal, -5..5
    ∷ 5 ∷ 150 ∷ 0 ∷ 0 ∷ 0 ∷ 4 ∷ 0 ∷ 255 ∷ 255 ∷ 255 ∷ 255  -- 7: the structure Line
    ∷ 6 ∷ 155 ∷ 0 ∷ 0 ∷ 0 ∷ 5 ∷ 0 ∷ 255 ∷ 255 ∷ 255 ∷ 255  -- 8: its attribute words
    ∷ 8 ∷ 44 ∷ 1 ∷ 0 ∷ 0  -- 9: TEXT*300
    ∷ 16  -- 10: END Line
    ∷ 2 ∷ 185 ∷ 0 ∷ 0 ∷ 0 ∷ 4  -- 11: the topic Town
    ∷ 4 ∷ 196 ∷ 0 ∷ 0 ∷ 0 ∷ 5 ∷ 1 ∷ 255 ∷ 255 ∷ 255 ∷ 255  -- 12: the class Place, ABSTRACT
    ∷ 6 ∷ 212 ∷ 0 ∷ 0 ∷ 0 ∷ 4 ∷ 8 ∷ 255 ∷ 255 ∷ 255 ∷ 255  -- 13: its attribute note, mandatory
    ∷ 9 ∷ 0 ∷ 0 ∷ 0 ∷ 0  -- 14: MTEXT
    ∷ 6 ∷ 233 ∷ 0 ∷ 0 ∷ 0 ∷ 4 ∷ 8 ∷ 255 ∷ 255 ∷ 255 ∷ 255  -- 15: its attribute step, mandatory as Half
    ∷ 17 ∷ 3 ∷ 0 ∷ 0 ∷ 0  -- 16: the domain Half
    ∷ 6 ∷ 243 ∷ 0 ∷ 0 ∷ 0 ∷ 4 ∷ 2 ∷ 255 ∷ 255 ∷ 255 ∷ 255  -- 17: its attribute line, FINAL
    ∷ 12 ∷ 7 ∷ 0 ∷ 0 ∷ 0  -- 18: the structure Line
    ∷ 6 ∷ 4 ∷ 1 ∷ 0 ∷ 0 ∷ 4 ∷ 0 ∷ 255 ∷ 255 ∷ 255 ∷ 255  -- 19: its attribute sort
    ∷ 13 ∷ 0  -- 20: an enumeration opens
    ∷ 14 ∷ 10 ∷ 1 ∷ 0 ∷ 0 ∷ 1  -- 21: a
    ∷ 13 ∷ 1  -- 22: inside it one that is FINAL
    ∷ 14 ∷ 12 ∷ 1 ∷ 0 ∷ 0 ∷ 1  -- 23: x
    ∷ 15  -- 24: it closes
    ∷ 14 ∷ 21 ∷ 1 ∷ 0 ∷ 0 ∷ 1  -- 25: b
    ∷ 15  -- 26: it closes
    ∷ 16  -- 27: END Place
    ∷ 4 ∷ 40 ∷ 1 ∷ 0 ∷ 0 ∷ 5 ∷ 2 ∷ 12 ∷ 0 ∷ 0 ∷ 0  -- 28: the class House, FINAL, over Place
    ∷ 6 ∷ 66 ∷ 1 ∷ 0 ∷ 0 ∷ 4 ∷ 12 ∷ 13 ∷ 0 ∷ 0 ∷ 0  -- 29: its attribute note, EXTENDED, mandatory as its base, 13
    ∷ 9 ∷ 7 ∷ 0 ∷ 0 ∷ 0  -- 30: MTEXT*7
    ∷ 6 ∷ 89 ∷ 1 ∷ 0 ∷ 0 ∷ 4 ∷ 6 ∷ 19 ∷ 0 ∷ 0 ∷ 0  -- 31: its attribute sort, FINAL and EXTENDED, over 19
    ∷ 13 ∷ 0  -- 32: its enumeration, merged into that of 19
    ∷ 14 ∷ 10 ∷ 1 ∷ 0 ∷ 0 ∷ 1  -- 33: a
    ∷ 13 ∷ 1  -- 34: inside it one that is FINAL
    ∷ 14 ∷ 12 ∷ 1 ∷ 0 ∷ 0 ∷ 1  -- 35: x
    ∷ 15  -- 36: it closes
    ∷ 14 ∷ 21 ∷ 1 ∷ 0 ∷ 0 ∷ 1  -- 37: b, with the base's record of its name
    ∷ 13 ∷ 1  -- 38: inside it now FINAL
    ∷ 15  -- 39: and empty
    ∷ 14 ∷ 111 ∷ 1 ∷ 0 ∷ 0 ∷ 1  -- 40: c, which is new
    ∷ 15  -- 41: it closes
    ∷ 16  -- 42: END House
    ∷ 3  -- 43: END Town
    ∷ 18 ∷ 147 ∷ 1 ∷ 0 ∷ 0 ∷ 5 ∷ 1 ∷ 255 ∷ 255 ∷ 255 ∷ 255  -- 44: the unit Metre, ABSTRACT
    ∷ 18 ∷ 163 ∷ 1 ∷ 0 ∷ 0 ∷ 4 ∷ 0 ∷ 44 ∷ 0 ∷ 0 ∷ 0  -- 45: the unit Foot, over Metre
    ∷ 7 ∷ 189 ∷ 1 ∷ 0 ∷ 0 ∷ 4 ∷ 0 ∷ 255 ∷ 255 ∷ 255 ∷ 255  -- 46: the domain Long
    ∷ 10 ∷ 0 ∷ 1 ∷ 0 ∷ 0 ∷ 0 ∷ 0 ∷ 0 ∷ 0 ∷ 0 ∷ 2 ∷ 0 ∷ 0 ∷ 0 ∷ 0 ∷ 0 ∷ 0 ∷ 0  -- 47: no decimals, 1..2
    ∷ 19 ∷ 45 ∷ 0 ∷ 0 ∷ 0  -- 48: in Foot
    ∷ 7 ∷ 205 ∷ 1 ∷ 0 ∷ 0 ∷ 4 ∷ 0 ∷ 255 ∷ 255 ∷ 255 ∷ 255  -- 49: the domain Word
    ∷ 8 ∷ 0 ∷ 0 ∷ 0 ∷ 0  -- 50: TEXT
    ∷ []

-- a buffer of the book's length; the unit Foot; the domain Word, before which records of every kind stand; the last
-- record, and none behind it
pub record EveryKind : Type 0 where
  pub size : length text ≡ 477
  pub exact : check text (lent 350) ≡ record { answer = accepting 350 15; buffer = book }
  pub unit : find_record book 45 ≡ some 289
  pub unit_name : show_name text book 289 ≡ record { start = 419; length = 4 }
  pub domain : find_record book 49 ≡ some 334
  pub domain_name : show_name text book 334 ≡ record { start = 461; length = 4 }
  pub last : find_record book 50 ≡ some 345
  pub end : find_record book 51 ≡ none
