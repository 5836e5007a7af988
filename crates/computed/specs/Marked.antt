-- Document 01, "Examples on both sides": the marked lines, as one table.
use Rattle.std.proofs.Math.Option.{none}
use Rattle.std.specs.Prelude.{List, [], ◌∷◌, pos}
use Prim.Native.String.{String}
use Rattle.rules.specs.Bytes.{ascii}
use Rattle.rules.specs.Enumerations.{here, others, into}
use Rattle.rules.specs.Types.{number, path}
use Rattle.computed.specs.Cases.{Case, passes, gives, reads_at}

-- the units of which readings are told too
abbrev two_steps : String
two_steps = "DOMAIN A=1..7;B EXTENDS A=0.5..7.0;C EXTENDS B=0.45..7.00;"

abbrev inner : String
inner = "DOMAIN B=(a,b:FINAL);E EXTENDS B=(a(x,y));"

abbrev added : String
added = "DOMAIN B=(a,b);E EXTENDS B=(c);"

abbrev pub marked : List Case
marked =
    passes "DOMAIN B=0.00..7.99;E EXTENDS B=0.0000..7.9949;" 64 2
    ∷ gives "DOMAIN B=0.00..7.99;E EXTENDS B=0.0000..7.9950;" 17 72
    ∷ passes "DOMAIN B=0.00..7.99;E EXTENDS B=-0.0050..7.9900;" 64 2
    ∷ gives "DOMAIN B=0.00..7.99;E EXTENDS B=-0.0051..7.9900;" 17 72
    ∷ gives "DOMAIN B=-10..40;E EXTENDS B=-25..40;" 17 69
    ∷ passes two_steps 93 3
    ∷ reads_at two_steps "C" (number 2 (pos 45) none) "B" (number 1 (pos 5) none)
    ∷ reads_at two_steps "B" (number 1 (pos 5) none) "A" (number 0 (pos 1) none)
    ∷ passes "DOMAIN B=0.50..7.00;E EXTENDS B=1..7;" 64 2
    ∷ gives "DOMAIN B=0.50..7.00;E EXTENDS B=0..7;" 17 72
    ∷ passes "DOMAIN B=TEXT*10;E EXTENDS B=TEXT*10;" 38 2
    ∷ gives "DOMAIN B=TEXT*10;E EXTENDS B=TEXT*11;" 17 69
    ∷ gives "DOMAIN B=TEXT*10;E EXTENDS B=TEXT;" 17 69
    ∷ gives "DOMAIN B=(a,b:FINAL);E EXTENDS B=(c);" 17 73
    ∷ passes inner 73 2
    ∷ reads_at inner "E" (path (into (ascii "a") (into (ascii "x") here))) "B" (path (into (ascii "a") here))
    ∷ passes added 64 2
    ∷ reads_at added "E" (path (into (ascii "c") here)) "B" (path others)
    ∷ gives "DOMAIN B=(a(FINAL),b);E EXTENDS B=(a(x));" 17 74
    ∷ passes "DOMAIN B=(a(FINAL),b);E EXTENDS B=(a);" 64 2
    ∷ []
