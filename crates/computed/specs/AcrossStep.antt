-- Document 02, No. 2: a step of demand 3 from an attribute of a class to that of a structure, and what a value of the
-- one reads as at the other, as `claims` says both.
use Rattle.std.specs.Prelude.{◌≡◌, true, pos}
use Rattle.std.proofs.Math.Option.{none}
use Prim.Native.String.{String}
use Rattle.rules.specs.Bytes.{ascii}
use Rattle.rules.specs.Types.{number, legal}
use Rattle.rules.specs.Declarations.{ty_of, Attribute, class, struct, is_sort, Def, State, attribute_at}
use Rattle.rules.specs.Judge.{or_no_attribute}
use Rattle.rules.specs.Check.{kept}
use Rattle.claims.specs.Steps.{Nearest, Rises}
use Rattle.computed.specs.Cases.{outcome, defined}

abbrev pub units : String
units = "STRUCTURE S=a:1..9;END S;CLASS C EXTENDS S=a(EXTENDED):0.5..9.4;END C;"

-- its own attribute a
abbrev pub attribute_of : Def → Attribute
attribute_of d = or_no_attribute (attribute_at (ascii "a") d.own)

-- 0.5, which is legal in the class, reads 1
pub record AcrossStep : Type 0 where
  pub state : State
  pub runs : outcome units 65535 ≡ kept state
  pub from : is_sort class (defined state "C").sort ≡ true
  pub to : is_sort struct (defined state "S").sort ≡ true
  pub value : legal (ty_of (attribute_of (defined state "C")).use_of) (number 1 (pos 5) none) ≡ true
  pub nearest : Nearest state (attribute_of (defined state "C")) (attribute_of (defined state "S"))
  pub rises : Rises state (attribute_of (defined state "C")) (number 1 (pos 5) none)
      (attribute_of (defined state "S")) (number 0 (pos 1) none)
