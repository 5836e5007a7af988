-- Document 01, "Sizes", and 4 of "Refusals in order": 256 attributes to a class, by their names, whatever sort its base
-- is of (document 02, No. 2). Judged in an open class, as the prover does not compute a text of so many to its end.
use Rattle.std.specs.Prelude.{◌≡◌, false, List, [], ◌∷◌, ℕ, zero, suc}
use Rattle.std.proofs.Math.Option.{none, some}
use Rattle.rules.specs.Bytes.{ascii}
use Rattle.rules.specs.Names.{Name}
use Rattle.rules.specs.Grammar as G
use Rattle.rules.specs.Grammar.{Written}
use Rattle.rules.specs.Units as U
use Rattle.rules.specs.Declarations.{Attribute, Sort, class, Def, State}
use Rattle.rules.specs.Judge.{ok, refused, no_name, new_class, new_attribute, with_attribute, opened, next_state, judge}
use Rattle.rules.specs.Check.{nothing}

-- a name at the place 7
abbrev named : List ℕ → Name
named n = record { offset = 7; bytes = n }

abbrev plain_text : Written
plain_text = record { mandatory = false; place = 0; type = some (G.text false none) }

abbrev attribute : List ℕ → Attribute
attribute n = new_attribute nothing (named n) [] plain_text none none

-- a base of the sort c with the attributes named by the bytes below k
abbrev wide : Sort → ℕ → Def
wide c zero = new_class nothing c no_name [] none
wide c (suc k) = with_attribute (wide c k) (attribute (k ∷ []))

-- in an open class that inherits these k names and has one of them itself
abbrev inside : Sort → ℕ → State
inside c k = opened nothing (with_attribute (new_class nothing class no_name [] (some (wide c k))) (attribute (0 ∷ [])))

abbrev unit : List ℕ → List (List ℕ) → U.Unit
unit n p = U.attribute (named n) p plain_text

abbrev Passes : State → U.Unit → Type 0
Passes s u = judge s u ≡ ok (next_state s u)

-- the 256th name, the 257th, which breaks 10 too, and one of 256 that are there already
pub record AttributeCount : Type 0 where
  pub last : (c : Sort) → Passes (inside c 255) (unit (ascii "new") [])
  pub one_more : (c : Sort) → judge (inside c 256) (unit (ascii "new") (ascii "EXTENDED" ∷ [])) ≡ refused 4 7
  pub there_already : (c : Sort) → Passes (inside c 256) (unit (200 ∷ []) (ascii "EXTENDED" ∷ []))
