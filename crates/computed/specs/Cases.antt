-- What a case of a table says of the definitions, and that it holds: of whole texts checked from end to end, and of
-- readings at the domains that they declare.
use Rattle.std.specs.Prelude.{◌≡◌, true, false, List, ◌++◌, ℕ}
use Rattle.std.proofs.Math.Option.{none, some}
use Prim.Native.String.{String}
use Rattle.rules.specs.Bytes.{ascii}
use Rattle.rules.specs.Types.{Ty, structure, Value, legal, reading}
use Rattle.rules.specs.Declarations.{Def, State, at_home}
use Rattle.rules.specs.Judge.{or_no_def}
use Rattle.rules.specs.Check as C
use Rattle.rules.specs.Check.{Outcome, kept, unread, ruled_out, Answer, accepting, refusing, answer_of, run}

-- passes: the model with these units is accepted, with a book length and a definition count; gives: it is refused, with
-- a number and a place; gives_in: refused so with a buffer of a length; reads_at: accepted, and a
-- legal value of one domain has a reading at another, which is legal there; strays: accepted, and of two values the
-- first is legal at a domain and the second is not
pub data Case : Type 0 where
  passes gives : String → ℕ → ℕ → Case
  gives_in : ℕ → String → ℕ → ℕ → Case
  reads_at : String → String → Value → String → Value → Case
  strays : String → String → Value → Value → Case

-- the units stand behind a header and the head of the model M, 40 bytes in all, and before its END
abbrev pub model_of : String → List ℕ
model_of u = ascii "INTERLIS 2.4;MODEL M AT \"u\" VERSION \"1\"=" ++ (ascii u ++ ascii "END M.")

abbrev pub outcome : String → ℕ → Outcome
outcome u m = run (model_of u) (C.lent m)

abbrev answered : String → ℕ → Answer
answered u m = answer_of (model_of u) (outcome u m)

-- what the model itself defines under a name
abbrev pub defined : State → String → Def
defined s n = or_no_def (at_home s none (ascii n))

-- the type of a domain of the model; a structure, which has no values, where the text is refused or has no such domain
abbrev pub type_in : Outcome → String → Ty
type_in (kept s) n = (defined s n).type
type_in (unread s f p) n = structure
type_in (ruled_out s k p) n = structure

abbrev pub ReadsTo : Ty → Value → Ty → Value → Type 0
ReadsTo e v b w = (legal e v ≡ true) × (reading b v ≡ some w) × (legal b w ≡ true)

abbrev pub Holds : Case → Type 0
Holds (passes u l c) = answered u 65535 ≡ accepting l c
Holds (gives u n p) = answered u 65535 ≡ refusing (model_of u) n p
Holds (gives_in m u n p) = answered u m ≡ refusing (model_of u) n p
Holds (reads_at u e v b w) = let o = outcome u 65535 in ReadsTo (type_in o e) v (type_in o b) w
Holds (strays u e v w) = let t = type_in (outcome u 65535) e in (legal t v ≡ true) × (legal t w ≡ false)
