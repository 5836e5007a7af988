-- What the code holds of a state between units: the book, the index of definitions, the attributes and the open class.
use Rattle.std.specs.Prelude.{◌≡◌, List, ℕ, ◌+◌, ◌*◌, ◌≤◌, length, take, Result, Ok, Err}
use Rattle.std.proofs.Math.Option.{Option, none, some}
use Rattle.rules.specs.Names as R
use Rattle.rules.specs.Units as U
use Rattle.rules.specs.Declarations.{Def, State, known}
use Rattle.rules.specs.Book.{records, book, definitions}
use Rattle.rules.specs.Judge as J
use Rattle.rules.specs.Judge.{judge}
use Rattle.rules.specs.Check.{unit_place, lent, room}
use Rattle.ground.specs.declared.Name.{Name}
use Rattle.ground.specs.declared.Ruling.{Ruling}
use Rattle.names.specs.Index.{entry, row, definition_width}
use Rattle.names.specs.Chains.{Chains}
use Rattle.names.specs.References.{name_of, Inside}
use Rattle.members.specs.Members.{most}
use Rattle.members.specs.Held.{OpenRow, Opened, InHand, attributes_in, HeldIn}
use Rattle.units.specs.declared.Unit.{Unit}
use Rattle.units.specs.Steps.{Is}
use Rattle.wellformed.specs.Fairness.{FairUnit, FairState, MayStand}
use Rattle.state.specs.declared.State as code
use Rattle.state.specs.declared.desk.Desk.{Desk}
use Rattle.book.specs.Sizes.{topic_size, head_size}

-- m is the name n of the text
pub record Calls (t : List ℕ) (m : Name) (n : R.Name) : Type 0 where
  pub inside : Inside t m
  pub named : name_of t m ≡ n

abbrev pub TopicIs : List ℕ → Option Def → code.State → Type 0
TopicIs t none st = st.context.home ≡ 0
TopicIs t (some d) st =
    (st.context.home ≡ d.number + 1) × Calls t st.context.topic d.name
    × (st.context.home ≤ st.extent.records)

-- no class is open: the attributes in hand are those of the definition `held`, if it is one; or the class c is, in
-- the row behind the last
abbrev pub OpenIs : List ℕ → State → code.State → List ℕ → List ℕ → Option Def → Type 0
OpenIs t s st x hs none =
    (st.context.open ≡ 0) × (st.context.held ≤ st.listing.count)
    × (topic_size * st.listing.count + head_size * st.listing.total ≤ st.extent.used)
    × InHand (attributes_in s) hs st.context.in_hand (entry (known s.decls) st.context.held)
OpenIs t s st x hs (some c) =
    (st.context.open ≡ 1)
    × (topic_size * st.listing.count + head_size * st.listing.total + topic_size ≤ st.extent.used)
    × Opened (attributes_in s) hs st.context.in_hand c
    × OpenRow t (book s) (known s.decls) (attributes_in s) (st.listing.count + 1) c
    (row definition_width x (st.listing.count + 1))

-- the text t; the state s; what the code has of it: the book at the front of o, rows of definitions x, chains z, rows
-- of attributes y, and the attributes of the open class in the hand hs
pub record Keeps (t : List ℕ) (s : State) (st : code.State) (o x z y hs : List ℕ) : Type 0 where
  pub used : st.extent.used ≡ length (book s)
  pub within : st.extent.used ≤ length o
  pub written : take st.extent.used o ≡ book s
  pub numbered : st.extent.records ≡ length (records s)
  pub fewer : st.extent.records ≤ st.extent.used
  pub defined : st.extent.definitions ≡ definitions (records s)
  pub model : Calls t st.context.model s.model
  pub topic : TopicIs t s.topic st
  pub held : HeldIn t s x st.listing.count y st.listing.total
  pub chained : Chains (known s.decls) z
  pub fair : FairState t s
  pub hand : st.context.in_hand ≤ most
  pub opened : OpenIs t s st x hs s.open_class

-- the numbers of a state that is kept, so that they fit where they are written
pub record Small (st : code.State) : Type 0 where
  pub fewer : st.extent.records ≤ st.extent.used
  pub defined : st.extent.definitions ≤ st.extent.records
  pub home : st.context.home ≤ st.extent.records
  pub rows : topic_size * st.listing.count + head_size * st.listing.total ≤ st.extent.used

-- the answer of judging, and what the code then holds
abbrev pub JudgedAs : List ℕ → J.Judged → Result code.State Ruling → List ℕ → List ℕ → List ℕ → List ℕ → List ℕ
    → Type 0
JudgedAs t (J.ok s) r o x z y hs = (st : code.State) × (r ≡ Ok st) × Keeps t s st o x z y hs
JudgedAs t (J.refused n p) r o x z y hs = r ≡ Err (record { number = n; place = p })

-- the unit v, read as u with its enumeration's records in the scratch rs, comes in the state s
pub record Comes (t : List ℕ) (s : State) (v : U.Unit) (u : Unit) (rs : List ℕ) : Type 0 where
  pub scratch : List ℕ
  pub is : Is scratch rs v u
  pub fair : FairUnit t v
  pub stands : MayStand s v

-- 4 by count, 7 to 19 and 22 of it, with the buffer o
abbrev pub verdict : State → U.Unit → List ℕ → J.Judged
verdict s v o = room (lent (length o)) (unit_place v) (judge s v)

-- ---- the same of a desk, whose book may have other bytes o, and the hand other attributes hs
abbrev pub KeptOver : Desk → List ℕ → List ℕ → State → code.State → Type 0
KeptOver d o hs s st = Keeps d.text.now s st o d.index.now d.chains.now d.rows.now hs

abbrev pub KeptIn : Desk → List ℕ → State → code.State → Type 0
KeptIn d o s st = KeptOver d o d.hand.now s st

abbrev pub Kept : Desk → State → code.State → Type 0
Kept d s st = KeptIn d d.book.now s st

abbrev pub AnsweredOver : Desk → List ℕ → J.Judged → Result code.State Ruling → Type 0
AnsweredOver d hs j r = JudgedAs d.text.now j r d.book.now d.index.now d.chains.now d.rows.now hs

abbrev pub Answered : Desk → J.Judged → Result code.State Ruling → Type 0
Answered d j r = AnsweredOver d d.hand.now j r
