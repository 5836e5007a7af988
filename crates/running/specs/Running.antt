-- What holds between two units, and at the end.
use Rattle.std.specs.Prelude.{◌≡◌, List, ℕ, ◌+◌, ◌*◌, ◌%◌, ◌≤◌, ◌<◌, length, take}
use Rattle.std.specs.Prelude.{Option, Some, None, Result, Ok, Err}
use Rattle.rules.specs.Symbols.{symbol_at}
use Rattle.places.specs.declared.Position.{Position}
use Rattle.places.specs.Standing.{position_in}
use Rattle.rules.specs.Declarations.{State}
use Rattle.rules.specs.Book as B
use Rattle.rules.specs.Check as C
use Rattle.symbols.specs.declared.Symbol.{Symbol}
use Rattle.symbols.specs.Cut.{position_at, cut}
use Rattle.units.specs.Steps.{place_of}
use Rattle.wellformed.specs.Fairness.{Placed}
use Rattle.book.specs.Sizes.{topic_size, head_size}
use Rattle.state.specs.declared.State as code
use Rattle.state.specs.declared.desk.Desk.{Desk}
use Rattle.state.specs.Desks.{Room}
use Rattle.state.specs.Keeping.{Kept}
use Rattle.answers.specs.declared.Refusal.{Refusal}
use Rattle.answers.specs.Answers.{Coded, accepted_as, answer_of}
use Rattle.running.specs.declared.Stage.{Stage}

-- index, rows and chains of x, y and z numbers suffice for a book of m bytes, of which every definition and attribute
-- takes its own
abbrev pub Suffice : ℕ → ℕ → ℕ → ℕ → Type 0
Suffice m x y z =
    (st : code.State) → topic_size * st.listing.count + head_size * st.listing.total ≤ m → Room x y z st

-- those of a desk do for its book
abbrev pub Suffices : Desk → Type 0
Suffices d = Suffice (length d.book.now) (length d.index.now) (length d.rows.now) (length d.chains.now)

-- the run of a desk's text with its buffer
abbrev pub run_on : Desk → C.Outcome
run_on d = C.run d.text.now (C.lent (length d.book.now))

-- on the desk d: what is left to run is to run from a place on, in a state that the code keeps
pub record Runs (d : Desk) (g : Stage) : Type 0 where
  pub fuel : ℕ
  pub state : State
  pub place : ℕ
  pub within : place ≤ length d.text.now
  pub left : length d.text.now < place + fuel
  pub goes_on : run_on d
      ≡ C.run_from fuel d.text.now (C.lent (length d.book.now)) (place_of g.at) state place
  pub first : g.next ≡ cut d.text.now (symbol_at d.text.now place)
  pub keeps : Kept d state g.state
  pub placed : Placed (place_of g.at) state

-- the outcome is a book, which stands at the front of the buffer, or a refusal
abbrev pub Ended : List ℕ → ℕ → Coded → List ℕ → Type 0
Ended t m (Ok a) o =
    (s : State) × (C.run t (C.lent m) ≡ C.kept s) × (a.length ≡ length (B.book s))
    × (a.definitions ≡ B.definitions (B.records s)) × (a.length ≤ length o) × (take a.length o ≡ B.book s)
Ended t m (Err r) o = C.answer_of t (C.run t (C.lent m)) ≡ answer_of (Err r)

-- after a unit: the next one, further on, or the end of the text; or a refusal
abbrev pub Turned : Desk → Stage → Result (Option Stage) Refusal → Type 0
Turned d g (Ok (Some h)) = Runs d h × (g.next.place < h.next.place) × (h.next.place ≤ length d.text.now)
Turned d g (Ok None) =
    Ended d.text.now (length d.book.now) (accepted_as g.state.extent.used g.state.extent.definitions) d.book.now
Turned d g (Err r) = Ended d.text.now (length d.book.now) (Err r) d.book.now

-- the refusal with the number n at the place p, which stands at the position q
abbrev pub refusal_at : ℕ → ℕ → Position → Refusal
refusal_at n p q = record { number = n; place = p; line = q.line; column = q.column }

-- that of the text t
abbrev pub refused_in : List ℕ → ℕ → ℕ → Refusal
refused_in t n p = refusal_at n p (position_in t p)

-- that of the symbol y, whose number is cut to a byte
abbrev pub unread_by : Symbol → Refusal
unread_by y = refusal_at (y.refusal % 256) y.place (position_at y)
