-- Document 01, "Refusals in order": no rule's test looks at a place. Set to 0 every place of what a definition is
-- given: it gives the same, with every place 0. So where a unit stands never changes how it is judged; layout and
-- comments leave nothing else in it.
use Rattle.std.specs.Prelude.{◌≡◌, cond, List, [], ◌∷◌, map, ℕ, zero, suc, length}
use Rattle.std.proofs.Math.Option
use Rattle.std.proofs.Math.Option.{Option, some}
use Rattle.rules.specs.Names.{Name}
use Rattle.rules.specs.Symbols.{Symbol, symbol}
use Rattle.rules.specs.Enumerations.{Enum, end, elem, merge, twice}
use Rattle.rules.specs.Types.{Ty, text, numeric, structure, enum, Value, legal, reading, fits, keeps_unit}
use Rattle.rules.specs.Grammar as G
use Rattle.rules.specs.Grammar.{Reference, Bounds, WrittenType, Written}
use Rattle.rules.specs.Units as U
use Rattle.rules.specs.Units.{Strings}
use Rattle.rules.specs.Declarations as D
use Rattle.rules.specs.Declarations.{Link, Use, inline, of_domain, of_structure, Attribute, Def, Decl, State, resolve}
use Rattle.rules.specs.Book.{Record, records, book, definitions}
use Rattle.rules.specs.Show.{is_named}
use Rattle.rules.specs.Judge.{Rule, rule, Judged, ok, refused, rules_of, next_state, judge}
use Rattle.rules.specs.Check.{Given, judged}

-- ---- as it is read
abbrev pub unplaced_place : ℕ → ℕ
unplaced_place p = 0

abbrev pub unplaced_name : Name → Name
unplaced_name n = record { offset = unplaced_place n.offset; bytes = n.bytes }

abbrev pub unplaced_symbol : Symbol → Symbol
unplaced_symbol y = symbol y.kind (unplaced_place y.place) y.bytes

abbrev pub unplaced_strings : Strings → Strings
unplaced_strings q = record { address = unplaced_symbol q.address; version = unplaced_symbol q.version }

abbrev pub unplaced_reference : Reference → Reference
unplaced_reference (G.bare n) = G.bare (unplaced_name n)
unplaced_reference (G.in_model m n) = G.in_model (unplaced_name m) (unplaced_name n)
unplaced_reference (G.in_topic m t n) = G.in_topic (unplaced_name m) (unplaced_name t) (unplaced_name n)

abbrev pub unplaced_enum : Enum → Enum
unplaced_enum (end f) = end f
unplaced_enum (elem n i r) = elem (unplaced_name n) (unplaced_enum i) (unplaced_enum r)

abbrev pub unplaced_bounds : Bounds → Bounds
unplaced_bounds q = record { first = unplaced_symbol q.first; second = unplaced_symbol q.second }

abbrev pub unplaced_type : WrittenType → WrittenType
unplaced_type (G.text m n) = G.text m (Option.map unplaced_symbol n)
unplaced_type (G.numeric q r) = G.numeric (Option.map unplaced_bounds q) (Option.map unplaced_reference r)
unplaced_type (G.enum e) = G.enum (unplaced_enum e)
unplaced_type (G.named r) = G.named (unplaced_reference r)

abbrev pub unplaced_written : Written → Written
unplaced_written w = record {
  mandatory = w.mandatory;
  place = unplaced_place w.place;
  type = Option.map unplaced_type w.type;
}

abbrev pub unplaced_unit : U.Unit → U.Unit
unplaced_unit (U.header v) = U.header (unplaced_symbol v)
unplaced_unit (U.model n q) = U.model (unplaced_name n) (unplaced_strings q)
unplaced_unit (U.topic n) = U.topic (unplaced_name n)
unplaced_unit (U.class c n p r) = U.class c (unplaced_name n) p (Option.map unplaced_reference r)
unplaced_unit (U.domain n p r w) = U.domain (unplaced_name n) p (Option.map unplaced_reference r) (unplaced_written w)
unplaced_unit (U.attribute n p w) = U.attribute (unplaced_name n) p (unplaced_written w)
unplaced_unit (U.unit n p r) = U.unit (unplaced_name n) p (Option.map unplaced_reference r)
unplaced_unit (U.close n) = U.close (unplaced_name n)

-- ---- as it is declared
abbrev pub unplaced_ty : Ty → Ty
unplaced_ty (text m n) = text m n
unplaced_ty (numeric r u) = numeric r u
unplaced_ty structure = structure
unplaced_ty (enum e) = enum (unplaced_enum e)

abbrev pub unplaced_link : Link → Link
unplaced_link l = record { number = l.number; around = l.around; name = l.name; type = unplaced_ty l.type }

abbrev pub unplaced_use : Use → Use
unplaced_use (inline t) = inline (unplaced_ty t)
unplaced_use (of_domain l bs) = of_domain (unplaced_link l) (map unplaced_link bs)
unplaced_use (of_structure l bs) = of_structure (unplaced_link l) (map unplaced_link bs)

abbrev pub unplaced_attribute : Attribute → Attribute
unplaced_attribute a = record {
  name = unplaced_name a.name;
  number = a.number;
  final = a.final;
  extended = a.extended;
  mandatory = a.mandatory;
  base = a.base;
  use_of = unplaced_use a.use_of;
}

abbrev pub unplaced_def : Def → Def
unplaced_def d = record {
  sort = d.sort;
  name = unplaced_name d.name;
  home = d.home;
  around = d.around;
  number = d.number;
  abstract = d.abstract;
  final = d.final;
  mandatory = d.mandatory;
  type = unplaced_ty d.type;
  bases = map unplaced_link d.bases;
  own = map unplaced_attribute d.own;
  inherited = map unplaced_attribute d.inherited;
}

abbrev pub unplaced_decl : Decl → Decl
unplaced_decl (D.model n) = D.model (unplaced_name n)
unplaced_decl (D.def d) = D.def (unplaced_def d)
unplaced_decl (D.end_topic n) = D.end_topic (unplaced_name n)

abbrev pub unplaced_state : State → State
unplaced_state s = record {
  model = unplaced_name s.model;
  strings = unplaced_strings s.strings;
  decls = map unplaced_decl s.decls;
  topic = Option.map unplaced_def s.topic;
  open_class = Option.map unplaced_def s.open_class;
}

-- ---- as it is judged
abbrev pub unplaced_rule : Rule → Rule
unplaced_rule r = rule r.number (unplaced_place r.place) r.broken

abbrev pub unplaced_judged : Judged → Judged
unplaced_judged (ok s) = ok (unplaced_state s)
unplaced_judged (refused n p) = refused n (unplaced_place p)

-- ---- as it is booked
-- with 0 for the first k bytes
abbrev pub zeroed : ℕ → List ℕ → List ℕ
zeroed zero l = l
zeroed (suc k) [] = []
zeroed (suc k) (b ∷ l) = 0 ∷ zeroed k l

-- behind its kind, a record that has a name has the offset of it in four bytes
abbrev pub unplaced_record : Record → Record
unplaced_record [] = []
unplaced_record (k ∷ l) = k ∷ cond (is_named k) (zeroed 4 l) l

-- ---- the same apart from places
abbrev pub SameStates : State → State → Type 0
SameStates s x = unplaced_state s ≡ unplaced_state x

abbrev pub SameUnits : U.Unit → U.Unit → Type 0
SameUnits u v = unplaced_unit u ≡ unplaced_unit v

-- refused by the same number, or both leading on, to the same states
abbrev pub Alike : Judged → Judged → Type 0
Alike (ok s) (ok x) = SameStates s x
Alike (ok s) (refused m q) = ⊥
Alike (refused n p) (ok x) = ⊥
Alike (refused n p) (refused m q) = n ≡ m

-- ---- the claims
pub record PlacesIdle : Type 0 where
  -- types: legal values, readings, merging, elements that stand twice, 17, and 22
  pub values : (t : Ty) (v : Value) → legal (unplaced_ty t) v ≡ legal t v
  pub readings : (b : Ty) (v : Value) → reading (unplaced_ty b) v ≡ reading b v
  pub merging : (b x : Enum) → merge (unplaced_enum b) (unplaced_enum x) ≡ unplaced_enum (merge b x)
  pub doubling : (e : Enum) (l : List (List ℕ)) → twice (unplaced_enum e) l ≡ Option.map unplaced_place (twice e l)
  pub fitting : (t b : Ty) → fits (unplaced_ty t) (unplaced_ty b) ≡ fits t b
  pub unit_fitting : (t b : Ty) → keeps_unit (unplaced_ty t) (unplaced_ty b) ≡ keeps_unit t b
  -- names
  pub references : (s : State) (r : Reference)
      → resolve (unplaced_state s) (unplaced_reference r) ≡ Option.map unplaced_def (resolve s r)
  -- the book: its records apart from offsets; so their count, its length, and the definition count
  pub recorded : (s : State) → records (unplaced_state s) ≡ map unplaced_record (records s)
  pub counted : (s : State) → length (records (unplaced_state s)) ≡ length (records s)
  pub sized : (s : State) → length (book (unplaced_state s)) ≡ length (book s)
  pub defined : (s : State) → definitions (records (unplaced_state s)) ≡ definitions (records s)
  -- units: the rules with their tests, the next state, and the judgement, without and with 19
  pub rules : (s : State) (u : U.Unit)
      → rules_of (unplaced_state s) (unplaced_unit u) ≡ map unplaced_rule (rules_of s u)
  pub next : (s : State) (u : U.Unit)
      → next_state (unplaced_state s) (unplaced_unit u) ≡ unplaced_state (next_state s u)
  pub judging : (s : State) (u : U.Unit) → judge (unplaced_state s) (unplaced_unit u) ≡ unplaced_judged (judge s u)
  pub within : (g : Given) (s : State) (u : Option U.Unit)
      → judged g (unplaced_state s) (Option.map unplaced_unit u) ≡ unplaced_judged (judged g s u)
  -- so the same units in the same states, apart from places, are judged alike; and the same states have the same
  -- book, apart from offsets
  pub alike : (g : Given) (s x : State) (u v : U.Unit) → SameStates s x → SameUnits u v
      → Alike (judged g s (some u)) (judged g x (some v))
  pub booked : (s x : State) → SameStates s x → map unplaced_record (records s) ≡ map unplaced_record (records x)
