-- Units as the code hands them on, and what it promises of the units of the rules.
use Rattle.std.specs.Prelude.{◌≡◌, Bool, true, false, not, cond, ◌&&◌, List, ℕ, ◌≤◌, length, eqb}
use Rattle.std.specs.Prelude.{Result as code·Result, Ok, Err}
use Rattle.std.proofs.Math.Option.{Option, none, some}
use Prim.Native.Char.{Char}
use Rattle.rules.specs.Names as Names
use Rattle.rules.specs.Names.{Sort, unit, sort_number}
use Rattle.rules.specs.Symbols as rules
use Rattle.rules.specs.Symbols.{Fault, symbol_at, name, is_kind, is_mark}
use Rattle.rules.specs.Readers.{Result, done, refused, Reader, ◌>>◌, a_name, the_mark, if_next, optional}
use Rattle.rules.specs.Grammar.{Reference}
use Rattle.rules.specs.Units as U
use Rattle.symbols.specs.declared.Symbol.{Symbol}
use Rattle.symbols.specs.Cut.{faulty_as, cut, next_of}
use Rattle.ground.specs.declared.Name.{Name}
use Rattle.readers.specs.Reads.{name_cut, fault_at, Cuts}
use Rattle.parts.specs.Forms.{flags_of, optional_of, written_of, Scratches}
use Rattle.units.specs.declared.Run.{Run}
use Rattle.units.specs.declared.Run.TheVariants.{Nothing, Domains, Units}
use Rattle.units.specs.declared.Where.{Where}
use Rattle.units.specs.declared.Where.TheVariants.{Start, AfterHeader, Body, Members, Over}
use Rattle.units.specs.declared.ModelHead.{ModelHead}
use Rattle.units.specs.declared.Head.{Head}
use Rattle.units.specs.declared.Unit as code
use Rattle.units.specs.declared.Unit.TheVariants.{Header, Model, Topic, Class, Domain, Attribute, Measure}
use Rattle.units.specs.declared.Unit.TheVariants.{Close, Mark}
use Rattle.units.specs.declared.UnitRead.{UnitRead}

-- what reading a unit gives: the unit, or the symbol that keeps it from being read
abbrev pub Step : Type 0
Step = code·Result UnitRead Symbol

-- what the flags of a place say
abbrev pub around_of : Bool → U.Around
around_of true = U.in_topic
around_of false = U.in_model

abbrev pub run_of : Run → U.Run
run_of Nothing = U.no_run
run_of Domains = U.domains
run_of Units = U.units

abbrev pub run_cut : U.Run → Run
run_cut U.no_run = Nothing
run_cut U.domains = Domains
run_cut U.units = Units

abbrev pub behind_of : Bool → U.Behind
behind_of true = U.its_head
behind_of false = U.a_member

abbrev pub where_of : U.Where → Where
where_of U.start = Start
where_of U.after_header = AfterHeader
where_of U.over = Over
where_of (U.body a r) = Body (not (U.is_model a)) (run_cut r)
where_of (U.members a b) = Members (not (U.is_model a)) (U.is_head b)

abbrev pub place_of : Where → U.Where
place_of Start = U.start
place_of AfterHeader = U.after_header
place_of (Body t r) = U.body (around_of t) (run_of r)
place_of (Members t f) = U.members (around_of t) (behind_of f)
place_of Over = U.over

-- a unit of a body that begins with no word of its own
abbrev pub run_unit : U.Around → U.Run → Reader U.Step
run_unit a r =
    if_next (λ y. U.of_domains r && is_kind name y) (U.domain_unit a)
    (if_next (λ y. U.of_units r && is_kind name y) (U.unit_unit a) (U.body_end a))

-- the mark after END and a name: the model ends with `.`
abbrev pub end_mark : Bool → Char
end_mark last = cond last "." ";"

-- a name in parentheses, perhaps
abbrev pub language : Reader (Option rules.Symbol)
language = optional (is_mark "(") (the_mark "(" >> (a_name >> the_mark ")"))

abbrev pub anything : Option rules.Symbol → Type 0
anything o = Unit {0}

-- where a symbol stands
abbrev pub part_of : rules.Symbol → Name
part_of s = record { offset = s.place; len = length s.bytes }

-- of a class, a structure or a unit of numbers
abbrev pub head_of : Sort → Names.Name → List (List ℕ) → Option Reference → Head
head_of c n ps b = record { sort = sort_number c; name = name_cut n; properties = flags_of ps; base = optional_of b }

-- u is the unit, and the scratch o has become p
abbrev pub Is : List ℕ → List ℕ → U.Unit → code.Unit → Type 0
Is o p (U.header s) u = u ≡ Header (part_of s)
Is o p (U.model n q) u =
    (h : ModelHead) × (u ≡ Model h) × (h.name ≡ name_cut n) × (h.address ≡ part_of q.address)
    × (h.version ≡ part_of q.version)
Is o p (U.topic n) u = u ≡ Topic (name_cut n)
Is o p (U.close n) u = u ≡ Close (name_cut n)
Is o p (U.class c n ps b) u =
    (k : Bool) × (c ≡ U.class_sort k) × (u ≡ Class (head_of c n ps b))
Is o p (U.domain n ps b w) u =
    (u ≡ Domain (record { name = name_cut n; properties = flags_of ps; base = optional_of b; written = written_of w }))
    × Scratches o p w.type
Is o p (U.attribute n ps w) u =
    (u ≡ Attribute (record { name = name_cut n; properties = flags_of ps; written = written_of w }))
    × Scratches o p w.type
Is o p (U.unit n ps b) u = u ≡ Measure (head_of unit n ps b)

-- DOMAIN, UNIT and ATTRIBUTE are marks
abbrev pub IsAny : List ℕ → List ℕ → Option U.Unit → code.Unit → Type 0
IsAny o p none u = u ≡ Mark
IsAny o p (some x) u = Is o p x u

-- a symbol that, taken as a faulty one, is the fault f at the place k of the text
abbrev pub UnreadAt : List ℕ → Fault → ℕ → Step → Type 0
UnreadAt t f k r = (y : Symbol) × (r ≡ Err y) × (faulty_as y.refusal y ≡ cut t (fault_at f k)) × (k ≤ length t)

-- a unit, where the next one stands, and the first symbol behind it; or the refusal
abbrev pub StepIs : List ℕ → List ℕ → List ℕ → Result U.Step → Step → Type 0
StepIs t o p (done q z) r =
    (u : code.Unit) × (r ≡ Ok (record { at = where_of q.next; unit = u; next = cut t (symbol_at t q.behind) }))
    × IsAny o p q.unit u
StepIs t o p (refused f k) r = UnreadAt t f k r

-- from the symbol y on, the code steps as R does; a faulty y is the refusal
pub record Steps (t o p : List ℕ) (R : Reader U.Step) (y : Symbol) (r : Step) : Type 0 where
  pub steps : (z : rules.Symbol) → Cuts t z y → StepIs t o p (R t z) r
  pub faults : (f : Fault) (k : ℕ) → Cuts t (fault_at f k) y → UnreadAt t f k r

-- what the last symbol of a unit, y, makes of it
abbrev pub ended_of : List ℕ → Symbol → ℕ → code.Unit → Where → Step
ended_of t y k u w = cond (eqb y.code k) (Ok (record { at = w; unit = u; next = next_of t y.next })) (Err y)
