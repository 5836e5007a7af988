-- Heads of classes, structures and units, as the code has them.
use Rattle.std.specs.Prelude.{◌≡◌, false, cond, List, ℕ, ◌+◌, length, eqb, Result, Ok, Err}
use Rattle.std.proofs.Math.Option.{Option}
use Rattle.rules.specs.Names.{Name}
use Rattle.rules.specs.Grammar.{Reference}
use Rattle.rules.specs.Units as U
use Rattle.rules.specs.Declarations.{Sort, Def, State, known}
use Rattle.rules.specs.Book.{flags, base_number, book}
use Rattle.rules.specs.Judge.{ok, refused, judge, bases_of, resolved, class_rules, rules_of, next_state}
use Rattle.rules.specs.Check.{unit_place}
use Rattle.book.specs.Forms.{head_form}
use Rattle.book.specs.Sizes.{head_size}
use Rattle.names.specs.declared.NewDefinition.{NewDefinition}
use Rattle.names.specs.Index.{entry}
use Rattle.units.specs.declared.Head.{Head}
use Rattle.ground.specs.declared.Ruling.{Ruling}
use Rattle.state.specs.declared.State as code
use Rattle.state.specs.Targets.{Ruled}
use Rattle.state.specs.Keeping.{verdict}

-- the kind of the record of a class, a structure or a unit, by the number of its sort
abbrev pub kind_of : ℕ → ℕ
kind_of k = cond (eqb k 1) 4 (cond (eqb k 2) 5 18)

-- what is written over a base: its row, and its record
abbrev pub head_definition : code.State → Head → ℕ → NewDefinition
head_definition st h base = record {
  name = h.name;
  home = st.context.home;
  number = st.extent.records;
  sort = h.sort;
  flags = flags h.properties.is_abstract h.properties.is_final false false;
  place = st.extent.used;
  base = base;
  first = st.listing.total;
}

abbrev pub head_bytes : Head → Option Def → List ℕ
head_bytes h o = head_form (kind_of h.sort) h.name.offset h.name.len
    (flags h.properties.is_abstract h.properties.is_final false false) (base_number (bases_of o))

-- the rule that a head of the sort c breaks, if one; where none, the base
abbrev pub RuledTo13 : State → Sort → Name → List (List ℕ) → Option Reference → Result ℕ Ruling → Type 0
RuledTo13 s c n p b r =
    Ruled r (class_rules s c n p b (resolved s b)) (λ (q : ℕ). entry (known s.decls) q ≡ resolved s b)

-- the unit v is such a head
pub record Heads (s : State) (c : Sort) (n : Name) (p : List (List ℕ)) (b : Option Reference)
    (v : U.Unit) : Type 0 where
  pub rules : rules_of s v ≡ class_rules s c n p b (resolved s b)
  pub place : unit_place v ≡ n.offset
  pub grows : length (book (next_state s v)) ≡ length (book s) + head_size

-- none is broken, with the buffer o; the base is at q
pub record HeadFine (s : State) (b : Option Reference) (v : U.Unit) (o : List ℕ) (q : ℕ) : Type 0 where
  pub fits : verdict s v o ≡ ok (next_state s v)
  pub fine : judge s v ≡ ok (next_state s v)
  pub base : entry (known s.decls) q ≡ resolved s b

-- the rule of these and 19 that it breaks with the buffer o, if one; where none, the base
abbrev pub HeadRuled : State → Option Reference → U.Unit → List ℕ → Result ℕ Ruling → Type 0
HeadRuled s b v o (Ok q) = HeadFine s b v o q
HeadRuled s b v o (Err r) = verdict s v o ≡ refused r.number r.place
