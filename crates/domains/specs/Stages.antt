-- The rules of a domain in stages, and what holds between them.
use Rattle.std.specs.Prelude.{◌≡◌, not, ◌&&◌, ◌||◌, List, [], ◌∷◌, ℕ, ◌+◌, ◌≤◌, length, Ok}
use Rattle.std.proofs.Math.Option.{Option}
use Rattle.rules.specs.Names.{Name}
use Rattle.rules.specs.Grammar.{Reference, WrittenType, Written}
use Rattle.rules.specs.Units as U
use Rattle.rules.specs.Types.{Ty, keeps_unit}
use Rattle.rules.specs.Declarations.{Def, State, domain, def, is_found, at_hand, known}
use Rattle.rules.specs.Judge.{Judged, Rule, rule, first_broken_or, declare, new_domain, has_twice, has_abstract}
use Rattle.rules.specs.Judge.{has_final}
use Rattle.rules.specs.Judge.{is_numeric, or_no_def, resolved, domain_type, element_rule, target_in}
use Rattle.rules.specs.Book.{Record, bytes, type_records}
use Rattle.ground.specs.Parts.{splice}
use Rattle.ground.specs.declared.Name as code-name
use Rattle.book.specs.Sizes.{head_size}
use Rattle.enumerations.specs.declared.Size.{Size}
use Rattle.enumerations.specs.Records.{size_of}
use Rattle.names.specs.Index.{entry}
use Rattle.names.specs.declared.NewDefinition.{NewDefinition}
use Rattle.units.specs.declared.DomainUnit.{DomainUnit}
use Rattle.units.specs.declared.Unit.TheVariants.{Domain}
use Rattle.ground.specs.Rulings.{ruling_of}
use Rattle.state.specs.declared.State as code
use Rattle.state.specs.declared.desk.Desk.{Desk}
use Rattle.state.specs.Keeping.{Keeps, Comes}
use Rattle.state.specs.Targets.{among_rules}
use Rattle.fitting.specs.Values.{Valued, Typed}
use Rattle.types.specs.declared.Over.{Over}
use Rattle.written.specs.Written.{written_rules}
use Rattle.domains.specs.declared.Reached.{Reached}

-- 9
abbrev pub name_rules : State → Name → Option WrittenType → List Rule
name_rules s n w = rule 9 n.offset (is_found (at_hand s n.bytes)) ∷ element_rule w ∷ []

-- the positions of what the references lead to
pub record Leads (s : State) (b : Option Reference) (w : Written) (r : Reached) : Type 0 where
  pub base : entry (known s.decls) r.base ≡ resolved s b
  pub target : entry (known s.decls) r.target ≡ target_in s w

-- 13
abbrev pub head_rule : Name → List (List ℕ) → Ty → Rule
head_rule n p x =
    rule 13 n.offset (has_twice p || ((has_abstract p && has_final p) || (is_numeric x && not (has_abstract p))))

-- 13 to 17 and 22, over the base o
abbrev pub rules_from_13 : Name → List (List ℕ) → Written → Option Def → Option Def → List Rule
rules_from_13 n p w o target =
    head_rule n p (domain_type w.type target (or_no_def o).type)
    ∷ written_rules (is_found o) w.place w.type target (or_no_def o).type

-- the state in which it is declared
abbrev pub declared_in : State → Name → List (List ℕ) → Option Reference → Written → State
declared_in s n p b w = declare s (def (new_domain s n p w (resolved s b) (target_in s w)))

-- the first that is broken, or the domain declared
abbrev pub from_rule_13 : State → Name → List (List ℕ) → Option Reference → Written → Judged
from_rule_13 s n p b w = first_broken_or (rules_from_13 n p w (resolved s b) (target_in s w)) (declared_in s n p b w)

-- a domain breaks none of 9 to 12, and its references lead to the definitions at two positions
pub record Extending (t : List ℕ) (s : State) (st : code.State) (n : Name) (p : List (List ℕ)) (b : Option Reference)
    (w : Written) (o x z y hs rs : List ℕ) (d : DomainUnit) (e : Reached) : Type 0 where
  pub keeps : Keeps t s st o x z y hs
  pub comes : Comes t s (U.domain n p b w) (Domain d) rs
  pub named : ruling_of (name_rules s n w.type) ≡ Ok tt
  pub reaches : ruling_of (among_rules domain b (resolved s b) w.type (target_in s w)) ≡ Ok tt
  pub leads : Leads s b w e

-- its type over its base's, each by value, in the book o
pub record OverIs (t o : List ℕ) (w : Option WrittenType) (base target : Option Def) (r : Over) : Type 0 where
  pub based : is_found base ≡ r.based
  pub of_base : Typed t o (or_no_def base).type r.base
  pub own : Valued (domain_type w target (or_no_def base).type) r.own
  pub keeps : r.keeps ≡ keeps_unit (domain_type w target (or_no_def base).type) (or_no_def base).type

-- the records of its type
abbrev pub records_of : State → Option Reference → Written → List Record
records_of s b w = type_records (domain_type w.type (target_in s w) (or_no_def (resolved s b)).type)

-- Extending, over a desk, of which the book may have other bytes o, the hand other attributes hs, and the scratch
-- other records rs
abbrev pub ExtendingIn : Desk → List ℕ → List ℕ → List ℕ → State → code.State → Name → List (List ℕ)
    → Option Reference → Written → DomainUnit → Reached → Type 0
ExtendingIn k o hs rs s st n p b w d e =
    Extending k.text.now s st n p b w o k.index.now k.chains.now k.rows.now hs rs d e

-- the row of a domain
abbrev pub domain_definition : code.State → code-name.Name → ℕ → ℕ → NewDefinition
domain_definition st n f base = record {
  name = n;
  home = st.context.home;
  number = st.extent.records;
  sort = 3;
  flags = f;
  place = st.extent.used;
  base = base;
  first = st.listing.total;
}

-- the records rs stand behind room for a head, if they fit
pub record LaidBehind (rs : List Record) (st : code.State) (o o' : List ℕ) (size : Size) : Type 0 where
  pub sized : size ≡ size_of rs
  pub laid : st.extent.used + head_size + length (bytes rs) ≤ length o
      → o' ≡ splice o (st.extent.used + head_size) (bytes rs)

-- some domain is Extending; and the records of its type are of that size
abbrev pub SomeExtending : Desk → code.State → DomainUnit → Reached → Type 0
SomeExtending k st d e =
    (s : State) × (n : Name) × (p : List (List ℕ)) × (b : Option Reference) × (w : Written) × (hs : List ℕ)
    × ExtendingIn k k.book.now hs k.scratch.now s st n p b w d e

abbrev pub SomeSized : Desk → code.State → DomainUnit → Reached → Size → Type 0
SomeSized k st d e size =
    (s : State) × (n : Name) × (p : List (List ℕ)) × (b : Option Reference) × (w : Written) × (o : List ℕ)
    × (hs : List ℕ) × (rs : List ℕ)
    × ExtendingIn k o hs rs s st n p b w d e × (length o ≡ length k.book.now) × (size ≡ size_of (records_of s b w))
