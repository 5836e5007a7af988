-- Document 01, "Names" and "Types and bases": what a text has declared so far, and looking it up.
use Rattle.std.specs.Prelude.{Bool, true, false, cond, ◌&&◌, ◌||◌, List, [], ◌∷◌, ◌++◌, ℕ, suc, eqb}
use Rattle.std.proofs.Math.Option.{Option, none, some}
use Rattle.rules.specs.Bytes.{same}
use Rattle.rules.specs.Names.{Name}
use Rattle.rules.specs.Grammar as G
use Rattle.rules.specs.Grammar.{Reference}
use Rattle.rules.specs.Types.{Measure, Ty, structure}
use Rattle.rules.specs.Units.{Strings}
pub use Rattle.rules.specs.Names.{Sort, topic, class, struct, domain, unit, sort_number, is_sort}
-- whether a lookup finds something
pub use Rattle.rules.specs.Units.{is_given as is_found}

-- ---- bases
-- a domain, class, structure or unit as its descendants know it: its record number, its full name behind the model's
-- (the topic around it, if there is one, and its own name), and its type
pub record Link : Type 0 where
  pub number : ℕ
  pub around : Option (List ℕ)
  pub name : List ℕ
  pub type : Ty

-- what types an attribute: a type written in place; a domain; a structure; each with its bases from the nearest on
pub data Use : Type 0 where
  inline : Ty → Use
  of_domain of_structure : Link → List Link → Use

abbrev pub ty_of : Use → Ty
ty_of (inline t) = t
ty_of (of_domain l bs) = l.type
ty_of (of_structure l bs) = structure

-- base: the record number of the nearest inherited one, if it is EXTENDED
pub record Attribute : Type 0 where
  pub name : Name
  pub number : ℕ
  pub final : Bool
  pub extended : Bool
  pub mandatory : Bool
  pub base : Option ℕ
  pub use_of : Use

-- ---- definitions
-- home and around: the record number and the name of the topic around it, if there is one; type and mandatory are a
-- domain's; own and inherited, in text order and the nearer first, are the attributes of a class or structure;
-- bases: from the nearest on
pub record Def : Type 0 where
  pub sort : Sort
  pub name : Name
  pub home : Option ℕ
  pub around : Option (List ℕ)
  pub number : ℕ
  pub abstract : Bool
  pub final : Bool
  pub mandatory : Bool
  pub type : Ty
  pub bases : List Link
  pub own : List Attribute
  pub inherited : List Attribute

abbrev pub link_of : Def → Link
link_of d = record { number = d.number; around = d.around; name = d.name.bytes; type = d.type }

abbrev pub numbers_of : List Link → List ℕ
numbers_of [] = []
numbers_of (l ∷ bs) = l.number ∷ numbers_of bs

-- a declared unit as a number carries it
abbrev pub measure_of : Def → Measure
measure_of d = record { number = d.number; bases = numbers_of d.bases }

abbrev pub measure_in : Option Def → Option Measure
measure_in none = none
measure_in (some d) = some (measure_of d)

-- all attributes of a class; of two with one name the nearer stands first
abbrev pub attributes_of : Def → List Attribute
attributes_of d = d.own ++ d.inherited

abbrev pub attribute_at : List ℕ → List Attribute → Option Attribute
attribute_at n [] = none
attribute_at n (a ∷ l) = let r = attribute_at n l in cond (same n a.name.bytes) (some a) r

-- "Sizes": attributes are counted by different names
abbrev pub name_count : List Attribute → ℕ
name_count [] = 0
name_count (a ∷ l) = let r = name_count l in cond (is_found (attribute_at a.name.bytes l)) r (suc r)

-- ---- declarations, in text order; the end of a topic has the topic's name
pub data Decl : Type 0 where
  model : Name → Decl
  def : Def → Decl
  end_topic : Name → Decl

-- the state between units: a topic is declared at its head, a class or structure at its END; until
-- then it is the open one
pub record State : Type 0 where
  pub model : Name
  pub strings : Strings
  pub decls : List Decl
  pub topic : Option Def
  pub open_class : Option Def

abbrev pub known : List Decl → List Def
known [] = []
known (model n ∷ l) = known l
known (def d ∷ l) = d ∷ known l
known (end_topic n ∷ l) = known l

-- ---- looking up
abbrev pub lookup : (Def → Bool) → List Def → Option Def
lookup p [] = none
lookup p (d ∷ l) = let r = lookup p l in cond (p d) (some d) r

abbrev pub same_home : Option ℕ → Option ℕ → Bool
same_home none none = true
same_home none (some k) = false
same_home (some k) none = false
same_home (some k) (some j) = eqb k j

abbrev pub number_in : Option Def → Option ℕ
number_in none = none
number_in (some d) = some d.number

abbrev pub topic_name : Option Def → Option (List ℕ)
topic_name none = none
topic_name (some d) = some d.name.bytes

-- the definition with a name at a home
abbrev pub defined_as : List ℕ → Option ℕ → Def → Bool
defined_as n h d = same n d.name.bytes && same_home h d.home

abbrev pub at_home : State → Option ℕ → List ℕ → Option Def
at_home s h n = lookup (defined_as n h) (known s.decls)

-- a bare name is looked up at the model's level and in the open topic; a new name is taken if it is found so
abbrev pub at_hand : State → List ℕ → Option Def
at_hand s n = lookup (λ d. defined_as n none d || defined_as n (number_in s.topic) d) (known s.decls)

abbrev pub in_topic_of : State → List ℕ → Option Def → Option Def
in_topic_of s n none = none
in_topic_of s n (some d) = cond (is_sort topic d.sort) (at_home s (some d.number) n) none

abbrev pub resolve : State → Reference → Option Def
resolve s (G.bare n) = at_hand s n.bytes
resolve s (G.in_model m n) = cond (same m.bytes s.model.bytes) (at_home s none n.bytes) none
resolve s (G.in_topic m t n) =
    cond (same m.bytes s.model.bytes) (in_topic_of s n.bytes (at_home s none t.bytes)) none
