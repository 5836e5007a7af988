-- Document 01, "Names", "Types and bases" and "Refusals in order", 4 (attribute count) and 7 to 18, and document 02,
-- No. 1 (22) and No. 2 (11): the rules of each unit in the order of their numbers, and the state after a unit that
-- breaks none.
use Rattle.std.specs.Prelude.{Bool, true, false, cond, not, ◌&&◌, ◌||◌, List, [], ◌∷◌, ◌++◌, ℕ, length, eqb, leb}
use Rattle.std.proofs.Math.Option.{Option, none, some}
use Rattle.std.specs.Int.Signed.{lt_z}
use Rattle.rules.specs.Bytes.{ascii, same, is_one_of}
use Rattle.rules.specs.Names.{Name}
use Rattle.rules.specs.Symbols.{Symbol}
use Rattle.rules.specs.Numbers.{Range, digits, value_of, decimals_of}
use Rattle.rules.specs.Enumerations.{Enum, is_leaf, merge, twice}
use Rattle.rules.specs.Grammar as G
use Rattle.rules.specs.Grammar.{Reference, Bounds, WrittenType, Written}
use Rattle.rules.specs.Units as U
use Rattle.rules.specs.Units.{Strings, is_given}
use Rattle.rules.specs.Types.{Ty, text, numeric, structure, enum, kind_of, fits, keeps_unit}
use Rattle.rules.specs.Declarations.{Link, Use, inline, of_domain, of_structure, ty_of, Attribute, Sort, topic}
use Rattle.rules.specs.Declarations.{class, domain, unit, is_sort, Def, link_of, measure_in, attributes_of}
use Rattle.rules.specs.Declarations.{attribute_at, is_found}
use Rattle.rules.specs.Declarations.{name_count, Decl, model, def, end_topic, State, number_in, topic_name, at_hand}
use Rattle.rules.specs.Declarations.{resolve}
use Rattle.rules.specs.Declarations as D
use Rattle.rules.specs.Book.{records}

-- ---- rules: the first of a unit's that is broken refuses it
pub record Rule : Type 0 where
  pub number : ℕ
  pub place : ℕ
  pub broken : Bool

abbrev pub rule : ℕ → ℕ → Bool → Rule
rule n p b = record { number = n; place = p; broken = b }

pub data Judged : Type 0 where
  ok : State → Judged
  refused : ℕ → ℕ → Judged

-- the refusal by the first of some rules that is broken, or else a state
abbrev pub first_broken_or : List Rule → State → Judged
first_broken_or [] s = ok s
first_broken_or (r ∷ l) s = let x = first_broken_or l s in cond r.broken (refused r.number r.place) x

-- ---- what stands for a base that is not there: not FINAL, not mandatory, without attributes, of a type
-- into which nothing merges
abbrev pub no_name : Name
no_name = record { offset = 0; bytes = [] }

abbrev pub no_def : Def
no_def = record {
  sort = topic;
  name = no_name;
  home = none;
  around = none;
  number = 0;
  abstract = false;
  final = false;
  mandatory = false;
  type = structure;
  bases = [];
  own = [];
  inherited = [];
}

abbrev pub or_no_def : Option Def → Def
or_no_def none = no_def
or_no_def (some d) = d

abbrev pub no_attribute : Attribute
no_attribute = record {
  name = no_name;
  number = 0;
  final = false;
  extended = false;
  mandatory = false;
  base = none;
  use_of = inline structure;
}

abbrev pub or_no_attribute : Option Attribute → Attribute
or_no_attribute none = no_attribute
or_no_attribute (some a) = a

-- ---- properties
abbrev pub has_twice : List (List ℕ) → Bool
has_twice [] = false
has_twice (w ∷ l) = is_one_of w l || has_twice l

abbrev pub has_abstract : List (List ℕ) → Bool
has_abstract p = is_one_of (ascii "ABSTRACT") p

abbrev pub has_final : List (List ℕ) → Bool
has_final p = is_one_of (ascii "FINAL") p

abbrev pub has_extended : List (List ℕ) → Bool
has_extended p = is_one_of (ascii "EXTENDED") p

-- ---- references
abbrev pub first_place : Reference → ℕ
first_place (G.bare n) = n.offset
first_place (G.in_model m n) = m.offset
first_place (G.in_topic m t n) = m.offset

abbrev pub place_of : Option Reference → ℕ
place_of none = 0
place_of (some r) = first_place r

abbrev pub resolved : State → Option Reference → Option Def
resolved s none = none
resolved s (some r) = resolve s r

abbrev pub bases_of : Option Def → List Link
bases_of none = []
bases_of (some d) = link_of d ∷ d.bases

-- ---- types
abbrev pub length_in : Option Symbol → Option ℕ
length_in none = none
length_in (some y) = some (digits y.bytes 0)

-- a written enumeration over a base's type
abbrev pub merged_into : Ty → Enum → Ty
merged_into (enum b) e = enum (merge b e)
merged_into (text m n) e = enum e
merged_into (numeric r u) e = enum e
merged_into structure e = enum e

abbrev pub range_in : Option Bounds → Option Range
range_in none = none
range_in (some q) = some (record {
  decimals = decimals_of q.first.bytes;
  low = value_of q.first.bytes;
  high = value_of q.second.bytes;
})

-- the type that is written, over a base's, b; its unit's reference leads to target; a reference in place of a type is
-- for attributes alone
abbrev pub meant : WrittenType → Option Def → Ty → Ty
meant (G.text m n) target b = text m (length_in n)
meant (G.numeric q r) target b = numeric (range_in q) (measure_in target)
meant (G.enum e) target b = merged_into b e
meant (G.named r) target b = structure

-- MANDATORY alone means the base's type, with its unit
abbrev pub domain_type : Option WrittenType → Option Def → Ty → Ty
domain_type none target b = b
domain_type (some x) target b = meant x target b

abbrev pub naming : Def → Use
naming d = cond (is_sort domain d.sort) (of_domain (link_of d) d.bases) (of_structure (link_of d) d.bases)

-- what types an attribute over its base's use, b; a reference leads to target
abbrev pub attribute_use : Option WrittenType → Option Def → Use → Use
attribute_use none target b = b
attribute_use (some (G.text m n)) target b = inline (meant (G.text m n) target (ty_of b))
attribute_use (some (G.numeric q r)) target b = inline (meant (G.numeric q r) target (ty_of b))
attribute_use (some (G.enum e)) target b = inline (meant (G.enum e) target (ty_of b))
attribute_use (some (G.named r)) target b = naming (or_no_def target)

-- the reference that stands in a type, to its unit, or in place of one
abbrev pub reference_in : Option WrittenType → Option Reference
reference_in none = none
reference_in (some (G.text m n)) = none
reference_in (some (G.numeric q r)) = r
reference_in (some (G.enum e)) = none
reference_in (some (G.named r)) = some r

-- what it leads to
abbrev pub target_in : State → Written → Option Def
target_in s w = resolved s (reference_in w.type)

-- a domain or structure is named in place of a type
abbrev pub is_naming : Option WrittenType → Bool
is_naming none = false
is_naming (some (G.text m n)) = false
is_naming (some (G.numeric q r)) = false
is_naming (some (G.enum e)) = false
is_naming (some (G.named r)) = true

abbrev pub is_numeric : Ty → Bool
is_numeric (text m n) = false
is_numeric (numeric none u) = true
is_numeric (numeric (some r) u) = false
is_numeric (enum e) = false
is_numeric structure = false

-- 9 of the elements
abbrev pub doubled : Option ℕ → Rule
doubled none = rule 9 0 false
doubled (some p) = rule 9 p true

abbrev pub element_rule : Option WrittenType → Rule
element_rule none = doubled none
element_rule (some (G.text m n)) = doubled none
element_rule (some (G.numeric q r)) = doubled none
element_rule (some (G.enum e)) = doubled (twice e [])
element_rule (some (G.named r)) = doubled none

-- 14 of bounds and lengths; 15 of an outermost `(FINAL)`, which stands at p, without a base
abbrev pub type_rules : Bool → ℕ → Option WrittenType → List Rule
type_rules based p none = []
type_rules based p (some (G.text m none)) = []
type_rules based p (some (G.text m (some y))) = rule 14 y.place (eqb (digits y.bytes 0) 0) ∷ []
type_rules based p (some (G.numeric none r)) = []
type_rules based p (some (G.numeric (some q) r)) =
    rule 14 q.first.place
    (not (eqb (decimals_of q.first.bytes) (decimals_of q.second.bytes))
    || lt_z (value_of q.second.bytes) (value_of q.first.bytes)) ∷ []
type_rules based p (some (G.enum e)) = rule 15 p (is_leaf e && not based) ∷ []
type_rules based p (some (G.named r)) = []

-- 16: t over the base's type b
abbrev pub kind_rule : ℕ → Bool → Ty → Ty → Rule
kind_rule p based t b = rule 16 p (based && not (eqb (kind_of t) (kind_of b)))

-- ---- the state after a unit
abbrev pub declare : State → Decl → State
declare s d = record {
  model = s.model;
  strings = s.strings;
  decls = s.decls ++ (d ∷ []);
  topic = s.topic;
  open_class = none;
}

abbrev pub opened : State → Def → State
opened s c = record { model = s.model; strings = s.strings; decls = s.decls; topic = s.topic; open_class = some c }

abbrev pub in_topic : State → Option Def → State
in_topic s t = record { model = s.model; strings = s.strings; decls = s.decls; topic = t; open_class = none }

-- ---- header, model, topic
abbrev pub header_rules : Symbol → List Rule
header_rules v = rule 7 v.place (not (same v.bytes (ascii "2.4"))) ∷ []

abbrev pub begun : Name → Strings → State
begun n q = record { model = n; strings = q; decls = model n ∷ []; topic = none; open_class = none }

unfoldable pub new_topic : State → Name → Def
new_topic s n = record {
  sort = topic;
  name = n;
  home = none;
  around = none;
  number = length (records s);
  abstract = false;
  final = false;
  mandatory = false;
  type = structure;
  bases = [];
  own = [];
  inherited = [];
}

abbrev pub topic_rules : State → Name → List Rule
topic_rules s n = rule 9 n.offset (is_found (at_hand s n.bytes)) ∷ []

abbrev pub after_topic : State → Name → State
after_topic s n = in_topic (declare s (def (new_topic s n))) (some (new_topic s n))

-- ---- classes, structures and units: c is the sort, r the reference after EXTENDS, base what it leads to
-- "Types and bases", and document 02, No. 1 and No. 2: a class may extend a structure, and each sort its own
abbrev pub may_extend : Sort → Sort → Bool
may_extend c b = (is_sort class c && is_sort D.struct b) || is_sort c b

unfoldable pub new_class : State → Sort → Name → List (List ℕ) → Option Def → Def
new_class s c n p base = record {
  sort = c;
  name = n;
  home = number_in s.topic;
  around = topic_name s.topic;
  number = length (records s);
  abstract = has_abstract p;
  final = has_final p;
  mandatory = false;
  type = structure;
  bases = bases_of base;
  own = [];
  inherited = attributes_of (or_no_def base);
}

-- 10 of a reference that leads to o
abbrev pub unknown_rule : Option Reference → Option Def → Rule
unknown_rule r o = rule 10 (place_of r) (is_given r && not (is_found o))

-- 11 and 12 of what EXTENDS a reference
abbrev pub extends11 : Sort → Option Reference → Option Def → Rule
extends11 c r base = rule 11 (place_of r) (is_found base && not (may_extend c (or_no_def base).sort))

abbrev pub extends12 : Option Reference → Option Def → Rule
extends12 r base = rule 12 (place_of r) (or_no_def base).final

unfoldable pub extends_rules : Sort → Option Reference → Option Def → List Rule
extends_rules c r base = unknown_rule r base ∷ extends11 c r base ∷ extends12 r base ∷ []

unfoldable pub class_rules : State → Sort → Name → List (List ℕ) → Option Reference → Option Def → List Rule
class_rules s c n p r base =
    rule 9 n.offset (is_found (at_hand s n.bytes))
    ∷ (extends_rules c r base
    ++ (rule 13 n.offset (has_twice p || (has_abstract p && has_final p)) ∷ []))

-- ---- the reference in a type leads to target: in place of a type to a domain or a structure, in square brackets to a
-- unit
abbrev pub may_type : Sort → Bool
may_type b = is_sort domain b || is_sort D.struct b

abbrev pub may_stand_in : Option WrittenType → Sort → Bool
may_stand_in w b = cond (is_naming w) (may_type b) (is_sort unit b)

-- 11
abbrev pub type11 : Option WrittenType → Option Def → Rule
type11 w target = rule 11 (place_of (reference_in w)) (is_found target && not (may_stand_in w (or_no_def target).sort))

-- ---- domains: r is the reference after EXTENDS, base what it leads to; target what the type's reference leads to
unfoldable pub new_domain : State → Name → List (List ℕ) → Written → Option Def → Option Def → Def
new_domain s n p w base target = record {
  sort = domain;
  name = n;
  home = number_in s.topic;
  around = topic_name s.topic;
  number = length (records s);
  abstract = has_abstract p;
  final = has_final p;
  mandatory = w.mandatory || (or_no_def base).mandatory;
  type = domain_type w.type target (or_no_def base).type;
  bases = bases_of base;
  own = [];
  inherited = [];
}

-- 9 to 16
unfoldable pub domain_to_16 : State → Name → List (List ℕ) → Option Reference → Written → Option Def → Option Def
    → List Rule
domain_to_16 s n p r w base target =
    let e = new_domain s n p w base target in
    rule 9 n.offset (is_found (at_hand s n.bytes))
    ∷ element_rule w.type
    ∷ unknown_rule r base
    ∷ unknown_rule (reference_in w.type) target
    ∷ extends11 domain r base
    ∷ type11 w.type target
    ∷ extends12 r base
    ∷ rule 13 n.offset (has_twice p || ((has_abstract p && has_final p) || (is_numeric e.type && not (has_abstract p))))
    ∷ (type_rules (is_found base) w.place w.type
    ++ (kind_rule w.place (is_found base) e.type (or_no_def base).type ∷ []))

-- 17
abbrev pub domain17 : Written → Option Def → Option Def → Rule
domain17 w base target =
    rule 17 w.place
    (is_found base && not (fits (domain_type w.type target (or_no_def base).type) (or_no_def base).type))

-- 22
abbrev pub domain22 : Written → Option Def → Option Def → Rule
domain22 w base target =
    rule 22 w.place
    (is_found base && not (keeps_unit (domain_type w.type target (or_no_def base).type) (or_no_def base).type))

unfoldable pub domain_rules : State → Name → List (List ℕ) → Option Reference → Written → Option Def → Option Def
    → List Rule
domain_rules s n p r w base target =
    domain_to_16 s n p r w base target ++ (domain17 w base target ∷ domain22 w base target ∷ [])

-- ---- attributes: c is the open class, base the nearest inherited attribute of that name, target
-- what a reference leads to
abbrev pub is_domain : Use → Bool
is_domain (inline t) = false
is_domain (of_domain l bs) = true
is_domain (of_structure l bs) = false

abbrev pub base_of_attribute : Option Attribute → Option ℕ
base_of_attribute none = none
base_of_attribute (some a) = some a.number

-- "Types and bases": MANDATORY is written here, or taken over from what is named or extended; no unit has it
unfoldable pub new_attribute : State → Name → List (List ℕ) → Written → Option Attribute → Option Def → Attribute
new_attribute s n p w base target = record {
  name = n;
  number = length (records s);
  final = has_final p;
  extended = has_extended p;
  mandatory = w.mandatory || ((or_no_def target).mandatory || (or_no_attribute base).mandatory);
  base = base_of_attribute base;
  use_of = attribute_use w.type target (or_no_attribute base).use_of;
}

unfoldable pub with_attribute : Def → Attribute → Def
with_attribute c a = record {
  sort = c.sort;
  name = c.name;
  home = c.home;
  around = c.around;
  number = c.number;
  abstract = c.abstract;
  final = c.final;
  mandatory = c.mandatory;
  type = c.type;
  bases = c.bases;
  own = c.own ++ (a ∷ []);
  inherited = c.inherited;
}

-- 4 and 9 to 16; where an attribute is inherited and not EXTENDED, 9 comes first, so behind it an
-- inherited one is the base
unfoldable pub attribute_to_16 : State → Def → Name → List (List ℕ) → Written
    → Option Attribute → Option Def → List Rule
attribute_to_16 s c n p w base target =
    let u = (new_attribute s n p w base target).use_of in
    rule 4 n.offset (not (is_found (attribute_at n.bytes (attributes_of c))) && leb 256 (name_count (attributes_of c)))
    ∷ rule 9 n.offset (is_found (attribute_at n.bytes c.own) || (is_found base && not (has_extended p)))
    ∷ element_rule w.type
    ∷ rule 10 n.offset (has_extended p && not (is_found base))
    ∷ unknown_rule (reference_in w.type) target
    ∷ type11 w.type target
    ∷ rule 12 n.offset (or_no_attribute base).final
    ∷ rule 13 n.offset (has_twice p || (is_numeric (ty_of u) || (is_domain u && (or_no_def target).abstract)))
    ∷ (type_rules (is_found base) w.place w.type
    ++ (kind_rule w.place (is_found base) (ty_of u) (ty_of (or_no_attribute base).use_of) ∷ []))

abbrev pub is_among : ℕ → List Link → Bool
is_among k [] = false
is_among k (l ∷ ls) = eqb l.number k || is_among k ls

-- the domain or structure that the first names is what the second names, or descends from it
abbrev pub descends : Use → Use → Bool
descends (inline t) b = false
descends (of_domain l bs) (inline t) = false
descends (of_domain l bs) (of_domain k cs) = is_among k.number (l ∷ bs)
descends (of_domain l bs) (of_structure k cs) = false
descends (of_structure l bs) (inline t) = false
descends (of_structure l bs) (of_domain k cs) = false
descends (of_structure l bs) (of_structure k cs) = is_among k.number (l ∷ bs)

-- 17, unless a descendant is named, whose steps were judged where they were declared; 18, if another
-- domain or structure is named
abbrev pub attribute17 : ℕ → Bool → Bool → Use → Use → Rule
attribute17 p based names u b = rule 17 p (based && (not (names && descends u b) && not (fits (ty_of u) (ty_of b))))

abbrev pub attribute18 : ℕ → Bool → Bool → Use → Use → Rule
attribute18 p based names u b = rule 18 p (based && (names && not (descends u b)))

-- 22, of a type in place; a descendant that is named was judged where it was declared, any other name is 18
abbrev pub attribute22 : ℕ → Bool → Bool → Use → Use → Rule
attribute22 p based names u b = rule 22 p (based && (not names && not (keeps_unit (ty_of u) (ty_of b))))

abbrev pub attribute_from_17 : ℕ → Bool → Bool → Use → Use → List Rule
attribute_from_17 p based names u b =
    attribute17 p based names u b ∷ attribute18 p based names u b ∷ attribute22 p based names u b ∷ []

unfoldable pub attribute_rules : State → Def → Name → List (List ℕ) → Written
    → Option Attribute → Option Def → List Rule
attribute_rules s c n p w base target =
    attribute_to_16 s c n p w base target
    ++ attribute_from_17 w.place (is_found base) (is_naming w.type)
    (new_attribute s n p w base target).use_of (or_no_attribute base).use_of

-- the nearest inherited attribute of a name
abbrev pub inherited_as : Def → Name → Option Attribute
inherited_as c n = attribute_at n.bytes c.inherited

-- by the grammar an attribute stands only in an open class
abbrev pub member_rules : State → Name → List (List ℕ) → Written → Option Def → List Rule
member_rules s n p w none = []
member_rules s n p w (some c) = attribute_rules s c n p w (inherited_as c n) (target_in s w)

abbrev pub after_member : State → Name → List (List ℕ) → Written → Option Def → State
after_member s n p w none = s
after_member s n p w (some c) =
    opened s (with_attribute c (new_attribute s n p w (inherited_as c n) (target_in s w)))

-- ---- END of what is open: the class, else the topic, else the model
abbrev pub open_name : State → Option Def → Option Def → Name
open_name s (some c) t = c.name
open_name s none (some t) = t.name
open_name s none none = s.model

abbrev pub end_rules : Name → Name → List Rule
end_rules n m = rule 8 n.offset (not (same n.bytes m.bytes)) ∷ []

abbrev pub after_close : State → Option Def → Option Def → State
after_close s (some c) t = declare s (def c)
after_close s none (some t) = in_topic (declare s (end_topic t.name)) none
after_close s none none = s

-- ---- every unit: its rules in the order of their numbers, and the next state
abbrev pub rules_of : State → U.Unit → List Rule
rules_of s (U.header v) = header_rules v
rules_of s (U.model n q) = []
rules_of s (U.topic n) = topic_rules s n
rules_of s (U.class c n p r) = class_rules s c n p r (resolved s r)
rules_of s (U.domain n p r w) = domain_rules s n p r w (resolved s r) (target_in s w)
rules_of s (U.attribute n p w) = member_rules s n p w s.open_class
rules_of s (U.unit n p r) = class_rules s unit n p r (resolved s r)
rules_of s (U.close n) = end_rules n (open_name s s.open_class s.topic)

abbrev pub next_state : State → U.Unit → State
next_state s (U.header v) = s
next_state s (U.model n q) = begun n q
next_state s (U.topic n) = after_topic s n
next_state s (U.class c n p r) = opened s (new_class s c n p (resolved s r))
next_state s (U.domain n p r w) = declare s (def (new_domain s n p w (resolved s r) (target_in s w)))
next_state s (U.attribute n p w) = after_member s n p w s.open_class
next_state s (U.unit n p r) = declare s (def (new_class s unit n p (resolved s r)))
next_state s (U.close n) = after_close s s.open_class s.topic

unfoldable pub judge : State → U.Unit → Judged
judge s u = first_broken_or (rules_of s u) (next_state s u)
