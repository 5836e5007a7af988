-- Document 01, "The book": a record is its bytes, one of kind and then its body.
use Rattle.std.specs.Prelude.{Bool, true, false, cond, ◌&&◌, List, [], ◌∷◌, ◌++◌, ℕ, zero, suc, ◌+◌, ◌-◌, ◌/◌, ◌%◌, ◌^◌}
use Rattle.std.specs.Prelude.{length, get_or, replicate, ℤ, pos, negsuc, leb}
use Rattle.std.proofs.Math.Option.{Option, none, some}
use Rattle.rules.specs.Names.{Name}
use Rattle.rules.specs.Enumerations.{Enum, end, elem, final}
use Rattle.rules.specs.Numbers.{Range}
use Rattle.rules.specs.Types.{Measure, Ty, text, numeric, structure, enum}
use Rattle.rules.specs.Declarations as D
use Rattle.rules.specs.Declarations.{Link, Use, inline, of_domain, of_structure, Attribute, Sort, Def, Decl, State}

abbrev pub Record : Type 0
Record = List ℕ

-- a number in so many bytes, its low byte first; two's complement in 64 bits
abbrev pub low_first : ℕ → ℕ → List ℕ
low_first zero n = []
low_first (suc k) n = n % 256 ∷ low_first k (n / 256)

abbrev pub twos : ℤ → ℕ
twos (pos n) = n
twos (negsuc n) = 2 ^ 64 - suc n

abbrev pub name_bytes : Name → List ℕ
name_bytes n = low_first 4 n.offset ++ low_first 1 (length n.bytes)

abbrev pub no_base : ℕ
no_base = 4294967295

abbrev pub number_or : Option ℕ → ℕ
number_or none = no_base
number_or (some k) = k

abbrev pub bit : Bool → ℕ → ℕ
bit b n = cond b n 0

-- ABSTRACT, FINAL, EXTENDED, mandatory in effect
abbrev pub flags : Bool → Bool → Bool → Bool → ℕ
flags a f e m = bit a 1 + bit f 2 + bit e 4 + bit m 8

abbrev pub name_record : ℕ → Name → Record
name_record k n = k ∷ name_bytes n

abbrev pub head_record : ℕ → Name → ℕ → ℕ → Record
head_record k n f b = k ∷ (name_bytes n ++ (f ∷ low_first 4 b))

-- ---- types
abbrev pub open_record : Enum → Record
open_record e = 13 ∷ bit (final e) 1 ∷ []

-- a leaf that is not FINAL has no inner records
abbrev pub inner_records : Enum → List Record → List Record
inner_records (end false) l = []
inner_records (end true) l = l
inner_records (elem n i r) l = l

abbrev pub element_records : Enum → List Record
element_records (end f) = (15 ∷ []) ∷ []
element_records (elem n i r) =
    name_record 14 n ∷ (inner_records i (open_record i ∷ element_records i) ++ element_records r)

-- zero is unlimited
abbrev pub length_or : Option ℕ → ℕ
length_or none = 0
length_or (some n) = n

abbrev pub number_record : Option Range → Record
number_record none = 11 ∷ []
number_record (some r) = 10 ∷ r.decimals ∷ (low_first 8 (twos r.low) ++ low_first 8 (twos r.high))

-- document 02, No. 1: of a number before it
abbrev pub unit_records : Option Measure → List Record
unit_records none = []
unit_records (some u) = (19 ∷ low_first 4 u.number) ∷ []

abbrev pub type_records : Ty → List Record
type_records (text m n) = (cond m 9 8 ∷ low_first 4 (length_or n)) ∷ []
type_records (numeric r u) = number_record r ∷ unit_records u
type_records (enum e) = open_record e ∷ element_records e
type_records structure = []

abbrev pub use_records : Use → List Record
use_records (inline t) = type_records t
use_records (of_domain l bs) = (17 ∷ low_first 4 l.number) ∷ []
use_records (of_structure l bs) = (12 ∷ low_first 4 l.number) ∷ []

-- ---- definitions
abbrev pub attribute_records : Attribute → List Record
attribute_records a =
    head_record 6 a.name (flags false a.final a.extended a.mandatory) (number_or a.base)
    ∷ use_records a.use_of

abbrev pub attributes_records : List Attribute → List Record
attributes_records [] = []
attributes_records (a ∷ l) = attribute_records a ++ attributes_records l

abbrev pub base_number : List Link → ℕ
base_number [] = no_base
base_number (l ∷ bs) = l.number

abbrev pub def_record : ℕ → Def → Record
def_record k d = head_record k d.name (flags d.abstract d.final false d.mandatory) (base_number d.bases)

abbrev pub class_records : ℕ → Def → List Record
class_records k d = def_record k d ∷ attributes_records d.own

abbrev pub head_records : Sort → Def → List Record
head_records D.topic d = name_record 2 d.name ∷ []
head_records D.class d = class_records 4 d
head_records D.struct d = class_records 5 d
head_records D.domain d = def_record 7 d ∷ type_records d.type
head_records D.unit d = def_record 18 d ∷ []

-- a class or structure is followed by the record of its END
abbrev pub end_records : Sort → List Record
end_records D.topic = []
end_records D.class = (16 ∷ []) ∷ []
end_records D.struct = (16 ∷ []) ∷ []
end_records D.domain = []
end_records D.unit = []

abbrev pub decl_records : Decl → List Record
decl_records (D.model n) = name_record 1 n ∷ []
decl_records (D.def d) = head_records d.sort d ++ end_records d.sort
decl_records (D.end_topic n) = (3 ∷ []) ∷ []

abbrev pub decls_records : List Decl → List Record
decls_records [] = []
decls_records (d ∷ l) = decl_records d ++ decls_records l

abbrev pub open_records : Option Def → List Record
open_records none = []
open_records (some d) = head_records d.sort d

-- ---- the book so far
abbrev pub records : State → List Record
records s = decls_records s.decls ++ open_records s.open_class

abbrev pub bytes : List Record → List ℕ
bytes [] = []
bytes (r ∷ l) = r ++ bytes l

abbrev pub book : State → List ℕ
book s = bytes (records s)

-- the records of kinds 4 to 7
abbrev pub is_definition : Record → Bool
is_definition r = leb 4 (get_or r 0 0) && leb (get_or r 0 0) 7

abbrev pub definitions : List Record → ℕ
definitions [] = 0
definitions (r ∷ l) = let c = definitions l in cond (is_definition r) (suc c) c

-- in a buffer of m bytes: the book, then zeros
abbrev pub padded : List ℕ → ℕ → List ℕ
padded b m = b ++ replicate (m - length b) 0
