-- What the code relies on beside the rules, of what is read from a text t and of what is declared: names are parts of
-- the text and words that are not reserved, strings are parts of it, numbers are within the limits, enumerations are
-- nested at most 8 deep and have no element twice, record numbers grow, and what an attribute names and the units of
-- types are declared.
use Rattle.std.specs.Prelude.{◌≡◌, Bool, true, false, ◌||◌, List, [], ◌∷◌, ℕ, ◌+◌, ◌≤◌, ◌<◌, length, nat_abs}
use Rattle.std.proofs.Math.Option.{none}
use Rattle.std.specs.Int.Signed.{le_z}
use Rattle.rules.specs.Names.{Name}
use Rattle.rules.specs.Symbols.{Symbol, is_name_text}
use Rattle.rules.specs.Numbers.{most_decimals, magnitude_limit, Range, digits, value_of, decimals_of}
use Rattle.rules.specs.Grammar as G
use Rattle.rules.specs.Grammar.{Reference, Bounds, WrittenType, Written}
use Rattle.rules.specs.Units as U
use Rattle.rules.specs.Units.{Where, start, after_header, over, body, members, is_given, class_sort}
use Rattle.rules.specs.Types.{Measure, Ty, text, numeric, structure, enum, unit_of}
use Rattle.rules.specs.Declarations as D
use Rattle.rules.specs.Declarations.{Link, Use, inline, of_domain, of_structure, Attribute, is_sort, Def, link_of}
use Rattle.rules.specs.Declarations.{measure_of, attributes_of, is_found, Decl, State, known}
use Rattle.rules.specs.Book.{records}
use Rattle.rules.specs.All.{All, AnyIs, In}
use Rattle.rules.specs.Judge.{has_extended, is_naming}
use Rattle.ground.specs.Parts.{part}
use Rattle.enumerations.specs.Standing.{InText, Named, Deep, Kept}
use Rattle.members.specs.Held.{Apart}

-- ---- as it is read
abbrev pub FairReference : List ℕ → Reference → Type 0
FairReference t (G.bare n) = InText t n
FairReference t (G.in_model m n) = InText t m × InText t n
FairReference t (G.in_topic m p n) = InText t m × InText t p × InText t n

abbrev pub FairNumber : Symbol → Type 0
FairNumber y = (decimals_of y.bytes ≤ most_decimals) × (nat_abs (value_of y.bytes) < magnitude_limit)

abbrev pub FairLength : Symbol → Type 0
FairLength y = digits y.bytes 0 < 4294967296

abbrev pub FairBounds : Bounds → Type 0
FairBounds q = FairNumber q.first × FairNumber q.second

abbrev pub FairType : List ℕ → WrittenType → Type 0
FairType t (G.text m n) = AnyIs FairLength n
FairType t (G.numeric q r) = AnyIs FairBounds q × AnyIs (FairReference t) r
FairType t (G.enum e) = Named t e × Deep 7 e
FairType t (G.named r) = FairReference t r

-- a range's first bound stands at the type's place
abbrev pub Begins : ℕ → WrittenType → Type 0
Begins p (G.text m n) = Unit {0}
Begins p (G.numeric q r) = AnyIs (λ (b : Bounds). b.first.place ≡ p) q
Begins p (G.enum e) = Unit {0}
Begins p (G.named r) = Unit {0}

-- MANDATORY alone stands only where there is a base
pub record FairWritten (t : List ℕ) (based : Bool) (w : Written) : Type 0 where
  pub type : AnyIs (FairType t) w.type
  pub begins : AnyIs (Begins w.place) w.type
  pub alone : w.type ≡ none → based ≡ true

pub record FairSymbol (t : List ℕ) (y : Symbol) : Type 0 where
  pub fits : y.place + length y.bytes ≤ length t
  pub there : part t y.place (length y.bytes) ≡ y.bytes

abbrev pub FairUnit : List ℕ → U.Unit → Type 0
FairUnit t (U.header v) = FairSymbol t v
FairUnit t (U.model n q) = InText t n × FairSymbol t q.address × FairSymbol t q.version
FairUnit t (U.topic n) = InText t n
FairUnit t (U.class c n p b) = InText t n × AnyIs (FairReference t) b × ((k : Bool) × (c ≡ class_sort k))
FairUnit t (U.domain n p b w) =
    InText t n × AnyIs (FairReference t) b × FairWritten t (is_given b) w × (is_naming w.type ≡ false)
FairUnit t (U.attribute n p w) = InText t n × FairWritten t (has_extended p) w
FairUnit t (U.unit n p b) = InText t n × AnyIs (FairReference t) b
FairUnit t (U.close n) = InText t n

-- ---- as it is declared
abbrev pub FairLimit : ℕ → Type 0
FairLimit n = (0 < n) × (n < 4294967296)

abbrev pub FairRange : Range → Type 0
FairRange r =
    (r.decimals ≤ most_decimals) × (nat_abs r.low < magnitude_limit) × (nat_abs r.high < magnitude_limit)
    × (le_z r.low r.high ≡ true)

-- a type that gives values
abbrev pub Fair : List ℕ → Ty → Type 0
Fair t (text m n) = AnyIs FairLimit n
Fair t (numeric r u) = AnyIs FairRange r
Fair t (enum e) = Kept t e
Fair t structure = ⊥

abbrev pub FairUse : List ℕ → Use → Type 0
FairUse t (inline x) = Fair t x
FairUse t (of_domain l bs) = Fair t l.type
FairUse t (of_structure l bs) = Unit {0}

-- a word that is no reserved word
abbrev pub NameText : List ℕ → Type 0
NameText b = is_name_text b ≡ true

-- n is the count of records so far
pub record FairAttribute (t : List ℕ) (n : ℕ) (a : Attribute) : Type 0 where
  pub used : FairUse t a.use_of
  pub before : a.number < n
  pub name : InText t a.name

abbrev pub FairLink : Link → Type 0
FairLink l = NameText l.name × AnyIs NameText l.around

pub record FairDef (t : List ℕ) (n : ℕ) (d : Def) : Type 0 where
  pub type : d.sort ≡ D.domain → Fair t d.type
  pub before : d.number < n
  pub attributes : All (FairAttribute t n) (attributes_of d)
  pub bare : d.sort ≡ D.domain → attributes_of d ≡ []
  pub name : InText t d.name
  pub around : AnyIs NameText d.around
  pub bases : All FairLink d.bases

pub record FairOpen (t : List ℕ) (n : ℕ) (c : Def) : Type 0 where
  pub fair : FairDef t n c
  pub structure : Bool
  pub sort : c.sort ≡ class_sort structure
  pub apart : Apart c

-- what an attribute names is declared in K, and makes the attribute mandatory if it is so itself
pub record Linked (K : List Def) (l : Link) (bs : List Link) (mandatory : Bool) (d : Def) : Type 0 where
  pub declared : In d K
  pub link : link_of d ≡ l
  pub bases : d.bases ≡ bs
  pub holds : (d.mandatory || mandatory) ≡ mandatory

-- the unit of a type is declared in K
abbrev pub UnitIn : List Def → Ty → Type 0
UnitIn K x = AnyIs (λ (u : Measure). (d : Def) × In d K × (measure_of d ≡ u)) (unit_of x)

-- a domain that is named is not ABSTRACT
abbrev pub NamesDeclared : List Def → Use → Bool → Type 0
NamesDeclared K (inline x) m = UnitIn K x
NamesDeclared K (of_domain l bs) m =
    (d : Def) × Linked K l bs m d × (is_sort D.domain d.sort ≡ true) × (d.abstract ≡ false)
NamesDeclared K (of_structure l bs) m = (d : Def) × Linked K l bs m d × (is_sort D.struct d.sort ≡ true)

abbrev pub NamesAll : List Def → Def → Type 0
NamesAll K d =
    UnitIn K d.type × All (λ (a : Attribute). NamesDeclared K a.use_of a.mandatory) (attributes_of d)

-- record numbers grow along what is declared, and the open class stands behind it
abbrev pub Rising : List Def → Type 0
Rising [] = Unit {0}
Rising (d ∷ l) = All (λ (e : Def). d.number < e.number) l × Rising l

abbrev pub BehindAll : List Def → Def → Type 0
BehindAll K c = All (λ (d : Def). d.number < c.number) K

-- the names that declarations have besides those of definitions; m is the model's
abbrev pub FairDecl : List ℕ → Name → Decl → Type 0
FairDecl t m (D.model n) = InText t n × (m ≡ n)
FairDecl t m (D.def d) = Unit {0}
FairDecl t m (D.end_topic n) = InText t n

pub record FairState (t : List ℕ) (s : State) : Type 0 where
  pub defs : All (FairDef t (length (records s))) (known s.decls)
  pub open_class : AnyIs (FairOpen t (length (records s))) s.open_class
  pub names : All (NamesAll (known s.decls)) (known s.decls)
  pub open_names : AnyIs (NamesAll (known s.decls)) s.open_class
  pub decls : All (FairDecl t s.model) s.decls
  pub topic : AnyIs (λ (d : Def). InText t d.name) s.topic
  pub rising : Rising (known s.decls)
  pub open_behind : AnyIs (BehindAll (known s.decls)) s.open_class

-- ---- where units stand: a class is open exactly where its members are read, and nothing is declared before the model
pub record Undeclared (s : State) : Type 0 where
  pub decls : s.decls ≡ []
  pub topic : s.topic ≡ none
  pub open_class : s.open_class ≡ none

abbrev pub Placed : Where → State → Type 0
Placed start s = Undeclared s
Placed after_header s = Undeclared s
Placed over s = is_found s.open_class ≡ false
Placed (body a r) s = is_found s.open_class ≡ false
Placed (members a b) s = is_found s.open_class ≡ true

abbrev pub MayStand : State → U.Unit → Type 0
MayStand s (U.header v) = Undeclared s
MayStand s (U.model n q) = Undeclared s
MayStand s (U.topic n) = is_found s.open_class ≡ false
MayStand s (U.class c n p b) = is_found s.open_class ≡ false
MayStand s (U.domain n p b w) = is_found s.open_class ≡ false
MayStand s (U.attribute n p w) = is_found s.open_class ≡ true
MayStand s (U.unit n p b) = is_found s.open_class ≡ false
MayStand s (U.close n) = Unit {0}
