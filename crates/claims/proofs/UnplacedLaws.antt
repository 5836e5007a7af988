-- What is said of types, enumerations and lookups does not depend on places: each definition gives of bare
-- things the bare answer.
use mathlib.Core.Path.{◌≡◌, refl, sym, ap}
use mathlib.Core.Bool.{Bool, true, false, cond, not, ◌&&◌, ◌||◌}
use mathlib.Core.Option
use mathlib.Core.Option.{Option, none, some}
use mathlib.Core.List.{List, [], ◌∷◌, map, map-append}
use Prim.Native.Nat.{ℕ}
use Rattle.rules.specs.Bytes.{same, is_one_of}
use Rattle.rules.specs.Enumerations as E
use Rattle.rules.specs.Enumerations.{Enum, end, elem, is_leaf, final, at, Path, here, others, into, through, legal_in}
use Rattle.rules.specs.Enumerations.{beyond, onward, or_empty, inner, is_there, has, news, merge_from, merge, or_else}
use Rattle.rules.specs.Enumerations.{fits_in, enum_fits, first, twice}
use Rattle.rules.specs.Grammar as G
use Rattle.rules.specs.Grammar.{Reference}
use Rattle.rules.specs.Types.{Ty, text, numeric, structure, enum, kind_of, unit_of, Value, string, number, path, legal}
use Rattle.rules.specs.Types.{some_path, reading, fits, keeps_unit}
use Rattle.rules.specs.Declarations as D
use Rattle.rules.specs.Declarations.{Use, inline, of_domain, of_structure, ty_of, Attribute, is_sort, Def}
use Rattle.rules.specs.Declarations.{attributes_of}
use Rattle.rules.specs.Declarations.{attribute_at, is_found, name_count, Decl, State, known, lookup, number_in}
use Rattle.rules.specs.Declarations.{topic_name}
use Rattle.rules.specs.Declarations.{defined_as, at_home, at_hand, in_topic_of, resolve}
use Rattle.claims.specs.Unplaced.{unplaced_place, unplaced_reference, unplaced_enum, unplaced_ty, unplaced_use}
use Rattle.claims.specs.Unplaced.{unplaced_attribute, unplaced_def, unplaced_decl, unplaced_state}

-- ---- either of two, and what may be there
pub cond-unplaced : {A B : Type 0} (f : A → B) (b : Bool) (x y : A) → cond b (f x) (f y) ≡ f (cond b x y)
cond-unplaced f true x y = refl
cond-unplaced f false x y = refl

pub found-unplaced : {A B : Type 0} (f : A → B) (o : Option A) → is_found (Option.map f o) ≡ is_found o
found-unplaced f none = refl
found-unplaced f (some a) = refl

-- ---- enumerations
pub leaf-unplaced : (e : Enum) → is_leaf (unplaced_enum e) ≡ is_leaf e
leaf-unplaced (end f) = refl
leaf-unplaced (elem n i r) = refl

pub final-unplaced : (e : Enum) → final (unplaced_enum e) ≡ final e
final-unplaced (end f) = refl
final-unplaced (elem n i r) = final-unplaced r

at-unplaced : (n : List ℕ) (e : Enum) → at n (unplaced_enum e) ≡ Option.map unplaced_enum (at n e)
at-unplaced n (end f) = refl
at-unplaced n (elem m i r) =
    rw (at-unplaced n r) (cond-unplaced (Option.map unplaced_enum) (same n m.bytes) (some i) (at n r))

-- ---- legal values and readings
through-unplaced : (n : List ℕ) (q r : Path → Bool) (p : Path) → ((p : Path) → q p ≡ r p)
    → through n q p ≡ through n r p
through-unplaced n q r here h = refl
through-unplaced n q r others h = refl
through-unplaced n q r (into m p) h = rw (h p)

legal-in-unplaced : (e : Enum) (p : Path) → legal_in (unplaced_enum e) p ≡ legal_in e p
legal-in-unplaced (end f) p = refl
legal-in-unplaced (elem n i r) p =
    rw (legal-in-unplaced r p, leaf-unplaced i)
    (ap (λ (t : Bool). t || legal_in r p) (through-unplaced n.bytes _ _ p (λ q. rw (legal-in-unplaced i q))))

legal-path-unplaced : (e : Enum) (p : Path) → E.legal_path (unplaced_enum e) p ≡ E.legal_path e p
legal-path-unplaced e p = rw (leaf-unplaced e, legal-in-unplaced e p)

pub legal-unplaced : (t : Ty) (v : Value) → legal (unplaced_ty t) v ≡ legal t v
legal-unplaced (text m n) v = refl
legal-unplaced (numeric r u) v = refl
legal-unplaced structure v = refl
legal-unplaced (enum e) (string s) = refl
legal-unplaced (enum e) (number d v u) = refl
legal-unplaced (enum e) (path p) = legal-path-unplaced e p

beyond-unplaced : (b : Enum) → beyond (unplaced_enum b) ≡ beyond b
beyond-unplaced b = rw (final-unplaced b, leaf-unplaced b)

onward-unplaced : (o : Option Enum) (d : Option Path) (k : Enum → Option Path)
    → ((i : Enum) → k (unplaced_enum i) ≡ k i)
    → onward (Option.map unplaced_enum o) d k ≡ onward o d k
onward-unplaced none d k h = refl
onward-unplaced (some i) d k h = h i

read-path-unplaced : (b : Enum) (p : Path) → E.read_path (unplaced_enum b) p ≡ E.read_path b p
read-path-unplaced b here = rw (leaf-unplaced b)
read-path-unplaced b others = beyond-unplaced b
read-path-unplaced b (into n p) =
    rw (at-unplaced n b, beyond-unplaced b) (onward-unplaced (at n b) (beyond b) _ (λ i. rw (read-path-unplaced i p)))

pub reading-unplaced : (b : Ty) (v : Value) → reading (unplaced_ty b) v ≡ reading b v
reading-unplaced (text m n) v = refl
reading-unplaced (numeric r u) v = refl
reading-unplaced structure v = refl
reading-unplaced (enum e) (string s) = refl
reading-unplaced (enum e) (number d v u) = refl
reading-unplaced (enum e) (path p) = ap some_path (read-path-unplaced e p)

-- ---- merging
inner-unplaced : (n : List ℕ) (x : Enum) → inner n (unplaced_enum x) ≡ unplaced_enum (inner n x)
inner-unplaced n x = rw (at-unplaced n x) (go (at n x))
  where
    go : (o : Option Enum) → or_empty (Option.map unplaced_enum o) ≡ unplaced_enum (or_empty o)
    go none = refl
    go (some i) = refl

has-unplaced : (n : List ℕ) (x : Enum) → has n (unplaced_enum x) ≡ has n x
has-unplaced n x = rw (at-unplaced n x) (go (at n x))
  where
    go : (o : Option Enum) → is_there (Option.map unplaced_enum o) ≡ is_there o
    go none = refl
    go (some i) = refl

news-unplaced : (f : Bool) (b x : Enum) → news f (unplaced_enum b) (unplaced_enum x) ≡ unplaced_enum (news f b x)
news-unplaced f b (end g) = refl
news-unplaced f b (elem n i r) = rw (has-unplaced n.bytes b, news-unplaced f b r)
    (cond-unplaced unplaced_enum (has n.bytes b) (news f b r) (elem n i (news f b r)))

merge-from-unplaced : (a b x : Enum)
    → merge_from (unplaced_enum a) (unplaced_enum b) (unplaced_enum x) ≡ unplaced_enum (merge_from a b x)
merge-from-unplaced (end f) b x = news-unplaced f b x
merge-from-unplaced (elem n i r) b x =
    rw (inner-unplaced n.bytes x, merge-from-unplaced i i (inner n.bytes x), merge-from-unplaced r b x)

pub merge-unplaced : (b x : Enum) → merge (unplaced_enum b) (unplaced_enum x) ≡ unplaced_enum (merge b x)
merge-unplaced b x = merge-from-unplaced b b x

-- ---- 9 of elements, and 17
pub twice-unplaced : (e : Enum) (l : List (List ℕ)) → twice (unplaced_enum e) l ≡ Option.map unplaced_place (twice e l)
twice-unplaced (end f) l = refl
twice-unplaced (elem n i r) l =
    rw (twice-unplaced i [], twice-unplaced r (n.bytes ∷ l), go (twice i []) (twice r (n.bytes ∷ l)))
    (cond-unplaced (Option.map unplaced_place) (is_one_of n.bytes l) (some n.offset)
    (first (twice i []) (twice r (n.bytes ∷ l))))
  where
    go : (a b : Option ℕ) → first (Option.map unplaced_place a) (Option.map unplaced_place b)
        ≡ Option.map unplaced_place (first a b)
    go none b = refl
    go (some p) b = refl

or-else-unplaced : (o : Option Enum) (d : Bool) (p q : Enum → Bool) → ((i : Enum) → p (unplaced_enum i) ≡ q i) →
    or_else (Option.map unplaced_enum o) d p ≡ or_else o d q
or-else-unplaced none d p q h = refl
or-else-unplaced (some i) d p q h = h i

fits-in-unplaced : (e b : Enum) → fits_in (unplaced_enum e) (unplaced_enum b) ≡ fits_in e b
fits-in-unplaced (end f) b = rw (final-unplaced b)
fits-in-unplaced (elem n i r) b =
    rw (at-unplaced n.bytes b, final-unplaced b, fits-in-unplaced r b, leaf-unplaced i)
    (ap (λ (t : Bool). t && fits_in r b)
    (or-else-unplaced (at n.bytes b) (not (final b)) _ _ (λ j. rw (leaf-unplaced j, fits-in-unplaced i j))))

enum-fits-unplaced : (e b : Enum) → enum_fits (unplaced_enum e) (unplaced_enum b) ≡ enum_fits e b
enum-fits-unplaced e b = rw (leaf-unplaced e, leaf-unplaced b, fits-in-unplaced e b)

pub kind-unplaced : (t : Ty) → kind_of (unplaced_ty t) ≡ kind_of t
kind-unplaced (text m n) = refl
kind-unplaced (numeric r u) = refl
kind-unplaced structure = refl
kind-unplaced (enum e) = refl

pub fits-unplaced : (t b : Ty) → fits (unplaced_ty t) (unplaced_ty b) ≡ fits t b
fits-unplaced (text m n) (text k l) = refl
fits-unplaced (text m n) (numeric r u) = refl
fits-unplaced (text m n) structure = refl
fits-unplaced (text m n) (enum e) = refl
fits-unplaced (numeric r u) (text k l) = refl
fits-unplaced (numeric r u) (numeric q w) = refl
fits-unplaced (numeric r u) structure = refl
fits-unplaced (numeric r u) (enum e) = refl
fits-unplaced structure b = refl
fits-unplaced (enum e) (text k l) = refl
fits-unplaced (enum e) (numeric q w) = refl
fits-unplaced (enum e) structure = refl
fits-unplaced (enum e) (enum b) = enum-fits-unplaced e b

unit-of-unplaced : (t : Ty) → unit_of (unplaced_ty t) ≡ unit_of t
unit-of-unplaced (text m n) = refl
unit-of-unplaced (numeric r u) = refl
unit-of-unplaced structure = refl
unit-of-unplaced (enum e) = refl

pub units-fit-unplaced : (t b : Ty) → keeps_unit (unplaced_ty t) (unplaced_ty b) ≡ keeps_unit t b
units-fit-unplaced t b = rw (unit-of-unplaced t, unit-of-unplaced b)

pub ty-unplaced : (u : Use) → ty_of (unplaced_use u) ≡ unplaced_ty (ty_of u)
ty-unplaced (inline t) = refl
ty-unplaced (of_domain l bs) = refl
ty-unplaced (of_structure l bs) = refl

-- ---- lookups
known-unplaced : (l : List Decl) → known (map unplaced_decl l) ≡ map unplaced_def (known l)
known-unplaced [] = refl
known-unplaced (D.model n ∷ l) = known-unplaced l
known-unplaced (D.def d ∷ l) = ap (λ (r : List Def). unplaced_def d ∷ r) (known-unplaced l)
known-unplaced (D.end_topic n ∷ l) = known-unplaced l

lookup-unplaced : (p : Def → Bool) (l : List Def) → ((d : Def) → p (unplaced_def d) ≡ p d)
    → lookup p (map unplaced_def l) ≡ Option.map unplaced_def (lookup p l)
lookup-unplaced p [] h = refl
lookup-unplaced p (d ∷ l) h =
    rw (h d, lookup-unplaced p l h) (cond-unplaced (Option.map unplaced_def) (p d) (some d) (lookup p l))

pub attribute-unplaced : (n : List ℕ) (l : List Attribute)
    → attribute_at n (map unplaced_attribute l) ≡ Option.map unplaced_attribute (attribute_at n l)
attribute-unplaced n [] = refl
attribute-unplaced n (a ∷ l) = rw (attribute-unplaced n l)
    (cond-unplaced (Option.map unplaced_attribute) (same n a.name.bytes) (some a) (attribute_at n l))

pub count-unplaced : (l : List Attribute) → name_count (map unplaced_attribute l) ≡ name_count l
count-unplaced [] = refl
count-unplaced (a ∷ l) = rw (
  attribute-unplaced a.name.bytes l,
  found-unplaced unplaced_attribute (attribute_at a.name.bytes l),
  count-unplaced l,
)

pub attributes-unplaced : (d : Def) → attributes_of (unplaced_def d) ≡ map unplaced_attribute (attributes_of d)
attributes-unplaced d = sym (map-append unplaced_attribute d.own d.inherited)

pub number-unplaced : (o : Option Def) → number_in (Option.map unplaced_def o) ≡ number_in o
number-unplaced none = refl
number-unplaced (some d) = refl

pub around-unplaced : (o : Option Def) → topic_name (Option.map unplaced_def o) ≡ topic_name o
around-unplaced none = refl
around-unplaced (some d) = refl

module _ (s : State) where
  home-unplaced : (h : Option ℕ) (n : List ℕ) → at_home (unplaced_state s) h n ≡ Option.map unplaced_def (at_home s h n)
  home-unplaced h n = rw (known-unplaced s.decls) (lookup-unplaced (defined_as n h) (known s.decls) (λ d. refl))

  pub hand-unplaced : (n : List ℕ) → at_hand (unplaced_state s) n ≡ Option.map unplaced_def (at_hand s n)
  hand-unplaced n =
      rw (known-unplaced s.decls, number-unplaced s.topic) (lookup-unplaced _ (known s.decls) (λ d. refl))

  topic-unplaced : (n : List ℕ) (o : Option Def)
      → in_topic_of (unplaced_state s) n (Option.map unplaced_def o) ≡ Option.map unplaced_def (in_topic_of s n o)
  topic-unplaced n none = refl
  topic-unplaced n (some d) =
      rw (home-unplaced (some d.number) n)
      (cond-unplaced (Option.map unplaced_def) (is_sort D.topic d.sort) (at_home s (some d.number) n) none)

  pub resolve-unplaced : (r : Reference)
      → resolve (unplaced_state s) (unplaced_reference r) ≡ Option.map unplaced_def (resolve s r)
  resolve-unplaced (G.bare n) = hand-unplaced n.bytes
  resolve-unplaced (G.in_model m n) =
      rw (home-unplaced none n.bytes)
      (cond-unplaced (Option.map unplaced_def) (same m.bytes s.model.bytes) (at_home s none n.bytes) none)
  resolve-unplaced (G.in_topic m t n) =
      rw (home-unplaced none t.bytes, topic-unplaced n.bytes (at_home s none t.bytes))
      (cond-unplaced (Option.map unplaced_def) (same m.bytes s.model.bytes)
      (in_topic_of s n.bytes (at_home s none t.bytes)) none)
