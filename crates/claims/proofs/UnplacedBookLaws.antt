-- The records of a bare state are those of the state apart from offsets: so record numbers, the book's length and the
-- definition count do not depend on places.
use mathlib.Core.Path.{◌≡◌, refl, sym, ap, ◌∙◌}
use mathlib.Core.Bool.{Bool, true, false, cond}
use mathlib.Core.Option
use mathlib.Core.Option.{Option, none, some}
use mathlib.Core.List.{List, [], ◌∷◌, ◌++◌, map, map-append}
use Prim.Native.Nat.{ℕ, zero, suc}
use lib.ListN.{length, length-append, length-map}
use Rattle.rules.specs.Enumerations.{Enum, end, elem}
use Rattle.rules.specs.Types.{Ty, text, numeric, structure, enum}
use Rattle.rules.specs.Declarations as D
use Rattle.rules.specs.Declarations.{Link, Use, inline, of_domain, of_structure, Attribute, Sort, Def, Decl, State}
use Rattle.rules.specs.Book.{Record, open_record, inner_records, element_records, type_records, use_records}
use Rattle.rules.specs.Book.{attribute_records, attributes_records, base_number, head_records, end_records}
use Rattle.rules.specs.Book.{decl_records}
use Rattle.rules.specs.Book.{decls_records, open_records, records, bytes, book, is_definition, definitions}
use Rattle.rules.specs.Show.{is_named}
use Rattle.claims.specs.Unplaced.{unplaced_enum, unplaced_ty, unplaced_link, unplaced_use, unplaced_attribute}
use Rattle.claims.specs.Unplaced.{unplaced_def, unplaced_decl, unplaced_state, zeroed, unplaced_record}
use Rattle.claims.proofs.UnplacedLaws.{final-unplaced}

abbrev bares : List Record → List Record
bares l = map unplaced_record l

both-unplaced : (a b : List Record) {c d : List Record} → c ≡ bares a → d ≡ bares b → c ++ d ≡ bares (a ++ b)
both-unplaced a b p q = rw (p, q) (sym (map-append unplaced_record a b))

-- ---- records
inner-unplaced : (i : Enum) (l : List Record) → inner_records (unplaced_enum i) (bares l) ≡ bares (inner_records i l)
inner-unplaced (end true) l = refl
inner-unplaced (end false) l = refl
inner-unplaced (elem n i r) l = refl

open-unplaced : (e : Enum) → open_record (unplaced_enum e) ≡ unplaced_record (open_record e)
unfolding is_named
open-unplaced e = rw (final-unplaced e)

element-unplaced : (e : Enum) → element_records (unplaced_enum e) ≡ bares (element_records e)
unfolding is_named
element-unplaced (end f) = refl
element-unplaced (elem n i r) =
    let l = open_record i ∷ element_records i in
    rw (
      open-unplaced i,
      element-unplaced i,
      element-unplaced r,
      inner-unplaced i l,
      map-append unplaced_record (inner_records i l) (element_records r),
    )

type-unplaced : (t : Ty) → type_records (unplaced_ty t) ≡ bares (type_records t)
unfolding is_named
type-unplaced (text true n) = refl
type-unplaced (text false n) = refl
type-unplaced (numeric none none) = refl
type-unplaced (numeric none (some u)) = refl
type-unplaced (numeric (some r) none) = refl
type-unplaced (numeric (some r) (some u)) = refl
type-unplaced structure = refl
type-unplaced (enum e) = rw (open-unplaced e, element-unplaced e)

use-unplaced : (u : Use) → use_records (unplaced_use u) ≡ bares (use_records u)
unfolding is_named
use-unplaced (inline t) = type-unplaced t
use-unplaced (of_domain l bs) = refl
use-unplaced (of_structure l bs) = refl

attribute-unplaced : (a : Attribute) → attribute_records (unplaced_attribute a) ≡ bares (attribute_records a)
unfolding is_named
attribute-unplaced a = rw (use-unplaced a.use_of)

attributes-unplaced : (l : List Attribute)
    → attributes_records (map unplaced_attribute l) ≡ bares (attributes_records l)
attributes-unplaced [] = refl
attributes-unplaced (a ∷ l) =
    both-unplaced (attribute_records a) (attributes_records l) (attribute-unplaced a) (attributes-unplaced l)

base-unplaced : (l : List Link) → base_number (map unplaced_link l) ≡ base_number l
base-unplaced [] = refl
base-unplaced (l ∷ bs) = refl

head-unplaced : (x : Sort) (d : Def) → head_records x (unplaced_def d) ≡ bares (head_records x d)
unfolding is_named
head-unplaced D.topic d = refl
head-unplaced D.class d = rw (base-unplaced d.bases, attributes-unplaced d.own)
head-unplaced D.struct d = rw (base-unplaced d.bases, attributes-unplaced d.own)
head-unplaced D.domain d = rw (base-unplaced d.bases, type-unplaced d.type)
head-unplaced D.unit d = rw (base-unplaced d.bases)

end-unplaced : (x : Sort) → end_records x ≡ bares (end_records x)
unfolding is_named
end-unplaced D.topic = refl
end-unplaced D.class = refl
end-unplaced D.struct = refl
end-unplaced D.domain = refl
end-unplaced D.unit = refl

decl-unplaced : (d : Decl) → decl_records (unplaced_decl d) ≡ bares (decl_records d)
unfolding is_named
decl-unplaced (D.model n) = refl
decl-unplaced (D.def d) =
    both-unplaced (head_records d.sort d) (end_records d.sort) (head-unplaced d.sort d) (end-unplaced d.sort)
decl-unplaced (D.end_topic n) = refl

decls-unplaced : (l : List Decl) → decls_records (map unplaced_decl l) ≡ bares (decls_records l)
decls-unplaced [] = refl
decls-unplaced (d ∷ l) = both-unplaced (decl_records d) (decls_records l) (decl-unplaced d) (decls-unplaced l)

opened-unplaced : (o : Option Def) → open_records (Option.map unplaced_def o) ≡ bares (open_records o)
opened-unplaced none = refl
opened-unplaced (some d) = head-unplaced d.sort d

pub records-unplaced : (s : State) → records (unplaced_state s) ≡ map unplaced_record (records s)
records-unplaced s = both-unplaced (decls_records s.decls) (open_records s.open_class) (decls-unplaced s.decls)
    (opened-unplaced s.open_class)

-- ---- counts and lengths
pub records-count-unplaced : (s : State) → length (records (unplaced_state s)) ≡ length (records s)
records-count-unplaced s = ap length (records-unplaced s) ∙ length-map (records s) unplaced_record

zeroed-length : (k : ℕ) (l : List ℕ) → length (zeroed k l) ≡ length l
zeroed-length zero l = refl
zeroed-length (suc k) [] = refl
zeroed-length (suc k) (b ∷ l) = ap suc (zeroed-length k l)

record-length : (r : Record) → length (unplaced_record r) ≡ length r
record-length [] = refl
record-length (k ∷ l) = ap suc (go (is_named k))
  where
    go : (t : Bool) → length (cond t (zeroed 4 l) l) ≡ length l
    go true = zeroed-length 4 l
    go false = refl

bytes-length : (l : List Record) → length (bytes (bares l)) ≡ length (bytes l)
bytes-length [] = refl
bytes-length (r ∷ l) =
    rw (length-append (unplaced_record r) (bytes (bares l)), length-append r (bytes l), record-length r, bytes-length l)

pub book-length-unplaced : (s : State) → length (book (unplaced_state s)) ≡ length (book s)
book-length-unplaced s = rw (records-unplaced s) (bytes-length (records s))

definition-unplaced : (r : Record) → is_definition (unplaced_record r) ≡ is_definition r
definition-unplaced [] = refl
definition-unplaced (k ∷ l) = refl

definitions-of-unplaced : (l : List Record) → definitions (bares l) ≡ definitions l
definitions-of-unplaced [] = refl
definitions-of-unplaced (r ∷ l) = rw (definition-unplaced r, definitions-of-unplaced l)

pub definitions-unplaced : (s : State) → definitions (records (unplaced_state s)) ≡ definitions (records s)
definitions-unplaced s = rw (records-unplaced s) (definitions-of-unplaced (records s))
