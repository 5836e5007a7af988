-- The bytes of a book give its records again.
use mathlib.Core.Path.{◌≡◌, refl, ap, ◌∙◌}
use mathlib.Core.Bool.{true, false}
use mathlib.Core.Option.{Option, none, some}
use mathlib.Core.List.{List, [], ◌∷◌, ◌++◌, append_assoc, append-nil}
use Prim.Native.Nat.{ℕ, zero, suc, ◌-◌}
use native.Mathlib.Omega.{arith}
use lib.ListN.{length, replicate, length-append}
use lib.Seq.{take-append_seam, drop-append_seam}
use Rattle.rules.specs.Enumerations.{Enum, end, elem}
use Rattle.rules.specs.Types.{Measure, Ty, text, numeric, structure, enum}
use Rattle.rules.specs.Declarations as D
use Rattle.rules.specs.Declarations.{Use, inline, of_domain, of_structure, Attribute, Sort, Def, Decl, State}
use Rattle.rules.specs.Book.{Record, open_record, inner_records, element_records, unit_records, type_records}
use Rattle.rules.specs.Book.{use_records, attribute_records, attributes_records, head_records, end_records}
use Rattle.rules.specs.Book.{decl_records}
use Rattle.rules.specs.Book.{decls_records, open_records, records, bytes, book, padded}
use Rattle.rules.specs.Show.{size_of, records_from}
use Rattle.rules.specs.All.{All}
use Rattle.rules.proofs.AllLaws.{all_append}
use Rattle.rules.proofs.RecordLaws.{front}

-- ---- a record has the size of its kind
abbrev Sized : Record → Type 0
Sized [] = ⊥
Sized (b ∷ r) = size_of b ≡ suc (length r)

elements-sized : (e : Enum) → All Sized (element_records e)
unfolding size_of
elements-sized (end f) = (refl, tt)
elements-sized (elem n i r) = (
  refl,
  all_append Sized (inner_records i (open_record i ∷ element_records i))
      (element_records r) (inner i (elements-sized i)) (elements-sized r),
)
  where
    inner : (i : Enum) → All Sized (element_records i) → All Sized (inner_records i (open_record i ∷ element_records i))
    inner (end false) h = tt
    inner (end true) h = (refl, h)
    inner (elem m j k) h = (refl, h)

unit-sized : (u : Option Measure) → All Sized (unit_records u)
unfolding size_of
unit-sized none = tt
unit-sized (some u) = (refl, tt)

type-sized : (t : Ty) → All Sized (type_records t)
unfolding size_of
type-sized (text true n) = (refl, tt)
type-sized (text false n) = (refl, tt)
type-sized (numeric none u) = (refl, unit-sized u)
type-sized (numeric (some r) u) = (refl, unit-sized u)
type-sized (enum e) = (refl, elements-sized e)
type-sized structure = tt

use-sized : (u : Use) → All Sized (use_records u)
unfolding size_of
use-sized (inline t) = type-sized t
use-sized (of_domain l bs) = (refl, tt)
use-sized (of_structure l bs) = (refl, tt)

attributes-sized : (l : List Attribute) → All Sized (attributes_records l)
unfolding size_of
attributes-sized [] = tt
attributes-sized (a ∷ l) =
    all_append Sized (attribute_records a) (attributes_records l) (refl, use-sized a.use_of) (attributes-sized l)

head-sized : (x : Sort) (d : Def) → All Sized (head_records x d)
unfolding size_of
head-sized D.topic d = (refl, tt)
head-sized D.class d = (refl, attributes-sized d.own)
head-sized D.struct d = (refl, attributes-sized d.own)
head-sized D.domain d = (refl, type-sized d.type)
head-sized D.unit d = (refl, tt)

end-sized : (x : Sort) → All Sized (end_records x)
unfolding size_of
end-sized D.topic = tt
end-sized D.class = (refl, tt)
end-sized D.struct = (refl, tt)
end-sized D.domain = tt
end-sized D.unit = tt

decls-sized : (l : List Decl) → All Sized (decls_records l)
unfolding size_of
decls-sized [] = tt
decls-sized (D.model n ∷ l) = (refl, decls-sized l)
decls-sized (D.def d ∷ l) = all_append Sized (decl_records (D.def d)) (decls_records l) (all_append Sized
    (head_records d.sort d) (end_records d.sort) (head-sized d.sort d) (end-sized d.sort)) (decls-sized l)
decls-sized (D.end_topic n ∷ l) = (refl, decls-sized l)

records-sized : (s : State) → All Sized (records s)
records-sized s = all_append Sized (decls_records s.decls) (open_records s.open_class)
    (decls-sized s.decls) (go s.open_class)
  where
    go : (o : Option Def) → All Sized (open_records o)
    go none = tt
    go (some c) = head-sized c.sort c

-- ---- reading them again
one : (b : ℕ) (r rest : List ℕ) → size_of b ≡ suc (length r)
    → records_from 0 (b ∷ (r ++ rest)) ≡ (b ∷ r) ∷ records_from 0 rest
one b r rest e =
    let l = length-append r rest in
    front (b ∷ (r ++ rest)) (suc (length r)) e (omega arith) (omega arith)
    ∙ rw (take-append_seam r rest, drop-append_seam r rest)

all : (l : List Record) (rest : List ℕ) → All Sized l → records_from 0 (bytes l ++ rest) ≡ l ++ records_from 0 rest
all [] rest h = refl
all ([] ∷ l) rest h = absurd h.0
all ((b ∷ r) ∷ l) rest h =
    rw append_assoc (one b r (bytes l ++ rest) h.0 ∙ ap (λ (x : List Record). (b ∷ r) ∷ x) (all l rest h.1))

-- kind 0 ends the book
ends : (n : ℕ) → records_from 0 (replicate n 0) ≡ []
unfolding records_from size_of
ends zero = refl
ends (suc n) = refl

pub records-again : (s : State) (m : ℕ) → records_from 0 (padded (book s) m) ≡ records s
records-again s m =
    all (records s) (replicate (m - length (book s)) 0) (records-sized s)
    ∙ rw (ends (m - length (book s))) (append-nil (records s))
