-- How the records of a state grow.
use mathlib.Core.Path.{◌≡◌, ap}
use mathlib.Core.Bool.{Bool, true, false}
use mathlib.Core.Option.{some}
use mathlib.Core.List.{[], ◌∷◌, ◌++◌}
use Prim.Native.Nat.{◌+◌, ◌≤◌, ◌<◌}
use native.Mathlib.Omega.{arith}
use lib.ListN.{length, length-append}
use Rattle.rules.specs.Names.{Name}
use Rattle.rules.specs.Declarations as D
use Rattle.rules.specs.Declarations.{Attribute, Sort, Def, Decl, def, is_found, State}
use Rattle.rules.specs.Book.{decl_records, decls_records, head_records, end_records, records}
use Rattle.rules.specs.Units.{class_sort}
use Rattle.rules.specs.Judge.{declare, opened, with_attribute}
use Rattle.rules.proofs.GrowLaws.{decls-count, attributes-count, closed-records, open-records, head-some, with-sort}

-- ---- one more declaration
pub declare-records : (s : State) (d : Decl)
    → length (records (declare s d)) ≡ length (decls_records s.decls) + length (decl_records d)
declare-records s d =
    let a = length-append (decls_records (s.decls ++ (d ∷ []))) [] in
    let b = decls-count s.decls d in
    omega arith

module _ (s : State) (closed : is_found s.open_class ≡ false) where
  pub declared-more : (e : Def) → length (records s) < length (records (declare s (def e)))
  declared-more e =
      let a = declare-records s (def e) in
      let b = closed-records s closed in
      let c = length-append (head_records e.sort e) (end_records e.sort) in
      let d = head-some e.sort e in
      omega arith

  pub opened-more : (c : Def) → length (records s) < length (records (opened s c))
  opened-more c =
      let a = length-append (decls_records s.decls) (head_records c.sort c) in
      let b = closed-records s closed in
      let d = head-some c.sort c in
      omega arith

  pub ended-more : (n : Name) → length (records s) ≤ length (records (declare s (D.end_topic n)))
  ended-more n = let a = declare-records s (D.end_topic n) in let b = closed-records s closed in omega arith

-- ---- of the open class: one more attribute, its END
head-grows : (st : Bool) (c : Def) (a : Attribute)
    → length (head_records (class_sort st) c) < length (head_records (class_sort st) (with_attribute c a))
unfolding with_attribute
head-grows true c a = let h = attributes-count c.own a in omega arith
head-grows false c a = let h = attributes-count c.own a in omega arith

module _ (s : State) (c : Def) (e : s.open_class ≡ some c) where
  pub attribute-more : (st : Bool) (a : Attribute) → c.sort ≡ class_sort st
      → length (records s) < length (records (opened s (with_attribute c a)))
  attribute-more st a q =
      let d = with_attribute c a in
      let i = open-records s c e in
      let j = length-append (decls_records s.decls) (head_records d.sort d) in
      let x : length (head_records d.sort d)
      ≡ length (head_records c.sort d) = ap (λ (y : Sort). length (head_records y d)) (with-sort c a) in
      let y : length (head_records c.sort d)
      ≡ length (head_records (class_sort st) d) = ap (λ (y : Sort). length (head_records y d)) q in
      let z : length (head_records c.sort c)
      ≡ length (head_records (class_sort st) c) = ap (λ (y : Sort). length (head_records y c)) q in
      let m = head-grows st c a in
      omega arith

  pub close_more : length (records s) ≤ length (records (declare s (def c)))
  close_more =
      let a = declare-records s (def c) in
      let b = open-records s c e in
      let d = length-append (head_records c.sort c) (end_records c.sort) in
      omega arith
