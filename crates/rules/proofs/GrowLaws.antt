-- Lists of declarations, attributes and records that grow at their end.
use mathlib.Core.Path.{◌≡◌, refl, sym, ap, ◌∙◌}
use mathlib.Core.Bool.{false}
use mathlib.Core.Option.{Option, none, some}
use mathlib.Core.List.{List, [], ◌∷◌, ◌++◌, append_assoc, append-nil}
use Prim.Native.Nat.{ℕ, ◌+◌, ◌≤◌}
use native.Mathlib.Omega.{arith}
use lib.ListN.{length, length-append}
use Rattle.rules.specs.Declarations as D
use Rattle.rules.specs.Declarations.{Attribute, Sort, Def, is_found, Decl, State, known}
use Rattle.rules.specs.Book.{Record, bytes, decl_records, decls_records, head_records, open_records, attribute_records}
use Rattle.rules.specs.Book.{attributes_records, records}
use Rattle.rules.specs.Judge.{with_attribute}
use Rattle.rules.proofs.Tests.{never}

pub known-append : (l : List Decl) (e : Decl) → known (l ++ (e ∷ [])) ≡ known l ++ known (e ∷ [])
known-append [] e = refl
known-append (D.model n ∷ l) e = known-append l e
known-append (D.def d ∷ l) e = ap (λ (x : List Def). d ∷ x) (known-append l e)
known-append (D.end_topic n ∷ l) e = known-append l e

pub bytes-append : (l m : List Record) → bytes (l ++ m) ≡ bytes l ++ bytes m
bytes-append [] m = refl
bytes-append (r ∷ l) m = ap (λ (x : List ℕ). r ++ x) (bytes-append l m) ∙ sym (append_assoc r (bytes l) (bytes m))

pub decls-append : (l : List Decl) (e : Decl) → decls_records (l ++ (e ∷ [])) ≡ decls_records l ++ decl_records e
decls-append [] e = append-nil (decl_records e)
decls-append (d ∷ l) e =
    ap (λ (x : List Record). decl_records d ++ x) (decls-append l e)
    ∙ sym (append_assoc (decl_records d) (decls_records l) (decl_records e))

pub attributes-append : (l : List Attribute) (a : Attribute)
    → attributes_records (l ++ (a ∷ [])) ≡ attributes_records l ++ attribute_records a
attributes-append [] a = append-nil (attribute_records a)
attributes-append (b ∷ l) a =
    ap (λ (x : List Record). attribute_records b ++ x) (attributes-append l a)
    ∙ sym (append_assoc (attribute_records b) (attributes_records l) (attribute_records a))

-- their counts
pub decls-count : (l : List Decl) (e : Decl)
    → length (decls_records (l ++ (e ∷ []))) ≡ length (decls_records l) + length (decl_records e)
decls-count l e = ap length (decls-append l e) ∙ length-append (decls_records l) (decl_records e)

pub attributes-count : (l : List Attribute) (a : Attribute)
    → length (attributes_records (l ++ (a ∷ []))) ≡ length (attributes_records l) + length (attribute_records a)
attributes-count l a = ap length (attributes-append l a) ∙ length-append (attributes_records l) (attribute_records a)

-- ---- with and without an open class
pub closed-records : (s : State) → is_found s.open_class ≡ false
    → length (records s) ≡ length (decls_records s.decls)
closed-records s h = go s.open_class h
  where
    go : (o : Option Def) → is_found o ≡ false
        → length (decls_records s.decls ++ open_records o) ≡ length (decls_records s.decls)
    go none e = simp length-append (omega arith)
    go (some c) e = never (sym e)

pub open-records : (s : State) (c : Def) → s.open_class ≡ some c
    → length (records s) ≡ length (decls_records s.decls) + length (head_records c.sort c)
open-records s c e = rw e (length-append (decls_records s.decls) (head_records c.sort c))

pub head-some : (x : Sort) (d : Def) → 1 ≤ length (head_records x d)
head-some D.topic d = omega arith
head-some D.class d = omega arith
head-some D.struct d = omega arith
head-some D.domain d = omega arith
head-some D.unit d = omega arith

pub with-sort : (c : Def) (a : Attribute) → (with_attribute c a).sort ≡ c.sort
unfolding with_attribute
with-sort c a = refl
