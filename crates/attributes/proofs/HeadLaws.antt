-- The head of an attribute: its flags, and the record number of its base.
use mathlib.Core.Path.{◌≡◌, sym, ap, ◌∙◌}
use mathlib.Core.Bool.{Bool, false, ◌||◌}
use mathlib.Core.Option.{Option, some}
use mathlib.Core.List.{List}
use Prim.Native.Nat.{ℕ, suc, ◌-◌}
use native.Mathlib.Omega.{arith}
use lib.ListN.{length, get_or}
use Rattle.rules.specs.Names as R
use Rattle.rules.specs.Grammar as G
use Rattle.rules.specs.Declarations.{Attribute, attribute_at}
use Rattle.rules.specs.Book.{flags, number_or, head_record}
use Rattle.rules.specs.Judge.{has_final, has_extended, base_of_attribute}
use Rattle.book.specs.Forms.{head_form}
use Rattle.names.specs.Index.{nth, entry}
use Rattle.members.specs.Members.{slot_of, Filled}
use Rattle.members.proofs.FillLaws.{slot-some}
use Rattle.members.proofs.OpenLaws.{slot-finds}
use Rattle.units.specs.declared.AttributeUnit.{AttributeUnit}
use Rattle.attribute_names.specs.Facts.{Given}
use Rattle.attribute_names.proofs.NameLaws.{found_some}

-- ---- the base in a slot
module _ (ms h : List Attribute) (hs : List ℕ) (k : ℕ) (n : List ℕ) (f : Filled ms hs k h)
    (slot : ℕ) (e : slot ≡ slot_of n h) where
  pub no-base : slot ≡ 0 → 4294967295 ≡ number_or (base_of_attribute (attribute_at n h))
  no-base z =
      ap (λ (o : Option Attribute). number_or (base_of_attribute o)) (sym (ap (entry h) (sym e ∙ z)) ∙ slot-finds n h)

  pub base-in-slot : ¬ (slot ≡ 0) → (v : ℕ) → v ≡ get_or hs (slot - 1) 0
      → v ≡ number_or (base_of_attribute (attribute_at n h))
  base-in-slot z v ev =
      let s : slot ≡ suc (slot - 1) = omega arith in
      let (a, w) = found_some (attribute_at n h) (slot-some n 0 h (λ y. z (e ∙ y))) in
      let p : nth h (slot - 1) ≡ some a = ap (entry h) (sym s ∙ e) ∙ slot-finds n h ∙ w in
      ev ∙ f.at_number (slot - 1) a p ∙ ap (λ (o : Option Attribute). number_or (base_of_attribute o)) (sym w)

-- ---- the head
module _ (t : List ℕ) (n : R.Name) (p : List (List ℕ)) (w : G.Written) (rs : List ℕ) (a : AttributeUnit)
    (g : Given t n p w rs a) (x m : Bool) (em : m ≡ (a.written.mandatory || x)) (f : ℕ)
    (ef : f ≡ flags false a.properties.is_final a.properties.extended m) where
  pub head-flags : f ≡ flags false (has_final p) (has_extended p) (w.mandatory || x)
  head-flags =
      ef ∙ ap (flags false a.properties.is_final a.properties.extended) em ∙ ap (λ (u : AttributeUnit). flags
      false u.properties.is_final u.properties.extended (u.written.mandatory || x)) g.is

  pub head-form : (k b : ℕ) (r : List ℕ) → r ≡ head_form 6 a.name.offset a.name.len f b → b ≡ k
      → r ≡ head_record 6 n (flags false (has_final p) (has_extended p) (w.mandatory || x)) k
  head-form k b r e eb =
      e ∙ ap (λ (u : AttributeUnit). head_form 6 u.name.offset u.name.len f b) g.is
      ∙ ap (λ (i : ℕ). head_form 6 n.offset (length n.bytes) i b) head-flags
      ∙ ap (head_form 6 n.offset (length n.bytes) (flags false (has_final p) (has_extended p) (w.mandatory || x))) eb
