-- The rules' records are of these forms.
use mathlib.Core.Path.{◌≡◌, refl}
use mathlib.Core.Bool.{Bool, cond}
use mathlib.Core.Option.{Option, some}
use mathlib.Core.List.{List, [], ◌∷◌}
use Prim.Native.Nat.{ℕ}
use lib.ListN.{length}
use Rattle.rules.specs.Names.{Name}
use Rattle.rules.specs.Numbers.{Range}
use Rattle.rules.specs.Types.{Measure, text}
use Rattle.rules.specs.Declarations.{Link, of_domain, of_structure}
use Rattle.rules.specs.Book.{name_record, head_record, length_or, number_record, unit_records, type_records}
use Rattle.rules.specs.Book.{use_records}
use Rattle.book.specs.Forms.{name_form, head_form, range_form, length_form}

pub name-form : (k : ℕ) (n : Name) → name_record k n ≡ name_form k n.offset (length n.bytes)
name-form k n = refl

pub head-form : (k : ℕ) (n : Name) (f b : ℕ) → head_record k n f b ≡ head_form k n.offset (length n.bytes) f b
head-form k n f b = refl

pub range-form : (r : Range) → number_record (some r) ≡ range_form r.decimals r.low r.high
range-form r = refl

pub unit-form : (u : Measure) → unit_records (some u) ≡ length_form 19 u.number ∷ []
unit-form u = refl

pub text-form : (m : Bool) (n : Option ℕ) → type_records (text m n) ≡ length_form (cond m 9 8) (length_or n) ∷ []
text-form m n = refl

pub domain-form : (l : Link) (bs : List Link) → use_records (of_domain l bs) ≡ length_form 17 l.number ∷ []
domain-form l bs = refl

pub structure-form : (l : Link) (bs : List Link) → use_records (of_structure l bs) ≡ length_form 12 l.number ∷ []
structure-form l bs = refl
