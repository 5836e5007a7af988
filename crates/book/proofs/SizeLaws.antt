-- The sizes by name are those of the rules: of the table by which a book is read, and of the records that are written.
use mathlib.Core.Path.{◌≡◌, refl}
use mathlib.Core.Bool.{Bool}
use mathlib.Core.Option.{Option, none, some}
use mathlib.Core.List.{List, [], ◌∷◌}
use Prim.Native.Nat.{ℕ}
use lib.ListN.{length}
use Rattle.rules.specs.Names.{Name}
use Rattle.rules.specs.Numbers.{Range}
use Rattle.rules.specs.Enumerations.{Enum, end}
use Rattle.rules.specs.Types.{Measure, text}
use Rattle.rules.specs.Declarations as D
use Rattle.rules.specs.Declarations.{Link, of_domain, of_structure}
use Rattle.rules.specs.Book.{name_record, head_record, open_record, element_records, number_record, unit_records}
use Rattle.rules.specs.Book.{type_records}
use Rattle.rules.specs.Book.{use_records, end_records}
use Rattle.rules.specs.Book.{decl_records, bytes}
use Rattle.rules.specs.Show.{sizes}
use Rattle.book.specs.Sizes.{name_size, model_size, topic_size, topic_end_size, head_size, length_size, range_size}
use Rattle.book.specs.Sizes.{numeric_size}
use Rattle.book.specs.Sizes.{list_size, element_size, list_end_size, class_end_size}

-- ---- by kind, 0 to 19
pub sizes-named :
    sizes
    ≡ 0 ∷ model_size ∷ topic_size ∷ topic_end_size
    ∷ head_size ∷ head_size ∷ head_size ∷ head_size
    ∷ length_size ∷ length_size ∷ range_size ∷ numeric_size ∷ length_size
    ∷ list_size ∷ element_size ∷ list_end_size
    ∷ class_end_size ∷ length_size ∷ head_size ∷ length_size ∷ []
sizes-named = refl

-- ---- of the records
pub name-size : (k : ℕ) (n : Name) → length (name_record k n) ≡ name_size
name-size k n = refl

pub model-size : (n : Name) → length (bytes (decl_records (D.model n))) ≡ model_size
model-size n = refl

pub topic-size : (n : Name) → length (name_record 2 n) ≡ topic_size
topic-size n = refl

pub topic-end-size : (n : Name) → length (bytes (decl_records (D.end_topic n))) ≡ topic_end_size
topic-end-size n = refl

pub head-size : (k : ℕ) (n : Name) (f b : ℕ) → length (head_record k n f b) ≡ head_size
head-size k n f b = refl

pub text-size : (m : Bool) (n : Option ℕ) → length (bytes (type_records (text m n))) ≡ length_size
text-size m n = refl

pub domain-size : (l : Link) (bs : List Link) → length (bytes (use_records (of_domain l bs))) ≡ length_size
domain-size l bs = refl

pub structure-size : (l : Link) (bs : List Link) → length (bytes (use_records (of_structure l bs))) ≡ length_size
structure-size l bs = refl

pub range_size_lem : (r : Range) → length (number_record (some r)) ≡ range_size
range_size_lem r = refl

pub numeric-size : length (number_record none) ≡ numeric_size
numeric-size = refl

pub unit_size : (u : Measure) → length (bytes (unit_records (some u))) ≡ length_size
unit_size u = refl

pub list-size : (e : Enum) → length (open_record e) ≡ list_size
list-size e = refl

pub element-size : (n : Name) → length (name_record 14 n) ≡ element_size
element-size n = refl

pub list-end-size : (f : Bool) → length (bytes (element_records (end f))) ≡ list_end_size
list-end-size f = refl

pub class-end-size : length (bytes (end_records D.class)) ≡ class_end_size
class-end-size = refl
