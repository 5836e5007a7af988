-- The sizes of records by name, the byte of kind with them. The rules' own table and records are held to these
-- names in proofs/SizeLaws.
use Rattle.std.specs.Prelude.{ℕ}

-- what a record with a name begins with: kind, offset, length
abbrev pub name_size : ℕ
name_size = 6

abbrev pub model_size : ℕ
model_size = name_size

abbrev pub topic_size : ℕ
topic_size = name_size

abbrev pub topic_end_size : ℕ
topic_end_size = 1

-- a class, structure, attribute, domain or unit
abbrev pub head_size : ℕ
head_size = 11

-- TEXT, MTEXT, a structure or domain that is named, the unit of a number
abbrev pub length_size : ℕ
length_size = 5

abbrev pub range_size : ℕ
range_size = 18

abbrev pub numeric_size : ℕ
numeric_size = 1

-- an enumeration opens, one of its elements, it closes
abbrev pub list_size : ℕ
list_size = 2

abbrev pub element_size : ℕ
element_size = name_size

abbrev pub list_end_size : ℕ
list_end_size = 1

-- the end of a class or structure
abbrev pub class_end_size : ℕ
class_end_size = 1
