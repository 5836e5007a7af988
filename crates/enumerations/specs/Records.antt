-- The records of an enumeration, and how much records take.
use Rattle.std.specs.Prelude.{List, ◌∷◌, length}
use Rattle.rules.specs.Enumerations.{Enum}
use Rattle.rules.specs.Book.{Record, open_record, element_records, bytes}
use Rattle.enumerations.specs.declared.Size.{Size}

abbrev pub records : Enum → List Record
records e = open_record e ∷ element_records e

abbrev pub size_of : List Record → Size
size_of l = record { bytes = length (bytes l); records = length l }
