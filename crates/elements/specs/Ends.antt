-- What may follow an element that no comma follows: the end of its list.
use Rattle.rules.specs.Symbols.{is_mark}
use Rattle.rules.specs.Readers.{Reader, ◌>>◌, ret, the_mark, if_next}
use Rattle.rules.specs.Enumerations.{Enum, end}
use Rattle.rules.specs.Grammar.{close_final}
use Rattle.std.specs.Prelude.{false}

abbrev pub list_end : Reader Enum
list_end = if_next (is_mark ":") (the_mark ":" >> close_final) (the_mark ")" >> ret (end false))
