use Rattle.fitting.proofs.ValueLaws.{held_small, sized_range}
use Rattle.types.proofs.laying.plain.Goals as goal

pub returns-in-Range : goal.returns-in-Range
returns-in-Range c =
    let s = sized_range _ _ _ _ c.requires.sized c.in-Range.is in
    rw c.in-Range.is (rw (c.range_record.ensures, held_small _ s.1, held_small _ s.2) at c.put_number.ensures)
