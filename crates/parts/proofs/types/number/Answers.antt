use Rattle.parts.proofs.TypeLaws.{number-stands, number_read}
use Rattle.parts.proofs.types.number.Goals as goal

pub number_at-requires : goal.number_at-requires
number_at-requires c =
    let h = number-stands c.requires c.if-y-eq-NUMBER.true in
    rw c.length_of.ensures record { len_in_bounds = h.0; text_bound = h.2 }

pub returns-then-y-eq-NUMBER : goal.returns-then-y-eq-NUMBER
returns-then-y-eq-NUMBER c =
    let e = rw c.length_of.ensures at c.number_at.ensures in
    λ z k h. number_read e.0 e.1 z k

pub returns : goal.returns
returns c = λ z k h. absurd (c.if-y-eq-NUMBER.false h)
