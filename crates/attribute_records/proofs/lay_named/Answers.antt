use Rattle.attribute_records.proofs.LayLaws.{named-laid, named-over}
use native.Mathlib.Omega.{arith}
use Rattle.attribute_records.proofs.lay_named.Goals as goal

pub returns-then-at-book : goal.returns-then-at-book
returns-then-at-book c =
    λ t b ks ms n y total d h e. named-laid t b ks ms _ n y total h c.args.p d e c.args.at
    c.args.book.now _ _ _ _ c.named_kind.ensures c.number_of.ensures.1 c.length_record-r.ensures c.put.ensures

pub returns-else-at-book : goal.returns-else-at-book
returns-else-at-book c =
    λ t b ks ms n y total d h e. named-over t b ks ms _ n y total h c.args.p d e c.args.at
    c.args.book.now _ (omega (arith, c.if-at-book.false))
