use Rattle.parts.proofs.TypeLaws.{held-behind, text-limited, text-free}
use Rattle.readers.proofs.ReadLaws.{held, expected}
use Rattle.readers.proofs.CodeLaws.{is-mark}
use native.Mathlib.Omega.{arith}
use Rattle.parts.proofs.types.text_type.Goals as goal

pub text_length-requires : goal.text_length-requires
text_length-requires c =
    held (expected (is-mark "*" (omega arith) (omega arith)) c.expect-length.ensures)
    (held-behind c.requires c.expect-z.ensures)

pub returns-then-z-eq-STAR : goal.returns-then-z-eq-STAR
returns-then-z-eq-STAR c =
    λ m k q. text-limited m k c.expect-z.ensures c.if-z-eq-STAR.true c.expect-length.ensures
    (c.text_length.ensures.reads m q) c.text_length.ensures.reference_value

pub returns : goal.returns
returns c = λ m k q. text-free m k c.expect-z.ensures q c.if-z-eq-STAR.false
