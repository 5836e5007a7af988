use Rattle.parts.proofs.TypeLaws.{with-mandatory, not-mandatory}
use Rattle.readers.proofs.ReadLaws.{held, expected}
use Rattle.readers.proofs.CodeLaws.{is_word_lem}
use Rattle.rules.specs.Bytes.{ascii}
use mathlib.Core.Path.{refl}
use Rattle.parts.proofs.types.read_written.Goals as goal

pub after_mandatory-m-requires : goal.after_mandatory-m-requires
after_mandatory-m-requires c =
    record {
      held = held (expected (is_word_lem (ascii "MANDATORY") 78 refl) c.expect-z.ensures) c.requires.held;
      text_in_bounds = c.requires.text_in_bounds;
    }

pub returns-then-y-ne-MANDATORY : goal.returns-then-y-ne-MANDATORY
returns-then-y-ne-MANDATORY c =
    rw c.with_place.ensures
    (not-mandatory c.args.scratch.now c.args.based c.args.or_reference c.if-y-ne-MANDATORY.true c.type_by-m.ensures)

pub returns : goal.returns
returns c =
    rw c.with_place-2.ensures
    (with-mandatory c.args.scratch.now c.args.based c.args.or_reference c.if-y-ne-MANDATORY.false
    c.expect-z.ensures c.after_mandatory-m.ensures)
