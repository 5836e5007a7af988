use Prim.Native.Nat.{◌+◌}
use Rattle.std.specs.Prelude.{Ok, Err}
use Rattle.std.proofs.lemmas.Result.{err_from_is_err_and}
use Rattle.state.proofs.RoomLaws.{definition-rows, attribute_rows}
use Rattle.attribute_names.proofs.BondLaws.{slot_is, name-is}
use native.Mathlib.Omega.{arith}
use Rattle.attribute_names.proofs.slot_of.Goals as goal

pub returns-in_err-name_ruling : goal.returns-in_err-name_ruling
returns-in_err-name_ruling c =
    let e = err_from_is_err_and c.from_residual.result c.from_residual.ensures.1 in
    rw (e.1, e.2) (
      tt,
      λ q d n p w o rs k ec g. name-is k ec g c.find_attribute-slot.result c.find_attribute-slot.ensures.1
          c.number_of-class.result c.number_of-class.ensures.1 (Err c.in_err-name_ruling.field-0.0)
          c.in_err-name_ruling.ensures.1,
    )

pub returns : goal.returns
returns c = (
  record { within = c.find_attribute-slot.ensures.0; few = c.in_ok-name_ruling.ensures.0 },
  λ q d n p w o rs k ec g. (
    name-is k ec g c.find_attribute-slot.result c.find_attribute-slot.ensures.1
        c.number_of-class.result c.number_of-class.ensures.1 (Ok tt) c.in_ok-name_ruling.ensures.1,
    slot_is k ec g c.find_attribute-slot.result c.find_attribute-slot.ensures.1,
  ),
)
