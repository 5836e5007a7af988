use native.Mathlib.Omega.{arith}
use mathlib.Core.Path.{sym, ◌∙◌}
use Prim.Native.Nat.{◌+◌}
use lib.ListN.{length}
use Rattle.enumerations.proofs.WrittenLaws.{size-stands, not-stands}
use Rattle.enumerations.proofs.size_of.Goals as goal

pub returns-then-is_opening : goal.returns-then-is_opening
returns-then-is_opening c =
    λ t e h. size-stands t c.args.s.now e c.args.at h c.list_end-e.result
    (c.list_end-e.ensures.0 (length c.args.s.now + 1) (omega arith))

pub returns : goal.returns
returns c =
    λ t e h. not-stands t c.args.s.now e c.args.at h (sym c.is_opening.ensures.value ∙ c.if-is_opening.false)
