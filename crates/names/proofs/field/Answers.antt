use mathlib.Core.Path.{◌∙◌}
use Prim.Native.Nat.{◌+◌, ◌*◌}
use native.Mathlib.Omega.{arith}
use Rattle.names.proofs.IndexLaws.{at_row}
use Rattle.names.specs.Index.{definition_width}
use Rattle.names.proofs.field.Goals as goal

pub returns : goal.returns
returns c = (
  c.from.ensures ∙ at_row definition_width c.args.index.now c.args.p c.args.f c.requires.0,
  omega (arith, c.type_inv.index (c.args.p * definition_width + c.args.f)),
)
