use Rattle.domains.proofs.StageLaws.{mandatory-base}
use native.Mathlib.Omega.{arith}
use Rattle.domains.proofs.is_mandatory.Goals as goal

pub returns-then-base-ne0 : goal.returns-then-base-ne0
returns-then-base-ne0 c =
    λ t ks n l k. mandatory-base ks c.args.base c.args.written t c.args.index.now n l k c.if-written.false
    (let h = c.if-base-ne0.true in omega arith) c.flags_of.result c.flags_of.ensures
    c.is_mandatory.result c.is_mandatory.ensures
