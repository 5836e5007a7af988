use mathlib.Core.Path.{◌∙◌}
use Prim.Native.Nat.{◌+◌}
use native.Mathlib.Numerals.{add-one}
use lib.Seq.{paste-zero, paste-suc}
use Rattle.ground.proofs.BufferLaws.{paste-done}
use native.Mathlib.Omega.{arith}
use Rattle.ground.proofs.put.Goals as goal

pub loop-i-init : goal.loop-i-init
loop-i-init g c = paste-zero c.args.out.now c.args.at c.args.src.now

pub loop-i-preserved : goal.loop-i-preserved
loop-i-preserved g c =
    let a = c.args in
    let i = c.loop-i.i in
    rw (c.loop-i.invariant, c.index-src-i.is, add-one)
    (paste-suc a.out.now a.at a.src.now i c.index-src-i.result (omega arith) (omega arith))

pub returns : goal.returns
returns g c =
    let a = c.args in
    c.loop-i.invariant ∙ paste-done a.out.now a.at a.src.now c.loop-i.i (omega arith)
