use mathlib.Core.List.{List}
use Prim.Native.Nat.{◌+◌, ◌-◌}
use Rattle.rules.specs.Declarations.{Def}
use Rattle.names.specs.Index.{Known}
use Rattle.names.specs.Chains.{Chains}
use Rattle.names.specs.References.{bytes_of}
use Rattle.names.proofs.ChainLaws.{Behind}
use Rattle.names.proofs.find.Given as goal

abbrev pub invariant-loop-p : goal.invariant-loop-p
invariant-loop-p l =
    (ks : List Def) → Known l.text ks l.index l.count → Chains ks l.chains
    → Behind ks (bytes_of l.text l.name) l.low l.high l.p

abbrev pub decreases-loop-p : goal.decreases-loop-p
decreases-loop-p l = l.count + 1 - l.p
