use mathlib.Core.Path.{◌≡◌}
use Prim.Native.Nat.{◌<◌}
use lib.ListN.{drop}
use Rattle.names.specs.Chains.{key_from, key_of, keys}
use Rattle.names.proofs.key_of.Given as goal

abbrev pub invariant-loop-b : goal.invariant-loop-b
invariant-loop-b l = (l.k < keys) × (key_from l.k (drop l.b-index l.b-items) ≡ key_of l.b-items)
