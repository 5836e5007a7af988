use mathlib.Core.Path.{subst}
use Prim.Native.Nat.{ℕ}
use Rattle.fitting.specs.Values.{Typed}
use Rattle.members.proofs.HeldLaws.{indexed}
use Rattle.rules.specs.Judge.{attribute_use}
use Rattle.names.specs.Index.{entry}
use Rattle.rules.specs.Declarations.{ty_of}
use Rattle.fitting.proofs.ValueLaws.{typed-valued}
use Rattle.attribute_types.proofs.UseLaws.{naming-none, naming-there, own-in-place, own-named}
use native.Mathlib.Omega.{arith}
use Rattle.attribute_types.proofs.own_type.Goals as goal

pub returns-then-named-eq0 : goal.returns-then-named-eq0
returns-then-named-eq0 c =
    λ t ks ms n y total w b r l e i f v.
    let k = naming-none c.args.target c.args.named w i ks f c.if-named-eq0.true in (
      own-in-place w (entry ks c.args.target) b _ k (c.meant.ensures w (entry ks c.args.target) (ty_of b) e
          (c.unit_number.ensures t ks n l (indexed r.held).known) v),
      λ z. absurd (omega (arith, c.if-named-eq0.true)),
    )

pub returns : goal.returns
returns c =
    λ t ks ms n y total w b r l e i f v.
    let a = r.held.all_defs in
    let (k, m) = naming-there c.args.target c.args.named w i (omega (arith, c.if-named-eq0.false)) in
    let q = own-named t c.args.front.now ks c.args.named w b c.named_type.result (omega arith)
    c.if-named-eq0.false k (λ d p. c.named_type.ensures t ks ms n y total d r p) in
    let u = subst (λ (j : ℕ). Typed t c.args.front.now (ty_of (attribute_use w (entry ks j) b))
    c.named_type.result) m q in (
      typed-valued t c.args.front.now (ty_of (attribute_use w (entry ks c.args.target) b))
          c.named_type.result u,
      λ z. u,
    )
