use Rattle.attribute_types.proofs.UseLaws.{use-there, use-within}
use native.Mathlib.Omega.{arith}
use Rattle.attribute_types.proofs.kept_by.Goals as goal

pub returns-then-u-count : goal.returns-then-u-count
returns-then-u-count c = (
  omega (arith, c.if-u-count.true),
  λ t b ks ms x total h w. (
    use-there t b ks ms x _ _ total h c.args.q w c.if-q-eq0.false _ c.member_use-u.ensures.0,
    λ z. c.member_use-u.ensures.0,
  ),
)

pub returns-else-u-count : goal.returns-else-u-count
returns-else-u-count c = (
  omega arith,
  λ t b ks ms x total h w.
      let v = use-within t b ks ms x _ _ total h c.args.q w c.if-q-eq0.false _ c.member_use-u.ensures.0 in
      absurd (omega (arith, c.if-u-count.false)),
)
