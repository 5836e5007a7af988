use Rattle.parts.proofs.TypeLaws.{type-text, type-numeric, type-range}
use mathlib.Core.Bool.{true, false}
use mathlib.Core.Path.{refl}
use native.Mathlib.Omega.{arith}
use Rattle.parts.proofs.types.plain_type.Goals as goal

pub returns-in-79 : goal.returns-in-79
returns-in-79 c = λ n. type-text false c.in-79.is (c.text_type.ensures false c.in-79.is refl)

pub returns-in-80 : goal.returns-in-80
returns-in-80 c = λ n. type-text true c.in-80.is (c.text_type-in-80.ensures true c.in-80.is refl)

pub returns-in-81 : goal.returns-in-81
returns-in-81 c = λ n. type-numeric c.in-81.is c.numeric_type.ensures

pub returns-in_default : goal.returns-in_default
returns-in_default c =
    λ n. type-range (omega arith) (omega arith) (omega arith) n c.range_type.ensures
