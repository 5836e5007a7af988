use mathlib.Core.Path.{refl}
use mathlib.Core.Option.{none}
use Rattle.names.proofs.BaseLaws.{bare-inside, two-inside, three-inside, bare-named, two-named, two-other}
use Rattle.names.proofs.BaseLaws.{three-named, three-other}
use native.Mathlib.Omega.{arith}
use Rattle.names.proofs.resolve.Goals as goal

pub find_bare-requires : goal.find_bare-requires
find_bare-requires c =
    (bare-inside c.args.text.now c.args.r _ c.in-Bare.is c.requires.1, omega arith, omega arith)

pub same_name-requires : goal.same_name-requires
same_name-requires c =
    ((two-inside c.args.text.now c.args.r _ _ c.in-InModel.is c.requires.1).0, c.requires.0)

pub find_in_model-requires : goal.find_in_model-requires
find_in_model-requires c =
    ((two-inside c.args.text.now c.args.r _ _ c.in-InModel.is c.requires.1).1, omega arith, omega arith)

pub returns-then-same_name : goal.returns-then-same_name
returns-then-same_name c = (
  c.find_in_model.ensures.0,
  λ s k z h m. two-named c.args.text.now c.args.r s _ c.args.model _ m _
      c.same_name.ensures _ c.in-InModel.is c.if-same_name.true (c.find_in_model.ensures.1 s k z),
)

pub same_name-requires-in-InTopic : goal.same_name-requires-in-InTopic
same_name-requires-in-InTopic c =
    ((three-inside c.args.text.now c.args.r _ _ _ c.in-InTopic.is c.requires.1).0, c.requires.0)

pub find_in_topic-requires : goal.find_in_topic-requires
find_in_topic-requires c =
    let (m, p, n) = three-inside c.args.text.now c.args.r _ _ _ c.in-InTopic.is c.requires.1 in
    (p, n, omega arith, omega arith)

pub returns-then-same_name-2 : goal.returns-then-same_name-2
returns-then-same_name-2 c = (
  c.find_in_topic.ensures.0,
  λ s k z h m. three-named c.args.text.now c.args.r s _ c.args.model _ m _
      c.same_name-in-InTopic.ensures _ _ c.in-InTopic.is c.if-same_name-2.true (c.find_in_topic.ensures.1 s k z),
)

pub returns-in-Bare : goal.returns-in-Bare
returns-in-Bare c = (
  c.find_bare.ensures.0,
  λ s k z h m.
      bare-named c.args.text.now c.args.r s _ _ c.in-Bare.is (c.find_bare.ensures.1 s k z h),
)

pub returns-else-same_name : goal.returns-else-same_name
returns-else-same_name c = (
  omega arith,
  λ s k z h m. two-other c.args.text.now c.args.r s none c.args.model _ m _
      c.same_name.ensures _ c.in-InModel.is c.if-same_name.false refl,
)

pub returns-else-same_name-2 : goal.returns-else-same_name-2
returns-else-same_name-2 c = (
  omega arith,
  λ s k z h m. three-other c.args.text.now c.args.r s none c.args.model _ m _
      c.same_name-in-InTopic.ensures _ _ c.in-InTopic.is c.if-same_name-2.false refl,
)
