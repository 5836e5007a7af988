use mathlib.Core.Path.{refl}
use Rattle.names.specs.References.{bytes_of}
use Rattle.rules.specs.Declarations.{known}
use Rattle.names.proofs.BaseLaws.{topic-none, topic-other, topic-found}
use native.Mathlib.Omega.{arith}
use Rattle.names.proofs.find_in_topic.Goals as goal

pub returns-then-p-eq0 : goal.returns-then-p-eq0
returns-then-p-eq0 c = (
  omega arith,
  λ s k z. topic-none c.args.text.now s c.args.index.now c.args.count k
      (bytes_of c.args.text.now c.args.name) _ _
      (c.find_in_model-p.ensures.1 s k z) c.if-p-eq0.true,
)

pub returns-then-sort_of-eq-TOPIC : goal.returns-then-sort_of-eq-TOPIC
returns-then-sort_of-eq-TOPIC c = (
  c.find.ensures.0,
  λ s k z. topic-found c.args.text.now s c.args.index.now c.args.count k
      (bytes_of c.args.text.now c.args.name) _ _ (c.find_in_model-p.ensures.1 s k z) c.if-p-eq0.false
      c.find_in_model-p.ensures.0 _ (c.sort_of.ensures c.args.text.now) c.if-sort_of-eq-TOPIC.true _ c.find.result _
      (c.number_of-home.ensures.1 c.args.text.now) refl (c.find.ensures.1 (known s.decls) k z),
)

pub returns : goal.returns
returns c = (
  omega arith,
  λ s k z. topic-other c.args.text.now s c.args.index.now c.args.count k
      (bytes_of c.args.text.now c.args.name) _ _ (c.find_in_model-p.ensures.1 s k z) c.if-p-eq0.false
      c.find_in_model-p.ensures.0 _ (c.sort_of.ensures c.args.text.now) c.if-sort_of-eq-TOPIC.false,
)
