use mathlib.Core.Path.{◌∙◌}
use Rattle.names.specs.References.{bytes_of}
use Rattle.rules.specs.Declarations.{known}
use Rattle.names.proofs.IndexLaws.{at-hand}
use Rattle.names.proofs.find_bare.Goals as goal

pub returns : goal.returns
returns c = (
  c.find.ensures.0,
  λ s k z h. c.find.ensures.1 (known s.decls) k z
      ∙ at-hand s (bytes_of c.args.text.now c.args.name) c.args.home h,
)
