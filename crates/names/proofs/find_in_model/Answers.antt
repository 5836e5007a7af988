use mathlib.Core.Path.{refl, ◌∙◌}
use mathlib.Core.Option.{none}
use Rattle.names.specs.References.{bytes_of}
use Rattle.rules.specs.Declarations.{known}
use Rattle.names.proofs.IndexLaws.{at-home}
use Rattle.names.proofs.find_in_model.Goals as goal

pub returns : goal.returns
returns c = (
  c.find.ensures.0,
  λ s k z. c.find.ensures.1 (known s.decls) k z
      ∙ at-home s (bytes_of c.args.text.now c.args.name) none 0 refl,
)
