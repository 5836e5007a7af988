use Rattle.parts.proofs.TypeLaws.{semicolon, not-alone}
use Rattle.readers.proofs.ReadLaws.{is-no}
use Rattle.rules.proofs.Tests.{fail-l, fail-r}
use mathlib.Core.Logic.{⊎_elim}
use Rattle.parts.proofs.types.after_mandatory.Goals as goal

pub returns : goal.returns
returns c =
    not-alone c.args.scratch.now c.args.based c.args.or_reference
    (λ z k. ⊎_elim (λ h. fail-r c.args.based (is-no semicolon h.1 z k)) (λ h. fail-l _ h) c.else-based.either)
    c.type_by.ensures
