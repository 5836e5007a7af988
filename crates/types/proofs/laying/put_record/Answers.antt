use mathlib.Core.Path.{◌∙◌}
use Rattle.ground.proofs.BufferLaws.{put-fits}
use Rattle.types.proofs.LayLaws.{record-laid}
use Rattle.types.proofs.laying.put_record.Goals as goal

pub returns : goal.returns
returns c =
    let args = c.args in
    record-laid args.out.now _ args.src.now args.at (λ w. c.put_if.ensures ∙ put-fits _ _ _ w)
