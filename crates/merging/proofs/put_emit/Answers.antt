use Rattle.std.proofs.Common.{sym, ⊎_elim}
use Rattle.merging.proofs.RunLaws.{put-none, size-none}
use Rattle.merging.proofs.put_emit.Goals as goal

pub returns-in-Quiet : goal.returns-in-Quiet
returns-in-Quiet c = ⊎_elim (λ q. rw q (size-none _, sym (put-none _ _))) (λ q. rw q (size-none _, sym (put-none _ _)))
    c.in-Quiet.is
