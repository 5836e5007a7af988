-- 4 by count is computed.
use mathlib.Core.Path.{refl}
use Rattle.computed.specs.AttributeCount.{AttributeCount}
use Rattle.computed.proofs.Computing.{computing}

pub attribute-count : AttributeCount
unfolding computing
attribute-count = record { last = λ c. refl; one_more = λ c. refl; there_already = λ c. refl }
