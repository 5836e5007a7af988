use Rattle.attribute_records.proofs.LayLaws.{kind-domain, kind-structure}
use Rattle.attribute_records.proofs.named_kind.Goals as goal

pub returns-then-sort_of-eq-DOMAIN : goal.returns-then-sort_of-eq-DOMAIN
returns-then-sort_of-eq-DOMAIN c = λ t d s. kind-domain _ d (c.sort_of.ensures t d s) c.if-sort_of-eq-DOMAIN.true

pub returns : goal.returns
returns c = λ t d s. kind-structure _ d (c.sort_of.ensures t d s) c.if-sort_of-eq-DOMAIN.false
