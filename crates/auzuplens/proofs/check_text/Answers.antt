use Rattle.running.proofs.EndLaws.{too_long}
use native.Mathlib.Omega.{arith}
use Rattle.auzuplens.proofs.check_text.Goals as goal

pub returns-then-n-gt-LARGE : goal.returns-then-n-gt-LARGE
returns-then-n-gt-LARGE c = too_long _ _ _ (omega arith) c.clear.ensures
