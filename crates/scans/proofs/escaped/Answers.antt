use Rattle.std.proofs.Common.{rules}
use Rattle.scans.proofs.EscapeLaws.{escape_short}
use Rattle.scans.proofs.escaped.Goals as goal

pub returns-in_default-2 : goal.returns-in_default-2
returns-in_default-2 c = search (rules, escape_short)
