use Rattle.std.proofs.Common.{rules, tests}
use mathlib.Core.Path.{sym, ◌∙◌}
use Rattle.std.proofs.lemmas.Iterator.{YieldsList-from_slice}
use Rattle.std.proofs.lemmas.Iterator.Search.{position_from_yields_List}
use Rattle.rules.specs.Bytes.{is}
use Rattle.numbers.proofs.WrittenLaws.{dot-some, dot-none}
use Rattle.numbers.proofs.decimals.Goals as goal

pub returns-in-Some : goal.returns-in-Some
returns-in-Some c =
    let s = c.args.part.now in
    let r = position_from_yields_List (is ".") _ _ c.position.result c.position.ensures.ran
    (YieldsList-from_slice s cc) (λ x b q k. search (rules, tests)) in
    dot-some s c.in-Some.dot (sym c.in-Some.is ∙ r)

pub returns-in-None : goal.returns-in-None
returns-in-None c =
    let s = c.args.part.now in
    let r = position_from_yields_List (is ".") _ _ c.position.result c.position.ensures.ran
    (YieldsList-from_slice s cc) (λ x b q k. search (rules, tests)) in
    dot-none s (sym c.in-None.is ∙ r)
