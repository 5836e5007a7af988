use Rattle.std.proofs.Common.{◌≡◌, sym, ◌∙◌, rules}
use Rattle.enumerations.proofs.ListLaws.{opening-in}
use Rattle.enumerations.proofs.WrittenLaws.{not-stands}
use Rattle.tables.proofs.CheckedLaws.{repeated, whole}
use native.Mathlib.Omega.{arith}
use Rattle.tables.proofs.twice.entered.Goals as goal

pub in_list-requires : goal.in_list-requires
in_list-requires c = (
  record { some = c.requires.0.some; fits = omega (arith, c.requires.0.fits, c.clear.auto.table) },
  omega (arith, opening-in _ _ (sym c.is_opening.ensures.value ∙ c.if-is_opening.true)),
  c.requires.1,
)

pub returns-then-is_opening : goal.returns-then-is_opening
returns-then-is_opening c =
    let a = c.args in
    let e : c.map.result ≡ repeated c.in_list.result = search rules in
    whole a.text.now a.s.now a.g c.clear.new.table c.in_list.new.table a.at
    (record { some = c.requires.0.some; fits = omega (arith, c.requires.0.fits, c.clear.auto.table) }) c.requires.2
    c.clear.ensures c.in_list.result c.in_list.ensures.first c.map.result e

pub returns : goal.returns
returns c = λ e u. not-stands _ _ e _ u (sym c.is_opening.ensures.value ∙ c.if-is_opening.false)
