use mathlib.Core.Path.{refl}
use Rattle.records.proofs.NameLaws.{shown-within, starts-at, cut}
use native.Mathlib.Omega.{arith}
use Rattle.records.proofs.show_name.Goals as goal

pub overflow_add-end : goal.overflow_add-end
overflow_add-end c =
    let a = c.args in
    omega (arith, shown-within a.text.now a.book.now a.beginning _ c.name_part-name.ensures)

pub slice_bounds-result-end : goal.slice_bounds-result-end
slice_bounds-result-end c =
    let a = c.args in
    omega (arith, shown-within a.text.now a.book.now a.beginning _ c.name_part-name.ensures)

pub returns : goal.returns
returns c =
    let e = c.name_part-name.ensures in
    let a = c.args in
    record { block = refl; place = omega (arith, starts-at _ _ e); bytes = cut a.text.now _ _ e }
