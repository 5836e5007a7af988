use mathlib.Core.Path.{◌≡◌, sym, ap, ◌∙◌}
use native.Mathlib.Omega.{arith}
use Rattle.rules.specs.Show.{find_record}
use Rattle.records.specs.Finding.{found_at}
use Rattle.records.proofs.ListLaws.{listed-first, listed_here, listed_next, listed-none}
use Rattle.records.proofs.find_record.Goals as goal

pub loop-init : goal.loop-init
loop-init c = listed-first c.args.book.now

pub returns-in_err-at : goal.returns-in_err-at
returns-in_err-at c =
    let f = sym c.record_end.ensures ∙ ap found_at c.in_err-at.was in
    rw c.from_residual.ensures (sym (listed-none _ _ _ _ f c.loop.invariant (omega arith)))

pub loop-preserved : goal.loop-preserved
loop-preserved c =
    listed_next _ _ _ (sym c.record_end.ensures ∙ ap found_at c.in_ok-at.was) _ c.loop.invariant

pub returns-in_err-record_end : goal.returns-in_err-record_end
returns-in_err-record_end c =
    let f = sym c.record_end-2.ensures ∙ ap found_at c.in_err-record_end.was in
    rw c.from_residual-in_err-record_end.ensures (sym (listed-none _ _ _ _ f c.loop.invariant (omega arith)))

pub returns : goal.returns
returns c =
    let e : c.loop.counter ≡ c.args.k = omega arith in
    let f = sym c.record_end-2.ensures ∙ ap found_at c.in_ok-record_end.was in
    sym (ap (find_record c.args.book.now) (sym e) ∙ listed_here _ _ _ f _ c.loop.invariant)
