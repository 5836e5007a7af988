use mathlib.Core.Path.{◌≡◌, sym, ap, ◌∙◌}
use mathlib.Core.Option.{some}
use mathlib.Core.List.{List}
use Prim.Native.Nat.{ℕ}
use Rattle.std.specs.Prelude.{Option, Some}
use Rattle.records.specs.Finding.{found_at, record_end}
use Rattle.records.proofs.ListLaws.{listed-first, end-inside, listed_here, listed_next}
use native.Mathlib.Omega.{arith}
use Rattle.lines.proofs.list.Goals as goal

pub loop-end-init : goal.loop-end-init
loop-end-init g c = (omega arith, omega arith, listed-first _)

-- the place that was found
ends : (b : List ℕ) (i e : ℕ) (f : Option ℕ) → f ≡ Some e → found_at f ≡ record_end b i → record_end b i ≡ some e
ends b i e f p q = sym q ∙ ap found_at p

pub put_record-requires : goal.put_record-requires
put_record-requires g c =
    let e = ends _ _ _ _ c.in-Some.is c.end_from.ensures in
    record { number_value = listed_here _ _ _ e _ c.loop-end.invariant.2; beginning_value = e }

pub overflow_add-number : goal.overflow_add-number
overflow_add-number g c =
    omega (arith, end-inside _ _ _ (ends _ _ _ _ c.in-Some.is c.end_from.ensures))

pub loop-end-smaller : goal.loop-end-smaller
loop-end-smaller g c =
    omega (arith, end-inside _ _ _ (ends _ _ _ _ c.in-Some.is c.end_from.ensures))

pub loop-end-preserved : goal.loop-end-preserved
loop-end-preserved g c =
    let e = ends _ _ _ _ c.in-Some.is c.end_from.ensures in
    let w = end-inside _ _ _ e in
    (w.1, omega (arith, w), listed_next _ _ _ e _ c.loop-end.invariant.2)
