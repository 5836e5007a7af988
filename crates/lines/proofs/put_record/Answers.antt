use Rattle.records.proofs.ListLaws.{end-inside}
use native.Mathlib.Omega.{arith}
use Rattle.lines.proofs.put_record.Goals as goal

pub bounds-book-beginning : goal.bounds-book-beginning
bounds-book-beginning g c =
    omega (arith, end-inside _ _ _ c.requires.beginning_value)

pub slice_bounds-record-count : goal.slice_bounds-record-count
slice_bounds-record-count g c =
    omega (arith, end-inside _ _ _ c.requires.beginning_value)

pub slice_bounds-record-start : goal.slice_bounds-record-start
slice_bounds-record-start g c =
    omega (arith, end-inside _ _ _ c.requires.beginning_value)

pub slice_bounds-record-end : goal.slice_bounds-record-end
slice_bounds-record-end g c =
    omega (arith, end-inside _ _ _ c.requires.beginning_value)
