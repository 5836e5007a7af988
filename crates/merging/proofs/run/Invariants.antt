use Rattle.std.proofs.Common.{◌-◌}
use Rattle.tables.specs.Tables.{Gathered}
use Rattle.merging.proofs.RunLaws.{Bounded, SoFar}
use Rattle.merging.proofs.run.Given as goal

abbrev pub invariant-loop-step : goal.invariant-loop-step
invariant-loop-step l =
    Bounded l.initial.out l.course.start l.out l.size (l.course.fuel - l._step) l.w
    × (Gathered l.b.text.now l.b.s.now l.b.grid l.b.numbers.now
    → Gathered l.x.text.now l.x.s.now l.x.grid l.x.numbers.now
    → SoFar l.b.text.now l.b.s.now l.x.s.now l.initial.out l.course.start l.course.begun l.course.fuel l.course.first
    l.out l.size (l.course.fuel - l._step) l.w)
