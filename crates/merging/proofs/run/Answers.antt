use Rattle.std.proofs.Common.{◌≡◌, not, ◌+◌, ◌-◌, refl, sym, ap, ◌∙◌, arith}
use borrow.Author.Tests.{not-true, not-false}
use Rattle.merging.specs.Steps.{goes, look_move}
use Rattle.merging.specs.Walks.{top_of}
use Rattle.merging.proofs.RunLaws.{bounded-step, far-start, far-step, far-barred, far-done, far-out, goes-on}
use Rattle.merging.proofs.run.Goals as goal
use Rattle.merging.proofs.run.Goals.{in-Barred, in_default}

pub loop-step-init : goal.loop-step-init
loop-step-init c =
    let a = c.args in
    let r = a.course in
    let z : r.fuel - 0 ≡ r.fuel = omega arith in (
      record {
        same_size = refl;
        fewer = c.requires.2;
        deep = c.requires.1;
        room = omega (arith, c.requires.3);
      },
      λ G H. rw z (far-start a.b.now.text.now a.b.now.s.now a.x.now.s.now a.out.now r.start r.begun r.fuel r.first),
    )

pub returns-then-w-eq0 : goal.returns-then-w-eq0
returns-then-w-eq0 c =
    let a = c.args in
    let r = a.course in
    let v = c.loop-step in
    λ G H. far-done a.b.now.text.now a.b.now.s.now a.x.now.s.now a.out.now r.start r.begun r.fuel r.first v.out v.size
    (r.fuel - v._step) v.w (v.invariant.1 G H) c.if-w-eq0.true

pub top-requires : goal.top-requires
top-requires c = (omega (arith, c.if-w-eq0.false), c.loop-step.invariant.0.deep)

pub returns-then-matches : goal.returns-then-matches
returns-then-matches c =
    let a = c.args in
    let r = a.course in
    let v = c.loop-step in
    let g : c.match-matches.matches ≡ not (goes c.look-m.result.emit) = elim c.match-matches.branch [
      | in-Barred w ↦ w.matches-is ∙ rw w.in-Barred.is refl
      | in_default w ↦ w.matches-is ∙ ap not (sym (goes-on _ w.in_default.not-Barred))
    ] in
    λ G H.
    let e : c.look-m.result ≡ look_move a.b.now.text.now a.b.now.s.now a.x.now.s.now (top_of v.w) =
    c.look-m.ensures G H ∙ ap (look_move a.b.now.text.now a.b.now.s.now a.x.now.s.now) c.top.ensures in
    far-barred a.b.now.text.now a.b.now.s.now a.x.now.s.now a.out.now r.start r.begun r.fuel r.first v.out v.size
    (r.fuel - v._step) v.w (v.invariant.1 G H) (omega (arith, c.loop-step-test.true)) c.if-w-eq0.false c.look-m.result e
    (not-true _ (sym g ∙ c.if-matches.true))

pub put_emit-size-requires : goal.put_emit-size-requires
put_emit-size-requires c = (
  omega (arith, c.loop-step.invariant.0.room),
  omega (arith, c.loop-step.invariant.0.room, c.loop-step.invariant.0.fewer),
)

pub moved-w-requires : goal.moved-w-requires
moved-w-requires c = (omega (arith, c.if-w-eq0.false), c.loop-step.invariant.0.deep)

pub loop-step-preserved : goal.loop-step-preserved
loop-step-preserved c =
    let a = c.args in
    let r = a.course in
    let v = c.loop-step in
    let t = c.loop-step-test.true in
    let q : r.fuel - (v._step + 1) ≡ r.fuel - v._step - 1 = omega arith in
    let g : c.match-matches.matches ≡ not (goes c.look-m.result.emit) = elim c.match-matches.branch [
      | in-Barred w ↦ w.matches-is ∙ rw w.in-Barred.is refl
      | in_default w ↦ w.matches-is ∙ ap not (sym (goes-on _ w.in_default.not-Barred))
    ] in (
      rw q (bounded-step a.out.now r.start v.out v.size (r.fuel - v._step) v.w v.invariant.0 (omega (arith, t))
          c.look-m.result.emit c.put_emit-size.new.out c.put_emit-size.result c.moved-w.result
          c.put_emit-size.ensures.0 c.put_emit-size.ensures.1 c.moved-w.ensures.1),
      λ G H.
          let e : c.look-m.result ≡ look_move a.b.now.text.now a.b.now.s.now a.x.now.s.now (top_of v.w) =
          c.look-m.ensures G H ∙ ap (look_move a.b.now.text.now a.b.now.s.now a.x.now.s.now) c.top.ensures in
          rw q
          (far-step a.b.now.text.now a.b.now.s.now a.x.now.s.now a.out.now r.start r.begun r.fuel r.first v.out v.size
          (r.fuel - v._step) v.w (v.invariant.1 G H) (omega (arith, t)) c.if-w-eq0.false c.look-m.result e
          v.invariant.0.same_size (not-false _ (sym g ∙ c.if-matches.false))
          c.put_emit-size.new.out c.put_emit-size.result c.moved-w.result
          c.put_emit-size.ensures.0 c.put_emit-size.ensures.1 c.moved-w.ensures.0),
    )

pub returns-after-loop-step : goal.returns-after-loop-step
returns-after-loop-step c =
    let a = c.args in
    let r = a.course in
    let v = c.loop-step in
    λ G H. far-out a.b.now.text.now a.b.now.s.now a.x.now.s.now a.out.now r.start r.begun r.fuel r.first v.out v.size
    (r.fuel - v._step) v.w (v.invariant.1 G H) (omega (arith, c.loop-step-test.false))
