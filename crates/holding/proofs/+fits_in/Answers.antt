use Rattle.std.proofs.Common.{◌≡◌, Bool, not, ◌||◌, sym, ap, ◌∙◌, arith, rules}
use Rattle.rules.specs.Enumerations.{final, fits_in}
use Rattle.enumerations.specs.Lists.{final_of}
use Rattle.holding.specs.declared.Held.{Held}
use Rattle.holding.proofs.HoldLaws.{by, stepped, finished}
use Rattle.holding.proofs.+fits_in.Goals as goal
use Rattle.holding.proofs.+fits_in.Goals.{then-left-eq0-via-then-left-eq0}
use Rattle.holding.proofs.+fits_in.Goals.{then-left-eq0-via-else-left-eq0+then-not-fits_in}

pub loop-held-preserved-in-Fits : goal.loop-held-preserved-in-Fits
loop-held-preserved-in-Fits t' c =
    let t = c.args.table.now in
    λ G e b u w d.
    let S = stepped t.text.now t.s.now c.args.left e b c.loop-held.at c.past_inner-at.result c.args.base
    c.held_element-held.result (c.loop-held.invariant G e b u w d)
    (sym c.is_element.ensures.value ∙ c.loop-held-test.true)
    w (c.held_element-held.ensures G) c.past_inner-at.ensures.0 in
    S.goes (ap (λ (k : Held). by k (fits_in S.i S.j)) c.in-Fits.is)

pub returns-in-Misfit : goal.returns-in-Misfit
returns-in-Misfit t' c =
    let t = c.args.table.now in
    λ G e b u w d.
    let S = stepped t.text.now t.s.now c.args.left e b c.loop-held.at c.past_inner-at.result c.args.base
    c.held_element-held.result (c.loop-held.invariant G e b u w d)
    (sym c.is_element.ensures.value ∙ c.loop-held-test.true)
    w (c.held_element-held.ensures G) c.past_inner-at.ensures.0 in
    sym (S.stops (ap (λ (k : Held). by k (fits_in S.i S.j)) c.in-Misfit.is))

pub returns-then-left-eq0 : goal.returns-then-left-eq0
returns-then-left-eq0 t' c =
    let t = c.args.table.now in
    λ G e b u w d.
    let S = stepped t.text.now t.s.now c.args.left e b c.loop-held.at c.past_inner-at.result c.args.base
    c.held_element-held.result (c.loop-held.invariant G e b u w d)
    (sym c.is_element.ensures.value ∙ c.loop-held-test.true)
    w (c.held_element-held.ensures G) c.past_inner-at.ensures.0 in
    let D = S.deeper c.in-Deeper.own c.in-Deeper.base c.in-Deeper.is in
    elim c.then-left-eq0.branch [
      | then-left-eq0-via-then-left-eq0 v ↦ absurd (omega (arith, D.2, v.if-left-eq0.true))
      | then-left-eq0-via-else-left-eq0+then-not-fits_in v ↦
          sym (S.stops (ap (λ (k : Held). by k (fits_in S.i S.j)) c.in-Deeper.is
          ∙ sym (v.fits_in.ensures G S.i S.j D.0 D.1 D.3) ∙ v.if-not-fits_in.true))
    ]

pub loop-held-preserved : goal.loop-held-preserved
loop-held-preserved t' c =
    let t = c.args.table.now in
    λ G e b u w d.
    let S = stepped t.text.now t.s.now c.args.left e b c.loop-held.at c.past_inner-at.result c.args.base
    c.held_element-held.result (c.loop-held.invariant G e b u w d)
    (sym c.is_element.ensures.value ∙ c.loop-held-test.true)
    w (c.held_element-held.ensures G) c.past_inner-at.ensures.0 in
    let D = S.deeper c.in-Deeper.own c.in-Deeper.base c.in-Deeper.is in
    S.goes (ap (λ (k : Held). by k (fits_in S.i S.j)) c.in-Deeper.is
    ∙ sym (c.fits_in.ensures G S.i S.j D.0 D.1 D.3) ∙ c.if-not-fits_in.false)

pub returns-then-own : goal.returns-then-own
returns-then-own t' c =
    let t = c.args.table.now in
    λ G e b u w d.
    let F = finished t.text.now t.s.now c.args.left e b c.loop-held.at (c.loop-held.invariant G e b u w d)
    (sym c.is_element.ensures.value ∙ c.loop-held-test.false) in
    c.if-own.true ∙ ap (λ (z : Bool). z || not (final b)) (sym c.if-own.true ∙ u.is_final) ∙ sym F

pub returns-else-own : goal.returns-else-own
returns-else-own t' c =
    let t = c.args.table.now in
    λ G e b u w d.
    let F = finished t.text.now t.s.now c.args.left e b c.loop-held.at (c.loop-held.invariant G e b u w d)
    (sym c.is_element.ensures.value ∙ c.loop-held-test.false) in
    let f : c.is_some_and.result ≡ final_of c.args.base = search rules in
    ap not (f ∙ w.is_final) ∙ ap (λ (z : Bool). z || not (final b)) (sym c.if-own.false ∙ u.is_final) ∙ sym F
