use Rattle.std.proofs.Common.{sym, ap, ◌∙◌}
use Rattle.rules.specs.Enumerations.{fits_in}
use Rattle.holding.specs.declared.Held.{Held}
use Rattle.holding.proofs.HoldLaws.{by, whole}
use Rattle.holding.proofs.fits.Goals as goal

pub returns-in-Fits : goal.returns-in-Fits
returns-in-Fits c =
    let a = c.args in
    λ e b u w.
    let H = whole a.text.now a.s.now e b a.own a.base c.inner_at.result c.inner_at-2.result c.held_inside.result u w
    c.inner_at.ensures c.inner_at-2.ensures c.held_inside.ensures in
    sym (H.says ∙ ap (λ (k : Held). by k (fits_in e b)) c.in-Fits.is)

pub returns-in-Misfit : goal.returns-in-Misfit
returns-in-Misfit c =
    let a = c.args in
    λ e b u w.
    let H = whole a.text.now a.s.now e b a.own a.base c.inner_at.result c.inner_at-2.result c.held_inside.result u w
    c.inner_at.ensures c.inner_at-2.ensures c.held_inside.ensures in
    sym (H.says ∙ ap (λ (k : Held). by k (fits_in e b)) c.in-Misfit.is)

pub returns-in-Deeper : goal.returns-in-Deeper
returns-in-Deeper c =
    let a = c.args in
    λ e b u w.
    let H = whole a.text.now a.s.now e b a.own a.base c.inner_at.result c.inner_at-2.result c.held_inside.result u w
    c.inner_at.ensures c.inner_at-2.ensures c.held_inside.ensures in
    let D = H.inside c.in-Deeper.list c.in-Deeper.of c.in-Deeper.is in
    let T = c.gather-table.ensures in
    c.fits_in.ensures (rw (T.same_text, T.same_records) (T.gathered b w)) e b (rw (T.same_text, T.same_records) D.0)
    (rw (T.same_text, T.same_records) D.1)
    u.deep ∙ sym (H.says ∙ ap (λ (k : Held). by k (fits_in e b)) c.in-Deeper.is)
