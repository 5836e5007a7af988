use mathlib.Core.Path.{sym, ◌∙◌}
use Rattle.rules.specs.Types.{kind_of}
use Rattle.rules.specs.Judge.{domain_type}
use Rattle.rules.proofs.Tests.{not-fails, not_is}
use Rattle.types.proofs.RuleLaws.{ordered_of}
use Rattle.types.proofs.MeaningLaws.{plain-valued}
use Rattle.written.proofs.WrittenLaws.{plain-17, plain-22, plain-fine, same_kind}
use Rattle.written.proofs.plain_ruling.Goals as goal

pub returns-then-not-fits : goal.returns-then-not-fits
returns-then-not-fits c =
    let a = c.args in
    let d = c.if-differ.false in
    λ t v z b m g f x y l.
    let e = c.in_ok-type_ruling.ensures v m g in
    let i = c.differ.ensures (domain_type v z b) b x y in
    let k = same_kind c.differ.result (kind_of (domain_type v z b)) (kind_of b) i d in
    let o = ordered_of a.over.based a.w.place v _ (sym e) in
    plain-17 a.over.based a.w.place v z b _ e (not-fails c.if-not-over.false) c.differ.result i d c.fits.result
    (c.fits.ensures ∙ plain-valued a.over.own a.over.base t v z b o f x y k) c.if-not-fits.true

pub returns-then-not-over-2 : goal.returns-then-not-over-2
returns-then-not-over-2 c =
    let a = c.args in
    let d = c.if-differ.false in
    λ t v z b m g f x y l.
    let e = c.in_ok-type_ruling.ensures v m g in
    let i = c.differ.ensures (domain_type v z b) b x y in
    let k = same_kind c.differ.result (kind_of (domain_type v z b)) (kind_of b) i d in
    let o = ordered_of a.over.based a.w.place v _ (sym e) in
    plain-22 a.over.based a.w.place v z b _ e (not-fails c.if-not-over.false) c.differ.result i d c.fits.result
    (c.fits.ensures ∙ plain-valued a.over.own a.over.base t v z b o f x y k) c.if-not-fits.false a.over.keeps l
    (not_is c.if-not-over-2.true)

pub returns : goal.returns
returns c =
    let a = c.args in
    let d = c.if-differ.false in
    λ t v z b m g f x y l.
    let e = c.in_ok-type_ruling.ensures v m g in
    let i = c.differ.ensures (domain_type v z b) b x y in
    let k = same_kind c.differ.result (kind_of (domain_type v z b)) (kind_of b) i d in
    let o = ordered_of a.over.based a.w.place v _ (sym e) in
    plain-fine a.over.based a.w.place v z b _ e (not-fails c.if-not-over.false) c.differ.result i d c.fits.result
    (c.fits.ensures ∙ plain-valued a.over.own a.over.base t v z b o f x y k) c.if-not-fits.false a.over.keeps l
    (not-fails c.if-not-over-2.false)
