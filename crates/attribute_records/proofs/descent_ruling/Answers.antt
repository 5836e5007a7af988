use mathlib.Core.Path.{◌∙◌}
use lib.ListN.{take}
use borrow.Author.Tests.{lt-ltb}
use Rattle.rules.specs.Declarations.{ty_of, is_found}
use Rattle.rules.specs.Judge.{naming, or_no_attribute}
use Rattle.fitting.proofs.ValueLaws.{typed-valued}
use Rattle.written.proofs.WrittenLaws.{same_kind}
use Rattle.attribute_types.proofs.UseLaws.{fair-naming}
use Rattle.attribute_records.proofs.LayLaws.{descent-fine, descent-other}
use Rattle.attribute_records.proofs.LayLaws.{descent-unfit, any-fair}
use native.Mathlib.Omega.{arith}
use Rattle.attribute_records.proofs.descent_ruling.Goals as goal

pub returns-then-is_descendant : goal.returns-then-is_descendant
returns-then-is_descendant c =
    λ ks ms y total d o r e m eb f eu to tv.
    let ei = c.differ.ensures (ty_of (naming d)) (ty_of (or_no_attribute o).use_of)
    (typed-valued c.args.text.now (take c.args.st.extent.used c.args.book.now) (ty_of (naming d)) c.args.u.over.own to)
    (typed-valued c.args.text.now (take c.args.st.extent.used c.args.book.now) (ty_of (or_no_attribute o).use_of)
    c.args.u.over.base tv) in
    let f1 = eb ∙ lt-ltb 0 c.args.u.base (omega (arith, c.if-u-eq0.false)) in
    let h = same_kind c.differ.result _ _ ei c.if-differ.false in
    let ej = c.is_descendant.ensures c.args.text.now (take c.args.st.extent.used c.args.book.now) ks ms y total d
    (or_no_attribute o).use_of r e eu h in
    descent-fine c.args.place (is_found o) (naming d)
    (or_no_attribute o).use_of f1 c.differ.result ei c.if-differ.false
    c.is_descendant.result ej c.if-is_descendant.true

pub returns-then-fits_in_book : goal.returns-then-fits_in_book
returns-then-fits_in_book c =
    λ ks ms y total d o r e m eb f eu to tv.
    let ei = c.differ.ensures (ty_of (naming d)) (ty_of (or_no_attribute o).use_of)
    (typed-valued c.args.text.now (take c.args.st.extent.used c.args.book.now) (ty_of (naming d)) c.args.u.over.own to)
    (typed-valued c.args.text.now (take c.args.st.extent.used c.args.book.now) (ty_of (or_no_attribute o).use_of)
    c.args.u.over.base tv) in
    let f1 = eb ∙ lt-ltb 0 c.args.u.base (omega (arith, c.if-u-eq0.false)) in
    let h = same_kind c.differ.result _ _ ei c.if-differ.false in
    let ej = c.is_descendant.ensures c.args.text.now (take c.args.st.extent.used c.args.book.now) ks ms y total d
    (or_no_attribute o).use_of r e eu h in
    let el = c.fits_in_book.ensures (ty_of (naming d)) (ty_of (or_no_attribute o).use_of)
    (fair-naming c.args.text.now d (r.types c.args.u.named d e))
    (any-fair c.args.text.now o f) to tv h in
    descent-other c.args.place (is_found o) (naming d)
    (or_no_attribute o).use_of f1 c.differ.result ei c.if-differ.false
    c.is_descendant.result ej c.if-is_descendant.false c.fits_in_book.result el c.if-fits_in_book.true

pub returns : goal.returns
returns c =
    λ ks ms y total d o r e m eb f eu to tv.
    let ei = c.differ.ensures (ty_of (naming d)) (ty_of (or_no_attribute o).use_of)
    (typed-valued c.args.text.now (take c.args.st.extent.used c.args.book.now) (ty_of (naming d)) c.args.u.over.own to)
    (typed-valued c.args.text.now (take c.args.st.extent.used c.args.book.now) (ty_of (or_no_attribute o).use_of)
    c.args.u.over.base tv) in
    let f1 = eb ∙ lt-ltb 0 c.args.u.base (omega (arith, c.if-u-eq0.false)) in
    let h = same_kind c.differ.result _ _ ei c.if-differ.false in
    let ej = c.is_descendant.ensures c.args.text.now (take c.args.st.extent.used c.args.book.now) ks ms y total d
    (or_no_attribute o).use_of r e eu h in
    let el = c.fits_in_book.ensures (ty_of (naming d)) (ty_of (or_no_attribute o).use_of)
    (fair-naming c.args.text.now d (r.types c.args.u.named d e))
    (any-fair c.args.text.now o f) to tv h in
    descent-unfit c.args.place (is_found o) (naming d)
    (or_no_attribute o).use_of f1 c.differ.result ei c.if-differ.false
    c.is_descendant.result ej c.if-is_descendant.false c.fits_in_book.result el c.if-fits_in_book.false
