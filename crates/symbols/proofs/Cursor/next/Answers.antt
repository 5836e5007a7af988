use mathlib.Core.Path.{refl, sym, ◌∙◌}
use Prim.Native.Nat.{◌<◌}
use native.Mathlib.Nat.{add-zero, zero-add}
use native.Mathlib.Omega.{arith}
use lib.ListN.{get_or}
use Rattle.symbols.proofs.GapLaws.{comment-ahead}
use Rattle.symbols.proofs.BeginLaws.{next-end, next-letter, next-digit, sign-no-digit, next-sign}
use Rattle.symbols.proofs.BeginLaws.{next-quote, next-mark, next-none, next-blank, next-line, next-passed}
use Rattle.symbols.proofs.BeginLaws.{next-open, next-slash}
use Rattle.symbols.proofs.Cursor.next.Goals as goal

pub number-requires : goal.number-requires
number-requires c = (omega arith, refl)

pub signed-requires : goal.signed-requires
signed-requires c =
    let t = c.args.text.now in
    let h = c.loop-at-test.true in
    let l : get_or t c.loop-at.at 0 < 256 = omega (arith, c.type_inv.text c.loop-at.at) in
    let e = sym c.class_of.ensures ∙ c.in-Sign.is in
    (h, sign-no-digit t c.loop-at.at c.loop-at.line h l e)

pub returns-in-Letter : goal.returns-in-Letter
returns-in-Letter c =
    let t = c.args.text.now in
    let h = c.loop-at-test.true in
    let l : get_or t c.loop-at.at 0 < 256 = omega (arith, c.type_inv.text c.loop-at.at) in
    let e = sym c.class_of.ensures ∙ c.in-Letter.is in
    c.word.ensures ∙ sym (c.loop-at.invariant ∙ next-letter t c.loop-at.at c.loop-at.line h l e)

pub returns-in-Digit : goal.returns-in-Digit
returns-in-Digit c =
    let t = c.args.text.now in
    let h = c.loop-at-test.true in
    let l : get_or t c.loop-at.at 0 < 256 = omega (arith, c.type_inv.text c.loop-at.at) in
    let e = sym c.class_of.ensures ∙ c.in-Digit.is in
    rw (add-zero, zero-add) at c.number.ensures
    ∙ sym (c.loop-at.invariant ∙ next-digit t c.loop-at.at c.loop-at.line h l e)

pub returns-in-Sign : goal.returns-in-Sign
returns-in-Sign c =
    let t = c.args.text.now in
    let h = c.loop-at-test.true in
    let l : get_or t c.loop-at.at 0 < 256 = omega (arith, c.type_inv.text c.loop-at.at) in
    let e = sym c.class_of.ensures ∙ c.in-Sign.is in
    c.signed.ensures ∙ sym (c.loop-at.invariant ∙ next-sign t c.loop-at.at c.loop-at.line h l e)

pub returns-in-Quote : goal.returns-in-Quote
returns-in-Quote c =
    let t = c.args.text.now in
    let h = c.loop-at-test.true in
    let l : get_or t c.loop-at.at 0 < 256 = omega (arith, c.type_inv.text c.loop-at.at) in
    let e = sym c.class_of.ensures ∙ c.in-Quote.is in
    c.string.ensures ∙ sym (c.loop-at.invariant ∙ next-quote t c.loop-at.at c.loop-at.line h l e)

pub loop-at-smaller-in-Ok : goal.loop-at-smaller-in-Ok
loop-at-smaller-in-Ok c =
    omega (
      arith,
      comment-ahead c.args.text.now c.loop-at.at c.loop-at.line c.in-Ok.passed c.loop-at-test.true
          (sym c.comment.ensures ∙ c.in-Ok.is),
    )

pub loop-at-preserved-in-Ok : goal.loop-at-preserved-in-Ok
loop-at-preserved-in-Ok c =
    let t = c.args.text.now in
    let h = c.loop-at-test.true in
    let l : get_or t c.loop-at.at 0 < 256 = omega (arith, c.type_inv.text c.loop-at.at) in
    let e = sym c.class_of.ensures ∙ c.in-Comment.is in
    let f = sym c.comment.ensures ∙ c.in-Ok.is in
    c.loop-at.invariant ∙ next-passed t c.loop-at.at c.loop-at.line h l c.in-Ok.passed e f

pub returns-in-Err-Open : goal.returns-in-Err-Open
returns-in-Err-Open c =
    let t = c.args.text.now in
    let h = c.loop-at-test.true in
    let l : get_or t c.loop-at.at 0 < 256 = omega (arith, c.type_inv.text c.loop-at.at) in
    let e = sym c.class_of.ensures ∙ c.in-Comment.is in
    let f = sym c.comment.ensures ∙ rw c.in-Err-Open.field-0-is at c.in-Err-Open.is in
    c.fault.ensures ∙ sym (c.loop-at.invariant ∙ next-open t c.loop-at.at c.loop-at.line h l e f)

pub returns-in-Err-Absent : goal.returns-in-Err-Absent
returns-in-Err-Absent c =
    let t = c.args.text.now in
    let h = c.loop-at-test.true in
    let l : get_or t c.loop-at.at 0 < 256 = omega (arith, c.type_inv.text c.loop-at.at) in
    let e = sym c.class_of.ensures ∙ c.in-Comment.is in
    let f = sym c.comment.ensures ∙ rw c.in-Err-Absent.field-0-is at c.in-Err-Absent.is in
    c.fault-in-Err-Absent.ensures ∙ sym (c.loop-at.invariant ∙ next-slash t c.loop-at.at c.loop-at.line h l e f)

pub returns-in-Punctuation : goal.returns-in-Punctuation
returns-in-Punctuation c =
    let t = c.args.text.now in
    let h = c.loop-at-test.true in
    let l : get_or t c.loop-at.at 0 < 256 = omega (arith, c.type_inv.text c.loop-at.at) in
    let e = sym c.class_of.ensures ∙ c.in-Punctuation.is in
    c.punctuation.ensures ∙ sym (c.loop-at.invariant ∙ next-mark t c.loop-at.at c.loop-at.line h l e)

pub loop-at-preserved-in-Blank : goal.loop-at-preserved-in-Blank
loop-at-preserved-in-Blank c =
    let t = c.args.text.now in
    let h = c.loop-at-test.true in
    let l : get_or t c.loop-at.at 0 < 256 = omega (arith, c.type_inv.text c.loop-at.at) in
    let e = sym c.class_of.ensures ∙ c.in-Blank.is in
    rw c.blanks_end-at.ensures (c.loop-at.invariant ∙ next-blank t c.loop-at.at c.loop-at.line h l e)

pub loop-at-preserved : goal.loop-at-preserved
loop-at-preserved c =
    let t = c.args.text.now in
    let h = c.loop-at-test.true in
    let l : get_or t c.loop-at.at 0 < 256 = omega (arith, c.type_inv.text c.loop-at.at) in
    let e = sym c.class_of.ensures ∙ c.in-LineEnd.is in
    rw c.behind-line.ensures (c.loop-at.invariant ∙ next-line t c.loop-at.at c.loop-at.line h l e)

pub returns-in-Other : goal.returns-in-Other
returns-in-Other c =
    let t = c.args.text.now in
    let h = c.loop-at-test.true in
    let l : get_or t c.loop-at.at 0 < 256 = omega (arith, c.type_inv.text c.loop-at.at) in
    let e = sym c.class_of.ensures ∙ c.in-Other.is in
    c.fault-in-Other.ensures ∙ sym (c.loop-at.invariant ∙ next-none t c.loop-at.at c.loop-at.line h l e)

pub returns : goal.returns
returns c =
    c.stop.ensures
    ∙ sym (c.loop-at.invariant ∙ next-end c.args.text.now c.loop-at.at c.loop-at.line c.loop-at-test.false)
