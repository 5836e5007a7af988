use mathlib.Core.Path.{sym, ap, ◌∙◌}
use native.Mathlib.Omega.{arith}
use Rattle.rules.specs.Show.{size_of}
use Rattle.records.proofs.WalkLaws.{end-out, end-short, end-whole}
use Rattle.records.proofs.record_end.Goals as goal
use Rattle.records.proofs.record_end.Goals.{then-size-eq0-via-then-size-eq0}
use Rattle.records.proofs.record_end.Goals.{then-size-eq0-via-else-size-eq0+then-book-at}

pub returns-in_err-kind : goal.returns-in_err-kind
returns-in_err-kind c =
    rw c.from_residual.ensures (sym (end-out c.args.book.now c.args.at c.in_err-kind.ensures.lookup.3))

pub returns-then-size-eq0 : goal.returns-then-size-eq0
returns-then-size-eq0 c =
    let e = c.record_size-size.ensures ∙ ap size_of (c.in_ok-kind.ensures.lookup.3.1 0) in
    elim c.then-size-eq0.branch [
      | then-size-eq0-via-then-size-eq0 w ↦ sym (end-short _ _ _ e (λ z. omega arith))
      | then-size-eq0-via-else-size-eq0+then-book-at w ↦ sym (end-short _ _ _ e (λ z. omega arith))
    ]

pub returns : goal.returns
returns c =
    let e = c.record_size-size.ensures ∙ ap size_of (c.in_ok-kind.ensures.lookup.3.1 0) in
    sym (end-whole _ _ _ e (omega arith) (omega arith))
