use mathlib.Core.Path.{sym, ap}
use Rattle.std.proofs.lemmas.Result.{err_from_is_err_and}
use Rattle.units.specs.declared.DomainUnit.{DomainUnit}
use Rattle.domains.proofs.StageLaws.{domain-is, unit-scratch, refused-name, refused-reference}
use Rattle.domains.proofs.StageLaws.{judged-late, based-of}
use Rattle.domains.proofs.judge_domain.Goals as goal

pub returns-in_err-name_ruling-clause-judged : goal.returns-in_err-name_ruling-clause-judged
returns-in_err-name_ruling-clause-judged c =
    let r = err_from_is_err_and c.from_residual.result c.from_residual.ensures.1 in
    rw (r.1, r.2) (
    λ s n p b w hs k h.
    refused-name s n p b w _ _ _ _ _ _ _ _
    (c.in_err-name_ruling.ensures.value s n w.type _ _ k (ap (λ (u : DomainUnit). u.name) (domain-is h))
    h.fair.0 (ap (λ (u : DomainUnit). u.written.meant) (domain-is h)) (unit-scratch h)))

pub returns-in_err-e-clause-judged : goal.returns-in_err-e-clause-judged
returns-in_err-e-clause-judged c =
    let q = err_from_is_err_and c.from_residual-in_err-e.result c.from_residual-in_err-e.ensures.1 in
    let a = c.args.desk.now in
    let o = c.in_ok-name_ruling.ensures.only in
    rw (q.1, q.2) (
    λ s n p b w hs k h.
    refused-reference s n p b w _ _ _ _ _ _ _ _
    (sym
    (c.in_ok-name_ruling.ensures.value s n w.type _ _ k (ap (λ (u : DomainUnit). u.name) (domain-is h))
    h.fair.0 (ap (λ (u : DomainUnit). u.written.meant) (domain-is h)) (unit-scratch h)))
    (c.in_err-e.ensures.1 s n p b w a.book.now hs a.scratch.now (rw o k) (rw o h)))

pub typed_domain-requires-clause-some_extending : goal.typed_domain-requires-clause-some_extending
typed_domain-requires-clause-some_extending c =
    let (s, n, p, b, w, hs, k, h) = c.requires.comes in
    let a = c.args.desk.now in
    let o = c.in_ok-name_ruling.ensures.only in (
      s,
      n,
      p,
      b,
      w,
      hs,
      rw o (based-of k h
          (c.in_ok-name_ruling.ensures.value s n w.type _ _ k
          (ap (λ (u : DomainUnit). u.name) (domain-is h)) h.fair.0
          (ap (λ (u : DomainUnit). u.written.meant) (domain-is h)) (unit-scratch h))
          (c.in_ok-e.ensures.1 s n p b w a.book.now hs a.scratch.now (rw o k) (rw o h))),
    )

pub returns-clause-judged : goal.returns-clause-judged
returns-clause-judged c =
    λ s n p b w hs k h.
    let a = c.args.desk.now in
    let o = c.in_ok-name_ruling.ensures.only in
    let v = based-of k h
    (c.in_ok-name_ruling.ensures.value s n w.type _ _ k (ap (λ (u : DomainUnit). u.name) (domain-is h))
    h.fair.0 (ap (λ (u : DomainUnit). u.written.meant) (domain-is h)) (unit-scratch h))
    (c.in_ok-e.ensures.1 s n p b w a.book.now hs a.scratch.now (rw o k) (rw o h)) in
    judged-late s n p b w _ _ _ _ _ _ _ c.typed_domain.result v.named v.reaches
    (rw o at (c.typed_domain.ensures.judged s n p b w hs (rw o v)))
