use Rattle.std.proofs.Common.{◌≡◌, Bool, ◌||◌, sym, ap, ◌∙◌, rules}
use Rattle.rules.specs.Book.{bit}
use Rattle.enumerations.specs.Lists.{final_of}
use Rattle.enumerations.specs.Standing.{Stands}
use Rattle.merging.proofs.MergedLaws.{merged-laid, lt-add-one}
use Rattle.merging.proofs.merged.Goals as goal
use Rattle.merging.proofs.merged.Goals.{then-is_final, else-is_final}

pub returns : goal.returns
returns c =
    let a = c.args in
    let S = c.split_at_mut-book.ensures in
    let B = c.gather-b.ensures in
    let X = c.gather-x.ensures in
    let y : Bool = final_of c.inner_at-own.result in
    let f : c.if-is_final.from ≡ (final_of c.inner_at-of_base.result || final_of c.inner_at-own.result) =
    elim c.if-is_final.branch [
      | then-is_final w ↦
          w.from-is ∙ w.if-is_final.true
          ∙ ap (λ (z : Bool). z || y) (sym (sym c.is_final.ensures ∙ w.if-is_final.true))
      | else-is_final w ↦
          w.from-is ∙ w.is_final-else-is_final.ensures
          ∙ ap (λ (z : Bool). z || y) (sym (sym c.is_final.ensures ∙ w.if-is_final.false))
    ] in
    let g : c.from.result ≡ bit c.if-is_final.from 1 = search rules in
    λ b e sb se.
    let sb' : Stands a.text.now c.split_at_mut-book.result.0.now b a.base = rw S.front sb in
    rw S.value
    (merged-laid a.text.now c.split_at_mut-book.result.0.now c.split_at_mut-book.result.1.now a.scratch.now a.n a.base
    a.start c.put_if.new.out c.run.new.out c.run.result c.inner_at-of_base.result c.inner_at-own.result
    c.first_walk.result _ S.front_len c.requires.n_le_start.0 c.inner_at-of_base.ensures c.inner_at-own.ensures
    c.first_walk.ensures (c.put_if.ensures ∙ rw (g, f)) (lt-add-one _)
    (rw (B.same_text, B.same_records, X.same_records) at
    (c.run.ensures (rw (B.same_text, B.same_records) (B.gathered b sb'))
    (rw (X.same_text, X.same_records) (X.gathered e se)))) b e sb' se)
