use mathlib.Core.Path.{refl}
use Rattle.heads.proofs.UnitLaws.{model-fine, model-over}
use Rattle.heads.proofs.judge_model.Goals as goal

pub returns-clause-judged : goal.returns-clause-judged
returns-clause-judged c =
    λ s n strings x z y hs rs k q. model-fine c.args.desk.now.text.now s n strings c.args.st
    _ _ _ _ _ rs c.args.head k q c.requires.text_len_bound.1 _ _ _ _ c.if-desk-used.false
    c.name_record-record.ensures c.put.ensures c.begun.ensures refl

pub returns-then-desk-used-clause-judged : goal.returns-then-desk-used-clause-judged
returns-then-desk-used-clause-judged c =
    λ s n strings x z y hs rs k q. model-over c.args.desk.now.text.now s n strings c.args.st
    _ _ _ _ _ rs c.args.head k q c.requires.text_len_bound.1 _ _
    c.if-desk-used.true refl
