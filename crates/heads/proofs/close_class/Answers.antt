use mathlib.Core.Path.{refl}
use Rattle.state.proofs.JudgeLaws.{small}
use Rattle.heads.proofs.EndLaws.{own-inside, own-bytes, class-there, close-inside, close-class-other}
use Rattle.heads.proofs.EndLaws.{close-class-over, close-class-fine}
use Rattle.heads.proofs.close_class.Goals as goal

pub same_name-requires : goal.same_name-requires
same_name-requires c =
    let (s, n, hs, rs, k, q) = c.requires.comes in
    let (d, ec, sy) = class-there c.args.desk.now.text.now s c.args.st _ _ _ _ _ k c.requires.open_nonzero in (
      close-inside c.args.desk.now.text.now s n c.args.st _ _ _ _ _ rs
          c.args.name k q c.requires.text_len_bound.1,
      own-inside c.args.desk.now.text.now d _ _ (c.open_name-own.ensures c.args.desk.now.text.now d sy) sy,
    )

pub end_class-requires-clause-inside : goal.end_class-requires-clause-inside
end_class-requires-clause-inside c =
    let (s, n, hs, rs, k, q) = c.requires.comes in
    let (d, ec, sy) = class-there c.args.desk.now.text.now s c.args.st _ _ _ _ _ k c.requires.open_nonzero in (
      own-inside c.args.desk.now.text.now d _ _ (c.open_name-own.ensures c.args.desk.now.text.now d sy) sy,
      c.requires.text_len_bound.1,
    )

pub end_class-requires-clause-class_end_size_in_bounds : goal.end_class-requires-clause-class_end_size_in_bounds
end_class-requires-clause-class_end_size_in_bounds c =
    let (s, n, hs, rs, k, q) = c.requires.comes in (
      c.if-desk-st.false,
      small c.args.desk.now.text.now s c.args.st _ _ _ _ _ k,
      c.requires.text_len_bound.2,
    )

pub returns-clause-judged : goal.returns-clause-judged
returns-clause-judged c =
    λ s n hs rs k q.
    let (d, ec, sy) = class-there c.args.desk.now.text.now s c.args.st _ _ _ _ _ k c.requires.open_nonzero in
    let own = own-bytes c.args.desk.now.text.now d _ _ (c.open_name-own.ensures c.args.desk.now.text.now d sy) sy in
    let e = c.end_class.ensures.stays.0 in
    rw e (close-class-fine c.args.desk.now.text.now s n c.args.st _ _ _ _ _ rs
    c.args.name k q c.requires.text_len_bound.1 c.open_name-own.result d own ec _
    c.same_name.ensures _ _ _ _ _ _ c.if-not-same_name.false c.if-desk-st.false refl c.end_class.ensures.value
    (λ f. rw e at (c.end_class.ensures.kept s d hs k ec own f)))

pub returns-then-desk-st-clause-judged : goal.returns-then-desk-st-clause-judged
returns-then-desk-st-clause-judged c =
    λ s n hs rs k q.
    let (d, ec, sy) = class-there c.args.desk.now.text.now s c.args.st _ _ _ _ _ k c.requires.open_nonzero in
    close-class-over c.args.desk.now.text.now s n c.args.st _ _ _ _ _ rs
    c.args.name k q c.requires.text_len_bound.1 c.open_name-own.result d
    (own-bytes c.args.desk.now.text.now d _ _ (c.open_name-own.ensures c.args.desk.now.text.now d sy) sy) ec _
    c.same_name.ensures _ _ _ _ _ c.if-not-same_name.false c.if-desk-st.true refl

pub returns-then-not-same_name-clause-judged : goal.returns-then-not-same_name-clause-judged
returns-then-not-same_name-clause-judged c =
    λ s n hs rs k q.
    let (d, ec, sy) = class-there c.args.desk.now.text.now s c.args.st _ _ _ _ _ k c.requires.open_nonzero in
    close-class-other c.args.desk.now.text.now s n c.args.st _ _ _ _ _ rs
    c.args.name k q c.requires.text_len_bound.1 c.open_name-own.result d
    (own-bytes c.args.desk.now.text.now d _ _ (c.open_name-own.ensures c.args.desk.now.text.now d sy) sy) ec _
    c.same_name.ensures _ _ _ _ _ c.if-not-same_name.true refl
