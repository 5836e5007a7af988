use mathlib.Core.Path.{sym, ◌∙◌}
use native.Mathlib.Omega.{arith}
use Rattle.records.proofs.WalkLaws.{whole-found, none-found}
use Rattle.records.proofs.NameLaws.{name-none, name-less, name-fits, name_in_lem, name_out}
use Rattle.records.proofs.name_part.Goals as goal
use Rattle.records.proofs.name_part.Goals.{else-is_some-via-then-is_some+else-has_name, else-is_some-via-else-is_some}

pub bounds-book-beginning : goal.bounds-book-beginning
bounds-book-beginning c =
    let (n, w) = whole-found _ _ _ c.record_end.ensures (sym c.is_some.ensures ∙ c.if-is_some.true) in
    omega (arith, w.some, w.within)

pub written_name-name-requires : goal.written_name-name-requires
written_name-name-requires c =
    let a = c.args in
    let (n, w) = whole-found _ _ _ c.record_end.ensures (sym c.is_some.ensures ∙ c.if-is_some.true) in
    omega (arith, w.within, name-fits a.text.now w (omega arith) (sym c.has_name.ensures ∙ c.if-has_name.true))

pub returns-then-name-text : goal.returns-then-name-text
returns-then-name-text c =
    let (n, w) = whole-found _ _ _ c.record_end.ensures (sym c.is_some.ensures ∙ c.if-is_some.true) in
    let e = sym c.has_name.ensures ∙ c.if-has_name.true in
    name_in_lem c.args.text.now w (omega arith) e _ c.written_name-name.ensures c.if-name-text.true

pub returns-else-name-text : goal.returns-else-name-text
returns-else-name-text c =
    let (n, w) = whole-found _ _ _ c.record_end.ensures (sym c.is_some.ensures ∙ c.if-is_some.true) in
    let e = sym c.has_name.ensures ∙ c.if-has_name.true in
    name_out c.args.text.now w (omega arith) e _ c.written_name-name.ensures c.if-name-text.false

pub returns-else-is_some : goal.returns-else-is_some
returns-else-is_some c =
    let t = c.args.text.now in
    let r = c.record_end.ensures in
    elim c.else-is_some.branch [
      | else-is_some-via-then-is_some+else-has_name w ↦
          let (n, x) = whole-found _ _ _ r (sym c.is_some.ensures ∙ w.if-is_some.true) in
          name-less t x (sym w.has_name.ensures ∙ w.if-has_name.false)
      | else-is_some-via-else-is_some w ↦
          name-none t _ _ (none-found _ _ _ r (sym c.is_some.ensures ∙ w.if-is_some.false))
    ]
