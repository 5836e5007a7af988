-- What is lent stays lent, from step to step.
use denote.Ref.{MutBor}
use Rattle.std.proofs.Common.{◌≡◌, refl, ap, ◌∙◌, List, ℕ, length}
use Rattle.state.specs.declared.desk.Desk.{Desk}
use Rattle.state.specs.Desks.{holding, Lends, Stays, with_book, with_hand, with_tables}

lends : (a b c : MutBor (List ℕ)) → Lends a b → Lends b c → Lends a c
lends a b c h k = (k.0 ∙ ap (λ (m : MutBor (List ℕ)). holding m c.now) h.0, k.1 ∙ h.1)

pub stays-trans : (a b c : Desk) → Stays a b → Stays b c → Stays a c
stays-trans a b c (t, o, x, y, z, h, s, w) (t', o', x', y', z', h', s', w') = (
  t' ∙ t,
  lends _ _ _ o o',
  lends _ _ _ x x',
  lends _ _ _ y y',
  lends _ _ _ z z',
  lends _ _ _ h h',
  lends _ _ _ s s',
  lends _ _ _ w w',
)

same : (m : MutBor (List ℕ)) → Lends m m
same m = (refl, refl)

pub stays-book : (d : Desk) (v : List ℕ) → length v ≡ length d.book.now → Stays d (with_book d v)
stays-book d v e = (refl, (refl, e), same _, same _, same _, same _, same _, same _)

pub stays-hand : (d : Desk) (v : List ℕ) → length v ≡ length d.hand.now → Stays d (with_hand d v)
stays-hand d v e = (refl, same _, same _, same _, same _, (refl, e), same _, same _)

pub stays-tables : (d : Desk) (v : List ℕ) → length v ≡ length d.tables.now → Stays d (with_tables d v)
stays-tables d v e = (refl, same _, same _, same _, same _, same _, same _, (refl, e))
