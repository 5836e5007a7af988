use mathlib.Core.Path.{subst}
use Prim.Native.Nat.{ℕ, ◌+◌}
use Rattle.book.specs.Places.{Stands}
use Rattle.book.proofs.StandLaws.{stands-behind}
use Rattle.rules.specs.Book.{type_records}
use Rattle.fitting.proofs.PlaceLaws.{typed-here}
use Rattle.book.specs.Sizes.{head_size}
use Rattle.fitting.proofs.type_behind.Goals as goal

pub returns : goal.returns
returns c =
    let a = c.args in
    λ t h x e f g s. typed-here t a.book.now (a.head + head_size) x _ c.typing_at.ensures f g
    (subst (λ (n : ℕ). Stands a.book.now (a.head + n) (type_records x)) e
    (stands-behind a.book.now a.head h (type_records x) s))
