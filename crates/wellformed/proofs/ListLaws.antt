-- What holds of every element of a list holds of a member, and of what is found by its place.
use mathlib.Core.Path.{◌≡◌}
use mathlib.Core.List.{List, [], ◌∷◌}
use Prim.Native.Nat.{ℕ, zero, suc}
use mathlib.Core.Option.{some}
use Rattle.rules.specs.All.{All, AnyIs, In, first, later}
use Rattle.rules.proofs.AllLaws.{any-is}
use Rattle.names.specs.Index.{nth, entry}

pub all-member : {A : Type 0} (P : A → Type 0) (l : List A) (a : A) → All P l → In a l → P a
all-member P [] a h i = elim i [ ]
all-member P (b ∷ l) a h first = h.0
all-member P (b ∷ l) a h (later i) = all-member P l a h.1 i

all-nth : {A : Type 0} (P : A → Type 0) (l : List A) (i : ℕ) → All P l → AnyIs P (nth l i)
all-nth P [] i h = tt
all-nth P (a ∷ l) zero h = h.0
all-nth P (a ∷ l) (suc i) h = all-nth P l i h.1

any_entry : {A : Type 0} (P : A → Type 0) (l : List A) (p : ℕ) → All P l → AnyIs P (entry l p)
any_entry P l zero h = tt
any_entry P l (suc i) h = all-nth P l i h

pub all-entry : {A : Type 0} (P : A → Type 0) (l : List A) (p : ℕ) (a : A) → All P l → entry l p ≡ some a → P a
all-entry P l p a h e = any-is P (entry l p) a (any_entry P l p h) e
