-- What readers of a text give, where F holds of every symbol that is next.
use mathlib.Core.Path.{◌≡◌, refl, subst}
use mathlib.Core.Bool.{Bool, true, false, cond}
use mathlib.Core.List.{List}
use Prim.Native.Nat.{ℕ}
use Rattle.rules.specs.Symbols.{Fault, Symbol, end_of, symbol_at}
use Rattle.rules.specs.Readers.{Result, done, refused, Reader, and_then, ◌>>=◌, ret, refuse, expect, if_next, optional}
use Rattle.rules.specs.Grammar.{place_of_next}
use Rattle.rules.proofs.SymbolLaws.{either}
use Rattle.rules.specs.All.{AnyIs}

abbrev Ends : {A : Type 0} → (Symbol → Type 0) → (A → Type 0) → Result A → Type 0
Ends F P (done a z) = P a × F z
Ends F P (refused n p) = Unit {0}

-- P holds of the symbol at which the reader begins and of what it gives
pub record Gives {A : Type 0} (t : List ℕ) (F : Symbol → Type 0) (P : Symbol → A → Type 0) (m : Reader A) : Type 0 where
  gives : (y : Symbol) → F y → Ends F (P y) (m t y)

abbrev pub Any : Symbol → Type 0
Any y = Unit

pub given : {A : Type 0} {t : List ℕ} {F : Symbol → Type 0} {P : Symbol → A → Type 0} {m : Reader A} → Gives t F P m
    → (y : Symbol) → F y → (a : A) (z : Symbol) → m t y ≡ done a z → P y a
given {F} {P} g y f a z e = (subst (Ends F (P y)) e (g.gives y f)).0

ends-map : {A : Type 0} (F : Symbol → Type 0) (P Q : A → Type 0) → ((a : A) → P a → Q a)
    → (m : Result A) → Ends F P m → Ends F Q m
ends-map F P Q k (done a z) h = (k a h.0, h.1)
ends-map F P Q k (refused n p) h = tt

and-then : {A B : Type 0} (t : List ℕ) (F : Symbol → Type 0) (P : A → Type 0) (Q : B → Type 0) (m : Result A)
    (k : A → Reader B) → Ends F P m
    → ((a : A) → P a → (z : Symbol) → F z → Ends F Q (k a t z)) → Ends F Q (and_then t m k)
and-then t F P Q (done a z) k h f = f a h.0 z h.1
and-then t F P Q (refused n p) k h f = tt

module _ {t : List ℕ} {F : Symbol → Type 0} where
  pub bind : {A B : Type 0} {P : Symbol → A → Type 0} {Q : Symbol → B → Type 0} {m : Reader A} {k : A → Reader B}
      → Gives t F P m
      → ((y : Symbol) (a : A) → P y a → Gives t F (λ _. Q y) (k a)) → Gives t F Q (m >>= k)
  bind {P} {Q} {m} {k} g h = record {
    gives = λ y f. and-then t F (P y) (Q y) (m t y) k (g.gives y f) (λ a p z e. (h y a p).gives z e);
  }

  pub stays : {A : Type 0} {P : Symbol → A → Type 0} {a : A} → ((y : Symbol) → P y a) → Gives t F P (ret a)
  stays h = record { gives = λ y f. (h y, f) }

  pub refuses : {A : Type 0} {P : Symbol → A → Type 0} {n : Fault} {p : ℕ} → Gives t F P (refuse n p)
  refuses = record { gives = λ y f. tt }

  pub weaker : {A : Type 0} {P Q : Symbol → A → Type 0} {m : Reader A} → ((y : Symbol) (a : A) → P y a → Q y a)
      → Gives t F P m → Gives t F Q m
  weaker {P} {Q} {m} k g = record { gives = λ y f. ends-map F (P y) (Q y) (k y) (m t y) (g.gives y f) }

  pub if-next : {A : Type 0} {P : Symbol → A → Type 0} {q r : Reader A} (p : Symbol → Bool) → Gives t F P q
      → Gives t F P r → Gives t F P (if_next p q r)
  if-next {P} p g h = record { gives = λ y f. either (Ends F (P y)) (p y) (λ _. g.gives y f) (λ _. h.gives y f) }

  -- a test that no symbol decides
  pub choice : {A : Type 0} {P : Symbol → A → Type 0} {q r : Reader A} (b : Bool) → (b ≡ true → Gives t F P q)
      → (b ≡ false → Gives t F P r) → Gives t F P (λ t y. cond b (q t y) (r t y))
  choice {P} b g h = record { gives = λ y f. either (Ends F (P y)) b (λ e. (g e).gives y f) (λ e. (h e).gives y f) }

  pub option : {A : Type 0} {P : A → Type 0} {q : Reader A} (p : Symbol → Bool) → Gives t F (λ _. P) q
      → Gives t F (λ _. AnyIs P) (optional p q)
  option p g = if-next p (bind g (λ y a h. stays (λ _. h))) (stays (λ _. tt))

  -- a reader that depends on the text
  pub by-text : {A : Type 0} {P : Symbol → A → Type 0} (r : List ℕ → Reader A) → Gives t F P (r t)
      → Gives t F P (λ t y. r t t y)
  by-text r g = record { gives = λ y f. g.gives y f }

  -- a reader that depends on the next symbol's place
  pub from-here : {A : Type 0} {P : A → Type 0} {k : ℕ → Reader A}
      → ((p : ℕ) → Gives t F (λ y a. y.place ≡ p → P a) (k p)) → Gives t F (λ _. P) (place_of_next >>= k)
  from-here {P} {k} h = record {
    gives = λ y f.
        ends-map F (λ a. y.place ≡ y.place → P a) P (λ a g. g refl) (k y.place t y) ((h y.place).gives y f);
  }

  pub passes : {P : Symbol → Symbol → Type 0} (p : Symbol → Bool) → ((y : Symbol) → F y → F (symbol_at t (end_of y)))
      → ((y : Symbol) → F y → p y ≡ true → P y y) → Gives t F P (expect p)
  passes {P} p n h = record { gives = λ y f. either (Ends F (P y)) (p y) (λ e. (h y f e, n y f)) (λ _. tt) }

pub anything : {A : Type 0} {t : List ℕ} (m : Reader A) → Gives t Any (λ _ _. Unit {0}) m
anything {A} {t} m = record { gives = λ y f. go (m t y) }
  where
    go : (r : Result A) → Ends Any (λ _. Unit) r
    go (done a z) = (tt, tt)
    go (refused n p) = tt
