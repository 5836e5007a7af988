-- What passes a table of rules breaks none of them; 9 of elements.
use mathlib.Core.Path.{◌≡◌, refl, sym}
use mathlib.Core.Bool.{Bool, true, false, cond}
use mathlib.Core.Option.{Option, none, some}
use mathlib.Core.List.{List, [], ◌∷◌}
use Prim.Native.Nat.{ℕ}
use native.Mathlib.Omega.{arith}
use Rattle.rules.specs.Enumerations.{twice}
use Rattle.rules.specs.Grammar as G
use Rattle.rules.specs.Grammar.{WrittenType}
use Rattle.rules.specs.Declarations.{State}
use Rattle.rules.specs.Judge.{Rule, ok, refused, first_broken_or, doubled, element_rule}
use Rattle.rules.specs.All.{All, Unbroken}
use Rattle.rules.proofs.Tests.{never}

pub record Passed (l : List Rule) (s x : State) : Type 0 where
  pub unbroken : All Unbroken l
  pub next : s ≡ x

pub first-broken-ok : (l : List Rule) (s x : State) → first_broken_or l s ≡ ok x → Passed l s x
first-broken-ok [] s x p = record { unbroken = tt; next = cc }
first-broken-ok (r ∷ l) s x p = go r.broken refl p (λ q. first-broken-ok l s x q)
  where
    go : (b : Bool) → r.broken ≡ b → cond b (refused r.number r.place) (first_broken_or l s) ≡ ok x
        → (first_broken_or l s ≡ ok x → Passed l s x) → Passed (r ∷ l) s x
    go true e q ih = let z : ◌≡◌ {A = ℕ} 0 1 = cc in absurd (omega arith)
    go false e q ih = let k = ih q in record { unbroken = (e, k.unbroken); next = k.next }

-- ---- 9 of elements
pub doubled-nine : (o : Option ℕ) → (doubled o).number ≡ 9
doubled-nine none = refl
doubled-nine (some p) = refl

pub element-nine : (w : Option WrittenType) → (element_rule w).number ≡ 9
element-nine none = refl
element-nine (some (G.text m n)) = refl
element-nine (some (G.numeric q r)) = refl
element-nine (some (G.enum e)) = doubled-nine (twice e [])
element-nine (some (G.named r)) = refl

pub doubled-none : (o : Option ℕ) → (doubled o).broken ≡ false → o ≡ none
doubled-none none h = refl
doubled-none (some p) h = never (sym h)
