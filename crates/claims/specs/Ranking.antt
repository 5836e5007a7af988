-- Document 01, "Refusals in order": within a unit that is read, first the attribute count of 4, then 7 to 19, with 22
-- between 18 and 19 (document 02, No. 1). Of a unit's rules the refusal is by the first in this order that is broken,
-- and of one number the first symbol is named.
use Rattle.std.specs.Prelude.{◌≡◌, ◌⊎◌, ◌↔◌, Bool, true, false, cond, ◌&&◌, ◌||◌, List, [], ◌∷◌, ◌++◌, ℕ, suc, ◌≤◌, ◌<◌}
use Rattle.std.specs.Prelude.{length, eqb, leb, ltb}
use Rattle.std.proofs.Math.Option.{Option, none, some}
use Rattle.rules.specs.Symbols.{Fault, too_long, number_of, symbol_at}
use Rattle.rules.specs.Readers as R
use Rattle.rules.specs.Units as U
use Rattle.rules.specs.Units.{Where, unit_at}
use Rattle.rules.specs.Declarations.{State}
use Rattle.rules.specs.Book.{book}
use Rattle.rules.specs.Judge.{Rule, rule, ok, refused, first_broken_or, rules_of, next_state}
use Rattle.rules.specs.Check.{Given, unit_place, capacity, judged, run, ruled_out, refusing, check}
use Rattle.rules.specs.All.{All, In, Unbroken}
use Rattle.claims.specs.Reached.{Reaches, Judges}

-- ---- the order within a unit, behind 2 to 6
abbrev pub order : List ℕ
order = 4 ∷ 7 ∷ 8 ∷ 9 ∷ 10 ∷ 11 ∷ 12 ∷ 13 ∷ 14 ∷ 15 ∷ 16 ∷ 17 ∷ 18 ∷ 22 ∷ 19 ∷ []

abbrev pub is_in : ℕ → List ℕ → Bool
is_in n [] = false
is_in n (k ∷ l) = eqb k n || is_in n l

-- how many stand before a number
abbrev pub rank_in : List ℕ → ℕ → ℕ
rank_in [] n = 0
rank_in (k ∷ l) n = cond (eqb k n) 0 (suc (rank_in l n))

unfoldable pub rank : ℕ → ℕ
rank n = rank_in order n

-- ---- rules
-- from the rank k on, ranks never fall along the list
abbrev pub rising : ℕ → List Rule → Bool
rising k [] = true
rising k (r ∷ l) = leb k (rank r.number) && rising (rank r.number) l

abbrev pub in_order : List Rule → Bool
in_order l = rising 0 l

-- every number is one of the order
abbrev pub of_order : List Rule → Bool
of_order [] = true
of_order (r ∷ l) = is_in r.number order && of_order l

-- the place of the first broken rule that has a number
abbrev pub broken_at : ℕ → List Rule → Option ℕ
broken_at n [] = none
broken_at n (r ∷ l) = cond (eqb r.number n && r.broken) (some r.place) (broken_at n l)

-- 19 behind the others
abbrev pub all_rules : Given → State → U.Unit → List Rule
all_rules g s u = rules_of s u ++ (rule 19 (unit_place u) (ltb (capacity g) (length (book (next_state s u)))) ∷ [])

-- ---- a refusal, as the document says it: no rule of a lower rank is broken, and of those with this number the first
-- that is broken is named
pub record Leads (l : List Rule) (n p : ℕ) : Type 0 where
  pub lower : (r : Rule) → In r l → rank r.number < rank n → r.broken ≡ false
  pub named : broken_at n l ≡ some p

-- and along the list: no rule before it is broken
pub record FirstInOrder (l : List Rule) (n p : ℕ) : Type 0 where
  pub before : List Rule
  pub behind : List Rule
  pub split : l ≡ before ++ (rule n p true ∷ behind)
  pub kept : All Unbroken before
  pub leads : Leads l n p

-- the first symbol is named: no broken rule of the number n has a place before p
abbrev pub NoneBefore : ℕ → ℕ → List Rule → Type 0
NoneBefore n p l = (r : Rule) → In r l → r.number ≡ n → r.broken ≡ true → p ≤ r.place

-- ---- every unit, in every state
pub record UnitRanked (g : Given) (s : State) (u : U.Unit) : Type 0 where
  pub judges : judged g s (some u) ≡ first_broken_or (all_rules g s u) (next_state s u)
  pub stand_in_order : in_order (all_rules g s u) ≡ true
  pub of_some_order : of_order (all_rules g s u) ≡ true
  -- it leads on exactly where no rule is broken, and is refused exactly as the document says
  pub passed : (x : State) → (judged g s (some u) ≡ ok x) ↔ (All Unbroken (all_rules g s u) × (next_state s u ≡ x))
  pub first : (n p : ℕ) → judged g s (some u) ≡ refused n p → FirstInOrder (all_rules g s u) n p
  pub only : (n p : ℕ) → Leads (all_rules g s u) n p → judged g s (some u) ≡ refused n p

abbrev pub UnitsRanked : Type 0
UnitsRanked = (g : Given) (s : State) (u : U.Unit) → UnitRanked g s u

-- ---- every text: a refusal is of its length, before all; or of the first unit that cannot be read, by 2 to 6; or by
-- the first rule of the first unit that breaks one. The units before were passed
pub data Unread (t : List ℕ) (g : Given) (f : Fault) (p : ℕ) : Type 0 where
  long : ltb 65535 (length t) ≡ true → f ≡ too_long → p ≡ 0 → Unread t g f p
  stuck : {k : ℕ} {w : Where} {s : State} {at : ℕ} → Reaches t g (suc k) w s at
      → unit_at w t (symbol_at t at) ≡ R.refused f p → Unread t g f p

pub record RuleBroken (t : List ℕ) (g : Given) (s : State) (n p : ℕ) : Type 0 where
  pub unit : U.Unit
  pub judges : Judges t g s unit
  pub refuses : judged g s (some unit) ≡ refused n p
  pub first : FirstInOrder (all_rules g s unit) n p
  pub first_symbol : NoneBefore n p (all_rules g s unit)

abbrev pub Refused : List ℕ → Given → ℕ → ℕ → Type 0
Refused t g n p = ((f : Fault) × (n ≡ number_of f) × Unread t g f p) ⊎ ((s : State) × RuleBroken t g s n p)

pub record TextsRanked : Type 0 where
  pub refused : (t : List ℕ) (g : Given) (n p : ℕ) → ((check t g).answer ≡ refusing t n p) ↔ Refused t g n p
  -- from 7 on, and where the count of 4 refuses, a rule was broken
  pub broken : (t : List ℕ) (g : Given) (n p : ℕ) → (check t g).answer ≡ refusing t n p → 7 ≤ n
      → (s : State) × RuleBroken t g s n p
  pub ruled_out : (t : List ℕ) (g : Given) (s : State) (n p : ℕ) → run t g ≡ ruled_out s n p → RuleBroken t g s n p
