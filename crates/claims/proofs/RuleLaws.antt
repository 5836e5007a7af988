-- Tables of rules: 19 stands behind the others; what is refused broke the first that refuses.
use mathlib.Core.Path.{◌≡◌, refl, sym, ap, subst, ◌∙◌}
use mathlib.Core.Bool.{Bool, true, false, cond, not, ◌&&◌}
use mathlib.Core.Option.{some}
use mathlib.Core.List.{List, [], ◌∷◌, ◌++◌}
use Prim.Native.Nat.{ℕ, ◌≤◌, ◌<◌}
use native.Mathlib.Omega.{arith}
use lib.ListN.{length}
use lib.Dec.{eqb, ltb}
use borrow.Author.Tests.{eq-eqb, ltb-true, ltb-false, lt-ltb}
use Rattle.rules.specs.Units as U
use Rattle.rules.specs.Declarations.{State}
use Rattle.rules.specs.Book.{book}
use Rattle.rules.specs.Judge.{Rule, rule, Judged, ok, refused, first_broken_or, rules_of, next_state, judge}
use Rattle.rules.specs.Check.{Given, unit_place, capacity, room, judged}
use Rattle.rules.specs.All.{All, In, first, later, Unbroken}
use Rattle.rules.proofs.AllLaws.{all_left, all_right}
use Rattle.rules.proofs.RuleLaws.{first-broken-ok}
use Rattle.rules.proofs.Tests.{both, split, not-both, not_is}
use Rattle.claims.specs.Ranking.{rank, all_rules}

-- what is passed is not refused
pub not-refused : {B : Type 0} {x : State} {n p : ℕ} → ok x ≡ refused n p → B
not-refused e = let z : ◌≡◌ {A = ℕ} 0 1 = cc in absurd (omega arith)

-- 9 of the elements
-- ---- all rules of a unit: 19 stands behind the others
room-behind : (g : Given) (p : ℕ) (l : List Rule) (x : State) →
    room g p (first_broken_or l x) ≡ first_broken_or (l ++ (rule 19 p (ltb (capacity g) (length (book x))) ∷ [])) x
room-behind g p [] x = refl
room-behind g p (r ∷ l) x = go r.broken (room-behind g p l x)
  where
    go : (b : Bool) {y : Judged} → room g p (first_broken_or l x) ≡ y →
        room g p (cond b (refused r.number r.place) (first_broken_or l x))
        ≡ cond b (refused r.number r.place) y
    go true ih = refl
    go false ih = ih

pub judged-rules : (g : Given) (s : State) (u : U.Unit)
    → judged g s (some u) ≡ first_broken_or (all_rules g s u) (next_state s u)
unfolding judge
judged-rules g s u = room-behind g (unit_place u) (rules_of s u) (next_state s u)

-- a unit that is passed broke none of its rules, leads to the next state, and its records fit
pub record Went (g : Given) (s : State) (u : U.Unit) (x : State) : Type 0 where
  pub kept : All Unbroken (rules_of s u)
  pub next : next_state s u ≡ x
  pub room : length (book x) ≤ capacity g

pub judged-went : (g : Given) (s x : State) (u : U.Unit) → judged g s (some u) ≡ ok x → Went g s u x
judged-went g s x u q =
    let r = first-broken-ok (all_rules g s u) (next_state s u) x (sym (judged-rules g s u) ∙ q) in
    let l =
    ltb-false (capacity g) (length (book (next_state s u))) (all_right Unbroken (rules_of s u) _ r.unbroken).0 in
    record {
      kept = all_left Unbroken (rules_of s u) _ r.unbroken;
      next = r.next;
      room = subst (λ (y : State). length (book y) ≤ capacity g) r.next l;
    }

-- ---- which rule refuses: the numbers of a table
abbrev pub lacks : ℕ → List Rule → Bool
lacks k [] = true
lacks k (r ∷ l) = not (eqb r.number k) && lacks k l

-- all ranks are below that of k
abbrev pub under : ℕ → List Rule → Bool
under k [] = true
under k (r ∷ l) = ltb (rank r.number) (rank k) && under k l

pub under-append : (k : ℕ) (l m : List Rule) → under k l ≡ true → under k m ≡ true → under k (l ++ m) ≡ true
under-append k [] m h q = q
under-append k (r ∷ l) m h q =
    let z : (ltb (rank r.number) (rank k) ≡ true) × (under k l ≡ true) = split h in
    both z.0 (under-append k l m z.1 q)

pub under_more : (k m : ℕ) (l : List Rule) → rank k ≤ rank m → under k l ≡ true → under m l ≡ true
under_more k m [] e h = refl
under_more k m (r ∷ l) e h =
    let z : (ltb (rank r.number) (rank k) ≡ true) × (under k l ≡ true) = split h in
    let y = ltb-true (rank r.number) (rank k) z.0 in
    both (lt-ltb (rank r.number) (rank m) (omega arith)) (under_more k m l e z.1)

number_of : (r : Rule) (k p : ℕ) → refused r.number r.place ≡ refused k p → r.number ≡ k
number_of r k p q = cc

-- the rules before those of that number are kept
pub record Came (pre post : List Rule) (s : State) (k p : ℕ) : Type 0 where
  pub kept : All Unbroken pre
  pub rest : first_broken_or post s ≡ refused k p

pub first-broken-came : (pre post : List Rule) (s : State) (k p : ℕ) → under k pre ≡ true
    → first_broken_or (pre ++ post) s ≡ refused k p
    → Came pre post s k p
first-broken-came [] post s k p h q = record { kept = tt; rest = q }
first-broken-came (r ∷ pre) post s k p h q =
    let z : (ltb (rank r.number) (rank k) ≡ true) × (under k pre ≡ true) = split h in
    go r.broken refl q (ltb-true (rank r.number) (rank k) z.0) (λ y. first-broken-came pre post s k p z.1 y)
  where
    go : (b : Bool) → r.broken ≡ b
        → cond b (refused r.number r.place) (first_broken_or (pre ++ post) s) ≡ refused k p
        → rank r.number < rank k → (first_broken_or (pre ++ post) s ≡ refused k p → Came pre post s k p)
        → Came (r ∷ pre) post s k p
    go true e z l ih = let y = ap rank (number_of r k p z) in absurd (omega arith)
    go false e z l ih = let y = ih z in record { kept = (e, y.kept); rest = y.rest }

pub first-broken-never : (l : List Rule) (s : State) (k p : ℕ) → lacks k l ≡ true
    → first_broken_or l s ≡ refused k p → ⊥
first-broken-never [] s k p h q = not-refused q
first-broken-never (r ∷ l) s k p h q =
    go r.broken q (λ z. first-broken-never l s k p (split {x = not (eqb r.number k)} h).1 z)
  where
    go : (b : Bool) → cond b (refused r.number r.place) (first_broken_or l s) ≡ refused k p
        → (first_broken_or l s ≡ refused k p → ⊥) → ⊥
    go true z ih =
        not-both (eq-eqb r.number k (number_of r k p z)) (not_is (split {x = not (eqb r.number k)} h).0)
    go false z ih = ih z

pub first-broken-hit : (r : Rule) (l : List Rule) (s : State) (k p : ℕ) → lacks k l ≡ true
    → first_broken_or (r ∷ l) s ≡ refused k p → r.broken ≡ true
first-broken-hit r l s k p h q = go r.broken refl q
  where
    go : (b : Bool) → r.broken ≡ b
        → cond b (refused r.number r.place) (first_broken_or l s) ≡ refused k p → r.broken ≡ true
    go true e z = e
    go false e z = absurd (first-broken-never l s k p h z)

-- ---- of rules whose ranks are below that of k, a broken one refuses, or one before it
abbrev pub Refuses : ℕ → Judged → Type 0
Refuses k j = (n p : ℕ) × (j ≡ refused n p) × (rank n < rank k)

pub in-refuses : (k : ℕ) (l : List Rule) (s : State) → under k l ≡ true → (r : Rule) → In r l → r.broken ≡ true
    → Refuses k (first_broken_or l s)
in-refuses k [] s h r i b = elim i [ ]
in-refuses k (x ∷ l) s h r i b =
    let z : (ltb (rank x.number) (rank k) ≡ true) × (under k l ≡ true) = split h in
    go x r x.broken refl (ltb-true (rank x.number) (rank k) z.0) i b (λ j. in-refuses k l s z.1 r j b)
  where
    go : (x r : Rule) (t : Bool) → x.broken ≡ t → rank x.number < rank k → In r (x ∷ l) → r.broken ≡ true
        → (In r l → Refuses k (first_broken_or l s))
        → Refuses k (cond t (refused x.number x.place) (first_broken_or l s))
    go x r true e q i b ih = (x.number, x.place, refl, q)
    go x r false e q first b ih = not-both b e
    go x r false e q (later i) b ih = ih i

-- and whatever stands behind it
pub behind-refuses : (k : ℕ) (l m : List Rule) (s : State) (r : Rule) → under k l ≡ true → rank r.number < rank k
    → r.broken ≡ true → Refuses k (first_broken_or (l ++ (r ∷ m)) s)
behind-refuses k [] m s r h q b = rw b (r.number, r.place, refl, q)
behind-refuses k (x ∷ l) m s r h q b =
    let z : (ltb (rank x.number) (rank k) ≡ true) × (under k l ≡ true) = split h in
    go x.broken (ltb-true (rank x.number) (rank k) z.0) (behind-refuses k l m s r z.1 q b)
  where
    go : (t : Bool) → rank x.number < rank k → Refuses k (first_broken_or (l ++ (r ∷ m)) s)
        → Refuses k (cond t (refused x.number x.place) (first_broken_or (l ++ (r ∷ m)) s))
    go true i ih = (x.number, x.place, refl, i)
    go false i ih = ih
