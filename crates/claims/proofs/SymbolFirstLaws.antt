-- Of one number the first symbol is named: of two rules with one number, the first along the list stands at the unit's
-- name or its base, and the other, if it is broken, behind it.
use mathlib.Core.Path.{◌≡◌, refl, sym, ◌∙◌}
use mathlib.Core.Bool.{Bool, true, false, cond, not, ◌&&◌, ◌||◌}
use mathlib.Core.Option.{Option, none, some}
use mathlib.Core.List.{List, [], ◌∷◌, ◌++◌}
use Prim.Native.Nat.{ℕ, ◌≤◌}
use native.Mathlib.Omega.{arith}
use lib.Dec.{eqb, leb}
use borrow.Author.Tests.{eq-eqb, leb-true, le-leb}
use Rattle.rules.specs.Names.{Name}
use Rattle.rules.specs.Enumerations.{twice}
use Rattle.rules.specs.Grammar as G
use Rattle.rules.specs.Grammar.{Reference, WrittenType, Written}
use Rattle.rules.specs.Units as U
use Rattle.rules.specs.Declarations.{Attribute, Def, is_found, State}
use Rattle.rules.specs.Judge.{Rule, rule, refused, first_broken_or, first_place, place_of, doubled, resolved}
use Rattle.rules.specs.Judge.{reference_in}
use Rattle.rules.specs.Judge.{extends_rules, class_rules, domain_to_16, domain_rules, attribute_to_16, attribute_rules}
use Rattle.rules.specs.Judge.{inherited_as, member_rules, next_state}
use Rattle.rules.specs.Check.{Given, judged}
use Rattle.rules.specs.All.{first, later, AnyIs}
use Rattle.rules.proofs.AllLaws.{any-is}
use Rattle.rules.proofs.RuleLaws.{doubled-nine}
use Rattle.rules.proofs.Tests.{never, not-both, both, split, or_r}
use Rattle.claims.specs.Reached.{Judges}
use Rattle.claims.specs.Ranking.{all_rules, NoneBefore}
use Rattle.claims.proofs.RuleLaws.{not-refused, judged-rules}
use Rattle.claims.proofs.UnitLaws as W
use Rattle.claims.proofs.RunLaws.{reached-reads}
use Rattle.claims.proofs.PlaceLaws.{twice_in, written-reference}

-- ---- lists where no broken rule stands before an earlier one of its number
abbrev not_before : Rule → Rule → Bool
not_before r q = not (eqb q.number r.number && q.broken) || leb r.place q.place

abbrev ahead : Rule → List Rule → Bool
ahead r [] = true
ahead r (q ∷ l) = not_before r q && ahead r l

abbrev ascending : List Rule → Bool
ascending [] = true
ascending (r ∷ l) = ahead r l && ascending l

given : {x y : Bool} → x ≡ true → (not x || y) ≡ true → y ≡ true
given {x = true} p h = h
given {x = false} p h = never p

ahead_in : (r : Rule) (l : List Rule) → ahead r l ≡ true → NoneBefore r.number r.place l
ahead_in r [] h q i e b = elim i [ ]
ahead_in r (x ∷ l) h q first e b =
    leb-true r.place q.place (given (both (eq-eqb q.number r.number e) b) (split {x = not_before r q} h).0)
ahead_in r (x ∷ l) h q (later i) e b = ahead_in r l (split {x = not_before r x} h).1 q i e b

first-least : (l : List Rule) (s : State) (n p : ℕ) → ascending l ≡ true
    → first_broken_or l s ≡ refused n p → NoneBefore n p l
first-least [] s n p h j = not-refused j
first-least (r ∷ l) s n p h j =
    go r.broken refl j (ahead_in r l (split {x = ahead r l} h).0) (first-least l s n p (split {x = ahead r l} h).1)
  where
    go : (c : Bool) → r.broken ≡ c → cond c (refused r.number r.place) (first_broken_or l s) ≡ refused n p
        → NoneBefore r.number r.place l
        → (first_broken_or l s ≡ refused n p → NoneBefore n p l) → NoneBefore n p (r ∷ l)
    go true f j a ih q first e b = let x : r.place ≡ p = cc in omega arith
    go true f j a ih q (later i) e b =
        let x : r.place ≡ p = cc in
        let y : r.number ≡ n = cc in
        let z = a q i (e ∙ sym y) b in omega arith
    go false f j a ih q first e b = not-both b f
    go false f j a ih q (later i) e b = ih j q i e b

-- ---- the rules of units
doubled-behind : (t : List ℕ) (i : ℕ) (o : Option ℕ) → AnyIs (W.Within t i) o
    → (not (doubled o).broken || leb i (doubled o).place) ≡ true
doubled-behind t i none h = refl
doubled-behind t i (some p) h = le-leb i p h.0

-- 10 and 11 of a reference that stands from i on
reference-behind : (i : ℕ) (r : Reference) → i ≤ first_place r → (x : Bool) → (not x || leb i (first_place r)) ≡ true
reference-behind i r h x = or_r (not x) (le-leb i (first_place r) h)

-- 19 at the place k behind the others
module _ (t : List ℕ) (s : State) (n : Name) (p : List (List ℕ)) (m : Bool) (at k : ℕ) (b : Bool) where
  abbrev last : List Rule
  last = rule 19 k b ∷ []

  abbrev writing : Option WrittenType → Written
  writing x = record { mandatory = m; place = at; type = x }

  abbrev Typed : Option WrittenType → Type 0
  Typed x = AnyIs (W.TypeIn t n.offset) x

  abbrev target : Option WrittenType → Option Def
  target x = resolved s (reference_in x)

  domain-ascending : (r : Option Reference) (o : Option Def) (x : Option WrittenType) → Typed x
      → AnyIs (λ y. place_of r ≤ first_place y) (reference_in x)
      → ascending (domain_rules s n p r (writing x) o (target x) ++ last) ≡ true
  unfolding domain_rules domain_to_16
  domain-ascending r o none h k = refl
  domain-ascending r o (some (G.text l none)) h k = refl
  domain-ascending r o (some (G.text l (some y))) h k = refl
  domain-ascending r o (some (G.numeric none none)) h k = refl
  domain-ascending r o (some (G.numeric (some x) none)) h k = refl
  domain-ascending r o (some (G.numeric none (some y))) h k = let q = reference-behind (place_of r) y k in simp q
  domain-ascending r o (some (G.numeric (some x) (some y))) h k = let q = reference-behind (place_of r) y k in simp q
  domain-ascending r o (some (G.enum e)) h k =
      let q = doubled-nine (twice e []) in
      let j = doubled-behind t n.offset (twice e []) (twice_in t n.offset e [] h) in rw q (rw j)
  domain-ascending r o (some (G.named y)) h k = let q = reference-behind (place_of r) y k in simp q

  attribute-ascending : (c : Def) (o : Option Attribute) (g : Option Def) (x : Option WrittenType) → Typed x →
      ascending (attribute_rules s c n p (writing x) o g ++ last) ≡ true
  unfolding attribute_rules attribute_to_16
  attribute-ascending c o g none h = refl
  attribute-ascending c o g (some (G.text l none)) h = refl
  attribute-ascending c o g (some (G.text l (some y))) h = refl
  attribute-ascending c o g (some (G.numeric none none)) h = refl
  attribute-ascending c o g (some (G.numeric (some x) none)) h = refl
  attribute-ascending c o g (some (G.numeric none (some y))) h =
      let k = reference-behind n.offset y h.1.0 (not (is_found g)) in rw k
  attribute-ascending c o g (some (G.numeric (some x) (some y))) h =
      let k = reference-behind n.offset y h.1.0 (not (is_found g)) in rw k
  attribute-ascending c o g (some (G.enum e)) h =
      let q = doubled-nine (twice e []) in
      let k = doubled-behind t n.offset (twice e []) (twice_in t n.offset e [] h) in rw q (rw k)
  attribute-ascending c o g (some (G.named x)) h =
      let k = reference-behind n.offset x h.0 (not (is_found g)) in rw k

  member-ascending : (x : Option WrittenType) (o : Option Def) → Typed x
      → ascending (member_rules s n p (writing x) o ++ last) ≡ true
  member-ascending x none h = refl
  member-ascending x (some c) h = attribute-ascending c (inherited_as c n) (resolved s (reference_in x)) x h

-- a domain's type stands behind its base
behind-base : (t : List ℕ) (i : ℕ) (r x : Option Reference) → AnyIs (W.ReferenceIn t (W.behind_base i r)) x
    → AnyIs (λ y. place_of r ≤ first_place y) x
behind-base t i r none h = tt
behind-base t i none (some y) h = omega arith
behind-base t i (some r) (some y) h = h.0

unit-ascending : (t : List ℕ) (g : Given) (s : State) (u : U.Unit) → W.UnitIn t u → ascending (all_rules g s u) ≡ true
unfolding class_rules extends_rules
unit-ascending t g s (U.header v) h = refl
unit-ascending t g s (U.model n q) h = refl
unit-ascending t g s (U.topic n) h = refl
unit-ascending t g s (U.class c n p r) h = refl
unit-ascending t g s (U.domain n p r w) h =
    domain-ascending t s n p w.mandatory w.place _ _ r (resolved s r) w.type h.2.1
    (behind-base t n.offset r (reference_in w.type)
    (written-reference t (W.behind_base n.offset r) w.type h.3.1))
unit-ascending t g s (U.attribute n p w) h =
    member-ascending t s n p w.mandatory w.place _ _ w.type s.open_class h.1.1
unit-ascending t g s (U.unit n p r) h = refl
unit-ascending t g s (U.close n) h = refl

pub first_symbol : (t : List ℕ) (g : Given) (s : State) (u : U.Unit) (n p : ℕ) → Judges t g s u
    → judged g s (some u) ≡ refused n p
    → NoneBefore n p (all_rules g s u)
first_symbol t g s u n p d j =
    let h =
    any-is (W.UnitIn t) _ u (reached-reads t g d.reaches d.step d.after d.reads).places d.unit in
    first-least (all_rules g s u) (next_state s u) n p (unit-ascending t g s u h) (sym (judged-rules g s u) ∙ j)
