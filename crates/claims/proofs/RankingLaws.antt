-- The rules of every unit stand in the order of document 01, so that the first that is broken is
-- the first in that order.
use mathlib.Core.Path.{◌≡◌, refl, sym, ap, ◌∙◌, subst}
use mathlib.Core.Logic.{inl, inr}
use mathlib.Core.Bool.{Bool, true, false, cond, ◌||◌}
use mathlib.Core.Option.{Option, none, some}
use mathlib.Core.List.{List, [], ◌∷◌, ◌++◌}
use Prim.Native.Nat.{ℕ, suc, ◌≤◌, ◌<◌}
use native.Mathlib.Omega.{arith}
use lib.Dec.{eqb, leb, ltb}
use borrow.Author.Tests.{eqb-true, eq-eqb, leb-true, ltb-true, ltb-false}
use Rattle.rules.specs.Names.{Name}
use Rattle.rules.specs.Symbols.{Fault, too_long, no_symbol, unclosed, too_large, impossible, reserved, number_of}
use Rattle.rules.specs.Enumerations.{twice}
use Rattle.rules.specs.Grammar as G
use Rattle.rules.specs.Grammar.{Reference, WrittenType, Written}
use Rattle.rules.specs.Units as U
use Rattle.rules.specs.Declarations.{Attribute, Def, State}
use Rattle.rules.specs.Judge.{Rule, rule, ok, refused, first_broken_or, resolved, reference_in, extends_rules}
use Rattle.rules.specs.Judge.{class_rules}
use Rattle.rules.specs.Judge.{domain_to_16, domain_rules, attribute_to_16, attribute_rules, inherited_as, member_rules}
use Rattle.rules.specs.Judge.{next_state}
use Rattle.rules.specs.Check.{Given, Outcome, kept, unread, ruled_out, run, answer_of, refusing}
use Rattle.rules.specs.All.{All, In, first, later, Unbroken}
use Rattle.rules.proofs.AllLaws.{apart}
use Rattle.rules.proofs.RuleLaws.{first-broken-ok, doubled-nine}
use Rattle.rules.proofs.Tests.{never, split, not-both, fail-r}
use Rattle.claims.specs.Ranking.{order, is_in, rank_in, rank, rising, in_order, of_order, broken_at, all_rules, Leads}
use Rattle.claims.specs.Ranking.{FirstInOrder, UnitsRanked, Unread, long, stuck, RuleBroken, Refused, TextsRanked}
use Rattle.claims.proofs.RuleLaws.{not-refused, judged-rules}
use Rattle.claims.proofs.RunLaws.{Ending, Blamed, run_ends, judged-run, stuck-run, long-run}
use Rattle.claims.proofs.PromiseLaws.{same-refused, clash}
use Rattle.claims.proofs.SymbolFirstLaws.{first_symbol}

-- ---- the lists are in order: each is written out for the type that is written
abbrev Ranked : List Rule → Type 0
Ranked l = (in_order l ≡ true) × (of_order l ≡ true)

-- 19 at the place k behind the others
module _ (s : State) (n : Name) (p : List (List ℕ)) (m : Bool) (at k : ℕ) (b : Bool) where
  abbrev last : List Rule
  last = rule 19 k b ∷ []

  abbrev writing : Option WrittenType → Written
  writing x = record { mandatory = m; place = at; type = x }

  domain-ranked : (r : Option Reference) (o g : Option Def) (x : Option WrittenType)
      → Ranked (domain_rules s n p r (writing x) o g ++ last)
  unfolding rank domain_rules domain_to_16
  domain-ranked r o g none = (refl, refl)
  domain-ranked r o g (some (G.text l none)) = (refl, refl)
  domain-ranked r o g (some (G.text l (some y))) = (refl, refl)
  domain-ranked r o g (some (G.numeric none y)) = (refl, refl)
  domain-ranked r o g (some (G.numeric (some x) y)) = (refl, refl)
  domain-ranked r o g (some (G.enum e)) = let q = doubled-nine (twice e []) in (rw q, rw q)
  domain-ranked r o g (some (G.named x)) = (refl, refl)

  attribute-ranked : (c : Def) (o : Option Attribute) (g : Option Def) (x : Option WrittenType) →
      Ranked (attribute_rules s c n p (writing x) o g ++ last)
  unfolding rank attribute_rules attribute_to_16
  attribute-ranked c o g none = (refl, refl)
  attribute-ranked c o g (some (G.text l none)) = (refl, refl)
  attribute-ranked c o g (some (G.text l (some y))) = (refl, refl)
  attribute-ranked c o g (some (G.numeric none y)) = (refl, refl)
  attribute-ranked c o g (some (G.numeric (some x) y)) = (refl, refl)
  attribute-ranked c o g (some (G.enum e)) = let q = doubled-nine (twice e []) in (rw q, rw q)
  attribute-ranked c o g (some (G.named x)) = (refl, refl)

  member-ranked : (x : Option WrittenType) (o : Option Def) → Ranked (member_rules s n p (writing x) o ++ last)
  unfolding rank
  member-ranked x none = (refl, refl)
  member-ranked x (some c) = attribute-ranked c (inherited_as c n) (resolved s (reference_in x)) x

unit-ranked : (g : Given) (s : State) (u : U.Unit) → Ranked (all_rules g s u)
unfolding rank class_rules extends_rules
unit-ranked g s (U.header v) = (refl, refl)
unit-ranked g s (U.model n q) = (refl, refl)
unit-ranked g s (U.topic n) = (refl, refl)
unit-ranked g s (U.class c n p r) = (refl, refl)
unit-ranked g s (U.domain n p r w) = domain-ranked s n p w.mandatory w.place _ _ r (resolved s r)
    (resolved s (reference_in w.type)) w.type
unit-ranked g s (U.attribute n p w) = member-ranked s n p w.mandatory w.place _ _ w.type s.open_class
unit-ranked g s (U.unit n p r) = (refl, refl)
unit-ranked g s (U.close n) = (refl, refl)

-- ---- ranks
-- different numbers of a list have different ranks
rank-once : (l : List ℕ) (a b : ℕ) → is_in a l ≡ true → is_in b l ≡ true → rank_in l a ≡ rank_in l b → a ≡ b
rank-once [] a b h i e = never h
rank-once (k ∷ l) a b h i e = go (eqb k a) (eqb k b) refl refl h i e (rank-once l a b)
  where
    go : (x y : Bool) → eqb k a ≡ x → eqb k b ≡ y → (x || is_in a l) ≡ true → (y || is_in b l) ≡ true →
        cond x 0 (suc (rank_in l a)) ≡ cond y 0 (suc (rank_in l b)) →
        (is_in a l ≡ true → is_in b l ≡ true → rank_in l a ≡ rank_in l b → a ≡ b) → a ≡ b
    go true true p q h i e ih = sym (eqb-true k a p) ∙ eqb-true k b q
    go true false p q h i e ih = absurd (omega arith)
    go false true p q h i e ih = absurd (omega arith)
    go false false p q h i e ih = ih h i (omega arith)

rank-only : (a b : ℕ) → is_in a order ≡ true → is_in b order ≡ true → rank a ≡ rank b → a ≡ b
unfolding rank
rank-only a b = rank-once order a b

rising-parts : (k : ℕ) (r : Rule) (l : List Rule) → rising k (r ∷ l) ≡ true
    → (k ≤ rank r.number) × (rising (rank r.number) l ≡ true)
rising-parts k r l h =
    let z : (leb k (rank r.number) ≡ true) × (rising (rank r.number) l ≡ true) = split h in
    (leb-true k (rank r.number) z.0, z.1)

rising-in : (k : ℕ) (l : List Rule) → rising k l ≡ true → {r : Rule} → In r l → k ≤ rank r.number
rising-in k [] h i = elim i [ ]
rising-in k (q ∷ l) h first = (rising-parts k q l h).0
rising-in k (q ∷ l) h {r} (later i) =
    let z = rising-parts k q l h in
    let y = rising-in (rank q.number) l z.1 i in omega arith

-- ---- the broken rules of a number
at-broken : (n : ℕ) (r : Rule) (l : List Rule) → r.number ≡ n → r.broken ≡ true → broken_at n (r ∷ l) ≡ some r.place
at-broken n r l e b = rw (b, eq-eqb r.number n e)

at-kept : (n : ℕ) (r : Rule) (l : List Rule) → r.broken ≡ false → broken_at n (r ∷ l) ≡ broken_at n l
at-kept n r l b = rw (b, fail-r (eqb r.number n) {y = false} refl)

at_other : (n : ℕ) (r : Rule) (l : List Rule) → eqb r.number n ≡ false → broken_at n (r ∷ l) ≡ broken_at n l
at_other n r l e = rw e

-- where one is broken, there is one
at_in : (n p : ℕ) (l : List Rule) → broken_at n l ≡ some p → (r : Rule) × In r l × (r.number ≡ n)
at_in n p [] e = apart (sym e)
at_in n p (r ∷ l) e = go (eqb r.number n) refl (λ q. at_in n p l q)
  where
    go : (t : Bool) → eqb r.number n ≡ t → (broken_at n l ≡ some p → (r : Rule) × In r l × (r.number ≡ n)) →
        (q : Rule) × In q (r ∷ l) × (q.number ≡ n)
    go true f ih = (r, first, eqb-true r.number n f)
    go false f ih = let (q, i, h) = ih (sym (at_other n r l f) ∙ e) in (q, later i, h)

pub of-order-in : (l : List Rule) → of_order l ≡ true → {r : Rule} → In r l → is_in r.number order ≡ true
of-order-in [] h i = elim i [ ]
of-order-in (q ∷ l) h first = let z : (is_in q.number order ≡ true) × (of_order l ≡ true) = split h in z.0
of-order-in (q ∷ l) h (later i) =
    let z : (is_in q.number order ≡ true) × (of_order l ≡ true) = split h in of-order-in l z.1 i

-- ---- the first that is broken
same-refusal : {n p m q : ℕ} → refused n p ≡ refused m q → (n ≡ m) × (p ≡ q)
same-refusal e = (cc, cc)

here : (k : ℕ) (r : Rule) (l : List Rule) (n p : ℕ) → rising k (r ∷ l) ≡ true → r.broken ≡ true
    → r.number ≡ n → r.place ≡ p
    → FirstInOrder (r ∷ l) n p
here k r l n p h b e f = record {
  before = [];
  behind = l;
  split = λ i. record { number = e i; place = f i; broken = b i } ∷ l;
  kept = tt;
  leads = record { lower = λ q i z. let y = from q i in absurd (omega arith); named = at-broken n r l e b ∙ ap some f };
}
  where
    from : (q : Rule) → In q (r ∷ l) → rank n ≤ rank q.number
    from q first = let y = ap rank e in omega arith
    from q (later i) =
        let y = ap rank e in
        let z = rising-in (rank r.number) l (rising-parts k r l h).1 i in omega arith

further : (r : Rule) (l : List Rule) (n p : ℕ) → r.broken ≡ false → FirstInOrder l n p → FirstInOrder (r ∷ l) n p
further r l n p b h = record {
  before = r ∷ h.before;
  behind = h.behind;
  split = ap (λ (x : List Rule). r ∷ x) h.split;
  kept = (b, h.kept);
  leads = record { lower = lower; named = at-kept n r l b ∙ h.leads.named };
}
  where
    lower : (q : Rule) → In q (r ∷ l) → rank q.number < rank n → q.broken ≡ false
    lower q first z = b
    lower q (later i) z = h.leads.lower q i z

first-in-order : (k : ℕ) (l : List Rule) (s : State) (n p : ℕ) → rising k l ≡ true
    → first_broken_or l s ≡ refused n p → FirstInOrder l n p
first-in-order k [] s n p h q = not-refused q
first-in-order k (r ∷ l) s n p h q =
    go r.broken refl q (first-in-order (rank r.number) l s n p (rising-parts k r l h).1)
  where
    go : (b : Bool) → r.broken ≡ b → cond b (refused r.number r.place) (first_broken_or l s) ≡ refused n p →
        (first_broken_or l s ≡ refused n p → FirstInOrder l n p) → FirstInOrder (r ∷ l) n p
    go true e z ih = let (x, y) = same-refusal z in here k r l n p h e x y
    go false e z ih = further r l n p e (ih z)

-- ---- and no other
-- where another number is broken, its rank is not lower, and so none of this number stands behind it
no_other : (r : Rule) (l : List Rule) (n p : ℕ) → rising (rank r.number) l ≡ true
    → is_in r.number order ≡ true → of_order l ≡ true
    → Leads (r ∷ l) n p → r.broken ≡ true → eqb r.number n ≡ false → ⊥
no_other r l n p h i o d b e =
    let (q, j, f) = at_in n p l (sym (at_other n r l e) ∙ d.named) in
    let k : is_in n order ≡ true = subst (λ (x : ℕ). is_in x order ≡ true) f (of-order-in l o j) in
    let u : rank r.number ≤ rank n =
    subst (λ (x : ℕ). rank r.number ≤ rank x) f (rising-in (rank r.number) l h j) in
    go (ltb (rank r.number) (rank n)) refl u k
  where
    go : (t : Bool) → ltb (rank r.number) (rank n) ≡ t → rank r.number ≤ rank n → is_in n order ≡ true → ⊥
    go true z u k = not-both b (d.lower r first (ltb-true (rank r.number) (rank n) z))
    go false z u k =
        let y = ltb-false (rank r.number) (rank n) z in
        not-both (eq-eqb r.number n (rank-only r.number n i k (omega arith))) e

behind-kept : (r : Rule) (l : List Rule) (n p : ℕ) → r.broken ≡ false → Leads (r ∷ l) n p → Leads l n p
behind-kept r l n p b d = record { lower = λ q i z. d.lower q (later i) z; named = sym (at-kept n r l b) ∙ d.named }

leads-first : (k : ℕ) (l : List Rule) (s : State) (n p : ℕ) → rising k l ≡ true → of_order l ≡ true → Leads l n p
    → first_broken_or l s ≡ refused n p
leads-first k [] s n p h o d = apart (sym d.named)
leads-first k (r ∷ l) s n p h o d =
    let x : (is_in r.number order ≡ true) × (of_order l ≡ true) = split o in
    let y = (rising-parts k r l h).1 in
    go r.broken refl (eqb r.number n) refl (no_other r l n p y x.0 x.1 d)
    (leads-first (rank r.number) l s n p y x.1)
  where
    go : (b : Bool) → r.broken ≡ b → (t : Bool) → eqb r.number n ≡ t
        → (r.broken ≡ true → eqb r.number n ≡ false → ⊥)
        → (Leads l n p → first_broken_or l s ≡ refused n p) → first_broken_or (r ∷ l) s ≡ refused n p
    go true b true e f ih =
        let m = eqb-true r.number n e in
        let z : some r.place ≡ some p = sym (at-broken n r l m b) ∙ d.named in
        let q : r.place ≡ p = cc in
        rw b (rw (m, q))
    go true b false e f ih = absurd (f b e)
    go false b t e f ih = rw b (ih (behind-kept r l n p b d))

-- ---- none that is broken
passed_none : (l : List Rule) (s x : State) → first_broken_or l s ≡ ok x → All Unbroken l × (s ≡ x)
passed_none l s x q = let h = first-broken-ok l s x q in (h.unbroken, h.next)

none_passes : (l : List Rule) (s : State) → All Unbroken l → first_broken_or l s ≡ ok s
none_passes [] s h = refl
none_passes (r ∷ l) s h = let b = h.0 in rw b (none_passes l s h.1)

pub units-ranked : UnitsRanked
units-ranked g s u =
    let (h, o) = unit-ranked g s u in
    let j = judged-rules g s u in
    record {
      judges = j;
      stand_in_order = h;
      of_some_order = o;
      passed = λ x. (
        λ q. passed_none (all_rules g s u) (next_state s u) x (sym j ∙ q),
        λ q. j ∙ (none_passes (all_rules g s u) (next_state s u) q.0 ∙ ap ok q.1),
      );
      first = λ n p q. first-in-order 0 (all_rules g s u) (next_state s u) n p h (sym j ∙ q);
      only = λ n p d. j ∙ leads-first 0 (all_rules g s u) (next_state s u) n p h o d;
    }

-- ---- every text
blamed : (t : List ℕ) (g : Given) (s : State) (n p : ℕ) → Blamed t g s n p → RuleBroken t g s n p
blamed t g s n p b = record {
  unit = b.unit;
  judges = b.judges;
  refuses = b.refuses;
  first = (units-ranked g s b.unit).first n p b.refuses;
  first_symbol = first_symbol t g s b.unit n p b.judges b.refuses;
}

refused-so : (t : List ℕ) (g : Given) (n p : ℕ) (o : Outcome) → Ending t g o
    → answer_of t o ≡ refusing t n p → Refused t g n p
refused-so t g n p (kept s) h e = clash (sym e)
refused-so t g n p (unread s f q) h e =
    let (x, y, l, c) = same-refused e in
    inl (f, sym x, subst (Unread t g f) y h)
refused-so t g n p (ruled_out s i q) h e =
    let (x, y, l, c) = same-refused e in
    inr (s, subst (λ (j : ℕ). RuleBroken t g s j p) x (subst (RuleBroken t g s i) y (blamed t g s i q h)))

not-read-so : (t : List ℕ) (g : Given) (f : Fault) (p : ℕ) → Unread t g f p
    → answer_of t (run t g) ≡ refusing t (number_of f) p
not-read-so t g f p (long h e z) = ap (answer_of t) (long-run t g h) ∙ rw (e, z)
not-read-so t g f p (stuck r e) = ap (answer_of t) (stuck-run t g r e)

so-refused : (t : List ℕ) (g : Given) (n p : ℕ) → Refused t g n p → answer_of t (run t g) ≡ refusing t n p
so-refused t g n p (inl (f, e, h)) = not-read-so t g f p h ∙ ap (λ (k : ℕ). refusing t k p) (sym e)
so-refused t g n p (inr (s, b)) = ap (answer_of t) (judged-run t g b.judges n p b.refuses)

fault-small : (f : Fault) → number_of f < 7
fault-small too_long = omega arith
fault-small no_symbol = omega arith
fault-small unclosed = omega arith
fault-small too_large = omega arith
fault-small impossible = omega arith
fault-small reserved = omega arith

pub texts-ranked : TextsRanked
texts-ranked = record {
  refused = λ t g n p. (λ e. refused-so t g n p (run t g) (run_ends t g) e, so-refused t g n p);
  broken = λ t g n p e l. by-rule t g n p l (refused-so t g n p (run t g) (run_ends t g) e);
  ruled_out = λ t g s n p e. blamed t g s n p (subst (Ending t g) e (run_ends t g));
}
  where
    by-rule : (t : List ℕ) (g : Given) (n p : ℕ) → 7 ≤ n → Refused t g n p → (s : State) × RuleBroken t g s n p
    by-rule t g n p l (inl (f, e, h)) = let z = fault-small f in absurd (omega arith)
    by-rule t g n p l (inr h) = h
