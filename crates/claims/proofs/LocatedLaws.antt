-- A refusal has the line and the column of its place, which are counted as claimed, in one way; they keep the order of
-- places, and determine them.
use mathlib.Core.Path.{◌≡◌, refl, sym, ap, ◌∙◌, subst}
use mathlib.Core.Logic.{inl, inr, ⊎_elim}
use mathlib.Core.Bool.{Bool, true, false}
use mathlib.Core.List.{List}
use Prim.Native.Nat.{ℕ, zero, suc, ◌-◌, ◌≤◌, ◌<◌}
use native.Mathlib.Omega.{arith}
use lib.ListN.{length, drop, get_or}
use lib.Dec.{ltb}
use lib.Seq.{get_or-drop}
use borrow.Author.Tests.{eqb-true, eqb-false, eq-eqb, ne_eqb, ltb-true, ltb-false, lt-ltb}
use Rattle.rules.specs.Bytes.{is}
use Rattle.rules.specs.Lines.{Position, position, ends_at, position_of}
use Rattle.rules.specs.Check.{Given, Outcome, kept, unread, ruled_out, run, Refusal, refusal, refusal_of, refusing}
use Rattle.rules.specs.Check.{answer_of, check}
use Rattle.rules.proofs.Tests.{never, not-both, both, split, or_l, or_r, or_split, not-false, not_is, is_false}
use Rattle.rules.proofs.LineLaws.{behind, position_first, position-next, position-end, line-bound, column-bound}
use Rattle.claims.specs.Ranking as R
use Rattle.claims.specs.Located.{AtItsPlace, Ends, Counts, Before, Located}
use Rattle.claims.proofs.PromiseLaws.{same-refused, clash}
use Rattle.claims.proofs.RunLaws.{Ending, run_ends, long-run}
use Rattle.claims.proofs.RankingLaws.{texts-ranked}
use Rattle.claims.proofs.NumberedLaws.{stuck-stops, rule-number}

-- ---- refusals
at_its_place : (t : List ℕ) (n p : ℕ) (r : Refusal) → refusing t n p ≡ refusal r → AtItsPlace t r
at_its_place t n p r e =
    let (i, q, l, c) = same-refused e in
    record {
      line = sym l ∙ ap (λ (k : ℕ). (position_of t k).line) q;
      column = sym c ∙ ap (λ (k : ℕ). (position_of t k).column) q;
    }

refused : (t : List ℕ) (o : Outcome) (r : Refusal) → answer_of t o ≡ refusal r → AtItsPlace t r
refused t (kept s) r e = clash (sym e)
refused t (unread s f p) r e = at_its_place t _ p r e
refused t (ruled_out s n p) r e = at_its_place t n p r e

long : (t : List ℕ) (g : Given) → 65535 < length t → (check t g).answer ≡ refusal_of 1 0 1 1
long t g h =
    ap (answer_of t) (long-run t g (lt-ltb 65535 (length t) h))
    ∙ ap (λ (q : Position). refusal_of 1 0 q.line q.column)
    (position_first t)

only_long : (t : List ℕ) (g : Given) (r : Refusal) → (check t g).answer ≡ refusal r → r.number ≡ 1 → 65535 < length t
only_long t g r e n = go (run t g) refl (run_ends t g) e
  where
    go : (o : Outcome) → run t g ≡ o → Ending t g o → answer_of t o ≡ refusal r → 65535 < length t
    go (kept s) q h a = clash (sym a)
    go (unread s f p) q (R.long l i z) a = ltb-true 65535 (length t) l
    go (unread s f p) q (R.stuck h i) a =
        let x = stuck-stops t g h i in let y = (same-refused a).0 in absurd (omega arith)
    go (ruled_out s k p) q h a =
        let x = rule-number t g s k p (texts-ranked.ruled_out t g s k p q) in
        let y : k ≡ 1 = (same-refused a).0 ∙ n in
        never (rw y at x)

-- ---- the bytes that end a line
module _ (t : List ℕ) (p : ℕ) where
  next-byte : get_or (drop (suc p) t) 0 0 ≡ get_or t (suc p) 0
  next-byte = get_or-drop (suc p) t 0 0 ∙ ap (λ (k : ℕ). get_or t k 0) (omega arith)

  to-test : Ends t p → ends_at t p ≡ true
  to-test (inl e) = or_l _ (eq-eqb _ _ e)
  to-test (inr (e, n)) =
      or_r (is "\n" (get_or t p 0)) (both (eq-eqb _ _ e) (not-false (ne_eqb _ _ (λ q. n (sym next-byte ∙ q)))))

  from-test : ends_at t p ≡ true → Ends t p
  from-test e = ⊎_elim (λ q. inl (eqb-true _ _ q))
      (λ q. let (x, y) = split {x = is "\r" (get_or t p 0)} q in
      inr (eqb-true _ _ x, λ z. eqb-false _ _ (not_is y) (next-byte ∙ z)))
      (or_split {x = is "\n" (get_or t p 0)} e)

  step : (b : Bool) → p < length t → ends_at t p ≡ b → position_of t (suc p) ≡ behind b (position_of t p)
  step b h e = position-next t p h ∙ ap (λ (c : Bool). behind c (position_of t p)) e

counts : Counts position_of
counts = record {
  front = position_first;
  below = λ t p h e. step t p true h (to-test t p e);
  beside = λ t p h n. step t p false h (is_false (λ e. n (from-test t p e)));
}

only : (f : List ℕ → ℕ → Position) → Counts f → (t : List ℕ) (p : ℕ) → p ≤ length t → f t p ≡ position_of t p
only f c t zero h = c.front t ∙ sym (position_first t)
only f c t (suc p) h = go (ends_at t p) refl (only f c t p (omega arith))
  where
    go : (b : Bool) → ends_at t p ≡ b → f t p ≡ position_of t p → f t (suc p) ≡ position_of t (suc p)
    go true e q = c.below t p h (from-test t p e) ∙ (ap (behind true) q ∙ sym (step t p true h e))
    go false e q =
        c.beside t p h (λ z. not-both (to-test t p z) e) ∙ (ap (behind false) q ∙ sym (step t p false h e))

-- ---- where a line begins
column-of : {a b : Position} → a ≡ b → a.column ≡ b.column
column-of e = ap (λ (q : Position). q.column) e

line_of : {a b : Position} → a ≡ b → a.line ≡ b.line
line_of e = ap (λ (q : Position). q.line) e

begins : (t : List ℕ) (p c : ℕ) → p ≤ length t → (position_of t p).column ≡ suc c
    → position_of t (p - c) ≡ position (position_of t p).line 1
begins t zero c h e =
    let f = position_first t in
    let z : 0 - c ≡ 0 = omega arith in
    rw z (f ∙ ap (λ (l : ℕ). position l 1) (sym (line_of f)))
begins t (suc p) c h e = go (ends_at t p) refl c e (λ k x. begins t p k (omega arith) x)
  where
    go : (b : Bool) → ends_at t p ≡ b → (c : ℕ) → (position_of t (suc p)).column ≡ suc c
        → ((k : ℕ) → (position_of t p).column ≡ suc k → position_of t (p - k) ≡ position (position_of t p).line 1)
        → position_of t (suc p - c) ≡ position (position_of t (suc p)).line 1
    go true x c e i =
        let s = step t p true h x in
        let z : suc p - c ≡ suc p = omega (arith, column-of s) in
        rw z (s ∙ ap (λ (l : ℕ). position l 1) (sym (line_of s)))
    go false x zero e i = let s = step t p false h x in absurd (omega (arith, column-of s, column-bound t p))
    go false x (suc c) e i =
        let s = step t p false h x in
        let z : suc p - suc c ≡ p - c = omega arith in
        rw z (i c (omega (arith, column-of s)) ∙ ap (λ (l : ℕ). position l 1) (sym (line_of s)))

-- ---- order
later : (b : Bool) (q : Position) → Before q (behind b q)
later true q = inl (omega arith)
later false q = inr (refl, omega arith)

before-trans : {a b c : Position} → Before a b → Before b c → Before a c
before-trans (inl h) (inl k) = inl (omega arith)
before-trans (inl h) (inr k) = inl (omega arith)
before-trans (inr h) (inl k) = inl (omega arith)
before-trans (inr h) (inr k) = inr (h.0 ∙ k.0, omega arith)

before-apart : {a b : Position} → Before a b → a ≡ b → ⊥
before-apart (inl h) e = let z = line_of e in omega arith
before-apart (inr h) e = let z = column-of e in omega arith

module _ (t : List ℕ) where
  next-before : (p : ℕ) → p < length t → Before (position_of t p) (position_of t (suc p))
  next-before p h = subst (Before (position_of t p)) (sym (position-next t p h)) (later (ends_at t p) (position_of t p))

  ordered : (p q : ℕ) → p < q → q ≤ length t → Before (position_of t p) (position_of t q)
  ordered p zero h k = absurd (omega arith)
  ordered p (suc q) h k = go (ltb p q) refl (λ l. ordered p q l (omega arith))
    where
      go : (b : Bool) → ltb p q ≡ b → (p < q → Before (position_of t p) (position_of t q))
          → Before (position_of t p) (position_of t (suc q))
      go true e f = before-trans (f (ltb-true p q e)) (next-before q k)
      go false e f = let z = ltb-false p q e in let x : p ≡ q = omega arith in rw x (next-before q k)

  determined : (p q : ℕ) → p ≤ length t → q ≤ length t → position_of t p ≡ position_of t q → p ≡ q
  determined p q h k e = go (ltb p q) (ltb q p) refl refl
    where
      go : (b c : Bool) → ltb p q ≡ b → ltb q p ≡ c → p ≡ q
      go true c x y = absurd (before-apart (ordered p q (ltb-true p q x) k) e)
      go false true x y = absurd (before-apart (ordered q p (ltb-true q p y) h) (sym e))
      go false false x y = omega (arith, ltb-false p q x, ltb-false q p y)

pub located : Located
located = record {
  refused = λ t g. refused t (run t g);
  long = long;
  only_long = only_long;
  counts = counts;
  end = position-end;
  only = only;
  line_within = line-bound;
  column_within = column-bound;
  begins = begins;
  ordered = ordered;
  determined = determined;
}
