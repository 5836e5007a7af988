-- How readers of the code are put together as those of the rules are.
use mathlib.Core.Path.{◌≡◌, refl, sym, ap, ◌∙◌}
use mathlib.Core.Bool.{Bool, true, false, cond}
use mathlib.Core.List.{List}
use Prim.Native.Nat.{ℕ}
use native.Mathlib.Omega.{arith}
use lib.Dec.{eqb}
use borrow.Author.Tests.{eq-eqb, ne_eqb, eqb-true}
use Rattle.rules.specs.Names.{name_of}
use Rattle.rules.specs.Symbols as rules
use Rattle.rules.specs.Symbols.{Fault, symbol_at, end_of}
use Rattle.rules.specs.Readers.{Result, done, refused, Reader, and_then, ◌>>=◌, ret, expect, a_name, if_next}
use Rattle.symbols.specs.declared.Symbol.{Symbol}
use Rattle.symbols.specs.Cut.{code_of, faulty_as, cut, next_of}
use Rattle.symbols.proofs.CutLaws.{its-length, next-cut}
use Rattle.readers.specs.Reads.{fault_at, Stands, Cuts, Held, passed, named, name_cut, Gives, Reads}
use Rattle.readers.proofs.CodeLaws.{Test, is_name}
use Rattle.readers.proofs.StandLaws.{at-stands, fault-stands}

-- ---- faults go on
abbrev pub Passes : List ℕ → Symbol → Symbol → Type 0
Passes t y n = (f : Fault) (p : ℕ) → Cuts t (fault_at f p) y → Cuts t (fault_at f p) n

pub onward : {t : List ℕ} {x y z : Symbol} → Passes t x y → Passes t y z → Passes t x z
onward h g f p c = g f p (h f p c)

-- ---- one reader after another
module _ {A B : Type 0} {t : List ℕ} {Q : A → Type 0} {P : B → Type 0} where
  then-gives : {n m : Symbol} (r : Result A) (K : A → Reader B) → Gives t r Q n
      → ((a : A) → Q a → (z : rules.Symbol) → Cuts t z n → Gives t (K a t z) P m)
      → Passes t n m → Gives t (and_then t r K) P m
  then-gives (done a z) K g k h = k a g.value z g.next
  then-gives (refused f p) K g k h = record { next = h f p g.next; value = tt }

  pub bind : {R : Reader A} {K : A → Reader B} {y n m : Symbol} → Reads t R Q y n
      → ((a : A) → Q a → Reads t (K a) P n m) → Passes t n m
      → Reads t (R >>= K) P y m
  bind {R} {K} r k h =
      record {
        reads = λ z c. then-gives (R t z) K (r.reads z c) (λ a q w d. (k a q).reads w d) h;
        passes = onward r.passes h;
      }

pub stay : {A : Type 0} {t : List ℕ} {P : A → Type 0} {y : Symbol} (a : A) → P a → Reads t (ret a) P y y
stay a p = record { reads = λ z c. record { next = c; value = p }; passes = λ f p c. c }

pub mapped : {A B : Type 0} {t : List ℕ} {R : Reader A} {Q : A → Type 0} {P : B → Type 0} {y n : Symbol} (g : A → B)
    → Reads t R Q y n
    → ((a : A) → Q a → P (g a)) → Reads t (R >>= λ a. ret (g a)) P y n
mapped g r k = bind r (λ a q. stay (g a) (k a q)) (λ f p c. c)

pub weaker : {A : Type 0} {t : List ℕ} {R : Reader A} {Q P : A → Type 0} {y n : Symbol} → Reads t R Q y n
    → ((a : A) → Q a → P a) → Reads t R P y n
weaker {t} {R} {Q} {P} {y} {n} r k = record { reads = λ z c. go (R t z) (r.reads z c); passes = r.passes }
  where
    go : (m : Result _) → Gives t m Q n → Gives t m P n
    go (done a w) g = record { next = g.next; value = k a g.value }
    go (refused f p) g = record { next = g.next; value = tt }

pub gives-map : {A B : Type 0} {t : List ℕ} {P : B → Type 0} {n : Symbol} (m : Result A) (g : A → B)
    → Gives t m (λ a. P (g a)) n
    → Gives t (and_then t m (λ a. ret (g a))) P n
gives-map (done a z) g h = record { next = h.next; value = h.value }
gives-map (refused f p) g h = record { next = h.next; value = tt }

pub gives-weaker : {A : Type 0} {t : List ℕ} {m : Result A} {P Q : A → Type 0} {n : Symbol} → Gives t m P n
    → ((a : A) → P a → Q a) → Gives t m Q n
gives-weaker {m = done a z} h k = record { next = h.next; value = k a h.value }
gives-weaker {m = refused f p} h k = record { next = h.next; value = tt }

-- ---- a choice
module _ {A : Type 0} {t : List ℕ} {P : A → Type 0} {y n : Symbol} (p : rules.Symbol → Bool) (q r : Reader A) where
  pub if-true : ((z : rules.Symbol) → Cuts t z y → p z ≡ true) → Reads t q P y n → Reads t (if_next p q r) P y n
  if-true h g = record { reads = λ z c. rw (h z c) (g.reads z c); passes = g.passes }

  pub if-false : ((z : rules.Symbol) → Cuts t z y → p z ≡ false) → Reads t r P y n → Reads t (if_next p q r) P y n
  if-false h g = record { reads = λ z c. rw (h z c) (g.reads z c); passes = g.passes }

-- ---- symbols of the text
pub held : {A : Type 0} {t : List ℕ} {R : Reader A} {Q : A → Type 0} {y n : Symbol}
    → Reads t R Q y n → Held t y → Held t n
held r (z, c) = (_, (r.reads z c).next)

-- ---- the symbol that is to come
both_ways : {A B : Type 0} (P : A → B → Type 0) (b : Bool) {x y : A} {u v : B} → P x u
    → P y v → P (cond b x y) (cond b u v)
both_ways P true h g = h
both_ways P false h g = g

module _ {t : List ℕ} {p : rules.Symbol → Bool} {k : ℕ} (q : Test p k) where
  expect-at : (z : rules.Symbol) → Stands t z → Gives t (expect p t z) (λ a. cut t z ≡ cut t a) (passed t (cut t z) k)
  expect-at z s =
      rw (q.test z s.coded)
      (both_ways (λ m n. Gives t m (λ a. cut t z ≡ cut t a) n) (eqb (code_of z.kind z.bytes) k)
      (record {
        next = record { cuts = next-cut t z s.level s.ends; stands = at-stands t (end_of z) s.ends };
        value = refl;
      })
      (record {
        next = record { cuts = refl; stands = fault-stands t _ _ (let e = s.ends in omega arith) };
        value = tt;
      }))

  pub expected : {y n : Symbol} → n ≡ passed t y k → Reads t (expect p) (λ a. y ≡ cut t a) y n
  expected {y} {n} e =
      record {
        reads = λ z c. rw (e, c.cuts) (expect-at z c.stands);
        passes = λ f p c. record { cuts = e ∙ rw (c.cuts, ne_eqb 5 k (λ h. q.sound (sym h))); stands = c.stands };
      }

  -- a test that the code made
  pub is-yes : {y : Symbol} → y.code ≡ k → (z : rules.Symbol) → Cuts t z y → p z ≡ true
  is-yes h z c = q.test z c.stands.coded ∙ eq-eqb _ k (rw c.cuts at h)

  pub is-no : {y : Symbol} → (y.code ≡ k → ⊥) → (z : rules.Symbol) → Cuts t z y → p z ≡ false
  is-no h z c = q.test z c.stands.coded ∙ ne_eqb _ k (rw c.cuts at h)

-- where a symbol of the text stands
pub named-cut : (t : List ℕ) {y : Symbol} (z : rules.Symbol) → y ≡ cut t z → named y ≡ name_cut (name_of z)
named-cut t z h = ap named h ∙ ap (λ n. record { offset = z.place; len = n }) (its-length t z)

pub a-name : {t : List ℕ} {y n : Symbol} → n ≡ passed t y 1 → Reads t a_name (λ a. named y ≡ name_cut a) y n
a-name {t} e = mapped name_of (expected is_name e) (named-cut t)

-- the same, and what is known of the symbol that is passed
pub passes-by : {t : List ℕ} {p : rules.Symbol → Bool} {k : ℕ} {y n : Symbol} → Test p k → n ≡ passed t y k
    → Reads t (expect p) (λ a. Cuts t a y × (y.code ≡ k)) y n
passes-by {t} {p} {k} {y} {n} q e = record {
  reads = λ z c. go z c (p z) refl ((expected q e).reads z c);
  passes = (expected q e).passes;
}
  where
    go : (z : rules.Symbol) → Cuts t z y → (b : Bool) → p z ≡ b → Gives t (expect p t z) (λ a. y ≡ cut t a) n
        → Gives t (expect p t z) (λ a. Cuts t a y × (y.code ≡ k)) n
    go z c true f g = rw f (record {
      next = rw f at g.next;
      value = (c, ap (λ (x : Symbol). x.code) c.cuts ∙ eqb-true _ k (sym (q.test z c.stands.coded) ∙ f));
    })
    go z c false f g = rw f (record { next = rw f at g.next; value = tt })

-- a symbol that fails the test
pub refuses : {B : Type 0} {t : List ℕ} {P : B → Type 0} {p : rules.Symbol → Bool}
    (k : rules.Symbol → Reader B) {y n : Symbol}
    → ((z : rules.Symbol) → Cuts t z y → p z ≡ false) → n ≡ faulty_as y.refusal y
    → Reads t (expect p >>= k) P y n
refuses {t} k {y} {n} h e =
    let at : (x : Symbol) → y ≡ x → n
    ≡ faulty_as x.refusal x = λ x f. e ∙ ap (λ (s : Symbol). faulty_as s.refusal s) f in
    record {
      reads = λ z c. rw (h z c) (record {
        next = record {
          cuts = at (cut t z) c.cuts;
          stands = fault-stands t _ _ (let l = c.stands.ends in omega arith);
        };
        value = tt;
      });
      passes = λ f p c. record { cuts = at (cut t (fault_at f p)) c.cuts; stands = c.stands };
    }

-- behind a symbol that is passed, there is another
pub behind : {t : List ℕ} {z : rules.Symbol} {y n : Symbol} → Cuts t z y → n ≡ passed t y y.code
    → Cuts t (symbol_at t (end_of z)) n
behind {t} {z} {y} {n} c e = record {
  cuts = e ∙ rw (eq-eqb y.code y.code refl) (ap (λ (s : Symbol). next_of t s.next) c.cuts
      ∙ next-cut t z c.stands.level c.stands.ends);
  stands = at-stands t (end_of z) c.stands.ends;
}

-- a symbol that is taken by its own code
pub taken : {t : List ℕ} {p : rules.Symbol → Bool} {y n : Symbol}
    → ((z : rules.Symbol) → Cuts t z y → p z ≡ true) → (y.code ≡ 5 → ⊥)
    → n ≡ passed t y y.code → Reads t (expect p) (λ a. Cuts t a y) y n
taken {t} {p} {y} {n} h s e =
    record {
      reads = λ z c. rw (h z c) (record { next = behind c e; value = c });
      passes = λ f p c. absurd (s (rw c.cuts));
    }
