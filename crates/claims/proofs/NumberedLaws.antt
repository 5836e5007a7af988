-- Every refusal has a number of the table and a place of the text, and every acceptance is small.
use mathlib.Core.Path.{◌≡◌, refl, sym, subst}
use mathlib.Core.Logic.{◌⊎◌, inl, inr, ⊎_elim}
use mathlib.Core.Bool.{Bool, true, false, cond, ◌&&◌}
use mathlib.Core.List.{List, [], ◌∷◌, ◌++◌}
use Prim.Native.Nat.{ℕ, suc, ◌≤◌}
use native.Mathlib.Omega.{arith}
use lib.ListN.{length, length-append}
use lib.Dec.{eqb}
use borrow.Author.Tests.{eqb-true, ltb-false}
use Rattle.rules.specs.Symbols.{Fault, too_long, no_symbol, unclosed, too_large, impossible, reserved, number_of}
use Rattle.rules.specs.Symbols.{symbol_at}
use Rattle.rules.specs.Readers as R
use Rattle.rules.specs.Units.{Where, unit_at}
use Rattle.rules.specs.Declarations.{State}
use Rattle.rules.specs.Book.{Record, bytes, is_definition, definitions, records}
use Rattle.rules.specs.Judge.{rule}
use Rattle.rules.specs.Check.{Given, check}
use Rattle.rules.specs.All.{In, first}
use Rattle.rules.proofs.AllLaws.{any-is}
use Rattle.rules.proofs.Tests.{never, split, or_split}
use Rattle.claims.specs.Reached.{Reaches, begin, pass}
use Rattle.claims.specs.Ranking.{order, is_in, all_rules, Unread, long, stuck, RuleBroken, Refused}
use Rattle.claims.specs.Numbered.{table, Numbered, RefusedNumbered, AcceptedSmall}
use Rattle.claims.proofs.StateLaws.{in_all, in_right}
use Rattle.claims.proofs.RunLaws.{reached-place, reached-reads}
use Rattle.claims.proofs.PromiseLaws.{accepted-book}
use Rattle.claims.proofs.RankingLaws.{units-ranked, of-order-in, texts-ranked}
use Rattle.claims.proofs.UnitLaws.{UnitIn, Stops, Ends, Read, unit-read}
use Rattle.claims.proofs.PlaceLaws.{RuleIn, all-rules-in}

-- ---- numbers
abbrev all_in : List ℕ → List ℕ → Bool
all_in [] m = true
all_in (k ∷ l) m = is_in k m && all_in l m

is-in : (n : ℕ) (l m : List ℕ) → all_in l m ≡ true → is_in n l ≡ true → is_in n m ≡ true
is-in n [] m h i = never i
is-in n (k ∷ l) m h i =
    let x : (is_in k m ≡ true) × (all_in l m ≡ true) = split h in
    let y : (eqb k n ≡ true) ⊎ (is_in n l ≡ true) = or_split i in
    ⊎_elim (λ e. subst (λ (j : ℕ). is_in j m ≡ true) (eqb-true k n e) x.0) (λ e. is-in n l m x.1 e) y

fault-number : (f : Fault) → is_in (number_of f) table ≡ true
fault-number too_long = refl
fault-number no_symbol = refl
fault-number unclosed = refl
fault-number too_large = refl
fault-number impossible = refl
fault-number reserved = refl

-- ---- places
module _ (t : List ℕ) (g : Given) where
  pub reached-short : {f : ℕ} {w : _} {s : State} {at : ℕ} → Reaches t g f w s at → length t ≤ 65535
  reached-short (begin e) = ltb-false 65535 (length t) e
  reached-short (pass r o q y x e j) = reached-short r

  pub stuck-stops : {k : ℕ} {w : Where} {s : State} {at p : ℕ} {f : Fault} → Reaches t g (suc k) w s at
      → unit_at w t (symbol_at t at) ≡ R.refused f p → Stops t f p
  stuck-stops {w} {at} r q = subst (Ends t 0 (Read t w)) q (unit-read t w at (reached-place t g r).0)

  not-read : (f : Fault) (n p : ℕ) → n ≡ number_of f → Unread t g f p → Numbered t n p
  not-read f n p e (long h i z) = record { number = rw e (fault-number f); place = omega arith; short = omega arith }
  not-read f n p e (stuck r q) =
      let l = stuck-stops r q in
      let k = reached-short r in
      record { number = rw e (fault-number f); place = l.0; short = omega arith }

  rule-in : (s : State) (n p : ℕ) (b : RuleBroken t g s n p) → In (rule n p true) (all_rules g s b.unit)
  rule-in s n p b = subst (In (rule n p true)) (sym b.first.split) (in_right b.first.before first)

  pub rule-number : (s : State) (n p : ℕ) → RuleBroken t g s n p → is_in n order ≡ true
  rule-number s n p b =
      of-order-in (all_rules g s b.unit) (units-ranked g s b.unit).of_some_order (rule-in s n p b)

  rule-broken : (s : State) (n p : ℕ) → RuleBroken t g s n p → Numbered t n p
  rule-broken s n p b =
      let j = b.judges in
      let u : UnitIn t b.unit = any-is (UnitIn t) _ b.unit
      (reached-reads t g j.reaches j.step j.after j.reads).places j.unit in
      let q : p ≤ length t = in_all (RuleIn t) (all-rules-in t g s b.unit u) (rule-in s n p b) in
      let m = reached-short j.reaches in
      record {
        number = is-in n order table refl (rule-number s n p b);
        place = q;
        short = omega arith;
      }

  numbered : (n p : ℕ) → Refused t g n p → Numbered t n p
  numbered n p (inl (f, e, h)) = not-read f n p e h
  numbered n p (inr (s, h)) = rule-broken s n p h

pub refused-numbered : RefusedNumbered
refused-numbered t g n p e = numbered t g n p ((texts-ranked.refused t g n p).0 e)

-- ---- a definition has a record, and a record has bytes
counted : (l : List Record) → definitions l ≤ length (bytes l)
counted [] = omega arith
counted ([] ∷ l) = counted l
counted ((b ∷ r) ∷ l) = go (is_definition (b ∷ r)) (counted l)
  where
    go : (t : Bool) → definitions l ≤ length (bytes l)
        → cond t (suc (definitions l)) (definitions l) ≤ suc (length (r ++ bytes l))
    go true h = let e = length-append r (bytes l) in omega arith
    go false h = let e = length-append r (bytes l) in omega arith

pub accepted-small : AcceptedSmall
accepted-small t g n k e =
    let b = accepted-book t g n k (check t g).buffer (record { answer = sym e; buffer = refl }) in
    let c = counted (records b.state) in
    let p = b.size in
    let q = b.count in
    record { short = b.short; count = omega arith }
