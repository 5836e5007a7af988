-- The ways of `Shut` do not keep the promise: each differs at a text that is computed.
use mathlib.Core.Path.{◌≡◌, refl, sym, ap, ◌∙◌}
use mathlib.Core.List.{List}
use Prim.Native.Nat.{ℕ}
use native.Mathlib.Omega.{arith}
use lib.ListN.{length, take, get_or, replicate}
use lib.IntN.{ℤ, pos, nat_abs}
use Rattle.rules.specs.Numbers.{Read, reads, read_value}
use Rattle.rules.specs.Book.{definitions}
use Rattle.rules.specs.Check as C
use Rattle.rules.specs.Lines.{position_of}
use Rattle.rules.specs.Check.{Answer, accepting, refusal_of, refusing, check}
use Rattle.computed.specs.Cases.{model_of}
use Rattle.computed.specs.Shut.{Way, Keeps, later_domain, later_attribute, later_unit, stepwise_domain}
use Rattle.computed.specs.Shut.{stepwise_attribute, straight_domain, Shut}
use Rattle.computed.proofs.Computing.{computing}
use Rattle.computed.proofs.Example.{readings}
use Rattle.claims.proofs.PromiseLaws.{clash, accepted-book}

abbrev forty : List ℕ
forty = model_of "DOMAIN T=-10..40;"

abbrev more : List ℕ
more = model_of "DOMAIN T=-10..41;"

-- refused at one place, on two lines
abbrev below : List ℕ
below = model_of "\nDOMAIN B=A;"

abbrev beside : List ℕ
beside = model_of " DOMAIN B=A;"

abbrev at256 : List ℕ → Answer
at256 t = (check t (C.lent 256)).answer

record Computed : Type 0 where
  one : at256 forty ≡ accepting 35 1
  other : at256 more ≡ accepting 35 1
  first_byte : get_or (check forty (C.lent 256)).buffer 0 0 ≡ 1
  last-bytes : get_or (take 35 (check forty (C.lent 256)).buffer) 27 0 ≡ 40
  other-bytes : get_or (take 35 (check more (C.lent 256)).buffer) 27 0 ≡ 41
  a_later_domain : at256 later_domain ≡ refusing later_domain 17 83
  later-zero : get_or (check later_domain (C.lent 256)).buffer 0 0 ≡ 0
  a_later_attribute : at256 later_attribute ≡ refusing later_attribute 17 132
  a_later_unit : at256 later_unit ≡ refusing later_unit 22 108
  below : at256 below ≡ refusal_of 5 50 2 10
  beside : at256 beside ≡ refusal_of 5 50 1 51
  domain_stepwise : at256 stepwise_domain ≡ accepting 93 3
  attribute_stepwise : at256 stepwise_attribute ≡ accepting 149 7
  domain_straight : at256 straight_domain ≡ refusing straight_domain 17 66

computed : Computed
unfolding computing position_of
computed = record {
  one = refl;
  other = refl;
  first_byte = refl;
  last-bytes = refl;
  other-bytes = refl;
  a_later_domain = refl;
  later-zero = refl;
  a_later_attribute = refl;
  a_later_unit = refl;
  below = refl;
  beside = refl;
  domain_stepwise = refl;
  attribute_stepwise = refl;
  domain_straight = refl;
}

unlike-reads : (v : ℤ) → reads v ≡ reads (pos 1) → nat_abs v ≡ 1
unlike-reads v e = ap (λ (r : Read). nat_abs (read_value r)) e

abbrev lent : List ℕ
lent = replicate 256 0

-- a way that keeps the promise answers and leaves what `check` does
answers : (f : Way) → Keeps f → (t : List ℕ) → (f t lent).answer ≡ at256 t
answers f k t = (k t lent).answer

leaves : (f : Way) → Keeps f → (t : List ℕ) → (f t lent).buffer ≡ (check t (C.lent 256)).buffer
leaves f k t = (k t lent).buffer

pub shut : Shut
shut = record {
  open_way = (λ t b. check t (C.lent (length b)), λ t b. record { answer = refl; buffer = refl });
  refusing = λ f r k. let (q, e) = r forty lent in clash (sym e ∙ (answers f k forty ∙ computed.one));
  one_book = λ f r k.
      let (x, h) = r in
      let a : take 35 (f forty lent).buffer ≡ x = h forty lent 35 1 (answers f k forty ∙ computed.one) in
      let b : take 35 (f more lent).buffer ≡ x = h more lent 35 1 (answers f k more ∙ computed.other) in
      let c : take 35 (check forty (C.lent 256)).buffer ≡ take 35 (check more (C.lent 256)).buffer =
      ap (take 35) (sym (leaves f k forty)) ∙ (a ∙ (sym b ∙ ap (take 35) (leaves f k more))) in
      let z : ◌≡◌ {A = ℕ} 40 41 =
      sym computed.last-bytes ∙ (ap (λ (l : List ℕ). get_or l 27 0) c ∙ computed.other-bytes) in
      omega arith;
  invented_count = λ f r k.
      let (t, b, n, c, e, h) = r in
      let p = accepted-book t (C.lent (length b)) n c (f t b).buffer
      (record { answer = sym e ∙ (k t b).answer; buffer = (k t b).buffer }) in
      h (p.count ∙ ap definitions (sym p.again));
  idle_refusing = λ f r k.
      let b : List ℕ = replicate 256 1 in
      let e = (k later_domain b).answer ∙ computed.a_later_domain in
      let z : ◌≡◌ {A = ℕ} 1 0 = ap (λ (l : List ℕ). get_or l 0 0)
      (sym (r later_domain b 17 83 e) ∙ (k later_domain b).buffer) ∙ computed.later-zero in
      omega arith;
  idle_accepting = λ f r k.
      let z : ◌≡◌ {A = ℕ} 0 1 = ap (λ (l : List ℕ). get_or l 0 0)
      (sym (r forty lent 35 1 (answers f k forty ∙ computed.one)) ∙ leaves f k forty) ∙ computed.first_byte in
      omega arith;
  placed_line = λ f r k.
      let a = r.1 below lent _ (answers f k below ∙ computed.below) in
      let b = r.1 beside lent _ (answers f k beside ∙ computed.beside) in
      let z : ◌≡◌ {A = ℕ} 2 1 = a ∙ sym b in omega arith;
  placed_column = λ f r k.
      let a = r.1 below lent _ (answers f k below ∙ computed.below) in
      let b = r.1 beside lent _ (answers f k beside ∙ computed.beside) in
      let z : ◌≡◌ {A = ℕ} 10 51 = a ∙ sym b in omega arith;
  a_later_domain = λ f r k. clash (sym computed.a_later_domain ∙ (sym (answers f k later_domain) ∙ r.2));
  a_later_attribute = λ f r k. clash (sym computed.a_later_attribute ∙ (sym (answers f k later_attribute) ∙ r.2));
  a_later_unit = λ f r k. clash (sym computed.a_later_unit ∙ (sym (answers f k later_unit) ∙ r.2));
  domain_stepwise = λ f r k. clash (sym r.1 ∙ (answers f k stepwise_domain ∙ computed.domain_stepwise));
  attribute_stepwise = λ f r k. clash (sym r.1 ∙ (answers f k stepwise_attribute ∙ computed.attribute_stepwise));
  domain_straight = λ f r k. clash (sym computed.domain_straight ∙ (sym (answers f k straight_domain) ∙ r.2));
  unrounded = λ f r k. let z : ◌≡◌ {A = ℕ} 5 1 = unlike-reads (pos 5)
      (sym (r (pos 5) 1 0 (omega arith) (omega arith) (omega arith)) ∙ (k (pos 5) 1 0 ∙ readings.half)) in omega arith;
  cut_off = λ f r k. let z : ◌≡◌ {A = ℕ} 0 1 = unlike-reads (pos 0)
      (sym (r (pos 5) 1 0 (omega arith) (omega arith) (omega arith)) ∙ (k (pos 5) 1 0 ∙ readings.half)) in omega arith;
}
