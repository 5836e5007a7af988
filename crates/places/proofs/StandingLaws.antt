-- Lines counted on from a place, and the position that the line of a place gives.
use Rattle.std.proofs.Common.{◌≡◌, ℕ, zero, suc, ◌+◌, ◌-◌, ◌%◌, ◌<◌, ◌≤◌, Bool, true, false, cond, List, length, sym}
use Rattle.std.proofs.Common.{refl, ap, ◌∙◌, add-zero, zero-add, add-one, arith, min, leb, leb-true, leb-false}
use Rattle.ground.proofs.TableLaws.{test}
use Rattle.rules.specs.Lines as rules
use Rattle.rules.specs.Lines.{ends_at, position_of}
use Rattle.rules.proofs.LineLaws.{behind, position_first, position-next, position-end, line-bound}
use Rattle.places.specs.declared.Line.{Line}
use Rattle.places.specs.Standing.{on_line, position_in, first_line, behind_byte, lines_on, line_to, line_at}

-- ---- from one place to another
module _ (t : List ℕ) where
  on-add : (i m n : ℕ) (x : Line) → lines_on t i (m + n) x ≡ lines_on t (i + m) n (lines_on t i m x)
  on-add i zero n x = rw (zero-add n, add-zero i)
  on-add i (suc m) n x =
      let e : suc m + n ≡ suc (m + n) = omega arith in
      let f : i + suc m ≡ suc i + m = omega arith in
      rw (e, f) (on-add (suc i) m n (behind_byte t i x))

  pub to-here : (i : ℕ) (x : Line) → line_to t i i x ≡ x
  to-here i x = let e : i - i ≡ 0 = omega arith in rw e

  pub to-go : (i j : ℕ) (x : Line) → i < j → line_to t i j x ≡ line_to t (suc i) j (behind_byte t i x)
  to-go i j x h = let e : j - i ≡ suc (j - suc i) = omega arith in rw e

  pub to-over : (i k j : ℕ) (x : Line) → i ≤ k → k ≤ j → line_to t i j x ≡ line_to t k j (line_to t i k x)
  to-over i k j x h l =
      let e : j - i ≡ (k - i) + (j - k) = omega arith in
      let f : i + (k - i) ≡ k = omega arith in
      rw e (on-add i (k - i) (j - k) x ∙ rw f)

  pub line-to : (i j : ℕ) → i ≤ j → line_to t i j (line_at t i) ≡ line_at t j
  line-to i j h =
      let e : i + (j - i) ≡ j = omega arith in
      sym (rw (e, zero-add i) at (on-add 0 i (j - i) first_line))

  pub line-next : (p : ℕ) → line_at t (p + 1) ≡ behind_byte t p (line_at t p)
  line-next p = rw (zero-add p) at (on-add 0 p 1 first_line)

-- ---- the position of a place, from its line
-- the code's line of the place p is that of the position q, which begins at `begin`
record Stood (p : ℕ) (x : Line) (q : rules.Position) : Type 0 where
  begin : ℕ
  before : begin ≤ p
  numbered : x.number ≡ q.line % 4294967296
  begun : x.begin ≡ begin % 4294967296
  counted : q.column ≡ suc (p - begin)

stood-next : (p : ℕ) (x : Line) (q : rules.Position) (e : Bool) → Stood p x q
    → Stood (suc p) (cond e (record { number = (x.number + 1) % 4294967296; begin = (p + 1) % 4294967296 }) x)
    (behind e q)
stood-next p x q true s = record {
  begin = suc p;
  before = omega arith;
  numbered = omega (arith, s.numbered);
  begun = omega arith;
  counted = omega arith;
}
stood-next p x q false s = record {
  begin = s.begin;
  before = omega (arith, s.before);
  numbered = s.numbered;
  begun = s.begun;
  counted = omega (arith, s.counted, s.before);
}

stood : (t : List ℕ) (p : ℕ) → p ≤ length t → Stood p (line_at t p) (position_of t p)
unfolding behind_byte
stood t zero h = rw (position_first t) (record {
  begin = 0;
  before = omega arith;
  numbered = refl;
  begun = refl;
  counted = refl;
})
stood t (suc p) h =
    let e : line_at t (suc p) ≡ behind_byte t p (line_at t p) = ap (line_at t) (sym (add-one p)) ∙ line-next t p in
    rw (e, position-next t p h)
    (stood-next p (line_at t p) (position_of t p) (ends_at t p) (stood t p (omega arith)))

-- the line of a place gives its position
pub on_line_lem : (t : List ℕ) (p : ℕ) → p ≤ length t → p < 4294967295 → on_line (line_at t p) p ≡ position_in t p
on_line_lem t p h l =
    let s = stood t p h in
    let b = s.before in
    let e : (line_at t p).begin ≡ s.begin = omega (arith, s.begun) in
    let n : (line_at t p).number ≡ (position_of t p).line = omega (arith, s.numbered, line-bound t p) in
    let c : (p + 18446744073709551617 - (line_at t p).begin) % 18446744073709551616 ≡ (position_of t p).column =
    omega (arith, s.counted) in
    rw (n, c)

-- behind the end it is the end's
pub position-by : (t : List ℕ) (p m : ℕ) → m ≡ min p (length t) → length t ≤ 65535
    → on_line (line_at t m) m ≡ position_in t p
position-by t p m e h =
    test (leb p (length t))
    (λ i.
    let k : p ≤ length t = leb-true _ _ i in
    let q : m ≡ p = omega arith in
    rw q (on_line_lem t p k (omega arith)))
    (λ i.
    let k : length t < p = leb-false _ _ i in
    let q : m ≡ length t = omega arith in
    rw q
    (on_line_lem t (length t) (omega arith) (omega arith)
    ∙ ap (λ (q : rules.Position). record { line = q.line; column = q.column }) (sym (position-end t p (omega arith)))))
