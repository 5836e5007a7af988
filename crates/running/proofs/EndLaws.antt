-- The end of a run: what is answered, and what the whole buffer holds.
use mathlib.Core.Path.{◌≡◌, refl, sym, ap, ◌∙◌}
use mathlib.Core.Bool.{Bool, true, false, cond}
use mathlib.Core.Option.{Option, none, some}
use mathlib.Core.List.{List, [], ◌++◌}
use Prim.Native.Nat.{ℕ, zero, suc, ◌≤◌, ◌<◌, min}
use native.Mathlib.Omega.{arith}
use lib.ListN.{length, take, drop, length-append, length-drop}
use lib.Dec.{ltb}
use Rattle.std.specs.declared.result.Result.TheVariants.{Ok, Err}
use borrow.Author.Tests.{lt-ltb, le-ltb, ltb-false}
use lib.Seq.{length-take-le, take-append-le}
use Rattle.rules.specs.Symbols.{symbol_at}
use Rattle.rules.specs.Symbols.{too_long as C·too-long}
use Rattle.rules.specs.Lines.{position_of}
use Rattle.rules.specs.Readers.{Result, done, refused}
use Rattle.rules.specs.Grammar.{enough}
use Rattle.rules.specs.Units as U
use Rattle.rules.specs.Units.{unit_at}
use Rattle.rules.specs.Declarations.{State}
use Rattle.rules.specs.Judge as J
use Rattle.rules.specs.Judge.{judge}
use Rattle.rules.specs.Book.{book, padded}
use Rattle.rules.specs.Check as C
use Rattle.rules.specs.Check.{Given, lent, capacity, is_over, run_from, judged, room, unit_place, after_judge}
use Rattle.rules.specs.Check.{after_unit}
use Rattle.rules.specs.Check.{finish, Next, run}
use Rattle.rules.proofs.Tests.{never}
use Rattle.rules.specs.Promise.{Promise}
use Rattle.answers.specs.Answers.{Coded, answer_of, full, kept_of}
use Rattle.running.specs.Trying.{Tried}
use Rattle.running.specs.Running.{Ended}

-- ---- a buffer counts only up to the capacity
module _ (t : List ℕ) (m n : Given) (e : capacity m ≡ capacity n) where
  room-same : (p : ℕ) (j : J.Judged) → room m p j ≡ room n p j
  room-same p (J.ok s) = ap (λ (c : ℕ). cond (ltb c (length (book s))) (J.refused 19 p) (J.ok s)) e
  room-same p (J.refused k q) = refl

  judged-same : (s : State) (u : Option U.Unit) → judged m s u ≡ judged n s u
  judged-same s none = refl
  judged-same s (some u) = room-same (unit_place u) (judge s u)

  then_same : (x : State) (j : J.Judged) (w : U.Where) (at : ℕ) (k l : Next) → ((s : State) → k w s at ≡ l w s at)
      → after_judge x j w at k ≡ after_judge x j w at l
  then_same x (J.ok s) w at k l h = h s
  then_same x (J.refused i p) w at k l h = refl

  unit-same : (s : State) (r : Result U.Step) (k l : Next) → ((w : U.Where) (u : State) (at : ℕ) → k w u at ≡ l w u at)
      → after_unit m s r k ≡ after_unit n s r l
  unit-same s (done q y) k l h =
      ap (λ (j : J.Judged). after_judge s j q.next q.behind k) (judged-same s q.unit)
      ∙ then_same s (judged n s q.unit) q.next q.behind k l (λ u. h q.next u q.behind)
  unit-same s (refused i p) k l h = refl

  from-same : (f : ℕ) (w : U.Where) (s : State) (at : ℕ) → run_from f t m w s at ≡ run_from f t n w s at
  from-same zero w s at = refl
  from-same (suc f) w s at =
      ap (λ (o : C.Outcome). cond (is_over w) (finish s (unit_at w t (symbol_at t at))) o)
      (unit-same s (unit_at w t (symbol_at t at)) (run_from f t m) (run_from f t n) (from-same f))

  pub run-same : run t m ≡ run t n
  unfolding run
  run-same = rw (from-same (enough t) U.start C.nothing 0)

-- ---- a run whose book fits a smaller buffer runs the same with a greater one
module _ (t : List ℕ) (m n : Given) (e : capacity m ≤ capacity n) where
  abbrev is_full : C.Outcome → Bool
  is_full o = full (C.answer_of t o)

  room_within : (s : State) (p : ℕ) (x : State) (w : U.Where) (at : ℕ) (k l : Next)
      → (is_full (k w x at) ≡ false → k w x at ≡ l w x at) → is_full (after_judge s (room m p (J.ok x)) w at k) ≡ false
      → after_judge s (room m p (J.ok x)) w at k ≡ after_judge s (room n p (J.ok x)) w at l
  room_within s p x w at k l h f = go (ltb (capacity m) (length (book x))) refl f
    where
      go : (b : Bool) → ltb (capacity m) (length (book x)) ≡ b
          → is_full (after_judge s (cond b (J.refused 19 p) (J.ok x)) w at k) ≡ false
          → after_judge s (cond b (J.refused 19 p) (J.ok x)) w at k ≡ after_judge s (room n p (J.ok x)) w at l
      go true c f = never (sym f)
      go false c f =
          let i = ltb-false (capacity m) (length (book x)) c in
          rw (le-ltb (capacity n) (length (book x)) (omega arith)) (h f)

  judged-within : (s : State) (u : Option U.Unit) (w : U.Where) (at : ℕ) (k l : Next)
      → ((x : State) → is_full (k w x at) ≡ false → k w x at ≡ l w x at)
      → is_full (after_judge s (judged m s u) w at k) ≡ false
      → after_judge s (judged m s u) w at k ≡ after_judge s (judged n s u) w at l
  judged-within s none w at k l h f = h s f
  judged-within s (some u) w at k l h f = go (judge s u) f
    where
      go : (j : J.Judged) → is_full (after_judge s (room m (unit_place u) j) w at k) ≡ false
          → after_judge s (room m (unit_place u) j) w at k ≡ after_judge s (room n (unit_place u) j) w at l
      go (J.ok x) f = room_within s (unit_place u) x w at k l (h x) f
      go (J.refused i q) f = refl

  unit-within : (s : State) (r : Result U.Step) (k l : Next)
      → ((w : U.Where) (x : State) (at : ℕ) → is_full (k w x at) ≡ false → k w x at ≡ l w x at)
      → is_full (after_unit m s r k) ≡ false → after_unit m s r k ≡ after_unit n s r l
  unit-within s (done q y) k l h f =
      judged-within s q.unit q.next q.behind k l (λ x. h q.next x q.behind) f
  unit-within s (refused i p) k l h f = refl

  turn-within : (b : Bool) (s : State) (r : Result U.Step) (k l : Next)
      → ((w : U.Where) (x : State) (at : ℕ) → is_full (k w x at) ≡ false → k w x at ≡ l w x at)
      → is_full (cond b (finish s r) (after_unit m s r k)) ≡ false
      → cond b (finish s r) (after_unit m s r k) ≡ cond b (finish s r) (after_unit n s r l)
  turn-within true s r k l h f = refl
  turn-within false s r k l h f = unit-within s r k l h f

  from-within : (f : ℕ) (w : U.Where) (s : State) (at : ℕ) → is_full (run_from f t m w s at) ≡ false
      → run_from f t m w s at ≡ run_from f t n w s at
  from-within zero w s at h = refl
  from-within (suc f) w s at h =
      turn-within (is_over w) s (unit_at w t (symbol_at t at)) (run_from f t m) (run_from f t n) (from-within f) h

  pub run-within : is_full (run t m) ≡ false → run t m ≡ run t n
  unfolding run
  run-within h = go (ltb 65535 (length t)) h
    where
      go : (b : Bool)
          → is_full (cond b (C.unread C.nothing C·too-long 0) (run_from (enough t) t m U.start C.nothing 0)) ≡ false
          → cond b (C.unread C.nothing C·too-long 0) (run_from (enough t) t m U.start C.nothing 0)
          ≡ cond b (C.unread C.nothing C·too-long 0) (run_from (enough t) t n U.start C.nothing 0)
      go true h = refl
      go false h = from-within (enough t) U.start C.nothing 0 h

-- ---- the whole buffer, of which o is the front part at the end
pub ended-fits : (t : List ℕ) (m : ℕ) (a : Coded) (o d : List ℕ) → Ended t m a o → kept_of a ≤ length (o ++ d)
ended-fits t m (Ok n) o d (s, r, i, j, h, w) = rw (length-append o d) (omega arith)
ended-fits t m (Err n) o d h = omega arith

ended-answer : (t : List ℕ) (m : ℕ) (a : Coded) (o : List ℕ) → Ended t m a o
    → C.answer_of t (run t (lent m)) ≡ answer_of a
ended-answer t m (Ok n) o (s, r, i, j, h, w) = rw (r, i, j)
ended-answer t m (Err n) o h = h

refused-buffer : (t : List ℕ) (o : C.Outcome) (r : C.Refusal) (m : ℕ) → C.answer_of t o ≡ C.refusal r
    → padded [] m ≡ C.buffer_of o m
refused-buffer t (C.kept s) r m h = absurd (let q : ◌≡◌ {A = ℕ} 0 1 = cc in omega arith)
refused-buffer t (C.unread s f q) r m h = refl
refused-buffer t (C.ruled_out s i q) r m h = refl

module _ (t : List ℕ) (m l : ℕ) (a : Coded) (o d b : List ℕ) (h : Ended t m a o)
    (e : b ≡ padded (take (kept_of a) (o ++ d)) l) where
  promised-by : run t (lent m) ≡ run t (lent l) → Promise t (lent l) (answer_of a) b
  promised-by same = record { answer = sym (ended-answer t m a o h) ∙ ap (C.answer_of t) same; buffer = go a h e }
    where
      go : (a : Coded) → Ended t m a o → b ≡ padded (take (kept_of a) (o ++ d)) l → b ≡ C.buffer_of (run t (lent l)) l
      go (Ok n) (s, r, i, j, h, w) e =
          rw (sym same ∙ r) (e ∙ ap (λ (x : List ℕ). padded x l) (take-append-le n.length o d h ∙ w))
      go (Err n) h e = e ∙ refused-buffer t (run t (lent l)) _ l (ap (C.answer_of t) (sym same) ∙ h)

pub tried : (t b o l : List ℕ) (m most : ℕ) (a : Coded) → m ≡ min (length b) most → most ≤ 65535
    → length o ≡ length (take m b) → Ended t (length (take m b)) a o
    → l ≡ padded (take (kept_of a) (o ++ drop m b)) (length (o ++ drop m b)) → Tried t (length b) most (answer_of a) l
tried t b o l m most a e small f h c =
    let within : m ≤ length b = omega arith in
    let count : length (take m b) ≡ m = length-take-le m b within in
    let whole : length (o ++ drop m b) ≡ length b = simp (length-append, length-drop) (omega arith) in
    let rest : l ≡ padded (take (kept_of a) (o ++ drop m b)) (length b) =
    c ∙ ap (padded (take (kept_of a) (o ++ drop m b))) whole in
    let by = promised-by t (length (take m b)) (length b) a o (drop m b) l h rest in
    record {
      whole = λ i. by (run-same t (lent (length (take m b))) (lent (length b)) (rw count (omega arith)));
      unless_full = λ i. by (run-within t (lent (length (take m b))) (lent (length b)) (rw count (omega arith))
          (ap full (ended-answer t (length (take m b)) a o h) ∙ i));
    }

-- ---- a text that is too long, at the first line's first column
pub too_long : (t : List ℕ) (m : ℕ) (l : List ℕ) → 65535 < length t → l ≡ padded [] m
    → Promise t (lent m) (C.refusal_of 1 0 1 1) l
unfolding run position_of
too_long t m l h e = record { answer = rw (lt-ltb 65535 (length t) h); buffer = rw (lt-ltb 65535 (length t) h) e }
