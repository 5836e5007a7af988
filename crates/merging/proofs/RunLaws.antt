-- The run of the walk, with what it writes.
use mathlib.Core.Path.{◌≡◌, refl, sym, ap, ◌∙◌}
use mathlib.Core.Bool.{Bool, true, false, cond}
use mathlib.Core.List.{List, [], ◌++◌, append_assoc, append-nil}
use Prim.Native.Nat.{ℕ, zero, suc, ◌+◌, ◌-◌, ◌*◌, ◌≤◌, ◌<◌}
use native.Mathlib.Numerals.{sub-one}
use native.Mathlib.Omega.{arith}
use lib.ListN.{length, length-append}
use lib.Dec.{leb}
use borrow.Author.Tests.{eq-eqb, ne_eqb}
use Rattle.rules.proofs.GrowLaws.{bytes-append}
use Rattle.rules.specs.Book.{Record, bytes}
use Rattle.ground.specs.Parts.{splice, put_at}
use Rattle.ground.proofs.BufferLaws.{splice-splice, splice-none, put-fits, length-put}
use Rattle.merging.specs.Steps.{emitted, goes, size_with, look_move}
use Rattle.merging.specs.Walks.{top_of, moved_by, Ran, wrote, barred, before, run_from, RanTo}
use Rattle.merging.specs.declared.Emit.{Emit}
use Rattle.merging.specs.declared.Emit.TheVariants.{Quiet, Close, Element, Opening, Barred}
use Rattle.merging.specs.declared.Move.{Move}
use Rattle.enumerations.specs.declared.Size.{Size}
use Rattle.enumerations.proofs.WrittenLaws.{size_is}
use Rattle.merging.specs.declared.Walk.{Walk}
use Rattle.std.specs.Prelude.{Ok, Err}

emit-short : (e : Emit) → (length (bytes (emitted e)) ≤ 8) × (length (emitted e) ≤ length (bytes (emitted e)))
emit-short Quiet = (omega arith, omega arith)
emit-short Close = (omega arith, omega arith)
emit-short (Element n) = (omega arith, omega arith)
emit-short (Opening n f) = (omega arith, omega arith)
emit-short Barred = (omega arith, omega arith)

pub goes-on : (e : Emit) → ¬ (e ≡ Barred) → goes e ≡ true
goes-on Quiet h = refl
goes-on Close h = refl
goes-on (Element n) h = refl
goes-on (Opening n f) h = refl
goes-on Barred h = absurd (h refl)

-- nothing is written
pub put-none : (o : List ℕ) (i : ℕ) → put_at o i [] ≡ o
unfolding put_at
put-none o i = go (leb (i + 0) (length o))
  where
    go : (c : Bool) → cond c (splice o i []) o ≡ o
    go true = splice-none o i
    go false = refl

pub size-none : (s : Size) → s ≡ size_with s []
size-none s = size_is (omega arith) (omega arith)

-- ---- one step of a run
module _ (k : ℕ) (t b x : List ℕ) (w : Walk) where
  pub run_end_lem : w.depth ≡ 0 → run_from (suc k) t b x w ≡ wrote []
  unfolding run_from
  run_end_lem e = rw (eq-eqb w.depth 0 e)

  pub run-go : (m : Move) → ¬ (w.depth ≡ 0) → m ≡ look_move t b x (top_of w) → goes m.emit ≡ true →
      run_from (suc k) t b x w ≡ before (emitted m.emit) (run_from k t b x (moved_by w m.turn))
  unfolding run_from
  run-go m d e g = rw (ne_eqb w.depth 0 d, ← e, g)

  pub run-stop : (m : Move) → ¬ (w.depth ≡ 0) → m ≡ look_move t b x (top_of w) → goes m.emit ≡ false
      → run_from (suc k) t b x w ≡ barred
  unfolding run_from
  run-stop m d e g = rw (ne_eqb w.depth 0 d, ← e, g)

pub run-zero : (t b x : List ℕ) (w : Walk) → run_from zero t b x w ≡ wrote []
unfolding run_from
run-zero t b x w = refl

before-none : (r : Ran) → before [] r ≡ r
before-none (wrote l) = refl
before-none barred = refl

before-before : (l m : List Record) (r : Ran) → before l (before m r) ≡ before (l ++ m) r
before-before l m (wrote n) = ap wrote (sym (append_assoc l m n))
before-before l m barred = refl

-- ---- what holds of any run: nothing is written past the buffer, and there is room to count
pub record Bounded (o₀ : List ℕ) (i : ℕ) (o : List ℕ) (s : Size) (k : ℕ) (w : Walk) : Type 0 where
  pub same_size : length o ≡ length o₀
  pub fewer : s.records ≤ s.bytes
  pub deep : w.depth ≤ 8
  pub room : i + s.bytes + 8 * k + 8 < 18446744073709551616

pub bounded-step : (o₀ : List ℕ) (i : ℕ) (o : List ℕ) (s : Size) (k : ℕ) (w : Walk) → Bounded o₀ i o s k w → 0 < k
    → (e : Emit) (o₁ : List ℕ) (s₁ : Size) (w₁ : Walk)
    → s₁ ≡ size_with s (emitted e) → o₁ ≡ put_at o (i + s.bytes) (bytes (emitted e)) → w₁.depth ≤ 8
    → Bounded o₀ i o₁ s₁ (k - 1) w₁
bounded-step o₀ i o s k w B z e o₁ s₁ w₁ es eo dw =
    let l : List Record = emitted e in
    let h = emit-short e in
    let sb : s₁.bytes ≡ s.bytes + length (bytes l) = ap (λ (y : Size). y.bytes) es in
    let sr : s₁.records ≡ s.records + length l = ap (λ (y : Size). y.records) es in
    record {
      same_size = rw eo (length-put o (i + s.bytes) (bytes l) ∙ B.same_size);
      fewer = omega (arith, B.fewer);
      deep = dw;
      room = omega (arith, B.room);
    }

-- ---- the run so far: `put` is written, and the rest of the run is that of the walk w with k steps left
pub record SoFar (t b x o₀ : List ℕ) (i : ℕ) (s₀ : Size) (k₀ : ℕ) (w₀ : Walk) (o : List ℕ) (s : Size)
    (k : ℕ) (w : Walk) : Type 0 where
  pub put : List Record
  pub rest : run_from k₀ t b x w₀ ≡ before put (run_from k t b x w)
  pub in_bytes : s.bytes ≡ s₀.bytes + length (bytes put)
  pub in-records : s.records ≡ s₀.records + length put
  pub out : i + s.bytes ≤ length o₀ → o ≡ splice o₀ (i + s₀.bytes) (bytes put)

pub far-start : (t b x o : List ℕ) (i : ℕ) (s : Size) (k : ℕ) (w : Walk) → SoFar t b x o i s k w o s k w
far-start t b x o i s k w =
    record {
      put = [];
      rest = sym (before-none (run_from k t b x w));
      in_bytes = omega arith;
      in-records = omega arith;
      out = λ _. sym (splice-none o (i + s.bytes));
    }

module _ (t b x o₀ : List ℕ) (i : ℕ) (s₀ : Size) (k₀ : ℕ) (w₀ : Walk) (o : List ℕ) (s : Size) (k : ℕ) (w : Walk)
    (S : SoFar t b x o₀ i s₀ k₀ w₀ o s k w) where
  finished : run_from k t b x w ≡ wrote [] → RanTo (run_from k₀ t b x w₀) i s₀ o₀ o (Ok s)
  finished q =
      let e : run_from k₀ t b x w₀ ≡ wrote S.put =
      S.rest ∙ ap (before S.put) q ∙ ap wrote (append-nil S.put) in
      rw e (ap Ok (size_is S.in_bytes S.in-records), λ f. S.out (omega (arith, S.in_bytes)))

  pub far-done : w.depth ≡ 0 → RanTo (run_from k₀ t b x w₀) i s₀ o₀ o (Ok s)
  far-done d = finished (go k)
    where
      go : (k : ℕ) → run_from k t b x w ≡ wrote []
      go zero = run-zero t b x w
      go (suc k) = run_end_lem k t b x w d

  pub far-out : k ≤ 0 → RanTo (run_from k₀ t b x w₀) i s₀ o₀ o (Ok s)
  far-out h = finished (go k h)
    where
      go : (k : ℕ) → k ≤ 0 → run_from k t b x w ≡ wrote []
      go zero h = run-zero t b x w
      go (suc k) h = absurd (omega arith)

  module _ (z : 0 < k) (d : ¬ (w.depth ≡ 0)) (m : Move) (e : m ≡ look_move t b x (top_of w)) where
    pub far-barred : goes m.emit ≡ false → RanTo (run_from k₀ t b x w₀) i s₀ o₀ o (Err (record {}))
    far-barred g = rw (S.rest ∙ ap (before S.put) (go k z)) refl
      where
        go : (k : ℕ) → 0 < k → run_from k t b x w ≡ barred
        go zero h = absurd (omega arith)
        go (suc k) h = run-stop k t b x w m d e g

    step-rest : goes m.emit ≡ true
        → run_from k₀ t b x w₀ ≡ before (S.put ++ emitted m.emit) (run_from (k - 1) t b x (moved_by w m.turn))
    step-rest g =
        S.rest ∙ ap (before S.put) (go k z)
        ∙ before-before S.put (emitted m.emit) (run_from (k - 1) t b x (moved_by w m.turn))
      where
        go : (k : ℕ) → 0 < k → run_from k t b x w ≡ before (emitted m.emit) (run_from (k - 1) t b x (moved_by w m.turn))
        go zero h = absurd (omega arith)
        go (suc k) h = run-go k t b x w m d e g ∙ rw sub-one

    pub far-step : length o ≡ length o₀ → goes m.emit ≡ true → (o₁ : List ℕ) (s₁ : Size) (w₁ : Walk)
        → s₁ ≡ size_with s (emitted m.emit)
        → o₁ ≡ put_at o (i + s.bytes) (bytes (emitted m.emit)) → w₁ ≡ moved_by w m.turn
        → SoFar t b x o₀ i s₀ k₀ w₀ o₁ s₁ (k - 1) w₁
    far-step same_size g o₁ s₁ w₁ es eo ew =
        let l : List Record = emitted m.emit in
        let sb : s₁.bytes ≡ s.bytes + length (bytes l) = ap (λ (y : Size). y.bytes) es in
        let sr : s₁.records ≡ s.records + length l = ap (λ (y : Size). y.records) es in
        let bl : bytes (S.put ++ l) ≡ bytes S.put ++ bytes l = bytes-append S.put l in
        record {
          put = S.put ++ l;
          rest = step-rest g ∙ rw ew;
          in_bytes = sb ∙ rw (bl, length-append, S.in_bytes) (omega arith);
          in-records = sr ∙ rw (length-append, S.in-records) (omega arith);
          out = λ f. let q : i + s.bytes + length (bytes l) ≤ length o₀ = omega arith in
              let u : o ≡ splice o₀ (i + s₀.bytes) (bytes S.put) = S.out (omega arith) in
              eo ∙ put-fits o (i + s.bytes) (bytes l) (rw same_size q) ∙ rw (u, bl)
              (splice-splice o₀ (i + s₀.bytes) (i + s.bytes) (bytes S.put) (bytes l)
              (omega (arith, S.in_bytes)) (omega arith));
        }
