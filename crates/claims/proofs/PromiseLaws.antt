-- `check` allows one outcome, and its buffer is the book and zeros, or zeros.
use mathlib.Core.Path.{◌≡◌, refl, sym, ap, ◌∙◌}
use mathlib.Core.List.{List, []}
use Prim.Native.Nat.{ℕ, zero, suc, ◌-◌, ◌≤◌}
use native.Mathlib.Omega.{arith}
use lib.ListN.{length, take, drop, replicate, length-append, length-replicate}
use lib.Seq.{take-append_seam, drop-append_seam}
use Rattle.rules.specs.Book.{book, padded}
use Rattle.rules.specs.Show.{records_from}
use Rattle.rules.specs.Check.{Outcome, kept, unread, ruled_out, run, Acceptance, Refusal, accepted, refusal}
use Rattle.rules.specs.Check.{accepting, answer_of, buffer_of, check}
use Rattle.rules.specs.All.{first, later}
use Rattle.claims.specs.Promise.{OneOutcome, Zeros, RefusedZeros, Booked, AcceptedBook}
use Rattle.claims.proofs.BookLaws.{records-again}
use Rattle.claims.proofs.RunLaws.{Ending, run_ends, reached-room}

-- ---- equal answers are of one kind and have equal numbers
pub same-accepted : {a b : Acceptance} → accepted a ≡ accepted b
    → (a.length ≡ b.length) × (a.definitions ≡ b.definitions)
same-accepted e = (cc, cc)

pub same-refused : {r q : Refusal} → refusal r ≡ refusal q
    → (r.number ≡ q.number) × (r.place ≡ q.place) × (r.line ≡ q.line) × (r.column ≡ q.column)
same-refused e = (cc, cc, cc, cc)

pub clash : {B : Type 0} {r : Refusal} {l c : ℕ} → refusal r ≡ accepting l c → B
clash e = let z : ◌≡◌ {A = ℕ} 0 1 = cc in absurd (omega arith)

pub one-outcome : OneOutcome
one-outcome t g = record {
  answer = (check t g).answer;
  buffer = (check t g).buffer;
  promised = record { answer = refl; buffer = refl };
  only = λ a b h. (h.answer, h.buffer);
}

-- ---- padding
zeros : (n : ℕ) → Zeros (replicate n 0)
zeros zero x i = elim i [ ]
zeros (suc n) x first = refl
zeros (suc n) x (later k) = zeros n x k

padded-length : (b : List ℕ) (m : ℕ) → length b ≤ m → length (padded b m) ≡ m
padded-length b m h = simp (length-append, length-replicate) (omega arith)

padded-front : (b : List ℕ) (m : ℕ) → take (length b) (padded b m) ≡ b
padded-front b m = take-append_seam b (replicate (m - length b) 0)

padded-back : (b : List ℕ) (m : ℕ) → Zeros (drop (length b) (padded b m))
padded-back b m = rw (drop-append_seam b (replicate (m - length b) 0)) (zeros (m - length b))

-- ---- refused
refused-zeros-of : (t : List ℕ) (o : Outcome) (m : ℕ) (r : Refusal) (b : List ℕ) → refusal r ≡ answer_of t o
    → b ≡ buffer_of o m → (length b ≡ m) × Zeros b
refused-zeros-of t (kept s) m r b a e = clash a
refused-zeros-of t (unread s f q) m r b a e = rw e (padded-length [] m (omega arith), zeros (m - 0))
refused-zeros-of t (ruled_out s i q) m r b a e = rw e (padded-length [] m (omega arith), zeros (m - 0))

pub refused-zeros : RefusedZeros
refused-zeros t g r b h = refused-zeros-of t (run t g) g.buffer r b h.answer h.buffer

-- ---- accepted
pub accepted-book : AcceptedBook
accepted-book t g n k b h = go (run t g) refl (run_ends t g) h.answer h.buffer
  where
    go : (o : Outcome) → run t g ≡ o → Ending t g o → accepting n k ≡ answer_of t o
        → b ≡ buffer_of o g.buffer → Booked t g n k b
    go (kept s) e r a q =
        let (l, c) = same-accepted a in
        let f = reached-room t g r.reaches in
        record {
          state = s;
          runs = e;
          size = l;
          count = c;
          fits = omega arith;
          short = omega arith;
          whole = ap length q ∙ padded-length (book s) g.buffer (omega arith);
          front = rw (l, q) (padded-front (book s) g.buffer);
          back = rw (l, q) (padded-back (book s) g.buffer);
          again = ap (records_from 0) q ∙ records-again s g.buffer;
        }
    go (unread s f p) e r a q = clash (sym a)
    go (ruled_out s i p) e r a q = clash (sym a)
