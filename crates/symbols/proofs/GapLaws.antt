-- Separators and comments: what is left to pass behind each.
use mathlib.Core.Path.{◌≡◌, refl, sym, ap, ◌∙◌}
use mathlib.Core.Bool.{Bool, true, false, ◌&&◌}
use mathlib.Core.List.{List, [], ◌∷◌}
use Prim.Native.Nat.{ℕ, suc, ◌+◌, ◌-◌, ◌≤◌, ◌<◌}
use native.Mathlib.Nat.{add-zero}
use native.Mathlib.Numerals.{add-one}
use native.Mathlib.Omega.{arith}
use lib.ListN.{length, take, drop, get_or}
use lib.Seq.{drop-cons, get_or-drop}
use lib.Dec.{eqb}
use borrow.Author.Tests.{eqb-true}
use Rattle.rules.specs.Bytes.{is, is_line_end, is_separator, span}
use Rattle.rules.specs.Symbols.{apart, line, closing, opening, inside, Gap, up_to, open_at, gap}
use Rattle.rules.proofs.Tests.{never, or_r, split}
use Rattle.rules.proofs.SymbolLaws.{either}
use Rattle.ground.specs.Parts.{run_end}
use Rattle.places.specs.declared.Line.{Line}
use Rattle.places.specs.Standing.{behind_byte, line_to}
use Rattle.places.proofs.StandingLaws.{to-go, to-over}
use Rattle.places.proofs.LevelLaws.{Level, level-run, level-two, to_level}
use Rattle.std.specs.Prelude.{Result, Ok, Err}
use Rattle.scans.specs.declared.Passed.{Passed}
use Rattle.scans.specs.declared.NoComment.{NoComment}
use Rattle.scans.specs.declared.NoComment.TheVariants.{Open, Absent}
use Rattle.scans.specs.Scans.{not_line_end, two_at, close_of, comment_at, passed_to}
use Rattle.ground.proofs.TableLaws.{test, second}
use Rattle.ground.proofs.ScanLaws.{drop-tail, next-byte, run-le}
use Rattle.scans.proofs.EscapeLaws.{stands}

-- what is left to pass behind a comment that began at o
abbrev pub onward : List ℕ → ℕ → Result Passed NoComment → Gap
onward t o (Ok p) = gap (drop p.end t) apart p.end
onward t o (Err Open) = open_at o
onward t o (Err Absent) = up_to o

-- the bytes of a test that only separators pass
pub gap-run : (p : ℕ → Bool) → ((b : ℕ) → p b ≡ true → is_separator b ≡ true) → (t s : List ℕ) (k : ℕ) → drop k t ≡ s
    → gap s apart k ≡ gap (drop (k + span p s) t) apart (k + span p s)
gap-run p o t [] k e = rw (add-zero k, e)
gap-run p o t (b ∷ s) k e =
    let m : k + suc (span p s) ≡ suc k + span p s = omega arith in
    let go = gap-run p o t s (suc k) (drop-tail t k e) in
    test (p b) (λ f. rw (f, o b f, m) go) (λ f. rw (f, add-zero k, e))

gap-line : (t s : List ℕ) (k : ℕ) → drop k t ≡ s
    → gap s line k ≡ gap (drop (k + span not_line_end s) t) apart (k + span not_line_end s)
gap-line t [] k e = rw (add-zero k, e)
gap-line t (b ∷ s) k e =
    let m : k + suc (span not_line_end s) ≡ suc k + span not_line_end s = omega arith in
    let go = gap-line t s (suc k) (drop-tail t k e) in
    test (is_line_end b)
    (λ f. let g : is_separator b ≡ true = or_r (is " " b) (or_r (is "\t" b) f) in rw (f, add-zero k, e, g))
    (λ f. rw (f, m) go)

gap-closing : (t s : List ℕ) (k : ℕ) → drop k t ≡ s → is "/" (get_or s 0 0) ≡ true
    → gap s closing k ≡ gap (drop (suc k) t) apart (suc k)
gap-closing t [] k e p = never p
gap-closing t (b ∷ s) k e p = rw (drop-tail t k e)

gap-inside : (t s : List ℕ) (o k : ℕ) (x : Line) → drop k t ≡ s → gap s (inside o) k ≡ onward t o (close_of t s k x)
gap-inside t [] o k x e = refl
gap-inside t (b ∷ s) o k x e =
    let go = gap-inside t s o (suc k) (behind_byte t k x) (drop-tail t k e) in
    test (is "*" b && is "/" (get_or s 0 0))
    (λ f. rw f (gap-closing t s (suc k) (drop-tail t k e) (second (is "*" b) f))) (λ f. rw f go)

gap-opening : (t s : List ℕ) (o k : ℕ) (x : Line) → drop k t ≡ s → is "*" (get_or s 0 0) ≡ true
    → gap s (opening o) k ≡ onward t o (close_of t (drop (suc k) t) (suc k) x)
gap-opening t [] o k x e p = never p
gap-opening t (b ∷ s) o k x e p = rw (drop-tail t k e) (gap-inside t s o (suc k) x (drop-tail t k e))

module _ (t : List ℕ) (i : ℕ) (x : Line) (h : i < length t) where
  abbrev b : ℕ
  b = get_or t i 0

  abbrev Passes : Type 0
  Passes = gap (drop i t) apart i ≡ onward t i (comment_at t i x)

  pub gap-comment : is_separator b ≡ false → Passes
  unfolding comment_at
  gap-comment f =
      let two : i + 2 ≡ suc (suc i) = omega arith in
      let e = drop-cons t i 0 h in
      test {A = Passes} (two_at t i 33 33)
      (λ g. rw (e, next-byte t i, f, g, add-one i) (gap-line t (drop (suc i) t) (suc i) refl))
      (λ g. test {A = Passes} (two_at t i 47 42)
      (λ k. rw (e, next-byte t i, f, g, k, two)
      (gap-opening t (drop (suc i) t) i (suc i) x refl (rw (next-byte t i) (second (is "/" b) k))))
      (λ k. rw (e, next-byte t i, f, g, k)))

  pub gap-none : is_separator b ≡ false → is "!" b ≡ false → is "/" b ≡ false → gap (drop i t) apart i ≡ up_to i
  gap-none f g k = rw (drop-cons t i 0 h, f, g, k)

  -- one separator
  pub gap-one : is_separator b ≡ true → gap (drop i t) apart i ≡ gap (drop (i + 1) t) apart (i + 1)
  gap-one f = rw (add-one i, drop-cons t i 0 h, f)

-- ---- a comment runs forward within the text, and counts its line ends
module _ (t : List ℕ) where
  abbrev Ahead : ℕ → Line → Result Passed NoComment → Type 0
  Ahead i x (Ok p) = (i < p.end) × (p.end ≤ length t) × (p.line ≡ line_to t i p.end x)
  Ahead i x (Err e) = Unit {0}

  after_one : (k : ℕ) (x : Line) (r : Result Passed NoComment) → Ahead (suc k) (behind_byte t k x) r → Ahead k x r
  after_one k x (Ok p) (h, l, e) = (omega arith, l, e ∙ sym (to-go t k p.end x (omega arith)))
  after_one k x (Err e) h = tt

  over-two : (k : ℕ) (x : Line) → Level (take 2 (drop k t)) → line_to t k (k + 2) x ≡ x
  over-two k x v = let n : k + 2 - k ≡ 2 = omega arith in to_level t k (k + 2) x (rw n v)

  after_two : (k : ℕ) (x : Line) (r : Result Passed NoComment) → Level (take 2 (drop k t)) → Ahead (k + 2) x r
      → Ahead k x r
  after_two k x (Ok p) v (h, l, e) = (
    omega arith,
    l,
    e ∙ sym (to-over t k (k + 2) p.end x (omega arith) (omega arith) ∙ ap (line_to t (k + 2) p.end) (over-two k x v)),
  )
  after_two k x (Err e) v h = tt

  close-ahead : (s : List ℕ) (k : ℕ) (x : Line) → drop k t ≡ s → Ahead k x (close_of t s k x)
  close-ahead [] k x e = tt
  close-ahead (b ∷ s) k x e =
      either (Ahead k x) (is "*" b && is "/" (get_or s 0 0)) stop
      (λ _. after_one k x (close_of t s (suc k) (behind_byte t k x))
      (close-ahead s (suc k) (behind_byte t k x) (drop-tail t k e)))
    where
      stop : (is "*" b && is "/" (get_or s 0 0)) ≡ true → Ahead k x (passed_to (suc (suc k)) x)
      stop p =
          let (u, v) = split {x = is "*" b} p in
          let f : b ≡ 42 = eqb-true _ _ u in
          let g : get_or s 0 0 ≡ 47 = eqb-true _ _ v in
          let r : get_or t (k + 1) 0 ≡ 47 = sym (get_or-drop k t 1 0) ∙ rw e g in
          let l : k + 1 < length t = stands t (k + 1) (λ z. omega arith) in
          let n : suc (suc k) ≡ k + 2 = omega arith in
          let m : Level (take 2 (drop k t)) = rw e (level-two (b ∷ s) (rw f) (rw g)) in
          (omega arith, omega arith, sym (ap (λ j. line_to t k j x) n ∙ over-two k x m))

  line-ahead : (i : ℕ) (x : Line) → i < length t → two_at t i 33 33 ≡ true
      → Ahead i x (passed_to (run_end not_line_end t (i + 1)) x)
  line-ahead i x h p =
      let f : get_or t i 0 ≡ 33 = eqb-true _ _ (split {x = eqb (get_or t i 0) 33} p).0 in
      let n : i + 1 + span not_line_end (drop (i + 1) t) - i ≡ suc (span not_line_end (drop (i + 1) t)) = omega arith in
      let v : is_line_end (get_or t i 0) ≡ false = rw f in
      let w = level-run not_line_end refl refl (drop (i + 1) t) in (
        omega arith,
        run-le not_line_end t (i + 1) (omega arith),
        sym (to_level t i (run_end not_line_end t (i + 1)) x (rw (n, drop-cons t i 0 h, ← add-one i) (v, w))),
      )

  ahead : (i : ℕ) (x : Line) → i < length t → Ahead i x (comment_at t i x)
  unfolding comment_at
  ahead i x h =
      either (Ahead i x) (two_at t i 33 33) (line-ahead i x h)
      (λ _. either (Ahead i x) (two_at t i 47 42) block (λ _. tt))
    where
      block : two_at t i 47 42 ≡ true → Ahead i x (close_of t (drop (i + 2) t) (i + 2) x)
      block p =
          let (u, v) = split {x = eqb (get_or t i 0) 47} p in
          let f : get_or t i 0 ≡ 47 = eqb-true _ _ u in
          let g : get_or t (i + 1) 0 ≡ 42 = eqb-true _ _ v in
          let z : i + 0 ≡ i = omega arith in
          let m : Level (take 2 (drop i t)) =
          level-two (drop i t) (rw (get_or-drop i t 0 0, z, f)) (rw (get_or-drop i t 1 0, g)) in
          after_two i x (close_of t (drop (i + 2) t) (i + 2) x) m (close-ahead (drop (i + 2) t) (i + 2) x refl)

  pub comment-ahead : (i : ℕ) (x : Line) (p : Passed) → i < length t → comment_at t i x ≡ Ok p
      → (i < p.end) × (p.end ≤ length t) × (p.line ≡ line_to t i p.end x)
  comment-ahead i x p h e = rw e at (ahead i x h)
