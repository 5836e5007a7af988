-- The run of `check` and the states that it reaches: where it ends, and what holds of each.
use mathlib.Core.Path.{◌≡◌, refl, sym, ap, ◌∙◌, subst}
use mathlib.Core.Bool.{Bool, true, false, cond}
use mathlib.Core.Option.{Option, none, some}
use mathlib.Core.List.{List}
use Prim.Native.Nat.{ℕ, zero, suc, ◌+◌, ◌≤◌, ◌<◌}
use native.Mathlib.Omega.{arith}
use lib.ListN.{length}
use lib.Dec.{ltb}
use Rattle.rules.specs.Symbols.{Fault, too_long, Symbol, symbol_at}
use Rattle.rules.specs.Readers as R
use Rattle.rules.specs.Readers.{Result, done}
use Rattle.rules.specs.Grammar.{enough}
use Rattle.rules.specs.Units as U
use Rattle.rules.specs.Units.{Where, start, over, body, members, Step, unit_at}
use Rattle.rules.specs.Declarations.{Def, State, is_found}
use Rattle.rules.specs.Book.{book}
use Rattle.rules.specs.Judge as J
use Rattle.rules.specs.Judge.{Judged, ok, rules_of, next_state}
use Rattle.rules.specs.Check.{Given, capacity, judged, Outcome, kept, unread, ruled_out, is_over, after_judge, finish}
use Rattle.rules.specs.Check.{after_unit, run_from, nothing, run}
use Rattle.rules.specs.All.{All, Unbroken}
use Rattle.rules.proofs.Tests.{never}
use Rattle.rules.proofs.SymbolLaws.{either, next-lies}
use Rattle.rules.proofs.ForwardLaws as F
use Rattle.rules.proofs.ForwardLaws.{Stepped, unit-steps}
use Rattle.claims.specs.Reached.{Reaches, begin, pass, Judges}
use Rattle.claims.specs.Ranking.{Unread, long, stuck}
use Rattle.claims.proofs.StateLaws.{Sound}
use Rattle.claims.proofs.RuleLaws.{not-refused, judged-went}
use Rattle.claims.proofs.UnitLaws as W
use Rattle.claims.proofs.UnitLaws.{in_class, Moves, Read, unit-read}
use Rattle.claims.proofs.JudgeLaws.{is_open, judge-sound, next-open}

-- ---- where the run ends
pub record Ended (t : List ℕ) (g : Given) (s : State) : Type 0 where
  pub left : ℕ
  pub stands : Where
  pub place : ℕ
  pub reaches : Reaches t g left stands s place
  pub over : is_over stands ≡ true

pub record Blamed (t : List ℕ) (g : Given) (s : State) (n p : ℕ) : Type 0 where
  pub unit : U.Unit
  pub judges : Judges t g s unit
  pub refuses : judged g s (some unit) ≡ J.refused n p

abbrev pub Ending : List ℕ → Given → Outcome → Type 0
Ending t g (kept s) = Ended t g s
Ending t g (unread s f p) = Unread t g f p
Ending t g (ruled_out s n p) = Blamed t g s n p

-- what holds at the start, and after each unit that is not refused where the grammar has it
pub record Invariant (P : State → Type 0) : Type 0 where
  pub begins : P nothing
  pub goes : (s : State) (u : U.Unit) (b : Bool) → P s → Moves (is_open s) (some u) b
      → All Unbroken (rules_of s u) → P (next_state s u)

module _ (t : List ℕ) (g : Given) where
  -- each unit passes a symbol, so that the run stays within the text and f is never used up
  pub reached-place : {f : ℕ} {w : Where} {s : State} {at : ℕ} → Reaches t g f w s at
      → (at ≤ length t) × (length t < at + f)
  reached-place (begin e) = (omega arith, omega arith)
  reached-place (pass {w = w} {at = at} r o q y x e j) =
      let h = reached-place r in
      let k : Stepped t (suc at) q y =
      subst (F.Ends (Stepped t (suc at))) e ((unit-steps w o).reads t at (symbol_at t at) (next-lies t at h.0)) in
      (k.1, omega arith)

  abbrev Ends : ℕ → Type 0
  Ends f = (w : Where) (s : State) (at : ℕ) → Reaches t g f w s at → Ending t g (run_from f t g w s at)

  finish-ends : (f : ℕ) (w : Where) (s : State) (at : ℕ) → Reaches t g (suc f) w s at
      → is_over w ≡ true → (x : Result Step)
      → unit_at w t (symbol_at t at) ≡ x → Ending t g (finish s x)
  finish-ends f w s at r o (done q y) e = record { left = suc f; stands = w; place = at; reaches = r; over = o }
  finish-ends f w s at r o (R.refused n p) e = stuck r e

  judge-ends : (f : ℕ) (w : Where) (s : State) (at : ℕ) → Ends f → Reaches t g (suc f) w s at
      → is_over w ≡ false → (q : Step) (y : Symbol)
      → unit_at w t (symbol_at t at) ≡ done q y →
      (u : Option U.Unit) → q.unit ≡ u → (j : Judged) → judged g s u ≡ j →
      Ending t g (after_judge s j q.next q.behind (λ v x b. run_from f t g v x b))
  judge-ends f w s at ih r o q y e u d (ok x) j = ih q.next x q.behind (pass r o q y x e (ap (judged g s) d ∙ j))
  judge-ends f w s at ih r o q y e none d (J.refused n p) j = not-refused j
  judge-ends f w s at ih r o q y e (some u) d (J.refused n p) j = record {
    unit = u;
    judges = record {
      left = f;
      stands = w;
      place = at;
      reaches = r;
      more = o;
      step = q;
      after = y;
      reads = e;
      unit = d;
    };
    refuses = j;
  }

  unit_ends : (f : ℕ) (w : Where) (s : State) (at : ℕ) → Ends f → Reaches t g (suc f) w s at
      → is_over w ≡ false → (x : Result Step)
      → unit_at w t (symbol_at t at) ≡ x → Ending t g (after_unit g s x (λ v u b. run_from f t g v u b))
  unit_ends f w s at ih r o (done q y) e = judge-ends f w s at ih r o q y e q.unit refl (judged g s q.unit) refl
  unit_ends f w s at ih r o (R.refused n p) e = stuck r e

  from-ends : (f : ℕ) → Ends f
  from-ends zero w s at r = let h = reached-place r in absurd (omega arith)
  from-ends (suc f) w s at r = go (is_over w) refl (from-ends f)
    where
      go : (b : Bool) → is_over w ≡ b → Ends f →
          Ending t g (cond b (finish s (unit_at w t (symbol_at t at)))
          (after_unit g s (unit_at w t (symbol_at t at)) (λ v u b. run_from f t g v u b)))
      go true o ih = finish-ends f w s at r o (unit_at w t (symbol_at t at)) refl
      go false o ih = unit_ends f w s at ih r o (unit_at w t (symbol_at t at)) refl

  pub run_ends : Ending t g (run t g)
  unfolding run
  run_ends = go (ltb 65535 (length t)) refl
    where
      go : (b : Bool) → ltb 65535 (length t) ≡ b
          → Ending t g (cond b (unread nothing too_long 0) (run_from (enough t) t g start nothing 0))
      go true e = long e refl refl
      go false e = from-ends (enough t) start nothing 0 (begin e)

  -- ---- from a state that is reached, the run goes on as from there
  pub reached-run : {f : ℕ} {w : Where} {s : State} {at : ℕ} → Reaches t g f w s at → run t g ≡ run_from f t g w s at
  unfolding run
  reached-run (begin e) = rw e
  reached-run (pass r o q y x e j) = reached-run r ∙ rw (o, e, j)

  pub judged-run : {s : State} {u : U.Unit} → Judges t g s u → (n p : ℕ)
      → judged g s (some u) ≡ J.refused n p → run t g ≡ ruled_out s n p
  judged-run {s} {u} h n p j =
      let k : judged g s h.step.unit ≡ J.refused n p = ap (judged g s) h.unit ∙ j in
      let o = h.more in
      let e = h.reads in
      reached-run h.reaches ∙ rw (o, e, k)

  pub stuck-run : {k : ℕ} {w : Where} {s : State} {at p : ℕ} {f : Fault} → Reaches t g (suc k) w s at
      → unit_at w t (symbol_at t at) ≡ R.refused f p
      → run t g ≡ unread s f p
  stuck-run {w} {s} {p} {f} r e =
      reached-run r ∙ rw e (either (λ o. o ≡ unread s f p) (is_over w) (λ _. refl) (λ _. refl))

  pub long-run : ltb 65535 (length t) ≡ true → run t g ≡ unread nothing too_long 0
  unfolding run
  long-run e = rw e

  -- ---- what holds of each state that is reached
  judged-open : (s x : State) (u : Option U.Unit) (b : Bool) → Moves (is_open s) u b
      → judged g s u ≡ ok x → is_open x ≡ b
  judged-open s x none b v j = let e : s ≡ x = cc in sym (v ∙ ap is_open e)
  judged-open s x (some u) b v j = sym (ap is_open (judged-went g s x u j).next) ∙ next-open s u b v

  -- what the grammar has there
  pub reached-reads : {f : ℕ} {w : Where} {s : State} {at : ℕ} → Reaches t g f w s at → (q : Step) (y : Symbol) →
      unit_at w t (symbol_at t at) ≡ done q y → Read t w q
  reached-reads {w} {at} r q y e = (subst (W.Ends t 0 (Read t w)) e (unit-read t w at (reached-place r).0)).0

  -- how the unit at a place moves the open class
  moves : {f : ℕ} {w : Where} {s : State} {at : ℕ} → Reaches t g f w s at
      → is_open s ≡ in_class w → (q : Step) (y : Symbol)
      → unit_at w t (symbol_at t at) ≡ done q y → Moves (is_open s) q.unit (in_class q.next)
  moves r h q y e = subst (λ (b : Bool). Moves b q.unit (in_class q.next)) (sym h) (reached-reads r q y e).moves

  reached-open : {f : ℕ} {w : Where} {s : State} {at : ℕ} → Reaches t g f w s at → is_open s ≡ in_class w
  reached-open (begin e) = refl
  reached-open (pass {s = s} r o q y x e j) =
      judged-open s x q.unit (in_class q.next) (moves r (reached-open r) q y e) j

  judged-keeps : (P : State → Type 0) → Invariant P
      → (s x : State) (u : Option U.Unit) (b : Bool) → P s → Moves (is_open s) u b
      → judged g s u ≡ ok x → P x
  judged-keeps P k s x none b h v j = let e : s ≡ x = cc in subst P e h
  judged-keeps P k s x (some u) b h v j =
      let r = judged-went g s x u j in
      subst P r.next (k.goes s u b h v r.kept)

  pub reached-keeps : (P : State → Type 0) → Invariant P
      → {f : ℕ} {w : Where} {s : State} {at : ℕ} → Reaches t g f w s at → P s
  reached-keeps P k (begin e) = k.begins
  reached-keeps P k (pass {s = s} r o q y x e j) =
      judged-keeps P k s x q.unit (in_class q.next) (reached-keeps P k r) (moves r (reached-open r) q y e) j

  pub reached-sound : {f : ℕ} {w : Where} {s : State} {at : ℕ} → Reaches t g f w s at → Sound s
  reached-sound r =
      reached-keeps Sound (record { begins = record { defs = tt; before = tt; opened = tt }; goes = judge-sound }) r

  judged-room : (s x : State) (u : Option U.Unit) → length (book s) ≤ capacity g → judged g s u ≡ ok x
      → length (book x) ≤ capacity g
  judged-room s x none h j = let e : s ≡ x = cc in subst (λ (z : State). length (book z) ≤ capacity g) e h
  judged-room s x (some u) h j = (judged-went g s x u j).room

  pub reached-room : {f : ℕ} {w : Where} {s : State} {at : ℕ} → Reaches t g f w s at → length (book s) ≤ capacity g
  reached-room (begin e) = omega arith
  reached-room (pass {s = s} r o q y x e j) = judged-room s x q.unit (reached-room r) j

over_closed : (w : Where) → is_over w ≡ true → in_class w ≡ false
over_closed start e = refl
over_closed U.after_header e = refl
over_closed over e = refl
over_closed (body t r) e = refl
over_closed (members t r) e = never e

pub ended-closed : (t : List ℕ) (g : Given) (s : State) → Ended t g s → s.open_class ≡ none
ended-closed t g s h = go s.open_class (reached-open t g h.reaches ∙ over_closed h.stands h.over)
  where
    go : (o : Option Def) → is_found o ≡ false → o ≡ none
    go none e = refl
    go (some c) e = never (sym e)
