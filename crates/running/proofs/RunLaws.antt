-- The loop over the units runs as `run` does.
use mathlib.Core.Path.{◌≡◌, refl, sym, ap, ◌∙◌, subst}
use mathlib.Core.Bool.{Bool, true, false, cond, not}
use mathlib.Core.Option.{Option, none, some}
use mathlib.Core.List.{List}
use Prim.Native.Nat.{ℕ, zero, suc, ◌+◌, ◌*◌, ◌%◌, ◌≤◌, ◌<◌}
use native.Mathlib.Omega.{arith}
use lib.ListN.{length, replicate}
use Rattle.std.specs.Prelude.{MatchResult, IsErrAnd}
use Rattle.std.specs.declared.option.Option as core
use Rattle.std.specs.declared.option.Option.TheVariants.{Some, None}
use Rattle.std.specs.declared.result.Result as coded
use Rattle.std.specs.declared.result.Result.TheVariants.{Ok, Err}
use lib.Dec.{ltb}
use borrow.Author.Tests.{le-ltb}
use Rattle.rules.specs.Symbols as rules
use Rattle.rules.specs.Symbols.{number_of, symbol_at}
use Rattle.rules.specs.Readers.{Result, done, refused}
use Rattle.rules.specs.Grammar.{enough}
use Rattle.rules.specs.Units as U
use Rattle.rules.specs.Units.{unit_at}
use Rattle.rules.specs.Declarations.{State}
use Rattle.rules.specs.Judge as J
use Rattle.rules.specs.Judge.{judge}
use Rattle.rules.specs.Book as B
use Rattle.rules.specs.Lines.{position_of}
use Rattle.rules.specs.Check as C
use Rattle.rules.specs.Check.{lent, is_over, run_from, judged, room, unit_place, after_judge, after_unit, finish}
use Rattle.rules.specs.Check.{nothing}
use Rattle.rules.specs.Check.{run}
use Rattle.rules.proofs.SymbolLaws.{Lies, next-lies}
use Rattle.rules.proofs.ForwardLaws.{Ends, Stepped, unit-steps}
use Rattle.places.specs.declared.Position.{Position}
use Rattle.places.specs.Standing.{position_in}
use Rattle.symbols.specs.declared.Symbol.{Symbol}
use Rattle.symbols.specs.Cut.{faulty_as, position_at, cut}
use Rattle.symbols.proofs.CutLaws.{its-position}
use Rattle.readers.specs.Reads.{fault_at, Cuts, Held}
use Rattle.readers.proofs.StandLaws.{at-stands}
use Rattle.units.specs.declared.Where.{Where}
use Rattle.units.specs.declared.Where.TheVariants.{Start}
use Rattle.units.specs.declared.Unit.{Unit}
use Rattle.units.specs.declared.UnitRead.{UnitRead}
use Rattle.units.specs.Steps.{around_of, run_of, run_cut, behind_of, where_of, place_of, IsAny, StepIs, Steps}
use Rattle.rules.specs.All.{AnyIs}
use Rattle.wellformed.specs.Fairness.{FairUnit, MayStand, Placed}
use Rattle.wellformed.proofs.ReadLaws.{unit-fair}
use Rattle.wellformed.proofs.StandLaws.{may-stand, placed-mark, placed-next}
use Rattle.state.specs.declared.State as code
use Rattle.ground.specs.declared.Ruling.{Ruling}
use Rattle.state.specs.declared.desk.Desk.{Desk}
use Rattle.state.specs.Keeping.{Keeps, OpenIs, Kept, Answered}
use Rattle.book.specs.Sizes.{topic_size, head_size}
use Rattle.state.specs.Desks.{Loan, Stays}
use Rattle.judge.specs.Judging.{ComesAny, Answers}
use Rattle.running.specs.declared.Stage.{Stage}
use Rattle.answers.specs.declared.Refusal.{Refusal}
use Rattle.answers.specs.Answers.{Coded, accepted_as}
use Rattle.running.specs.Running.{Suffices, Runs, Ended, Turned, refused_in, unread_by}

-- ---- a result before its error was turned into another
module _ {A E D : Type 0} (P : E → D → Type 0) where
  pub was-ok : (r : coded.Result A E) {q : coded.Result A D} {x : A}
      → MatchResult r (λ y. q ≡ Ok y) (λ e. IsErrAnd q (P e)) → q ≡ Ok x → r ≡ Ok x
  was-ok (Ok y) h e = cc
  was-ok (Err y) h e = elim (rw e at h) [ ]

  pub was-err : (r : coded.Result A E) {q : coded.Result A D} {x : D}
      → MatchResult r (λ y. q ≡ Ok y) (λ e. IsErrAnd q (P e)) → q ≡ Err x → (e : E) × (r ≡ Err e) × P e x
  was-err (Ok y) h e = absurd (let q : ◌≡◌ {A = ℕ} 0 1 = cc in omega arith)
  was-err (Err y) h e = (y, refl, rw e at h)

-- ---- at a stage
module _ {d : Desk} {g : Stage} (R : Runs d g) where
  abbrev now : rules.Symbol
  now = symbol_at d.text.now R.place

  cuts-now : Cuts d.text.now now g.next
  cuts-now = record { cuts = R.first; stands = at-stands d.text.now R.place R.within }

  pub held-now : Held d.text.now g.next
  held-now = (now, cuts-now)

  -- the definitions and attributes so far take their bytes of the book
  pub few-records : topic_size * g.state.listing.count + head_size * g.state.listing.total ≤ length d.book.now
  few-records = go R.state.open_class R.keeps.opened
    where
      go : (c : Option _) → OpenIs d.text.now R.state g.state d.index.now d.hand.now c
          → topic_size * g.state.listing.count + head_size * g.state.listing.total ≤ length d.book.now
      go none (a, b, h, i) = omega (arith, h, R.keeps.within)
      go (some c) (a, h, i, j) = omega (arith, h, R.keeps.within)

-- ---- a turn of the run, at the result r of reading
abbrev turn : ℕ → List ℕ → ℕ → U.Where → State → Result U.Step → C.Outcome
turn f t m w s r = cond (is_over w) (finish s r) (after_unit (lent m) s r (λ v u b. run_from f t (lent m) v u b))

turn-refused : (f : ℕ) (t : List ℕ) (m : ℕ) (w : U.Where) (s : State) (n : rules.Fault) (p : ℕ)
    → turn f t m w s (refused n p) ≡ C.unread s n p
turn-refused f t m w s n p = go (is_over w)
  where
    go : (b : Bool) → cond b (C.unread s n p) (C.unread s n p) ≡ C.unread s n p
    go true = refl
    go false = refl

-- a refusal, as the code ends with it
refused-ends : (t : List ℕ) (m : ℕ) (o : List ℕ) (s : State) (f : rules.Fault) (p : ℕ) → run t (lent m) ≡ C.unread s f p
    → Ended t m (Err (refused_in t (number_of f) p)) o
refused-ends t m o s f p e = ap (C.answer_of t) e

fault-narrow : (f : rules.Fault) → number_of f % 256 ≡ number_of f
fault-narrow rules.too_long = refl
fault-narrow rules.no_symbol = refl
fault-narrow rules.unclosed = refl
fault-narrow rules.too_large = refl
fault-narrow rules.impossible = refl
fault-narrow rules.reserved = refl

unread-is : (t : List ℕ) (y : Symbol) (f : rules.Fault) (p : ℕ) → faulty_as y.refusal y ≡ cut t (fault_at f p)
    → p ≤ length t → length t ≤ 65535 → unread_by y ≡ refused_in t (number_of f) p
unread-is t y f p e h small =
    let n : y.refusal % 256 ≡ number_of f = ap (λ (s : Symbol). s.refusal % 256) e ∙ fault-narrow f in
    let a : y.place ≡ p = ap (λ (s : Symbol). s.place) e in
    let q : position_at y ≡ position_in t p = ap position_at e ∙ its-position t (fault_at f p) h (omega arith) in
    let l : (position_at y).line ≡ (position_of t p).line = ap (λ (x : Position). x.line) q in
    let c : (position_at y).column ≡ (position_of t p).column = ap (λ (x : Position). x.column) q in
    λ i. record { number = n i; place = a i; line = l i; column = c i }

broken-ends : (t : List ℕ) (m : ℕ) (o : List ℕ) (s : State) (n p : ℕ)
    → run t (lent m) ≡ C.ruled_out s n p → Ended t m (Err (refused_in t n p)) o
broken-ends t m o s n p e = ap (C.answer_of t) e

-- ---- what has been read: the unit v of the rules, which is u, in the state s; where the next one stands and its
-- first symbol, further on
pub record Given (t : List ℕ) (m : ℕ) (g : Stage) (s : State) (rs : List ℕ) (u : Unit)
    (w : Where) (n : Symbol) : Type 0 where
  pub unit : Option U.Unit
  pub next : U.Where
  pub behind : ℕ
  pub fuel : ℕ
  pub comes : ComesAny t s unit u rs
  pub at : w ≡ where_of next
  pub first : n ≡ cut t (symbol_at t behind)
  pub on : g.next.place < behind
  pub within : behind ≤ length t
  pub left : length t < behind + fuel
  pub goes_on : run t (lent m)
      ≡ after_judge s (judged (lent m) s unit) next behind (λ v x b. run_from fuel t (lent m) v x b)
  pub placed : (x : State) → judged (lent m) s unit ≡ J.ok x → Placed next x

pub room-ok : (m p : ℕ) (j : J.Judged) (x : State) → room (lent m) p j ≡ J.ok x → j ≡ J.ok x
room-ok m p (J.refused n q) x e = e
room-ok m p (J.ok s) x e = go (ltb (C.capacity (lent m)) (length (B.book s))) e
  where
    go : (b : Bool) → cond b (J.refused 19 p) (J.ok s) ≡ J.ok x → J.ok s ≡ J.ok x
    go true h = absurd (let q : ◌≡◌ {A = ℕ} 0 1 = cc in omega arith)
    go false h = h

comes-any : (t rs₀ rs : List ℕ) (s : State) (u : Unit) (v : Option U.Unit) → IsAny rs₀ rs v u → AnyIs (FairUnit t) v
    → AnyIs (MayStand s) v → ComesAny t s v u rs
comes-any t rs₀ rs s u none i f h = i
comes-any t rs₀ rs s u (some v) i f h = record { scratch = rs₀; is = i; fair = f; stands = h }

pub placed-then : (t : List ℕ) (m : ℕ) (w : U.Where) (s : State) (y : rules.Symbol) (q : U.Step) (z : rules.Symbol)
    → Placed w s → is_over w ≡ false → unit_at w t y ≡ done q z
    → (v : Option U.Unit) → q.unit ≡ v → (x : State) → judged (lent m) s v ≡ J.ok x → Placed q.next x
placed-then t m w s y q z p o e none n x j =
    let h : s ≡ x = cc in
    subst (Placed q.next) h (placed-mark t w s y q z p o e n)
placed-then t m w s y q z p o e (some u) n x j =
    placed-next t w s y q z p o e u n x (room-ok m (unit_place u) (judge s u) x j)

-- ---- where the next unit stands
around-where : (a : U.Around) → around_of (not (U.is_model a)) ≡ a
around-where U.in_model = refl
around-where U.in_topic = refl

run-where : (r : U.Run) → run_of (run_cut r) ≡ r
run-where U.no_run = refl
run-where U.domains = refl
run-where U.units = refl

behind-where : (b : U.Behind) → behind_of (U.is_head b) ≡ b
behind-where U.its_head = refl
behind-where U.a_member = refl

place-where : (w : U.Where) → place_of (where_of w) ≡ w
place-where U.start = refl
place-where U.after_header = refl
place-where U.over = refl
place-where (U.body a r) = rw (around-where a, run-where r)
place-where (U.members a b) = rw (around-where a, behind-where b)

module _ {d : Desk} {g : Stage} (R : Runs d g) where
  abbrev t : List ℕ
  t = d.text.now

  abbrev m : ℕ
  m = length d.book.now

  abbrev here : U.Where
  here = place_of g.at

  -- the run, one turn further
  run-turn : (f : ℕ) → R.fuel ≡ f → (k : ℕ) → f ≡ suc k
      → run t (lent m) ≡ turn k t m here R.state (unit_at here t (now R))
  run-turn f e k h = R.goes_on ∙ ap (λ (n : ℕ). run_from n t (lent m) here R.state R.place) (e ∙ h)

  module _ {rs₀ rs : List ℕ} {r : coded.Result UnitRead Symbol} (S : Steps t rs₀ rs (unit_at here) g.next r) where
    -- ---- it cannot be read, at a place of the text
    pub unread-ends : {y : Symbol} {x : Refusal} (o' : List ℕ) → length t ≤ 65535 → r ≡ Err y → x ≡ unread_by y
        → Ended t m (Err x) o'
    unread-ends {y} {x} o' small e b =
        go R.fuel refl (unit_at here t (now R)) refl (S.steps (now R) (cuts-now R))
      where
        go : (f : ℕ) → R.fuel ≡ f → (v : Result U.Step) → unit_at here t (now R) ≡ v → StepIs t rs₀ rs v r
            → Ended t m (Err x) o'
        go zero h v i s = absurd (omega (arith, R.left, R.within))
        go (suc k) h (done v z') i (u, j, a) = absurd (let q : ◌≡◌ {A = ℕ} 0 1 = cc in omega arith)
        go (suc k) h (refused f j) i (y', s, q, w) =
            let a : y ≡ y' = cc in
            let d : x ≡ refused_in t (number_of f) j = b ∙ ap unread_by a ∙ unread-is t y' f j q w small in
            let c : run t (lent m) ≡ C.unread R.state f j =
            run-turn (suc k) h k refl ∙ ap (turn k t m here R.state) i ∙ turn-refused k t m here R.state f j in
            rw d (refused-ends t m o' R.state f j c)

    -- ---- behind the model's END the text is at its end
    pub over-ends : {u : UnitRead} → r ≡ Ok u → is_over here ≡ true
        → Ended t m (accepted_as g.state.extent.used g.state.extent.definitions) d.book.now
    over-ends {u} e v = go R.fuel refl (unit_at here t (now R)) refl (S.steps (now R) (cuts-now R))
      where
        go :
            (f : ℕ) → R.fuel ≡ f → (q : Result U.Step) → unit_at here t (now R) ≡ q → StepIs t rs₀ rs q r
            → Ended t m (accepted_as g.state.extent.used g.state.extent.definitions) d.book.now
        go zero h q i s = absurd (omega (arith, R.left, R.within))
        go (suc k) h (refused f j) i s = absurd (let q : ◌≡◌ {A = ℕ} 0 1 = cc in omega arith)
        go (suc k) h (done q z') i s =
            let c : run t (lent m) ≡ C.kept R.state =
            run-turn (suc k) h k refl ∙ ap (turn k t m here R.state) i ∙ rw v in
            (R.state, c, R.keeps.used, R.keeps.defined, R.keeps.within, R.keeps.written)

    -- ---- a unit has been read
    pub given : {u : UnitRead} → length t ≤ 65535 → r ≡ Ok u → is_over here ≡ false
        → Given t m g R.state rs u.unit u.at u.next
    given {u} small e v = go R.fuel refl (unit_at here t (now R)) refl
        ((unit-steps here v).reads t (now R).place (now R) whole) (S.steps (now R) (cuts-now R))
      where
        lies : Lies R.place (length t) (now R)
        lies = next-lies t R.place R.within

        whole : Lies (now R).place (length t) (now R)
        whole = record { starts = omega arith; ends = lies.ends; solid = lies.solid }

        go : (f : ℕ) → R.fuel ≡ f → (q : Result U.Step) → unit_at here t (now R) ≡ q
            → Ends (Stepped t (suc (now R).place)) q → StepIs t rs₀ rs q r
            → Given t m g R.state rs u.unit u.at u.next
        go zero h q i b s = absurd (omega (arith, R.left, R.within))
        go (suc k) h (refused f j) i b s = absurd (let q : ◌≡◌ {A = ℕ} 0 1 = cc in omega arith)
        go (suc k) h (done q z') i b (u', j, a) =
            let same : u' ≡ u.unit = cc in
            let start = lies.starts in
            let first-place : g.next.place ≡ (now R).place = ap (λ (y : Symbol). y.place) R.first in
            let left = R.left in
            record {
              unit = q.unit;
              next = q.next;
              behind = q.behind;
              fuel = k;
              comes = subst (λ (u : Unit). ComesAny t R.state q.unit u rs) same
                  (comes-any t rs₀ rs R.state u' q.unit a
                  (unit-fair t here (now R) q z' (omega arith) (cuts-now R).stands i)
                  (may-stand t here R.state (now R) q z' R.placed i));
              at = cc;
              first = cc;
              on = omega (arith, b.0);
              within = b.1;
              left = omega (arith, b.0);
              goes_on = run-turn (suc k) h k refl ∙ ap (turn k t m here R.state) i ∙ rw v;
              placed = placed-then t m here R.state (now R) q z' R.placed v i q.unit refl;
            }

  -- ---- and judged
  module _ {rs : List ℕ} {u : Unit} {w : Where} {n : Symbol} (G : Given t m g R.state rs u w n) where
    symbol-lies : Lies G.behind (length t) (symbol_at t G.behind)
    symbol-lies = next-lies t G.behind G.within

    next_place : n.place ≡ (symbol_at t G.behind).place
    next_place = ap (λ (y : Symbol). y.place) G.first

    goes_to : (k : State) → judged (lent m) R.state G.unit ≡ J.ok k
        → run t (lent m) ≡ run_from G.fuel t (lent m) (place_of w) k G.behind
    goes_to k e =
        G.goes_on
        ∙ ap
        (λ (q : J.Judged). after_judge R.state q G.next G.behind (λ v x b. run_from G.fuel t (lent m) v x b)) e
        ∙ ap (λ (v : U.Where). run_from G.fuel t (lent m) v k G.behind)
        (sym (ap place_of G.at ∙ place-where G.next))

    -- what a turn makes of judging's answer
    abbrev after : coded.Result code.State Ruling → coded.Result (core.Option Stage) Refusal
    after (Ok st) = Ok (Some (record { state = st; at = w; next = n }))
    after (Err r) = Err (refused_in t r.number r.place)

    -- ---- a state is kept, or a rule broken, on a desk where the same is lent
    module _ {d' : Desk} (e : d'.text ≡ d.text) (l : length d'.book.now ≡ m) where
      fine : (k : State) (st : code.State) → judged (lent m) R.state G.unit ≡ J.ok k → Kept d' k st
          → Turned d' g (Ok (Some (record { state = st; at = w; next = n })))
      fine k st q h = (
        record {
          fuel = G.fuel;
          state = k;
          place = G.behind;
          within = rw e G.within;
          left = rw e G.left;
          goes_on = rw (e, l) (goes_to k q);
          first = rw e G.first;
          keeps = h;
          placed = subst (λ (v : U.Where). Placed v k) (sym (ap place_of G.at ∙ place-where G.next)) (G.placed k q);
        },
        omega (arith, G.on, next_place, symbol-lies.starts),
        rw e (omega (arith, next_place, symbol-lies.ends)),
      )

      turned : {j : coded.Result code.State Ruling} → Answers d' m R.state j G.unit → Turned d' g (after j)
      turned {j} A = go (judged (lent m) R.state G.unit) refl A.as_judged
        where
          go : (q : J.Judged) → judged (lent m) R.state G.unit ≡ q → Answered d' q j → Turned d' g (after j)
          go (J.ok k) q (st, i, h) = rw i (fine k st q h)
          go (J.refused a b) q i =
              rw (i, e, l) (broken-ends t m d'.book.now R.state a b
              (G.goes_on ∙ ap (λ (j : J.Judged). after_judge R.state j G.next
              G.behind (λ v x b. run_from G.fuel t (lent m) v x b)) q))

      pub turned-on : {j : coded.Result code.State Ruling} {st : code.State} → j ≡ Ok st
          → Answers d' m R.state j G.unit → Turned d' g (Ok (Some (record { state = st; at = w; next = n })))
      turned-on q A = rw q at (turned A)

      pub turned-out : {j : coded.Result code.State Ruling} {r : Ruling} {x : Refusal} → j ≡ Err r
          → x ≡ refused_in d'.text.now r.number r.place → Answers d' m R.state j G.unit → Turned d' g (Err x)
      turned-out {r} {x} q f A =
          let b : x ≡ refused_in t r.number r.place = rw e at f in
          rw b (rw q at (turned A))

-- ---- the first stage
run-start : (t : List ℕ) (m : ℕ) → length t ≤ 65535
    → run t (lent m) ≡ run_from (enough t) t (lent m) U.start nothing 0
unfolding run
run-start t m h = rw (le-ltb 65535 (length t) h)

pub begins : (d : Desk) (g : Stage) (n : ℕ) → length d.text.now ≤ 65535 → d.chains.now ≡ replicate n 0
    → g.at ≡ Start → g.next ≡ cut d.text.now (symbol_at d.text.now 0)
    → Keeps d.text.now nothing g.state d.book.now d.index.now (replicate n 0) d.rows.now d.hand.now → Runs d g
begins d g n h z v f k = record {
  fuel = enough d.text.now;
  state = nothing;
  place = 0;
  within = omega arith;
  left = omega arith;
  goes_on = rw v (run-start d.text.now (length d.book.now) h);
  first = f;
  keeps = subst (λ (y : List ℕ). Keeps d.text.now nothing g.state d.book.now d.index.now y d.rows.now d.hand.now)
      (sym z) k;
  placed = rw v (record { decls = refl; topic = refl; open_class = refl });
}

-- ---- a turn, by its answer
module _ (d : Desk) (g : Stage) {r : coded.Result (core.Option Stage) Refusal} (h : Turned d g r) where
  pub end-turn : r ≡ Ok None → Ended d.text.now (length d.book.now)
      (accepted_as g.state.extent.used g.state.extent.definitions) d.book.now
  end-turn f = rw f at h

  pub on-turn : {g' : Stage} → r ≡ Ok (Some g')
      → Runs d g' × (g.next.place < g'.next.place) × (g'.next.place ≤ length d.text.now)
  on-turn f = rw f at h

-- ---- where the same is lent
pub stays-same : (d : Desk) → Stays d d
stays-same d =
    (refl, (refl, refl), (refl, refl), (refl, refl), (refl, refl), (refl, refl), (refl, refl), (refl, refl))

module _ (d d' : Desk) (e : Stays d d') where
  pub loan-stays : Loan d → Loan d'
  loan-stays l = record {
    text_short = rw e.0 l.text_short;
    book_short = rw e.1.1 l.book_short;
    scratch_wide = rw (e.0, e.6.1) l.scratch_wide;
    scratch_short = rw e.6.1 l.scratch_short;
    tables_wide = rw (e.6.1, e.1.1, e.7.1) l.tables_wide;
  }

  pub suffices : Suffices d → Suffices d'
  suffices f = rw (e.1.1, e.2.1, e.3.1, e.4.1) f

  pub ended : (a : Coded) → Ended d'.text.now (length d'.book.now) a d'.book.now
      → Ended d.text.now (length d.book.now) a d'.book.now
  ended a h = rw (e.0, e.1.1) at h
