-- All demands, from the claims on `check` and from what the program promises.
use mathlib.Core.Path.{◌≡◌, refl, sym, ap, ◌∙◌, subst}
use mathlib.Core.List.{List}
use Prim.Native.Nat.{ℕ, ◌≤◌}
use native.Mathlib.Omega.{arith}
use Rattle.rules.specs.Units as U
use Rattle.rules.specs.Declarations.{State}
use Rattle.rules.specs.Judge.{judge, refused}
use Rattle.rules.specs.Check as C
use Rattle.rules.specs.Check.{lent, kept, run, accepted, refusal, refusing, check}
use Rattle.rules.specs.Lines.{position, position_of}
use Rattle.claims.specs.Promise.{OnlyOne}
use Rattle.claims.specs.Ranking.{rank}
use Rattle.claims.specs.Numbered.{Numbered}
use Rattle.claims.specs.Steps.{EveryReading}
use Rattle.claims.specs.Demand3.{RefusedThere}
use Rattle.computed.proofs.Marked.{marked_hold}
use Rattle.claims.proofs.PromiseLaws.{same-accepted, same-refused, one-outcome, refused-zeros, accepted-book}
use Rattle.claims.proofs.RankingLaws.{units-ranked, texts-ranked}
use Rattle.claims.proofs.FindingLaws.{found_shown}
use Rattle.claims.proofs.NumberedLaws.{refused-numbered, accepted-small}
use Rattle.claims.proofs.LocatedLaws.{located}
use Rattle.claims.proofs.DistinctLaws.{all-distinct}
use Rattle.computed.proofs.ShutLaws.{shut}
use Rattle.claims.proofs.Demand3Laws.{demand3}
use Rattle.claims.proofs.RunLaws.{Ending, Ended, run_ends}
use Rattle.std.specs.Prelude.{Ok, Err}
use Rattle.answers.specs.Answers.{Coded, accepted_as, refused_as, answer_of}
use Rattle.answers.specs.Handing.{handed, taken}
use Rattle.running.specs.Running.{refused_in}
use Rattle.demands.specs.Demands.{Gives, Locates, Demand1, Demand2, NumbersRead, Demand3, Demands}
use Rattle.demands.proofs.PackLaws.{takes-answer, unpacks-name, unpacks-found, shows-found}
use Rattle.demands.proofs.FairLaws.{reached-fair, reached-typed}
use Rattle.demands.proofs.ReadLaws.{numbers-read}

-- ---- the program's answers
-- each of document 01's is one of them, and only one
coded : (a : C.Answer) → (r : Coded) × (answer_of r ≡ a)
coded (accepted a) = (accepted_as a.length a.definitions, refl)
coded (refusal r) = (refused_as r.number r.place r.line r.column, refl)

same_answer : (r s : Coded) → answer_of r ≡ answer_of s → r ≡ s
same_answer (Ok a) (Ok b) e = let (p, q) = same-accepted e in λ i. Ok (record { length = p i; definitions = q i })
same_answer (Ok a) (Err s) e = absurd (let z : ◌≡◌ {A = ℕ} 0 1 = cc in omega arith)
same_answer (Err r) (Ok b) e = absurd (let z : ◌≡◌ {A = ℕ} 0 1 = cc in omega arith)
same_answer (Err r) (Err s) e =
    let (w, x, y, z) = same-refused e in λ i. Err (record { number = w i; place = x i; line = y i; column = z i })

same_kept : {x y : State} → kept x ≡ kept y → x ≡ y
same_kept e = cc

module _ (t : List ℕ) (m : ℕ) where
  -- what `check` answers is given
  gives : (r : Coded) → (check t (lent m)).answer ≡ answer_of r → (b : List ℕ) × Gives t m r b
  gives r e = (_, record { answer = sym e; buffer = refl })

  -- a refusal is the definition's, whose line and column are those of its place
  refuses : {n p l c : ℕ} {b : List ℕ} → Gives t m (refused_as n p l c) b → (check t (lent m)).answer ≡ refusing t n p
  refuses h = let a = located.refused t (lent m) _ (sym h.answer) in rw (a.line, a.column) at (sym h.answer)

  numbered : {n p l c : ℕ} {b : List ℕ} → Gives t m (refused_as n p l c) b → Numbered t n p
  numbered h = refused-numbered t (lent m) _ _ (refuses h)

  stands : {n p l c : ℕ} {b : List ℕ} → Gives t m (refused_as n p l c) b → Locates t p l c
  stands {n} {p} {l} {c} h =
      let a = located.refused t (lent m) _ (sym h.answer) in
      let e : position l c ≡ position_of t p = λ i. record { line = a.line i; column = a.column i } in
      record {
        line = a.line;
        column = a.column;
        only = λ q i f. located.determined t q p i (numbered h).place (f ∙ e);
      }

  outcome : OnlyOne t (lent m)
  outcome = one-outcome t (lent m)

  demand-1 : Demand1 t m
  demand-1 = record {
    answered =
        let (r, e) = coded outcome.answer in
        (r, outcome.buffer, record { answer = e ∙ outcome.promised.answer; buffer = outcome.promised.buffer });
    one = λ r s b c h k.
        let (p, q) = outcome.only (answer_of r) b h in
        let (i, j) = outcome.only (answer_of s) c k in
        (same_answer r s (p ∙ sym i), q ∙ sym j);
    numbered = λ n p l c b h. numbered h;
    located = λ n p l c b h. stands h;
    zeros = λ n p l c b h. refused-zeros t (lent m) _ b h;
    small = λ n k b h. accepted-small t (lent m) n k (sym h.answer);
    taken_back = λ r b h.
        ap (λ (a : C.Answer). taken (handed a)) (sym h.answer)
        ∙ takes-answer r (λ n p l c e. (numbered (subst (λ (x : Coded). Gives t m x b) e h)).number);
  }

  demand-2 : Demand2 t m
  demand-2 = record {
    follows = (
      λ h. let (n, k, b, g) = h in let r = accepted-book t (lent m) n k b g in (r.state, r.runs),
      λ h. let (b, g) = gives (accepted_as _ _) (ap (C.answer_of t) h.1) in (_, _, b, g),
    );
    first = λ n p. (
      λ h. let (l, c, b, g) = h in (texts-ranked.refused t (lent m) n p).0 (refuses g),
      λ h. let (b, g) = gives (refused_as n p _ _) ((texts-ranked.refused t (lent m) n p).1 h) in (_, _, b, g),
    );
    book = λ n k b h. accepted-book t (lent m) n k b h;
  }

  numbers : (s : State) → run t (lent m) ≡ kept s → NumbersRead s
  numbers s e =
      let h : Ended t (lent m) s = subst (Ending t (lent m)) e (run_ends t (lent m)) in
      let r = demand3.accepted_reads t (lent m) _ _ (ap (C.answer_of t) e) in
      let k : EveryReading s = subst EveryReading (same_kept (sym r.runs ∙ e)) r.reads in
      numbers-read t s (reached-fair t m h.reaches).0 (reached-typed t m h.reaches) k

  refused-there : (s : State) (u : U.Unit) (k : ℕ) (r : Coded) (b : List ℕ) → Gives t m r b
      → RefusedThere t (lent m) s u k
      → (n p l c : ℕ) × (r ≡ refused_as n p l c) × (judge s u ≡ refused n p) × (rank n ≤ rank k)
  refused-there s u k r b h v = (
    v.number,
    v.place,
    (position_of t v.place).line,
    (position_of t v.place).column,
    same_answer r (Err (refused_in t v.number v.place)) (h.answer ∙ v.answers),
    v.refuses,
    v.by,
  )

  demand-3 : Demand3 t m
  demand-3 = record {
    reads = λ n k b h. demand3.accepted_reads t (lent m) n k (sym h.answer);
    numbers = numbers;
    number_witness = λ p l c b h. demand3.refused_has_number t (lent m) p (refuses h);
    unit_witness = λ p l c b h. demand3.refused_has_unit t (lent m) p (refuses h);
    refuses = λ s u j x y e o r b h. refused-there s u 22 r b h (demand3.value_refuses t (lent m) s u j x y e o);
    number_refuses = λ s u j x y e o r b h.
        refused-there s u 17 r b h (demand3.number_refuses t (lent m) s u j x y e o);
  }

pub demands : Demands
demands = record {
  demand1 = demand-1;
  demand2 = demand-2;
  demand3 = demand-3;
  ranked = units-ranked;
  lines = located;
  marked_hold = marked_hold;
  distinct = all-distinct;
  descend = demand3.descend;
  unit_kept = demand3.unit_kept;
  shut = shut;
  found_shown = found_shown;
  exports = shows-found;
  beginnings = unpacks-found;
  parts = unpacks-name;
}
