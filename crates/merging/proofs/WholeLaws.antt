-- The run on bytes is the walk on trees: what it writes is the merged list.
use mathlib.Core.Path.{◌≡◌, refl, ap, ◌∙◌}
use mathlib.Core.Bool.{Bool, true, false, cond, ◌&&◌}
use mathlib.Core.List.{List, [], ◌∷◌, ◌++◌}
use Prim.Native.Nat.{ℕ, zero, suc, ◌+◌, ◌-◌, ◌*◌, ◌≤◌, ◌<◌}
use native.Mathlib.Nat.{mul-le-mul_right}
use native.Mathlib.Omega.{arith}
use lib.ListN.{length, get_or, set, length-set}
use lib.Seq.{get_or-set_same, get_or-set_other}
use borrow.Author.Tests.{lt-ltb}
use Rattle.rules.specs.Enumerations.{Enum, end, elem, final, inner, has, merge}
use Rattle.rules.specs.Book.{element_records}
use Rattle.std.specs.Prelude.{Some}
use Rattle.merging.specs.Steps.{emitted, goes, look_move}
use Rattle.merging.specs.Walks.{no_position, top_of, moved_by, wrote, barred, before, run_from}
use Rattle.enumerations.specs.Standing.{plain, DeepIn, Deep, end_of, ListAt}
use Rattle.merging.proofs.RunLaws.{run-zero, run_end_lem, run-go, run-stop}
use Rattle.enumerations.proofs.StandLaws.{list-elements, next_of, end-in}
use Rattle.merging.proofs.FrameLaws.{Frame, copy, add, emits, leaves, nodes, copy_steps, copy-steps, copy_ok}
use Rattle.merging.proofs.FrameLaws.{walked, walk-merge}
use Rattle.merging.proofs.SimulateLaws.{Shows, Left, Simulates, step-simulates}
use Rattle.enumerations.proofs.DeepLaws.{deep_of, deep-inner, deep_room}
use Rattle.merging.specs.declared.Emit.{Emit}
use Rattle.merging.specs.declared.Position.{Position}
use Rattle.merging.specs.declared.Position.TheVariants.{Copying}
use Rattle.enumerations.specs.declared.Inner.{Inner}
use Rattle.merging.specs.declared.Turn.{Turn}
use Rattle.merging.specs.declared.Turn.TheVariants.{Go, Enter, Leave}
use Rattle.merging.specs.declared.Move.{Move}
use Rattle.merging.specs.declared.Walk.{Walk}
use Rattle.book.specs.Sizes.{element_size, list_size}

-- ---- there is room for the frames
abbrev DeepFrame : ℕ → Frame → Type 0
DeepFrame k (copy w r x) = Deep k r × Deep k x
DeepFrame k (add w y) = Deep k y

abbrev pub Fit : List Frame → Type 0
Fit [] = Unit {0}
Fit (F ∷ Fs) = DeepFrame (8 - (length Fs + 1)) F × Fit Fs

-- two frames stand in the place of one only where there is room
abbrev Room : ℕ → List Frame → Type 0
Room g [] = Unit {0}
Room g (F ∷ []) = Unit {0}
Room g (F ∷ G ∷ []) = g + 1 < 8
Room g (F ∷ G ∷ H ∷ L) = ⊥

record Next (Fs Gs : List Frame) : Type 0 where
  fit : Fit (Fs ++ Gs)
  room : Room (length Gs) Fs

less : (g : ℕ) → 8 - (g + 1) - 1 ≡ 8 - (suc g + 1)
less g = omega arith

fit_next : (F : Frame) (Gs : List Frame) → Fit (F ∷ Gs) → Next (leaves F) Gs
fit_next (copy w (end f) x) Gs h = record { fit = (h.0.1, h.1); room = tt }
fit_next (copy w (elem n i r) x) Gs h = go (plain i && plain (inner n.bytes x)) refl h.0.0.0
    (deep-inner (8 - (length Gs + 1)) n.bytes x h.0.1)
  where
    go : (c : Bool) → (plain i && plain (inner n.bytes x)) ≡ c
        → DeepIn (plain i) (8 - (length Gs + 1)) (Deep (8 - (length Gs + 1) - 1) i)
        → DeepIn (plain (inner n.bytes x)) (8 - (length Gs + 1))
        (Deep (8 - (length Gs + 1) - 1) (inner n.bytes x))
        → Next (cond c (copy w r x ∷ []) (copy i i (inner n.bytes x) ∷ copy w r x ∷ [])) Gs
    go true e a b = record { fit = ((h.0.0.1, h.0.1), h.1); room = tt }
    go false e a b =
        let z = deep_room (8 - (length Gs + 1)) i (inner n.bytes x) e a b in
        record {
          fit = (
            (
              rw (less (length Gs)) at (deep_of (8 - (length Gs + 1)) i a),
              rw (less (length Gs)) at
                  (deep_of (8 - (length Gs + 1)) (inner n.bytes x) b),
            ),
            ((h.0.0.1, h.0.1), h.1),
          );
          room = omega arith;
        }
fit_next (add w (end g)) Gs h = record { fit = h.1; room = tt }
fit_next (add w (elem m j r)) Gs h = go (has m.bytes w) (plain j) refl h.0.0
  where
    go : (c p : Bool) → plain j ≡ p → DeepIn p (8 - (length Gs + 1)) (Deep (8 - (length Gs + 1) - 1) j) →
        Next (cond c (add w r ∷ []) (cond p (add w r ∷ []) (add (end false) j ∷ add w r ∷ []))) Gs
    go true p e a = record { fit = (h.0.1, h.1); room = tt }
    go false true e a = record { fit = (h.0.1, h.1); room = tt }
    go false false e a =
        let z = a.0 in
        record { fit = (rw (less (length Gs)) at a.1, (h.0.1, h.1)); room = omega arith }

next-eight : (L Gs : List Frame) → Room (length Gs) L → length Gs + 1 ≤ 8 → length (L ++ Gs) ≤ 8
next-eight [] Gs r u = omega arith
next-eight (F ∷ []) Gs r u = omega arith
next-eight (F ∷ G ∷ []) Gs r u = omega arith
next-eight (F ∷ G ∷ H ∷ L) Gs r u = absurd r

-- ---- the positions stand for the frames, the innermost last
module _ (t b x : List ℕ) where
  abbrev pub OpenAt : List Frame → List Position → Type 0
  OpenAt [] ps = Unit {0}
  OpenAt (F ∷ Fs) ps = Shows t b x F (get_or ps (length Fs) no_position) × OpenAt Fs ps

  pub record Holds (Fs : List Frame) (w : Walk) : Type 0 where
    pub depth : w.depth ≡ length Fs
    pub eight : length w.places ≡ 8
    pub open_at : OpenAt Fs w.places

  open-set : (Fs : List Frame) (ps : List Position) (i : ℕ) (p : Position) → length Fs ≤ i
      → OpenAt Fs ps → OpenAt Fs (set ps i p)
  open-set [] ps i p h o = tt
  open-set (F ∷ Fs) ps i p h o = (
    rw (get_or-set_other ps i (length Fs) p no_position (λ e. omega arith)) o.0,
    open-set Fs ps i p (omega arith) o.1,
  )

  holds-moved : (L Gs : List Frame) (w : Walk) (u : Turn) → w.depth ≡ suc (length Gs)
      → w.depth ≤ 8 → length w.places ≡ 8
      → OpenAt Gs w.places → Room (length Gs) L → Left t b x L u → Holds (L ++ Gs) (moved_by w u)
  unfolding moved_by
  holds-moved [] Gs w Leave d v l o r s = record { depth = omega arith; eight = l; open_at = o }
  holds-moved (F ∷ []) Gs w (Go n) d v l o r s =
      let e : w.depth - 1 ≡ length Gs = omega arith in
      rw e
      (record {
        depth = d;
        eight = length-set w.places (length Gs) n ∙ l;
        open_at = (
          rw (get_or-set_same w.places (length Gs) n no_position (omega arith)) s,
          open-set Gs w.places (length Gs) n (omega arith) o,
        );
      })
  holds-moved (F ∷ G ∷ []) Gs w (Enter n c) d v l o r s =
      let e : w.depth - 1 ≡ length Gs = omega arith in
      let q : List Position = set w.places (length Gs) n in
      let lq : length q ≡ 8 = length-set w.places (length Gs) n ∙ l in
      let m : get_or q (length Gs) no_position
      ≡ n = get_or-set_same w.places (length Gs) n no_position (omega arith) in
      rw (lt-ltb w.depth 8 (omega arith), e, d)
      (record {
        depth = omega arith;
        eight = length-set q (suc (length Gs)) c ∙ lq;
        open_at = (
          rw (get_or-set_same q (suc (length Gs)) c no_position (omega arith)) s.0,
          (
            rw (get_or-set_other q (suc (length Gs)) (length Gs) c no_position (λ z. omega arith) ∙ m) s.1,
            open-set Gs q (suc (length Gs)) c (omega arith)
                (open-set Gs w.places (length Gs) n (omega arith) o),
          ),
        );
      })
  holds-moved [] Gs w (Go n) d v l o r s = absurd s
  holds-moved [] Gs w (Enter n c) d v l o r s = absurd s
  holds-moved (F ∷ []) Gs w (Enter n c) d v l o r s = absurd s
  holds-moved (F ∷ []) Gs w Leave d v l o r s = absurd s
  holds-moved (F ∷ G ∷ []) Gs w (Go n) d v l o r s = absurd s
  holds-moved (F ∷ G ∷ []) Gs w Leave d v l o r s = absurd s
  holds-moved (F ∷ G ∷ H ∷ L) Gs w u d v l o r s = absurd r

top-is : (w : Walk) (g : ℕ) → w.depth ≡ suc g → top_of w ≡ get_or w.places g no_position
unfolding top_of
top-is w g e = let h : w.depth - 1 ≡ g = omega arith in rw h

module _ (t b x : List ℕ) where
  run-walked : (k : ℕ) (Fs : List Frame) (w : Walk) → Holds t b x Fs w → Fit Fs → length Fs ≤ 8
      → run_from k t b x w ≡ walked k Fs
  run-walked zero Fs w r f u = run-zero t b x w
  run-walked (suc k) [] w r f u = run_end_lem k t b x w r.depth
  run-walked (suc k) (F ∷ Gs) w r f u =
      let S : Simulates t b x (emits F) (leaves F) (look_move t b x (top_of w)) =
      rw (top-is w (length Gs) r.depth) (step-simulates t b x F _ r.open_at.0) in
      let N = fit_next F Gs f in
      go (goes (emits F)) refl (look_move t b x (top_of w)) refl S N
      (λ R. run-walked k (leaves F ++ Gs) (moved_by w (look_move t b x (top_of w)).turn) R N.fit
      (next-eight (leaves F) Gs N.room (omega arith)))
    where
      d : ¬ (w.depth ≡ 0)
      d z = omega (arith, r.depth)

      go : (c : Bool) → goes (emits F) ≡ c → (m : Move) → m ≡ look_move t b x (top_of w)
          → Simulates t b x (emits F) (leaves F) m → Next (leaves F) Gs
          → (Holds t b x (leaves F ++ Gs) (moved_by w m.turn)
          → run_from k t b x (moved_by w m.turn) ≡ walked k (leaves F ++ Gs)) →
          run_from (suc k) t b x w ≡ cond c (before (emitted (emits F)) (walked k (leaves F ++ Gs))) barred
      go true e m em S N ih =
          run-go k t b x w m d em (ap goes S.emit ∙ e)
          ∙ ap (λ (y : Emit). before (emitted y) (run_from k t b x (moved_by w m.turn))) S.emit
          ∙ ap (before (emitted (emits F))) (ih (holds-moved t b x (leaves F) Gs w m.turn r.depth
          (omega (arith, r.depth)) r.eight r.open_at.1 N.room (S.left e)))
      go false e m em S N ih = run-stop k t b x w m d em (ap goes S.emit ∙ e)

-- ---- how large the trees are
nodes-in : (e : Enum) (p : ℕ) → nodes e + p ≤ end_of e p
nodes-in (end f) p = omega arith
nodes-in (elem n i r) p = go i (nodes-in i (p + element_size + list_size)) (λ q. nodes-in r q)
  where
    go : (i : Enum) → nodes i + (p + element_size + list_size) ≤ end_of i (p + element_size + list_size)
        → ((q : ℕ) → nodes r + q ≤ end_of r q) → suc (nodes i + nodes r) + p ≤ end_of r (next_of i p)
    go (end true) a h = omega (arith, h (p + element_size + list_size + 1))
    go (end false) a h = omega (arith, h (p + element_size))
    go (elem m j q) a h = omega (arith, h (end_of (elem m j q) (p + element_size + list_size)))

nodes-fit : (t s : List ℕ) (e : Enum) (p : ℕ) → ListAt t s e p → nodes e ≤ length s
nodes-fit t s e p h = omega (arith, end-in t s e p h, nodes-in e p)

-- ---- from a list of the base and one of the extension, the run writes the merged one
pub whole_run : (t b x : List ℕ) (e d : Enum) (i j : Inner) (k : ℕ) (w : Walk) → ListAt t b e i.list
    → ListAt t x d j.list → i.is_final ≡ final e
    → Deep 7 e → Deep 7 d → w.depth ≡ 1 → length w.places ≡ 8 →
    get_or w.places 0 no_position ≡ Copying (Some i) (Some i.list) (Some j.list) →
    length b * (length x + 1) < k
    → run_from k t b x w ≡ cond (copy_ok e e d) (wrote (element_records (merge e d))) barred
whole_run t b x e d i j k w he hd fe le ld dw ew pw hk =
    let he' = list-elements t b e i.list he in
    let s : Shows t b x (copy e e d) (get_or w.places 0 no_position) =
    rw pw (record { whole = he'; rest = he'; own = list-elements t x d j.list hd; is_final = fe }) in
    let r : Holds t b x (copy e e d ∷ []) w = record { depth = dw; eight = ew; open_at = (s, tt) } in
    let c : copy_steps e d ≤ nodes e * (length x + 1) = copy-steps e d (length x) (nodes-fit t x d j.list hd) in
    let m : nodes e * (length x + 1)
    ≤ length b * (length x + 1) = mul-le-mul_right (length x + 1) (nodes-fit t b e i.list he) in
    run-walked t b x k (copy e e d ∷ []) w r ((le, ld), tt) (omega arith) ∙ walk-merge k e d (omega arith)
