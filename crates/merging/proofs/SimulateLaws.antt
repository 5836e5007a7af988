-- A step of the walk on bytes is a step on trees.
use mathlib.Core.Path.{◌≡◌, refl}
use mathlib.Core.Bool.{Bool, true, false, cond, not, ◌&&◌, ◌||◌}
use mathlib.Core.List.{List, [], ◌∷◌}
use Prim.Native.Nat.{ℕ, ◌+◌}
use Rattle.std.specs.Prelude.{Option, Some, is_some, option_and_then}
use Rattle.rules.specs.Names.{Name}
use Rattle.rules.specs.Enumerations.{Enum, end, elem, final, inner, has}
use Rattle.rules.proofs.Tests.{never}
use Rattle.ground.specs.declared.Name as code
use Rattle.enumerations.specs.Lists.{past_inner, inner_at, list_of, final_of, written, find_of}
use Rattle.merging.specs.Steps.{goes, element_move, added_move, look_move}
use Rattle.enumerations.specs.Standing.{plain, part_of, ElementsOf}
use Rattle.enumerations.proofs.StandLaws.{Sought, sought, no-element, First, first-element, Inside, inside_is}
use Rattle.enumerations.proofs.StandLaws.{inside_of}
use Rattle.merging.proofs.FrameLaws.{Frame, copy, add, heading, emits, leaves}
use Rattle.enumerations.specs.declared.Inner.{Inner}
use Rattle.merging.specs.declared.Emit.{Emit}
use Rattle.merging.specs.declared.Emit.TheVariants.{Quiet, Barred}
use Rattle.merging.specs.declared.Turn.{Turn}
use Rattle.merging.specs.declared.Turn.TheVariants.{Go, Enter, Leave}
use Rattle.merging.specs.declared.Position.{Position}
use Rattle.merging.specs.declared.Position.TheVariants.{Copying, Adding}
use Rattle.merging.specs.declared.Move.{Move}
use Rattle.book.specs.Sizes.{element_size}

pub record Copies (t b x : List ℕ) (w r y : Enum) (v : Option Inner) (at o : Option ℕ) : Type 0 where
  pub whole : ElementsOf t b w (list_of v)
  pub rest : ElementsOf t b r at
  pub own : ElementsOf t x y o
  pub is_final : final_of v ≡ final w

pub record Adds (t b x : List ℕ) (w y : Enum) (v : Option Inner) (at : Option ℕ) : Type 0 where
  pub whole : ElementsOf t b w (list_of v)
  pub rest : ElementsOf t x y at
  pub is_final : final_of v ≡ final w

-- the position stands for the frame
abbrev pub Shows : List ℕ → List ℕ → List ℕ → Frame → Position → Type 0
Shows t b x (copy w r y) (Copying v at own) = Copies t b x w r y v at own
Shows t b x (copy w r y) (Adding v at) = ⊥
Shows t b x (add w y) (Copying v at own) = ⊥
Shows t b x (add w y) (Adding v at) = Adds t b x w y v at

-- what a step leaves in the place of a frame
abbrev pub Left : List ℕ → List ℕ → List ℕ → List Frame → Turn → Type 0
Left t b x [] Leave = Unit {0}
Left t b x (F ∷ []) (Go next) = Shows t b x F next
Left t b x (F ∷ G ∷ []) (Enter next child) = Shows t b x F child × Shows t b x G next
Left t b x Fs turn = ⊥

pub record Simulates (t b x : List ℕ) (e : Emit) (Fs : List Frame) (m : Move) : Type 0 where
  pub emit : m.emit ≡ e
  pub left : goes e ≡ true → Left t b x Fs m.turn

heading-simulates : (t b x : List ℕ) (n : Name) (pl fi : Bool) (F G : Frame) (a : code.Name)
    (y z : Bool) (next child : Position)
    → a ≡ part_of n → y ≡ not pl → z ≡ fi → Shows t b x F child → Shows t b x G next →
    Simulates t b x (heading n pl fi) (cond pl (G ∷ []) (F ∷ G ∷ [])) (element_move a y z next child)
heading-simulates t b x n true fi F G a y z next child ea ey ez f g =
    rw ey (record { emit = rw ea; left = λ _. g })
heading-simulates t b x n false fi F G a y z next child ea ey ez f g =
    rw ey (record { emit = rw (ea, ez); left = λ _. (f, g) })

not-and : (a b : Bool) → (not a || not b) ≡ not (a && b)
not-and true b = refl
not-and false b = refl

module _ (t b x : List ℕ) where
  copy-simulates : (w : Enum) (n : Name) (i r y : Enum) (v : Option Inner) (at own : Option ℕ)
      → Copies t b x w (elem n i r) y v at own →
      Simulates t b x (emits (copy w (elem n i r) y)) (leaves (copy w (elem n i r) y))
      (look_move t b x (Copying v at own))
  unfolding look_move
  copy-simulates w n i r y v at own h =
      let P : First t b n i r at = first-element t b n i r at h.rest in
      let j : Enum = inner n.bytes y in
      let S : Sought t x n y (find_of t x own (written b P.p)) =
      rw P.element.name (sought t x n P.element.in_text y own h.own) in
      let vi : Option Inner = inner_at b (P.p + element_size) in
      let vj : Option Inner = option_and_then (inner_at x) (find_of t x own (written b P.p)) in
      let I : Inside t b i vi = inside_is t b i (P.p + element_size) P.inside in
      let J : Inside t x j vj = inside_of t x j (find_of t x own (written b P.p)) S.inside in
      let ey : (is_some vi || is_some vj) ≡ not (plain i && plain j) =
      rw (I.there, J.there) (not-and (plain i) (plain j)) in
      let ez : (final_of vi || final_of vj) ≡ (final i || final j) = rw (I.is_final, J.is_final) in
      rw P.here
      (heading-simulates t b x n (plain i && plain j) (final i || final j) (copy i i j)
      (copy w r y) (written b P.p) (is_some vi || is_some vj) (final_of vi || final_of vj)
      (Copying v (Some (past_inner b (P.p + element_size))) own) (Copying vi (list_of vi) (list_of vj))
      P.element.name ey ez
      (record { whole = I.list; rest = I.list; own = J.list; is_final = I.is_final })
      (record { whole = h.whole; rest = P.rest; own = h.own; is_final = h.is_final }))

  add-simulates : (w : Enum) (n : Name) (j r : Enum) (v : Option Inner) (at : Option ℕ)
      → Adds t b x w (elem n j r) v at →
      Simulates t b x (emits (add w (elem n j r))) (leaves (add w (elem n j r))) (look_move t b x (Adding v at))
  unfolding look_move
  add-simulates w n j r v at h =
      let P : First t x n j r at = first-element t x n j r at h.rest in
      let S : Sought t b n w (find_of t b (list_of v) (written x P.p)) =
      rw P.element.name (sought t b n P.element.in_text w (list_of v) h.whole) in
      let vj : Option Inner = inner_at x (P.p + element_size) in
      let I : Inside t x j vj = inside_is t x j (P.p + element_size) P.inside in
      let next : Position = Adding v (Some (past_inner x (P.p + element_size))) in
      let N : Shows t b x (add w r) next = record { whole = h.whole; rest = P.rest; is_final = h.is_final } in
      rw (P.here, S.has, h.is_final) (go P.p P.element.name I N (has n.bytes w) (final w))
    where
      go : (p : ℕ) → written x p ≡ part_of n → Inside t x j (inner_at x (p + element_size))
          → Shows t b x (add w r) (Adding v (Some (past_inner x (p + element_size)))) → (c d : Bool)
          → Simulates t b x (cond c Quiet (cond d Barred (heading n (plain j) (final j))))
          (cond c (add w r ∷ []) (cond (plain j) (add w r ∷ []) (add (end false) j ∷ add w r ∷ [])))
          (cond c (record { emit = Quiet; turn = Go (Adding v (Some (past_inner x (p + element_size)))) })
          (cond d (record { emit = Barred; turn = Go (Adding v (Some (past_inner x (p + element_size)))) })
          (added_move (inner_at x (p + element_size)) (written x p)
          (Adding v (Some (past_inner x (p + element_size)))))))
      go p e I N true d = record { emit = refl; left = λ _. N }
      go p e I N false true = record { emit = refl; left = λ z. never z }
      go p e I N false false =
          heading-simulates t b x n (plain j) (final j) (add (end false) j) (add w r) _ _ _ _ _
          e I.there I.is_final (record { whole = tt; rest = I.list; is_final = refl }) N

  pub step-simulates : (F : Frame) (p : Position) → Shows t b x F p
      → Simulates t b x (emits F) (leaves F) (look_move t b x p)
  unfolding look_move
  step-simulates (copy w (end f) y) (Copying v at own) h =
      rw (no-element t b f at h.rest)
      (record { emit = refl; left = λ _. record { whole = h.whole; rest = h.own; is_final = h.is_final } })
  step-simulates (copy w (elem n i r) y) (Copying v at own) h = copy-simulates w n i r y v at own h
  step-simulates (copy w r y) (Adding v at) h = absurd h
  step-simulates (add w y) (Copying v at own) h = absurd h
  step-simulates (add w (end g)) (Adding v at) h =
      rw (no-element t x g at h.rest) (record { emit = refl; left = λ _. tt })
  step-simulates (add w (elem n j r)) (Adding v at) h = add-simulates w n j r v at h
