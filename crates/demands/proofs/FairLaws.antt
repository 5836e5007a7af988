-- Every state that checking a text comes to is fair, and only domains have types of their own.
use mathlib.Core.Path.{◌≡◌, refl, subst}
use mathlib.Core.Logic.{◌⊎◌, inl, inr}
use mathlib.Core.Option.{Option, none, some}
use mathlib.Core.List.{List, [], ◌∷◌, ◌++◌}
use Prim.Native.Nat.{ℕ}
use native.Mathlib.Omega.{arith}
use Rattle.rules.specs.Symbols.{symbol_at}
use Rattle.rules.specs.Units as U
use Rattle.rules.specs.Units.{Where}
use Rattle.rules.specs.Types.{structure}
use Rattle.rules.specs.Declarations.{Def, domain, unit, def, State, known}
use Rattle.rules.specs.Judge.{ok, judge, resolved, reference_in, new_topic, new_class, new_domain, with_attribute}
use Rattle.rules.specs.Judge.{after_member, after_close, next_state}
use Rattle.rules.specs.Check.{lent, unit_place, judged}
use Rattle.rules.specs.All.{All, AnyIs}
use Rattle.rules.proofs.AllLaws.{all_append}
use Rattle.rules.proofs.GrowLaws.{known-append}
use Rattle.readers.proofs.StandLaws.{at-stands}
use Rattle.wellformed.specs.Fairness.{FairUnit, FairState, Placed, MayStand}
use Rattle.wellformed.proofs.UseLaws.{fair-nothing}
use Rattle.wellformed.proofs.ReadLaws.{unit-fair}
use Rattle.wellformed.proofs.StandLaws.{may-stand}
use Rattle.wellformed.proofs.KeepLaws.{judge-fair}
use Rattle.claims.specs.Reached.{Reaches, begin, pass}
use Rattle.claims.proofs.RunLaws.{reached-place, reached-keeps}
use Rattle.claims.proofs.NumberedLaws.{reached-short}
use Rattle.running.proofs.RunLaws.{room-ok, placed-then}

-- ---- fair
judged-fair : (t : List ℕ) (m : ℕ) (s x : State) (u : Option U.Unit) → FairState t s → AnyIs (FairUnit t) u
    → AnyIs (MayStand s) u → judged (lent m) s u ≡ ok x
    → FairState t x
judged-fair t m s x none h f p j = let e : s ≡ x = cc in subst (FairState t) e h
judged-fair t m s x (some u) h f p j = judge-fair t s x u f p h (room-ok m (unit_place u) (judge s u) x j)

pub reached-fair : (t : List ℕ) (m : ℕ) {f : ℕ} {w : Where} {s : State} {at : ℕ}
    → Reaches t (lent m) f w s at → FairState t s × Placed w s
reached-fair t m (begin e) = (fair-nothing t, record { decls = refl; topic = refl; open_class = refl })
reached-fair t m (pass {w = w} {s = s} {at = at} r o q y x e j) =
    let (h, p) = reached-fair t m r in
    let z = symbol_at t at in
    let short = reached-short t (lent m) r in
    let fair = unit-fair t w z q y (omega arith) (at-stands t at (reached-place t (lent m) r).0) e in (
      judged-fair t m s x q.unit h fair (may-stand t w s z q y p e) j,
      placed-then t m w s z q y p o e q.unit refl x j,
    )

-- ---- types
abbrev pub Typed : Def → Type 0
Typed d = (d.sort ≡ domain) ⊎ (d.type ≡ structure)

abbrev AllTyped : State → Type 0
AllTyped s = All Typed (known s.decls) × AnyIs Typed s.open_class

declare-typed : (s : State) (d : Def) → AllTyped s → Typed d → All Typed (known (s.decls ++ (def d ∷ [])))
declare-typed s d h k = rw known-append (all_append Typed (known s.decls) (d ∷ []) h.0 (k, tt))

member-typed : (s : State) → AllTyped s → (n : _) (p : _) (w : _) (o : Option Def) → AnyIs Typed o
    → AllTyped (after_member s n p w o)
unfolding with_attribute
member-typed s h n p w none k = h
member-typed s h n p w (some c) k = (h.0, k)

close-typed : (s : State) → AllTyped s → (o t : Option Def) → AnyIs Typed o → AllTyped (after_close s o t)
close-typed s h (some c) t k = (declare-typed s c h k, tt)
close-typed s h none (some t) k = (rw known-append (all_append Typed (known s.decls) [] h.0 tt), tt)
close-typed s h none none k = h

next-typed : (s : State) (u : U.Unit) → AllTyped s → AllTyped (next_state s u)
unfolding new_topic new_class new_domain
next-typed s (U.header v) h = h
next-typed s (U.model n q) h = (tt, tt)
next-typed s (U.topic n) h = (declare-typed s (new_topic s n) h (inr refl), tt)
next-typed s (U.class c n p r) h = (h.0, inr refl)
next-typed s (U.domain n p r w) h =
    let g = resolved s (reference_in w.type) in
    (declare-typed s (new_domain s n p w (resolved s r) g) h (inl refl), tt)
next-typed s (U.attribute n p w) h = member-typed s h n p w s.open_class h.1
next-typed s (U.unit n p r) h = (declare-typed s (new_class s unit n p (resolved s r)) h (inr refl), tt)
next-typed s (U.close n) h = close-typed s h s.open_class s.topic h.1

pub reached-typed : (t : List ℕ) (m : ℕ) {f : ℕ} {w : Where} {s : State} {at : ℕ} → Reaches t (lent m) f w s at
    → All Typed (known s.decls)
reached-typed t m r =
    (reached-keeps t (lent m) AllTyped (record { begins = (tt, tt); goes = λ s u b h v k. next-typed s u h }) r).0
