-- The walk is barred exactly where something is added to a FINAL list or leaf of the base: where the merged
-- enumeration does not fit it.
use mathlib.Core.Path.{◌≡◌, refl, sym, ◌∙◌}
use mathlib.Core.Bool.{true, not, ◌||◌}
use mathlib.Core.Option.{Option, none, some}
use mathlib.Core.List.{List, []}
use Prim.Native.Nat.{ℕ}
use Rattle.rules.specs.Names.{Name}
use Rattle.rules.specs.Enumerations.{Enum, end, elem, final, at, inner, has, merge, or_else, enum_fits, twice}
use Rattle.rules.proofs.Tests.{both, split, alike}
use Rattle.rules.proofs.ByteLaws.{same-eq}
use Rattle.rules.specs.Merged.{distinct, adds_nothing}
use Rattle.rules.proofs.MergeLaws.{at-cases, has_some, has-none, inner-some, adds-parts, distinct-parts, Part}
use Rattle.rules.proofs.MergeLaws.{head-part, tail-part, inner-adds, merged-fits, once-distinct}
use Rattle.merging.proofs.FrameLaws.{add_ok, copy_ok}

copy_parts : (n : Name) (i r w x : Enum) → copy_ok (elem n i r) w x ≡ true
    → (copy_ok i i (inner n.bytes x) ≡ true) × (copy_ok r w x ≡ true)
copy_parts n i r w x p = split p

add_parts : (m : Name) (j r w : Enum) → add_ok w (elem m j r) ≡ true
    → ((has m.bytes w || not (final w)) ≡ true) × (add_ok w r ≡ true)
add_parts m j r w p = split p

copy-one : (r w x : Enum) (n : List ℕ) (i : Enum) → copy_ok r w x ≡ true → at n r ≡ some i
    → copy_ok i i (inner n x) ≡ true
copy-one (end f) w x n i p q = cc
copy-one (elem m j r) w x n i p q =
    at-cases n m j r (λ o. o ≡ some i → copy_ok i i (inner n x) ≡ true)
    (λ e q. let z : i ≡ j = cc in rw (z, same-eq n m.bytes e) (copy_parts m j r w x p).0)
    (λ e q. copy-one r w x n i (copy_parts m j r w x p).1 q)
    q

copy-end : (r w x : Enum) → copy_ok r w x ≡ true → add_ok w x ≡ true
copy-end (end f) w x p = p
copy-end (elem n i r) w x p = copy-end r w x (copy_parts n i r w x p).1

walk-adds : (y x b : Enum) → Part y x → distinct y ≡ true → copy_ok b b x ≡ true
    → add_ok b y ≡ true → adds_nothing y b ≡ true
walk-adds (end g) x b h d p q = refl
walk-adds (elem m j r) x b h d p q =
    let (d₁, d₂, d₃) = distinct-parts m j r d in
    let s : inner m.bytes x ≡ j = inner-some m.bytes x j (head-part m j r x h) in
    both
    (go (at m.bytes b) refl (add_parts m j r b q).0
    (λ i e. let o : copy_ok i i j ≡ true = rw s at (copy-one b b x m.bytes i p e) in
    walk-adds j j i (λ n k q. q) d₂ o (copy-end i i j o)))
    (walk-adds r x b (tail-part m j r x d₁ h) d₃ p (add_parts m j r b q).1)
  where
    go : (o : Option Enum) → at m.bytes b ≡ o → (has m.bytes b || not (final b)) ≡ true →
        ((i : Enum) → at m.bytes b ≡ some i → adds_nothing j i ≡ true)
        → or_else (at m.bytes b) (not (final b)) (adds_nothing j) ≡ true
    go none e k ih = rw e (rw (has-none m.bytes b e) at k)
    go (some i) e k ih = rw e (ih i e)

adds-ok : (x w : Enum) → adds_nothing x w ≡ true → add_ok w x ≡ true
adds-ok (end g) w p = refl
adds-ok (elem m j r) w p =
    both (go (at m.bytes w) refl (adds-parts m j r w p).0) (adds-ok r w (adds-parts m j r w p).1)
  where
    go : (o : Option Enum) → at m.bytes w ≡ o → or_else (at m.bytes w) (not (final w)) (adds_nothing j) ≡ true
        → (has m.bytes w || not (final w)) ≡ true
    go none e k = rw (has-none m.bytes w e) (rw e at k)
    go (some i) e k = rw (has_some m.bytes w i e)

adds-walk : (b w x : Enum) → Part b w → distinct b ≡ true → adds_nothing x w ≡ true → copy_ok b w x ≡ true
adds-walk (end f) w x h d p = adds-ok x w p
adds-walk (elem n i r) w x h d p =
    let (d₁, d₂, d₃) = distinct-parts n i r d in
    let a = head-part n i r w h in
    both (adds-walk i i (inner n.bytes x) (λ n k q. q) d₂ (inner-adds x w n.bytes i p a (at n.bytes x) refl))
    (adds-walk r w x (tail-part n i r w d₁ h) d₃ p)

pub walk-fits : (b x : Enum) → twice b [] ≡ none → twice x [] ≡ none → copy_ok b b x ≡ enum_fits (merge b x) b
walk-fits b x p q =
    let d = once-distinct b p in
    let e = once-distinct x q in
    alike {x = copy_ok b b x} (λ o. walk-adds x x b (λ n k q. q) e o (copy-end b b x o))
    (adds-walk b b x (λ n k q. q) d)
    ∙ sym (merged-fits b x d e)
