-- Attributes by name: those of a list and the nearest of each name, and how many names there are.
use mathlib.Core.Path.{◌≡◌, refl, sym, ap, ◌∙◌}
use mathlib.Core.Bool.{Bool, true, false, cond, ◌||◌}
use mathlib.Core.Option.{some}
use mathlib.Core.List.{List, [], ◌∷◌, ◌++◌, append_assoc, append-nil}
use Prim.Native.Nat.{ℕ, suc}
use native.Mathlib.Omega.{arith}
use lib.ListN.{length, length-append}
use Rattle.rules.specs.Bytes.{same}
use Rattle.rules.specs.Declarations.{Attribute, attribute_at, is_found, name_count}
use Rattle.rules.proofs.Tests.{or-fails}
use Rattle.rules.proofs.ByteLaws.{same-eq, same-sym}
use Rattle.members.specs.Members.{nearest_to, Unlike}

abbrev bytes : Attribute → List ℕ
bytes a = a.name.bytes

abbrev has : List ℕ → List Attribute → Bool
has n l = is_found (attribute_at n l)

-- ---- one list behind another
pub found_before : (n : List ℕ) (l r : List Attribute)
    → attribute_at n (l ++ r) ≡ cond (has n l) (attribute_at n l) (attribute_at n r)
found_before n [] r = refl
found_before n (b ∷ l) r = go (same n (bytes b)) (found_before n l r)
  where
    go : (t : Bool) → attribute_at n (l ++ r) ≡ cond (has n l) (attribute_at n l) (attribute_at n r)
        → cond t (some b) (attribute_at n (l ++ r))
        ≡ cond (is_found (cond t (some b) (attribute_at n l))) (cond t (some b) (attribute_at n l)) (attribute_at n r)
    go true h = refl
    go false h = h

-- an attribute of another name does not count
pub passed : (n : List ℕ) (l : List Attribute) (a : Attribute) (r : List Attribute) → same n (bytes a) ≡ false
    → attribute_at n (l ++ a ∷ r) ≡ attribute_at n (l ++ r)
passed n [] a r e = rw e
passed n (b ∷ l) a r e = ap (cond (same n (bytes b)) (some b)) (passed n l a r e)

pub has_more : (n : List ℕ) (l : List Attribute) (a : Attribute) (r : List Attribute)
    → has n (l ++ a ∷ r) ≡ (same n (bytes a) || has n (l ++ r))
has_more n [] a r = go (same n (bytes a))
  where
    go : (t : Bool) → is_found (cond t (some a) (attribute_at n r)) ≡ (t || has n r)
    go true = refl
    go false = refl
has_more n (b ∷ l) a r = go (same n (bytes b)) (same n (bytes a)) (has_more n l a r)
  where
    go : (t u : Bool) → has n (l ++ a ∷ r) ≡ (u || has n (l ++ r)) → is_found
        (cond t (some b) (attribute_at n (l ++ a ∷ r))) ≡ (u || is_found (cond t (some b) (attribute_at n (l ++ r))))
    go true true h = refl
    go true false h = refl
    go false u h = h

-- ---- how many names
-- one more attribute anywhere makes one name more, unless its name is there
pub count-more : (l : List Attribute) (a : Attribute) (r : List Attribute)
    → name_count (l ++ a ∷ r) ≡ cond (has (bytes a) (l ++ r)) (name_count (l ++ r)) (suc (name_count (l ++ r)))
count-more [] a r = refl
count-more (x ∷ l) a r =
    go (same (bytes x) (bytes a)) (has (bytes x) (l ++ r)) (has (bytes a) (l ++ r)) refl
    (has_more (bytes x) l a r) (count-more l a r) refl refl
  where
    R : ℕ
    R = name_count (l ++ a ∷ r)

    c : ℕ
    c = name_count (l ++ r)

    front : has (bytes a) (x ∷ (l ++ r)) ≡ (same (bytes a) (bytes x) || has (bytes a) (l ++ r))
    front = has_more (bytes a) [] x (l ++ r)

    go : (e fx fa : Bool) → same (bytes x) (bytes a) ≡ e → has (bytes x) (l ++ a ∷ r)
        ≡ (same (bytes x) (bytes a) || has (bytes x) (l ++ r)) → R ≡ cond (has (bytes a) (l ++ r)) c (suc c)
        → has (bytes x) (l ++ r) ≡ fx → has (bytes a) (l ++ r) ≡ fa
        → cond (has (bytes x) (l ++ a ∷ r)) R (suc R) ≡ cond (has (bytes a) (x ∷ (l ++ r)))
        (cond (has (bytes x) (l ++ r)) c (suc c)) (suc (cond (has (bytes x) (l ++ r)) c (suc c)))
    go true fx fa p h i ex ea =
        let q : bytes x ≡ bytes a = same-eq (bytes x) (bytes a) p in
        rw (h, p, front, same-sym (bytes a) (bytes x), p, i, q)
    go false true true p h i ex ea = rw (h, p, front, same-sym (bytes a) (bytes x), p, i, ex, ea)
    go false true false p h i ex ea = rw (h, p, front, same-sym (bytes a) (bytes x), p, i, ex, ea)
    go false false true p h i ex ea = rw (h, p, front, same-sym (bytes a) (bytes x), p, i, ex, ea)
    go false false false p h i ex ea = rw (h, p, front, same-sym (bytes a) (bytes x), p, i, ex, ea)

-- ---- the nearest of each name
-- an attribute whose name is there already changes nothing
hidden : (n : List ℕ) (h : List Attribute) (a : Attribute) (l : List Attribute) → has (bytes a) h ≡ true
    → attribute_at n (h ++ l) ≡ attribute_at n (h ++ a ∷ l)
hidden n h a l e = go (same n (bytes a)) refl
  where
    go : (t : Bool) → same n (bytes a) ≡ t → attribute_at n (h ++ l) ≡ attribute_at n (h ++ a ∷ l)
    go false p = sym (passed n h a l p)
    go true p =
        let q : has n h ≡ true = rw (same-eq n (bytes a) p) e in
        rw (found_before n h l, found_before n h (a ∷ l), q)

pub has_left : (n : List ℕ) (h l : List Attribute) → has n h ≡ true → has n (h ++ l) ≡ true
has_left n h l e = rw (found_before n h l, e) e

pub near-found : (n : List ℕ) (h l : List Attribute) → attribute_at n (nearest_to h l) ≡ attribute_at n (h ++ l)
near-found n h [] = ap (attribute_at n) (sym (append-nil h))
near-found n h (a ∷ l) = go (has (bytes a) h) refl (near-found n h l) (near-found n (h ++ (a ∷ [])) l)
  where
    go : (t : Bool) → has (bytes a) h ≡ t → attribute_at n (nearest_to h l) ≡ attribute_at n (h ++ l)
        → attribute_at n (nearest_to (h ++ (a ∷ [])) l) ≡ attribute_at n ((h ++ (a ∷ [])) ++ l)
        → attribute_at n (cond t (nearest_to h l) (nearest_to (h ++ (a ∷ [])) l)) ≡ attribute_at n (h ++ a ∷ l)
    go true e p q = p ∙ hidden n h a l e
    go false e p q = q ∙ ap (attribute_at n) (append_assoc h (a ∷ []) l)

one_more : (h : List Attribute) (a : Attribute) → length h ≡ name_count h → has (bytes a) h ≡ false
    → length (h ++ (a ∷ [])) ≡ name_count (h ++ (a ∷ []))
one_more h a e f =
    let l = length-append h (a ∷ []) in
    let c = count-more h a [] in
    rw (c, append-nil h, f) (omega arith)

pub near-count : (h l : List Attribute) → length h ≡ name_count h → length (nearest_to h l) ≡ name_count (h ++ l)
near-count h [] e = rw (append-nil h) e
near-count h (a ∷ l) e =
    go (has (bytes a) h) refl (near-count h l e) (λ f. near-count (h ++ (a ∷ [])) l (one_more h a e f))
  where
    go : (t : Bool) → has (bytes a) h ≡ t → length (nearest_to h l) ≡ name_count (h ++ l)
        → (has (bytes a) h ≡ false → length (nearest_to (h ++ (a ∷ [])) l) ≡ name_count ((h ++ (a ∷ [])) ++ l))
        → length (cond t (nearest_to h l) (nearest_to (h ++ (a ∷ [])) l)) ≡ name_count (h ++ a ∷ l)
    go true f p q = rw (count-more h a l, has_left (bytes a) h l f) p
    go false f p q = q f ∙ ap name_count (append_assoc h (a ∷ []) l)

pub near-append : (h l r : List Attribute) → nearest_to h (l ++ r) ≡ nearest_to (nearest_to h l) r
near-append h [] r = refl
near-append h (a ∷ l) r = go (has (bytes a) h) (near-append h l r) (near-append (h ++ (a ∷ [])) l r)
  where
    go : (t : Bool) → nearest_to h (l ++ r) ≡ nearest_to (nearest_to h l) r
        → nearest_to (h ++ (a ∷ [])) (l ++ r) ≡ nearest_to (nearest_to (h ++ (a ∷ [])) l) r
        → cond t (nearest_to h (l ++ r)) (nearest_to (h ++ (a ∷ [])) (l ++ r))
        ≡ nearest_to (cond t (nearest_to h l) (nearest_to (h ++ (a ∷ [])) l)) r
    go true p q = p
    go false p q = q

-- what is in hand stays in front
pub near-front : (h l : List Attribute) → (m : List Attribute) × (nearest_to h l ≡ h ++ m)
near-front h [] = ([], sym (append-nil h))
near-front h (a ∷ l) = go (has (bytes a) h) (near-front h l) (near-front (h ++ (a ∷ [])) l)
  where
    go : (t : Bool) → (m : List Attribute) × (nearest_to h l ≡ h ++ m)
        → (m : List Attribute) × (nearest_to (h ++ (a ∷ [])) l ≡ (h ++ (a ∷ [])) ++ m)
        → (m : List Attribute) × (cond t (nearest_to h l) (nearest_to (h ++ (a ∷ [])) l) ≡ h ++ m)
    go true p q = p
    go false p (m, e) = (a ∷ m, e ∙ append_assoc h (a ∷ []) m)

-- ---- attributes of one class, whose names differ
unlike-before : (l : List Attribute) (a : Attribute) (r : List Attribute)
    → Unlike (l ++ a ∷ r) → has (bytes a) l ≡ false
unlike-before [] a r u = refl
unlike-before (x ∷ l) a r u =
    let p : has (bytes x) (l ++ a ∷ r) ≡ false = rw u.0 in
    let q = or-fails {x = same (bytes x) (bytes a)} (sym (has_more (bytes x) l a r) ∙ p) in
    let s : same (bytes a) (bytes x) ≡ false = same-sym (bytes a) (bytes x) ∙ q.0 in
    rw s (unlike-before l a r u.1)

-- among what nearer classes have, or among all in hand
pub nearer-has : (g l : List Attribute) (a : Attribute) (r : List Attribute) → Unlike (l ++ a ∷ r)
    → has (bytes a) (nearest_to g l) ≡ has (bytes a) g
nearer-has g l a r u = rw (near-found (bytes a) g l, found_before (bytes a) g l) (go (has (bytes a) g) refl)
  where
    go : (t : Bool) → has (bytes a) g ≡ t
        → is_found (cond (has (bytes a) g) (attribute_at (bytes a) g) (attribute_at (bytes a) l)) ≡ has (bytes a) g
    go true e = rw e e
    go false e = rw e (unlike-before l a r u)
