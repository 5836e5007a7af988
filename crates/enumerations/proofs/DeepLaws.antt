-- Nested at most 8 deep: inside an element one less, and merging goes no deeper.
use mathlib.Core.Path.{◌≡◌, refl, ◌∙◌}
use mathlib.Core.Bool.{Bool, true, false, cond, not, ◌&&◌, ◌||◌, true≢false}
use mathlib.Core.Option.{some}
use mathlib.Core.List.{List}
use Prim.Native.Nat.{ℕ, ◌-◌, ◌<◌}
use Rattle.rules.specs.Bytes.{same}
use Rattle.rules.specs.Enumerations.{Enum, end, elem, at, inner, has, news, merge_from, merge, or_empty}
use Rattle.enumerations.specs.Standing.{plain, DeepIn, Deep}

-- a merged one has no records where neither has
or-plain : (f g : Bool) → not (f || g) ≡ (not f && not g)
or-plain true g = refl
or-plain false g = refl

pub merge-plain : (i j : Enum) → plain (merge i j) ≡ (plain i && plain j)
merge-plain (end f) (end g) = or-plain f g
merge-plain (end true) (elem m j r) = refl
merge-plain (end false) (elem m j r) = refl
merge-plain (elem n i r) x = refl

-- what is inside an element
pub deep_of : (k : ℕ) (i : Enum) → DeepIn (plain i) k (Deep (k - 1) i) → Deep (k - 1) i
deep_of k (end f) h = tt
deep_of k (elem n i r) h = h.1

pub deep-inner : (k : ℕ) (n : List ℕ) (x : Enum) → Deep k x → DeepIn (plain (inner n x)) k (Deep (k - 1) (inner n x))
deep-inner k n (end f) h = tt
deep-inner k n (elem m i r) h = go (same n m.bytes) (deep-inner k n r h.1)
  where
    go : (c : Bool) → DeepIn (plain (inner n r)) k (Deep (k - 1) (inner n r)) →
        DeepIn (plain (or_empty (cond c (some i) (at n r)))) k (Deep (k - 1) (or_empty (cond c (some i) (at n r))))
    go true q = h.0
    go false q = q

-- where there is something inside one of two, there is room
pub deep_room : (k : ℕ) (i j : Enum) → (plain i && plain j) ≡ false → DeepIn (plain i) k (Deep (k - 1) i)
    → DeepIn (plain j) k (Deep (k - 1) j) → 0 < k
deep_room k i j e a b = go (plain i) (plain j) e a b
  where
    go : (p q : Bool) → (p && q) ≡ false → DeepIn p k (Deep (k - 1) i) → DeepIn q k (Deep (k - 1) j) → 0 < k
    go true true e a b = absurd (true≢false e)
    go true false e a b = b.0
    go false q e a b = a.0

deep-news : (k : ℕ) (f : Bool) (w y : Enum) → Deep k y → Deep k (news f w y)
deep-news k f w (end g) h = tt
deep-news k f w (elem m j r) h = go (has m.bytes w) (deep-news k f w r h.1)
  where
    go : (c : Bool) → Deep k (news f w r) → Deep k (cond c (news f w r) (elem m j (news f w r)))
    go true q = q
    go false q = (h.0, q)

pub deep-merge : (k : ℕ) (r w x : Enum) → Deep k r → Deep k x → Deep k (merge_from r w x)
deep-merge k (end f) w x h g = deep-news k f w x g
deep-merge k (elem n i r) w x h g =
    let j : Enum = inner n.bytes x in
    let d = deep-inner k n.bytes x g in (
      go (plain i && plain j) refl (deep-merge (k - 1) i i j (deep_of k i h.0) (deep_of k j d)),
      deep-merge k r w x h.1 g,
    )
  where
    go : (c : Bool) → (plain i && plain (inner n.bytes x)) ≡ c → Deep (k - 1) (merge i (inner n.bytes x)) →
        DeepIn (plain (merge i (inner n.bytes x))) k (Deep (k - 1) (merge i (inner n.bytes x)))
    go true e q = rw (merge-plain i (inner n.bytes x) ∙ e) tt
    go false e q = rw (merge-plain i (inner n.bytes x) ∙ e)
        (deep_room k i (inner n.bytes x) e h.0 (deep-inner k n.bytes x g), q)
