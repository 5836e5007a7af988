-- The rows of attributes, and an attribute looked up among those of the open class.
use mathlib.Core.Path.{◌≡◌, sym, ap, ◌∙◌}
use mathlib.Core.Bool.{Bool, true, false}
use mathlib.Core.Option.{some}
use mathlib.Core.List.{List}
use Prim.Native.Nat.{ℕ, ◌+◌, ◌-◌, ◌≤◌, ◌<◌}
use native.Mathlib.Numerals.{add-one}
use native.Mathlib.Omega.{arith}
use lib.ListN.{length, get_or, drop, take, drop_of_length-le}
use Rattle.std.proofs.lemmas.List.{length-take, length-drop}
use lib.Seq.{get_or-take, get_or-drop}
use Rattle.rules.specs.Bytes.{same}
use Rattle.rules.specs.Declarations.{Attribute}
use Rattle.ground.specs.Parts.{part}
use Rattle.names.specs.Index.{nth, entry, row}
use Rattle.members.specs.Members.{Tells, Members, slot_from, Filled, attribute_width, most, Hand}
use Rattle.names.proofs.IndexLaws.{there, nth_drop, entry-within}

-- ---- a row with the name
module _ (t : List ℕ) (a : Attribute) (r n : List ℕ) (s : Tells t a r) (o l : ℕ)
    (eo : o ≡ get_or r 0 0) (el : l ≡ get_or r 1 0) where
  pub own_name : part t o l ≡ a.name.bytes
  own_name = rw (eo, el, s.offset, s.size) s.named.same_bytes

  pub told : same n (part t o l) ≡ same n a.name.bytes
  told = rw own_name

  pub told-inside : o + l ≤ length t
  told-inside = let w = s.named.within in let b = s.offset in let c = s.size in omega arith

-- ---- a turn of the search: what stands behind i is judged by b
module _ (t : List ℕ) (ms : List Attribute) (y : List ℕ) (total : ℕ) (k : Members t ms y total) (hs : List ℕ)
    (count : ℕ) (h : List Attribute) (f : Filled ms hs count h) (n : List ℕ) (i : ℕ) where
  pub slot-end : count ≤ i → 0 ≡ slot_from n i (drop i h)
  slot-end w = let e = f.all in let v : length h ≤ i = omega arith in sym (ap (slot_from n i) (drop_of_length-le h v))

  module _ (w : i < count) (q : ℕ) (eq : q ≡ get_or hs (most + i) 0) (b : Bool)
      (g : q ≤ total → (a : Attribute) → Tells t a (row attribute_width y q) → b ≡ same n a.name.bytes) where
    behind : (a : Attribute) × (nth h i ≡ some a) × (b ≡ same n a.name.bytes)
    behind =
        let e = f.all in
        let (a, p) = there h i (omega arith) in
        let u : entry ms q ≡ some a = rw eq (f.at_position i a p) in
        let z = entry-within ms q a u in
        let y = k.all in
        (a, p, g (omega arith) a (k.tells q a u))

    pub slot-found : b ≡ true → i + 1 ≡ slot_from n i (drop i h)
    slot-found e =
        let (a, p, v) = behind in
        let v' : same n a.name.bytes ≡ true = sym v ∙ e in rw (nth_drop h i a p, v')

    pub slot_next : b ≡ false → slot_from n i (drop i h) ≡ slot_from n (i + 1) (drop (i + 1) h)
    slot_next e =
        let (a, p, v) = behind in
        let v' : same n a.name.bytes ≡ false = sym v ∙ e in
        rw (nth_drop h i a p, v', add-one i)

-- ---- the part of the hand that has n positions
module _ (hs : List ℕ) (n : ℕ) where
  pub positions-many : n ≤ most → Hand hs → length (take (most + n - most) (drop most hs)) ≡ n
  positions-many w h = omega (arith, length-take (most + n - most) (drop most hs), length-drop most hs)

  pub position-at : (i : ℕ) → i < n → get_or (take (most + n - most) (drop most hs)) i 0 ≡ get_or hs (most + i) 0
  position-at i w = get_or-take (most + n - most) (drop most hs) i 0 (omega arith) ∙ get_or-drop most hs i 0
