-- The open class filled: one attribute, those of one class, those along the bases.
use mathlib.Core.Path.{◌≡◌, refl, sym, ap, ◌∙◌}
use mathlib.Core.Logic.{⊎_elim}
use mathlib.Core.Bool.{Bool, true, false, cond}
use mathlib.Core.Option.{some}
use mathlib.Core.List.{List, [], ◌∷◌, ◌++◌}
use Prim.Native.Nat.{ℕ, zero, suc, ◌+◌, ◌-◌, ◌≤◌, ◌<◌}
use native.Mathlib.Numerals.{add-one}
use native.Mathlib.Omega.{arith}
use lib.ListN.{length, length-append, get_or, set, take, drop, take-append-drop, length-set}
use lib.Seq.{get_or-set_same, get_or-set_other, take_all}
use Rattle.rules.specs.Bytes.{same}
use Rattle.rules.specs.Declarations.{Attribute, attribute_at, is_found, attributes_of, Def, name_count}
use Rattle.rules.specs.Judge.{or_no_def}
use Rattle.ground.specs.Parts.{part}
use Rattle.names.specs.Index.{nth, entry, row, definition_width}
use Rattle.members.specs.Members.{Members, Unlike, Owns, Indexed, slot_from, slot_of, unless_in, nearest_to, nearest}
use Rattle.members.specs.Members.{Filled, attribute_width, most, Hand}
use Rattle.names.proofs.IndexLaws.{there, nth-within, nth_drop, nth-dropped, nth_left, nth_last}
use Rattle.names.proofs.BaseLaws.{entry-there}
use Rattle.members.proofs.MemberLaws.{own_name}
use Rattle.members.proofs.NearLaws.{near-append, near-front, near-count, nearer-has}

-- ---- positions in lists
pub take_more : {A : Type 0} (l : List A) (i : ℕ) (a : A) → nth l i ≡ some a → take (i + 1) l ≡ take i l ++ (a ∷ [])
take_more [] i a e = let z : ◌≡◌ {A = ℕ} 0 1 = cc in absurd (omega arith)
take_more (b ∷ l) zero a e = let p : b ≡ a = cc in rw p
take_more (b ∷ l) (suc i) a e = let h = take_more l i a e in let k : suc i + 1 ≡ suc (i + 1) = omega arith in rw (k, h)

-- ---- the hand
-- the number k and the position q at the slot n
module _ (hs : List ℕ) (n k q : ℕ) where
  pub number_same : n < most → Hand hs → get_or (set (set hs n k) (most + n) q) n 0 ≡ k
  number_same h l =
      get_or-set_other (set hs n k) (most + n) n q 0 (λ e. absurd (omega arith))
      ∙ get_or-set_same hs n k 0 (omega arith)

  pub position-same : n < most → Hand hs → get_or (set (set hs n k) (most + n) q) (most + n) 0 ≡ q
  position-same h l = let e = length-set hs n k in get_or-set_same (set hs n k) (most + n) q 0 (omega arith)

  pub number-other : (i : ℕ) → i < most → ¬ (i ≡ n) → get_or (set (set hs n k) (most + n) q) i 0 ≡ get_or hs i 0
  number-other i w f =
      get_or-set_other (set hs n k) (most + n) i q 0 (λ e. absurd (omega arith)) ∙ get_or-set_other hs n i k 0 f

  pub position-other : (i : ℕ) → n < most → ¬ (i ≡ n)
      → get_or (set (set hs n k) (most + n) q) (most + i) 0 ≡ get_or hs (most + i) 0
  position-other i w f =
      get_or-set_other (set hs n k) (most + n) (most + i) q 0 (λ e. f (omega arith))
      ∙ get_or-set_other hs n (most + i) k 0 (λ e. absurd (omega arith))

module _ (ms : List Attribute) (hs : List ℕ) where
  pub filled-front : (g m : List Attribute) (n : ℕ) → Filled ms hs n (g ++ m) → Filled ms hs (length g) g
  filled-front g m n f = record {
    all = refl;
    at_position = λ i a e. f.at_position i a (nth_left g m i a e);
    at_number = λ i a e. f.at_number i a (nth_left g m i a e);
  }

  pub filled_more : (n : ℕ) (h : List Attribute) (a : Attribute) (q k : ℕ) → Filled ms hs n h → entry ms q ≡ some a
      → k ≡ a.number → n < most → Hand hs
      → Filled ms (set (set hs n k) (most + n) q) (n + 1) (h ++ (a ∷ []))
  filled_more n h a q k f e ek hn hl =
      record {
        all = let p = f.all in let l = length-append h (a ∷ []) in omega arith;
        at_position = λ i b u. ⊎_elim (λ v. let w = nth-within h i b v in let z = f.all in
            rw (position-other hs n k q i hn (λ j. absurd (omega arith))) (f.at_position i b v))
            (λ v. let z : i ≡ n = v.0 ∙ sym f.all in rw (z, position-same hs n k q hn hl, ← v.1) e)
            (nth_last h a i b u);
        at_number = λ i b u. ⊎_elim (λ v. let w = nth-within h i b v in let z = f.all in
            rw (number-other hs n k q i (omega arith) (λ j. absurd (omega arith))) (f.at_number i b v))
            (λ v. let z : i ≡ n = v.0 ∙ sym f.all in rw (z, number_same hs n k q hn hl, ← v.1) ek)
            (nth_last h a i b u);
      }

-- ---- a slot, and whether the name is there
pub slot-zero : (n : List ℕ) (i : ℕ) (l : List Attribute) → slot_from n i l ≡ 0 → is_found (attribute_at n l) ≡ false
slot-zero n i [] e = refl
slot-zero n i (a ∷ l) e = go (same n a.name.bytes) e (slot-zero n (i + 1) l)
  where
    go : (t : Bool) → cond t (i + 1) (slot_from n (i + 1) l) ≡ 0
        → (slot_from n (i + 1) l ≡ 0 → is_found (attribute_at n l) ≡ false)
        → is_found (cond t (some a) (attribute_at n l)) ≡ false
    go true p h = absurd (omega arith)
    go false p h = h p

pub slot-some : (n : List ℕ) (i : ℕ) (l : List Attribute) → ¬ (slot_from n i l ≡ 0) → is_found (attribute_at n l) ≡ true
slot-some n i [] e = absurd (e refl)
slot-some n i (a ∷ l) e = go (same n a.name.bytes) e (slot-some n (i + 1) l)
  where
    go : (t : Bool) → ¬ (cond t (i + 1) (slot_from n (i + 1) l) ≡ 0)
        → (¬ (slot_from n (i + 1) l ≡ 0) → is_found (attribute_at n l) ≡ true)
        → is_found (cond t (some a) (attribute_at n l)) ≡ true
    go true p h = refl
    go false p h = h p

-- ---- one attribute more
module _ (t : List ℕ) (ms : List Attribute) (y : List ℕ) (total : ℕ) (k : Members t ms y total) (q : ℕ)
    (a : Attribute) (ea : entry ms q ≡ some a)
    (g h : List Attribute) (hs : List ℕ) (n : ℕ) (fh : Filled ms hs n h) where
  module _ (o l r : ℕ) (eo : o ≡ get_or (row attribute_width y q) 0 0) (el : l ≡ get_or (row attribute_width y q) 1 0)
      (er : r ≡ slot_of (part t o l) g) where
    slot_is : r ≡ slot_of a.name.bytes g
    slot_is =
        er ∙ ap (λ (b : List ℕ). slot_of b g) (own_name t a (row attribute_width y q) [] (k.tells q a ea) o l eo el)

    pub kept_out : ¬ (r ≡ 0) → Filled ms hs n (unless_in g h a)
    kept_out z = rw (slot-some a.name.bytes 0 g (λ e. z (slot_is ∙ e))) fh

    pub put_in : r ≡ 0 → (m : ℕ) → m ≡ get_or (row attribute_width y q) 2 0 → n < most → Hand hs
        → Filled ms (set (set hs n m) (most + n) q) (n + 1) (unless_in g h a)
    put_in z m em hn hx = rw (slot-zero a.name.bytes 0 g (sym slot_is ∙ z))
        (filled_more ms hs n h a q m fh ea (em ∙ (k.tells q a ea).number) hn hx)

-- ---- the attributes of one class, own; j of them are passed, and those in hand before are g
module _ (ms g own more : List Attribute) (first : ℕ) (e : drop first ms ≡ own ++ more) (u : Unlike own)
    (w : length (nearest_to g own) ≤ 256) (j : ℕ) (z : j < length own) where
  abbrev pub next : Attribute
  next = (there own j z).0

  there-is : nth own j ≡ some next
  there-is = (there own j z).1

  pub next-entry : entry ms (first + j + 1) ≡ some next
  next-entry = rw add-one
      (sym (nth-dropped ms first j) ∙ ap (λ (l : List Attribute). nth l j) e ∙ nth_left own more j next there-is)

  cut : take j own ++ next ∷ drop (suc j) own ≡ own
  cut = ap (λ (l : List Attribute). take j own ++ l) (sym (nth_drop own j next there-is)) ∙ take-append-drop j own

  pub next-near : nearest_to g (take (j + 1) own) ≡ unless_in g (nearest_to g (take j own)) next
  next-near =
      let v : Unlike (take j own ++ next ∷ drop (suc j) own) = rw cut u in
      rw (
        take_more own j next there-is,
        near-append g (take j own) (next ∷ []),
        nearer-has g (take j own) next (drop (suc j) own) v,
      )

  pub next-room : length (unless_in g (nearest_to g (take j own)) next) ≤ 256
  next-room =
      let c : nearest_to g own ≡ nearest_to (nearest_to g (take (j + 1) own)) (drop (j + 1) own) =
      ap (nearest_to g) (sym (take-append-drop (j + 1) own)) ∙ near-append g (take (j + 1) own) (drop (j + 1) own) in
      let (m, p) = near-front (nearest_to g (take (j + 1) own)) (drop (j + 1) own) in
      let l = length-append (nearest_to g (take (j + 1) own)) m in
      let q : length (nearest_to g own) ≡ length (nearest_to g (take (j + 1) own) ++ m) = ap length (c ∙ p) in
      rw (← next-near) (omega arith)

-- a turn: q is the position passed last, and what one attribute more gives is known
pub own-next : (ms g own more : List Attribute) (first last q : ℕ) → drop first ms ≡ own ++ more
    → last ≡ first + length own → Unlike own → length (nearest_to g own) ≤ 256 → first ≤ q → q < last
    → (hs : List ℕ) (n count : ℕ) → count ≡ length g → Filled ms hs n (nearest_to g (take (q - first) own))
    → (hs' : List ℕ) (n' : ℕ) → ((h : List Attribute) (a : Attribute) → entry ms (q + 1) ≡ some a → Filled ms hs count g
    → Filled ms hs n h → length (unless_in g h a) ≤ 256 → Filled ms hs' n' (unless_in g h a))
    → Filled ms hs' n' (nearest_to g (take (q + 1 - first) own))
own-next ms g own more first last q e el u w hf hl hs n count ec f hs' n' add =
    let j : ℕ = q - first in
    let z : j < length own = omega arith in
    let eq : q + 1 - first ≡ j + 1 = omega arith in
    let ep : first + j + 1 ≡ q + 1 = omega arith in
    let (m, p) = near-front g (take j own) in
    let fp : Filled ms hs n (g ++ m) = rw (← p) f in
    rw (eq, next-near ms g own more first e u w j z)
    (add (nearest_to g (take j own)) (next ms g own more first e u w j z)
    (rw (← ep) (next-entry ms g own more first e u w j z)) (rw ec (filled-front ms hs g m n fp)) f
    (next-room ms g own more first e u w j z))

pub own-done : (ms g own : List Attribute) (first last q n : ℕ) (hs : List ℕ) → last ≡ first + length own → last ≤ q
    → Filled ms hs n (nearest_to g (take (q - first) own)) → Filled ms hs n (nearest_to g own)
own-done ms g own first last q n hs el hq f =
    let h : length own ≤ q - first = omega arith in
    rw (take_all (q - first) own h) at f

-- ---- along the bases, from the position c; what is in hand is g
module _ (t : List ℕ) (ks : List Def) (ms : List Attribute) (x : List ℕ) (count : ℕ) (y : List ℕ) (total : ℕ)
    (k : Indexed t ks ms x count y total) (c : ℕ) (z : 0 < c) (w : c ≤ count) where
  abbrev pub class-at : Def
  class-at = (entry-there ks c z (rw (← k.known.all) w)).0

  class-is : entry ks c ≡ some class-at
  class-is = (entry-there ks c z (rw (← k.known.all) w)).1

  pub owns : Owns ms class-at (row definition_width x c)
  owns = k.owned c class-at class-is

  pub last_within : get_or (row definition_width x c) 9 0 ≤ total
  last_within = let a = owns.within in let b = k.members.all in omega arith

  pub base-less : (b : ℕ) → b ≡ get_or (row definition_width x c) 7 0 → b < c
  base-less b e = let h = (k.chained c class-at class-is).before in omega arith

  pub next-base : (g : List Attribute) (b : ℕ) → b ≡ get_or (row definition_width x c) 7 0
      → nearest_to g (attributes_of (or_no_def (entry ks c)))
      ≡ nearest_to (nearest_to g class-at.own) (attributes_of (or_no_def (entry ks b)))
  next-base g b e =
      let i : attributes_of (or_no_def (entry ks b))
      ≡ class-at.inherited = rw e (k.chained c class-at class-is).inherits in
      rw (class-is, i) (near-append g class-at.own class-at.inherited)

  pub own_room : (g : List Attribute) → length (nearest_to g (attributes_of (or_no_def (entry ks c)))) ≤ 256
      → length (nearest_to g class-at.own) ≤ 256
  own_room g h =
      let (m, p) = near-front (nearest_to g class-at.own)
      (attributes_of (or_no_def (entry ks (get_or (row definition_width x c) 7 0)))) in
      let e : length (nearest_to g (attributes_of (or_no_def (entry ks c)))) ≡ length (nearest_to g class-at.own ++ m) =
      ap length (next-base g (get_or (row definition_width x c) 7 0) refl ∙ p) in
      let l = length-append (nearest_to g class-at.own) m in
      omega arith

pub nearest-count : (l : List Attribute) → length (nearest l) ≡ name_count l
nearest-count l = near-count [] l refl

-- what a base gives is few
pub base-few : (t : List ℕ) (ks : List Def) (ms : List Attribute) (x : List ℕ) (count : ℕ) (y : List ℕ) (total : ℕ)
    → Indexed t ks ms x count y total → (base : ℕ) → base ≤ count
    → name_count (attributes_of (or_no_def (entry ks base))) ≤ 256
base-few t ks ms x count y total k zero w = omega arith
base-few t ks ms x count y total k (suc i) w =
    let z : 0 < suc i = omega arith in
    rw (class-is t ks ms x count y total k (suc i) z w) (owns t ks ms x count y total k (suc i) z w).few

-- what is in hand when the class at c comes next
pub record Chain (ks : List Def) (ms : List Attribute) (base : ℕ) (hs : List ℕ) (n c : ℕ) : Type 0 where
  pub hand : List Attribute
  pub filled : Filled ms hs n hand
  pub rest : nearest (attributes_of (or_no_def (entry ks base)))
      ≡ nearest_to hand (attributes_of (or_no_def (entry ks c)))

pub chain_next : (t : List ℕ) (ks : List Def) (ms : List Attribute) (x : List ℕ) (count : ℕ) (y : List ℕ) (total : ℕ)
    → Indexed t ks ms x count y total
    → (base c : ℕ) → 0 < c → c ≤ count → name_count (attributes_of (or_no_def (entry ks base))) ≤ 256
    → (hs : List ℕ) (n : ℕ) → Chain ks ms base hs n c
    → (first last b : ℕ) → first ≡ get_or (row definition_width x c) 8 0 → last ≡ get_or (row definition_width x c) 9 0
    → b ≡ get_or (row definition_width x c) 7 0
    → (hs' : List ℕ) (n' : ℕ) → ((g own more : List Attribute) → Filled ms hs n g → drop first ms ≡ own ++ more
    → last ≡ first + length own → Unlike own → length (nearest_to g own) ≤ 256 → Filled ms hs' n' (nearest_to g own))
    → Chain ks ms base hs' n' b
chain_next t ks ms x count y total k base c z w v hs n h first last b ef el eb hs' n' add =
    let o = owns t ks ms x count y total k c z w in
    let d : Def = class-at t ks ms x count y total k c z w in
    let r : length (nearest_to h.hand (attributes_of (or_no_def (entry ks c)))) ≤ 256 =
    let e = ap length h.rest in let m = nearest-count (attributes_of (or_no_def (entry ks base))) in omega arith in
    record {
      hand = nearest_to h.hand d.own;
      filled = add h.hand d.own o.more h.filled (rw ef o.own) (rw (el, ef) o.last) o.unlike
          (own_room t ks ms x count y total k c z w h.hand r);
      rest = h.rest ∙ next-base t ks ms x count y total k c z w h.hand b eb;
    }

pub chain-end : (ks : List Def) (ms : List Attribute) (base : ℕ) (hs : List ℕ) (n c : ℕ) → c ≡ 0
    → Chain ks ms base hs n c → Filled ms hs n (nearest (attributes_of (or_no_def (entry ks base))))
chain-end ks ms base hs n c z h =
    let e = h.rest ∙ ap (λ (i : ℕ). nearest_to h.hand (attributes_of (or_no_def (entry ks i)))) z in rw e h.filled
