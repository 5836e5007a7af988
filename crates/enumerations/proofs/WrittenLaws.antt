-- Where the records of an enumeration are written, it stands.
use mathlib.Core.Path.{◌≡◌, refl, sym, ap, ◌∙◌}
use mathlib.Core.Bool.{Bool, true, false, cond}
use mathlib.Core.List.{List, [], ◌∷◌, ◌++◌}
use Prim.Native.Nat.{ℕ, suc, ◌+◌, ◌-◌, ◌*◌, ◌/◌, ◌%◌, ◌≤◌, ◌<◌}
use native.Mathlib.Nat.{add-zero, add_assoc}
use native.Mathlib.Omega.{arith}
use lib.ListN.{length, get_or, drop, length-append, length-drop, get_or-append}
use lib.Seq.{get_or-append-add, get_or-drop}
use lib.Dec.{leb}
use borrow.Author.Tests.{le-leb}
use Rattle.rules.specs.Names.{Name}
use Rattle.rules.specs.Enumerations.{Enum, end, elem, final}
use Rattle.rules.specs.Book.{Record, bit, name_record, open_record, inner_records, element_records, bytes}
use Rattle.rules.proofs.Tests.{fail-r, not-both}
use Rattle.std.specs.Prelude.{Some}
use Rattle.enumerations.specs.Lists.{is_element, is_opening, end_from, inner_at}
use Rattle.enumerations.specs.Standing.{InText, Named, plain, Stands, ElementAt, end_of, InsideBy, ListAt}
use Rattle.enumerations.proofs.ListLaws.{part-is, bit-one}
use Rattle.rules.proofs.GrowLaws.{bytes-append}
use Rattle.enumerations.proofs.StandLaws.{count, list-end}
use Rattle.enumerations.specs.Records.{records, size_of}
use Rattle.enumerations.specs.declared.End.{End}
use Rattle.enumerations.specs.declared.Size.{Size}
use Rattle.book.specs.Sizes.{element_size, list_size}

-- l stands in s at p
pub record Begins (l s : List ℕ) (p : ℕ) : Type 0 where
  pub size : p + length l ≤ length s
  pub byte : (i : ℕ) → i < length l → get_or s (p + i) 0 ≡ get_or l i 0

begins-left : (a b s : List ℕ) (p : ℕ) → Begins (a ++ b) s p → Begins a s p
begins-left a b s p h =
    let l = length-append a b in
    record { size = omega (arith, h.size); byte = λ i q. h.byte i (omega arith) ∙ get_or-append a b 0 i q }

begins-right : (a b s : List ℕ) (p : ℕ) → Begins (a ++ b) s p → Begins b s (p + length a)
begins-right a b s p h =
    let l = length-append a b in
    record {
      size = omega (arith, h.size);
      byte = λ i q. rw (add_assoc p (length a) i) (h.byte (length a + i) (omega arith)) ∙ get_or-append-add a b i 0;
    }

pub begins : (l more s : List ℕ) (p : ℕ) → 0 < length l → drop p s ≡ l ++ more → Begins l s p
begins l more s p z e =
    let n : length s - p ≡ length l + length more = sym (length-drop p s) ∙ ap length e ∙ length-append l more in
    record {
      size = omega arith;
      byte = λ i q. sym (get_or-drop p s i 0) ∙ ap (λ (k : List ℕ). get_or k i 0) e ∙ get_or-append l more 0 i q;
    }

-- a number of four bytes, read again
low4 : (v : ℕ) → v < 4294967296
    → v % 256 + v / 256 % 256 * 256 + v / 256 / 256 % 256 * 65536 + v / 256 / 256 / 256 % 256 * 16777216 ≡ v
low4 v h =
    let c : v / 256 * 256 + v % 256 ≡ v = omega arith in
    let d : v / 256 / 256 * 256 + v / 256 % 256 ≡ v / 256 = omega arith in
    let e : v / 256 / 256 / 256 * 256 + v / 256 / 256 % 256 ≡ v / 256 / 256 = omega arith in
    let f : v / 256 / 256 / 256 % 256 ≡ v / 256 / 256 / 256 = omega arith in
    omega arith

-- ---- the records of what is inside an element
pub inner-records : (e : Enum) (l : List Record) → inner_records e l ≡ cond (plain e) [] l
inner-records (end true) l = refl
inner-records (end false) l = refl
inner-records (elem n i r) l = refl

-- the bytes of a list, as the places in it are counted
abbrev list_bytes : Enum → List ℕ
list_bytes (end f) = 15 ∷ []
list_bytes (elem n i r) = name_record 14 n ++ (cond (plain i) [] (open_record i ++ list_bytes i) ++ list_bytes r)

inner-bytes : (i : Enum) (l : List ℕ) → bytes (element_records i) ≡ l
    → bytes (inner_records i (open_record i ∷ element_records i)) ≡ cond (plain i) [] (open_record i ++ l)
inner-bytes i l e = ap bytes (inner-records i (open_record i ∷ element_records i)) ∙ go (plain i)
  where
    go : (c : Bool) → bytes (cond c [] (open_record i ∷ element_records i)) ≡ cond c [] (open_record i ++ l)
    go true = refl
    go false = rw e

list-bytes : (e : Enum) → bytes (element_records e) ≡ list_bytes e
list-bytes (end f) = refl
list-bytes (elem n i r) =
    let u = bytes-append (inner_records i (open_record i ∷ element_records i)) (element_records r) in
    ap (λ (l : List ℕ). name_record 14 n ++ l) (u ∙ rw (inner-bytes i (list_bytes i) (list-bytes i), list-bytes r))

end-length : (e : Enum) (p : ℕ) → end_of e p ≡ p + length (list_bytes e)
end-length (end f) p = refl
end-length (elem n i r) p = go (plain i) (λ q. end-length i q) (λ q. end-length r q)
  where
    go : (c : Bool) → ((q : ℕ) → end_of i q ≡ q + length (list_bytes i))
        → ((q : ℕ) → end_of r q ≡ q + length (list_bytes r))
        → end_of r (cond c (p + element_size) (end_of i (p + element_size + list_size)))
        ≡ p + length (name_record 14 n ++ (cond c [] (open_record i ++ list_bytes i) ++ list_bytes r))
    go true f g = omega (arith, g (p + element_size))
    go false f g = omega (
      arith,
      f (p + element_size + list_size),
      g (end_of i (p + element_size + list_size)),
      length-append (list_bytes i) (list_bytes r),
    )

-- a list's end is past its bytes, and its records are counted
pub end-bytes : (e : Enum) (p : ℕ) → end_of e p ≡ p + length (bytes (element_records e))
end-bytes e p = end-length e p ∙ rw (list-bytes e)

pub count-records : (e : Enum) → count e ≡ length (element_records e)
count-records (end f) = refl
count-records (elem n i r) =
    let l : List Record = open_record i ∷ element_records i in
    let a : length (inner_records i l)
    ≡ cond (plain i) 0 (suc (count i)) = ap length (inner-records i l) ∙ go (plain i) (count-records i) in
    let b : length (element_records r) ≡ count r = sym (count-records r) in
    ap suc (sym (length-append (inner_records i l) (element_records r) ∙ rw (a, b)))
  where
    go : (c : Bool) → count i ≡ length (element_records i)
        → length (cond c [] (open_record i ∷ element_records i)) ≡ cond c 0 (suc (count i))
    go true e = refl
    go false e = ap suc (sym e)

module _ (t s : List ℕ) where
  element-stands : (n : Name) (p : ℕ) → InText t n → Begins (name_record 14 n) s p → ElementAt t s n p
  unfolding is_element
  element-stands n p h b =
      let l : p + element_size ≤ length s = b.size in
      let k : get_or s p 0 ≡ 14 = rw add-zero at (b.byte 0 (omega arith)) in
      let e1 : p + 1 + 1 ≡ p + list_size = omega arith in
      let e2 : p + 1 + 2 ≡ p + 3 = omega arith in
      let e3 : p + 1 + 3 ≡ p + 4 = omega arith in
      let z : length n.bytes % 256 ≡ length n.bytes = omega (arith, h.short) in
      record {
        there = rw (le-leb (p + element_size) (length s) l, k);
        name = part-is (rw (
          e1,
          e2,
          e3,
          b.byte 1 (omega arith),
          b.byte 2 (omega arith),
          b.byte 3 (omega arith),
          b.byte 4 (omega arith),
        ) (low4 n.offset h.low))
            (b.byte 5 (omega arith) ∙ z);
        in_text = h;
      }

  -- what follows an element that has nothing inside does not open a list
  not-open : (r : Enum) (m : ℕ) → Begins (list_bytes r) s m → is_opening s m ≡ false
  unfolding is_opening
  not-open (end f) m b =
      let k : get_or s m 0 ≡ 15 = rw add-zero at (b.byte 0 (omega arith)) in
      rw k (fail-r (leb (m + 2) (length s)) refl)
  not-open (elem n i r) m b =
      let k : get_or s m 0 ≡ 14 = rw add-zero at (b.byte 0 (omega arith)) in
      rw k (fail-r (leb (m + 2) (length s)) refl)

  opening-stands : (f : Bool) (m : ℕ) → Begins (13 ∷ bit f 1 ∷ []) s m
      → (is_opening s m ≡ true) × (get_or s (m + 1) 0 ≡ bit f 1)
  unfolding is_opening
  opening-stands f m b =
      let k : get_or s m 0 ≡ 13 = rw add-zero at (b.byte 0 (omega arith)) in
      let l : m + 2 ≤ length s = b.size in
      (rw (le-leb (m + 2) (length s) l, k), b.byte 1 (omega arith))

  list-stands : (e : Enum) (p : ℕ) → Named t e → Begins (list_bytes e) s p → ListAt t s e p
  list-stands (end f) p h b = (let q = b.size in omega arith, rw add-zero at (b.byte 0 (omega arith)))
  list-stands (elem n i r) p h b =
      let bn : Begins (name_record 14 n) s p = begins-left (name_record 14 n) _ s p b in
      let br = begins-right (name_record 14 n) _ s p b in
      go (plain i) (element-stands n p h.0 bn) br (λ q. list-stands i q h.1) (λ q. list-stands r q h.2)
    where
      go : (c : Bool) → ElementAt t s n p
          → Begins (cond c [] (open_record i ++ list_bytes i) ++ list_bytes r) s (p + element_size)
          → ((q : ℕ) → Begins (list_bytes i) s q → ListAt t s i q)
          → ((q : ℕ) → Begins (list_bytes r) s q → ListAt t s r q)
          → ElementAt t s n p × InsideBy c s (final i) (p + element_size) (ListAt t s i (p + element_size + list_size))
          × ListAt t s r (cond c (p + element_size) (end_of i (p + element_size + list_size)))
      go true E b f g = (E, not-open r (p + element_size) b, g (p + element_size) b)
      go false E b f g =
          let bo = begins-left (open_record i ++ list_bytes i) (list_bytes r) s (p + element_size) b in
          let o = opening-stands (final i) (p + element_size)
          (begins-left (open_record i) (list_bytes i) s (p + element_size) bo) in
          let bi = begins-right (open_record i) (list_bytes i) s (p + element_size) bo in
          let br = begins-right (open_record i ++ list_bytes i) (list_bytes r) s (p + element_size) b in
          let z : p + element_size + length (open_record i ++ list_bytes i)
          ≡ end_of i (p + element_size + list_size) = omega (arith, end-length i (p + element_size + list_size)) in
          (E, (o.0, o.1, f (p + element_size + list_size) bi), g (end_of i (p + element_size + list_size)) (rw z at br))

  -- ---- the whole enumeration: its opening, and its list behind that
  pub record Whole (e : Enum) (p : ℕ) : Type 0 where
    pub opening : is_opening s p ≡ true
    pub flag : get_or s (p + 1) 0 ≡ bit (final e) 1
    pub list : ListAt t s e (p + list_size)
    pub size : p + list_size + length (bytes (element_records e)) ≤ length s

  pub stands-whole : (e : Enum) (p : ℕ) → Stands t s e p → Whole e p
  stands-whole e p h =
      let b : Begins (open_record e ++ list_bytes e) s p =
      begins _ h.more s p (omega arith) (h.here ∙ rw (list-bytes e)) in
      let o = opening-stands (final e) p (begins-left (open_record e) (list_bytes e) s p b) in
      let r = begins-right (open_record e) (list_bytes e) s p b in
      record {
        opening = o.0;
        flag = o.1;
        list = list-stands e (p + list_size) h.named r;
        size = rw (list-bytes e) r.size;
      }

-- ---- what the code reads there
-- what is read where an enumeration stands
pub inner-stands : (t s : List ℕ) (e : Enum) (p : ℕ) → Stands t s e p
    → inner_at s p ≡ Some (record { list = p + list_size; is_final = final e })
unfolding inner_at
inner-stands t s e p h =
    let w = stands-whole t s e p h in
    rw (w.opening, w.flag, bit-one (final e))

-- how much it takes
pub size_is : {a b c d : ℕ} → a ≡ c → b ≡ d
    → ◌≡◌ {A = Size} (record { bytes = a; records = b }) (record { bytes = c; records = d })
size_is p q = rw (p, q)

pub size-stands : (t s : List ℕ) (e : Enum) (p : ℕ) → Stands t s e p → (v : End)
    → v ≡ end_from (length s + 1) s (p + list_size) 0 0
    → ◌≡◌ {A = Size} (record { bytes = v.at - p; records = v.records + 1 }) (size_of (records e))
size-stands t s e p h v q =
    let w = stands-whole t s e p h in
    let l = q ∙ list-end t s e (p + list_size) w.list (length s + 1) (omega arith) in
    let a : v.at ≡ p + list_size + length (bytes (element_records e)) =
    ap (λ (y : End). y.at) l ∙ end-bytes e (p + list_size) in
    let c : v.records ≡ length (element_records e) = ap (λ (y : End). y.records) l ∙ count-records e in
    size_is (omega arith) (omega arith)

pub not-stands : {A : Type 0} (t s : List ℕ) (e : Enum) (p : ℕ) → Stands t s e p → is_opening s p ≡ false → A
not-stands t s e p h q = not-both (stands-whole t s e p h).opening q
