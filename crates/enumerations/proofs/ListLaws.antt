-- The laws by which the code reads lists of elements in bytes.
use mathlib.Core.Path.{◌≡◌, refl, sym, ◌∙◌}
use mathlib.Core.Bool.{Bool, true, false}
use mathlib.Core.List.{List}
use Prim.Native.Nat.{ℕ, zero, suc, ◌+◌, ◌-◌, ◌≤◌, ◌<◌}
use native.Mathlib.Omega.{arith}
use lib.ListN.{length, get_or}
use lib.Dec.{eqb, leb}
use borrow.Author.Tests.{le-leb, lt-leb, ne_eqb, leb-true, eqb-true}
use Rattle.rules.specs.Bytes.{same}
use Rattle.rules.specs.Book.{bit}
use Rattle.rules.proofs.Tests.{split}
use Rattle.ground.specs.Parts.{part}
use Rattle.std.specs.Prelude.{Some, None}
use Rattle.enumerations.specs.Lists.{is_element, is_opening, end_from, past_inner, written, same_names}
use Rattle.enumerations.specs.Lists.{find_from}
use Rattle.book.specs.Names.{Written}
use Rattle.ground.specs.declared.Name as code
use Rattle.book.specs.Sizes.{element_size, list_size}

-- ---- the first byte of a record
pub element-in : (s : List ℕ) (p : ℕ) → is_element s p ≡ true → (p + element_size ≤ length s) × (get_or s p 0 ≡ 14)
unfolding is_element
element-in s p h =
    let q : (leb (p + element_size) (length s) ≡ true) × (eqb (get_or s p 0) 14 ≡ true) = split h in
    (leb-true _ _ q.0, eqb-true _ _ q.1)

pub element-short : (s : List ℕ) (p : ℕ) → length s < p + element_size → is_element s p ≡ false
unfolding is_element
element-short s p h = rw (lt-leb (p + element_size) (length s) h)

pub opening-in : (s : List ℕ) (p : ℕ) → is_opening s p ≡ true → (p + list_size ≤ length s) × (get_or s p 0 ≡ 13)
unfolding is_opening
opening-in s p h =
    let q : (leb (p + list_size) (length s) ≡ true) × (eqb (get_or s p 0) 13 ≡ true) = split h in
    (leb-true _ _ q.0, eqb-true _ _ q.1)

pub opening-short : (s : List ℕ) (p : ℕ) → length s < p + list_size → is_opening s p ≡ false
unfolding is_opening
opening-short s p h = rw (lt-leb (p + list_size) (length s) h)

-- the flag of an opening, read again
pub bit-one : (f : Bool) → eqb (bit f 1) 1 ≡ f
bit-one true = refl
bit-one false = refl

-- ---- a step towards the end of a list
pub end-out : (f : ℕ) (s : List ℕ) (p k c : ℕ) → length s ≤ p → end_from f s p k c ≡ record { at = p; records = c }
unfolding end_from
end-out zero s p k c h = refl
end-out (suc f) s p k c h = rw (le-leb (length s) p h)

module _ (f : ℕ) (s : List ℕ) (p k c : ℕ) (h : p < length s) where
  pub end-element : get_or s p 0 ≡ 14 → end_from (suc f) s p k c ≡ end_from f s (p + element_size) k (c + 1)
  unfolding end_from
  end-element e = rw (lt-leb (length s) p h, e)

  pub end-opening : get_or s p 0 ≡ 13 → end_from (suc f) s p k c ≡ end_from f s (p + list_size) (k + 1) (c + 1)
  unfolding end_from
  end-opening e = rw (lt-leb (length s) p h, e)

  module _ (a : ¬ (get_or s p 0 ≡ 14)) (b : ¬ (get_or s p 0 ≡ 13)) where
    pub end-last : k ≡ 0 → end_from (suc f) s p k c ≡ record { at = p + 1; records = c + 1 }
    unfolding end_from
    end-last e = rw (lt-leb (length s) p h, ne_eqb _ _ a, ne_eqb _ _ b, e)

    pub end-close : ¬ (k ≡ 0) → end_from (suc f) s p k c ≡ end_from f s (p + 1) (k - 1) (c + 1)
    unfolding end_from
    end-close e = rw (lt-leb (length s) p h, ne_eqb _ _ a, ne_eqb _ _ b, ne_eqb _ _ e)

-- a step takes one of the fuel: what the rest gives at any fuel that is enough, the whole gives
pub more : {A : Type 0} (s : List ℕ) {r : A} (p q : ℕ) (F G : ℕ → A) → p < length s
    → p < q → ((f : ℕ) → F (suc f) ≡ G f)
    → ((g : ℕ) → length s - q < g → r ≡ G g) → (f : ℕ) → length s - p < f → r ≡ F f
more s p q F G h l e m zero w = absurd (omega arith)
more s p q F G h l e m (suc f) w = m f (omega arith) ∙ sym (e f)

-- ---- names
pub names_in : (t : List ℕ) (a b : code.Name) → leb (a.offset + a.len) (length t) ≡ true
    → leb (b.offset + b.len) (length t) ≡ true
    → same_names t a b ≡ same (part t a.offset a.len) (part t b.offset b.len)
unfolding same_names
names_in t a b p q = rw (p, q)

-- ---- a step of the search
pub find-here : (f : ℕ) (t s : List ℕ) (p : ℕ) (n : code.Name) → is_element s p ≡ true
    → same_names t n (written s p) ≡ true
    → find_from (suc f) t s p n ≡ Some (p + element_size)
unfolding find_from
find-here f t s p n e h = rw (e, h)

pub find-next : (f : ℕ) (t s : List ℕ) (p : ℕ) (n : code.Name) → is_element s p ≡ true
    → same_names t n (written s p) ≡ false
    → find_from (suc f) t s p n ≡ find_from f t s (past_inner s (p + element_size)) n
unfolding find_from
find-next f t s p n e h = rw (e, h)

pub find_none : (f : ℕ) (t s : List ℕ) (p : ℕ) (n : code.Name) → is_element s p ≡ false → find_from f t s p n ≡ None
unfolding find_from
find_none zero t s p n e = refl
find_none (suc f) t s p n e = rw e

-- ---- parts of the text
pub part-is : {a b c d : ℕ} → a ≡ c → b ≡ d
    → ◌≡◌ {A = code.Name} (record { offset = a; len = b }) (record { offset = c; len = d })
part-is p q = rw (p, q)

-- the name in a record
pub as_written : {s : List ℕ} {p : ℕ} {n : code.Name} → Written s p n → n ≡ written s p
as_written w = part-is w.offset w.length
