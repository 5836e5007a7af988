-- The name that a record shows.
use mathlib.Core.Path.{◌≡◌, refl, sym, ap, ◌∙◌}
use mathlib.Core.Bool.{Bool, true, false, cond, not, ◌||◌}
use mathlib.Core.List.{List, [], ◌∷◌}
use Prim.Native.Nat.{ℕ, ◌+◌, ◌-◌, ◌≤◌, ◌<◌}
use native.Mathlib.Nat.{add-sub_cancel_left, add-zero}
use native.Mathlib.Omega.{arith}
use lib.ListN.{length, get_or, take, drop}
use lib.Dec.{leb}
use borrow.Author.Tests.{leb-true, le-leb, lt-leb}
use denote.Ref.{Bor}
use Rattle.rules.specs.Book.{Record}
use Rattle.rules.specs.Show.{size_of, records_at, Part, no_part, read4, is_named, name_in, first_name, show_name}
use Rattle.rules.proofs.RecordLaws.{Whole}
use Rattle.ground.specs.Parts.{part}
use Rattle.ground.proofs.PartLaws.{get_d_part, read4-part}
use Rattle.ground.proofs.TableLaws.{on, implies}
use Rattle.book.specs.Sizes.{name_size}
use Rattle.book.specs.Names.{Written}
use Rattle.ground.specs.declared.Name as code
use mathlib.Core.Option as option
use Rattle.records.specs.Finding.{record_end}
use Rattle.records.specs.Showing.{part_of, Shows}
use Rattle.records.proofs.WalkLaws.{none-at}

-- ---- at a place
-- a record that has a name holds an offset and a length
named-size : (k : ℕ) → k < 256 → is_named k ≡ true → name_size ≤ size_of k
unfolding is_named size_of
named-size k h e = leb-true name_size (size_of k)
    (implies (on (λ x. not (is_named x) || leb name_size (size_of x)) 0 256 refl k (omega arith) (omega arith)) e)

abbrev none : code.Name
none = part_of no_part

pub name-none : (t b : List ℕ) (i : ℕ) → record_end b i ≡ option.none → none ≡ part_of (show_name t b i)
unfolding show_name
name-none t b i e = rw (none-at b i e)

module _ (t : List ℕ) {b : List ℕ} {i n : ℕ} (w : Whole b i n) where
  here : show_name t b i ≡ name_in t (part b i n)
  unfolding show_name
  here = rw w.first

  kind : get_or (part b i n) 0 0 ≡ get_or b i 0
  kind = get_d_part b i n 0 w.some ∙ rw add-zero

  pub name-less : is_named (get_or b i 0) ≡ false → none ≡ part_of (show_name t b i)
  name-less e = rw (here, kind, e)

  -- a record that has a name is long enough for it
  pub name-fits : get_or b i 0 < 256 → is_named (get_or b i 0) ≡ true → name_size ≤ n
  name-fits k e = rw w.size (named-size (get_or b i 0) k e)

  module _ (k : get_or b i 0 < 256) (e : is_named (get_or b i 0) ≡ true) (p : code.Name) (f : Written b i p) where
    named : (q : Bool) → leb (p.offset + p.len) (length t) ≡ q
        → show_name t b i ≡ cond q (record { start = p.offset; length = p.len }) no_part
    named q h =
        let s : name_size ≤ n = name-fits k e in
        here ∙ rw (
          kind,
          e,
          read4-part b i n 1 (omega arith),
          get_d_part b i n 5 (omega arith),
          ← f.offset,
          ← f.length,
          h,
        )

    -- the name lies in the text, or passes its end
    pub name_in_lem : p.offset + p.len ≤ length t → p ≡ part_of (show_name t b i)
    name_in_lem h = ap part_of (sym (named true (le-leb _ _ h)))

    pub name_out : length t < p.offset + p.len → none ≡ part_of (show_name t b i)
    name_out h = ap part_of (sym (named false (lt-leb _ _ h)))

-- ---- where it lies
in_text : (t : List ℕ) (r : Record) → (name_in t r).start + (name_in t r).length ≤ length t
in_text t r = pick (is_named (get_or r 0 0)) (leb (read4 r 1 + get_or r 5 0) (length t)) refl
  where
    shown : Bool → Bool → Part
    shown p q = cond p (cond q (record { start = read4 r 1; length = get_or r 5 0 }) no_part) no_part

    pick : (p q : Bool) → leb (read4 r 1 + get_or r 5 0) (length t) ≡ q
        → (shown p q).start + (shown p q).length ≤ length t
    pick true true e = leb-true _ _ e
    pick true false e = omega arith
    pick false q e = omega arith

within : (t : List ℕ) (l : List Record) → (first_name t l).start + (first_name t l).length ≤ length t
within t [] = omega arith
within t (r ∷ l) = in_text t r

-- a name lies in the text
pub shown-within : (t b : List ℕ) (i : ℕ) (p : code.Name) → p ≡ part_of (show_name t b i) → p.offset + p.len ≤ length t
unfolding show_name
shown-within t b i p e = rw e (within t (records_at b i))

pub starts-at : (p : code.Name) (q : Part) → p ≡ part_of q → p.offset ≡ q.start
starts-at p q e = ap (λ (x : code.Name). x.offset) e

pub cut : (t : List ℕ) (p : code.Name) (q : Part) → p ≡ part_of q
    → take (p.offset + p.len - p.offset) (drop p.offset t) ≡ part t q.start q.length
cut t p q e = rw (add-sub_cancel_left p.offset p.len) (ap (λ (x : code.Name). part t x.offset x.len) e)

-- ---- one outcome
-- `name_part` promises an equation. What `show_name` promises fixes where the part lies and its bytes; a reference's
-- ghost name, which no program sees, is all that it leaves open.
pub one-shown : (t : Bor (List ℕ)) (b : List ℕ) (i : ℕ) (r s : Bor (List ℕ)) → Shows t b i r → Shows t b i s
    → (r.ref_ptr ≡ s.ref_ptr) × (r.now ≡ s.now)
one-shown t b i r s p q =
    ((λ j. ((p.block ∙ sym q.block) j, (p.place ∙ sym q.place) j)), p.bytes ∙ sym q.bytes)
