-- Records that stand in a book from a place on.
use mathlib.Core.Path.{◌≡◌, sym, ap, ◌∙◌}
use mathlib.Core.List.{List, [], ◌∷◌, ◌++◌, append_assoc}
use Prim.Native.Nat.{ℕ, ◌+◌}
use native.Mathlib.Omega.{arith}
use lib.ListN.{length, length-append, length-drop, drop}
use lib.Seq.{drop-drop, drop-append_seam, drop-append-le}
use Rattle.rules.specs.Book.{Record, bytes}
use Rattle.book.specs.Places.{NoUnit, Stands}

-- what begins with no unit, with more behind it
pub no-unit-more : (w v : List ℕ) → NoUnit w → NoUnit v → NoUnit (w ++ v)
no-unit-more [] v p q = q
no-unit-more (x ∷ w) v p q = p

-- a book grows behind them
pub stands-more : (b v : List ℕ) (p : ℕ) (rs : List Record) → NoUnit v → Stands b p rs → Stands (b ++ v) p rs
stands-more b v p rs q h = record {
  within = let l = length-append b v in let w = h.within in omega arith;
  behind = h.behind ++ v;
  bytes_are =
      drop-append-le p b v h.within ∙ ap (λ (l : List ℕ). l ++ v) h.bytes_are
      ∙ append_assoc (bytes rs) h.behind v;
  no_unit = no-unit-more h.behind v h.no_unit q;
}

-- what is written at the book's end stands there
pub stands-new : (b : List ℕ) (rs : List Record) (v : List ℕ) → NoUnit v → Stands (b ++ (bytes rs ++ v)) (length b) rs
stands-new b rs v q = record {
  within = let l = length-append b (bytes rs ++ v) in omega arith;
  behind = v;
  bytes_are = drop-append_seam b (bytes rs ++ v);
  no_unit = q;
}

-- the records behind the first
pub stands-behind : (b : List ℕ) (p : ℕ) (r : Record) (rs : List Record)
    → Stands b p (r ∷ rs) → Stands b (p + length r) rs
stands-behind b p r rs h =
    let e : drop p b ≡ r ++ (bytes rs ++ h.behind) = h.bytes_are ∙ append_assoc r (bytes rs) h.behind in
    record {
      within =
          let l = ap length e in
          let m = length-append r (bytes rs ++ h.behind) in
          let k = length-drop p b in
          let w = h.within in omega arith;
      behind = h.behind;
      bytes_are = sym (drop-drop (length r) p b) ∙ ap (drop (length r)) e ∙ drop-append_seam r (bytes rs ++ h.behind);
      no_unit = h.no_unit;
    }
