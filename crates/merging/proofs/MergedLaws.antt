-- What merging promises, from the run of the walk.
use mathlib.Core.Path.{◌≡◌, refl, sym, ap, ◌∙◌}
use mathlib.Core.Bool.{Bool, true, false, cond, ◌||◌}
use mathlib.Core.List.{List, [], ◌∷◌, ◌++◌, append_assoc}
use Prim.Native.Nat.{ℕ, ◌+◌, ◌-◌, ◌*◌, ◌≤◌, ◌<◌}
use native.Mathlib.Omega.{arith}
use lib.ListN.{length, get_or, take, drop, length-append}
use lib.Seq.{take-append-add, drop-append-add}
use Rattle.rules.specs.Enumerations.{Enum, final, merge, enum_fits}
use Rattle.rules.specs.Book.{Record, bit, open_record, element_records, bytes}
use Rattle.rules.proofs.MergeLaws.{final-merge}
use Rattle.ground.specs.Parts.{splice, put_at}
use Rattle.ground.proofs.BufferLaws.{splice-splice, put-fits, length-put}
use Rattle.enumerations.specs.Lists.{inner_at, final_of}
use Rattle.enumerations.specs.Records.{records}
use Rattle.merging.specs.Walks.{no_position, wrote, barred, run_from, RanTo, Starts}
use Rattle.enumerations.specs.Standing.{Stands}
use Rattle.merging.specs.Merging.{LaidAs, Merges}
use Rattle.enumerations.proofs.WrittenLaws.{stands-whole, size_is, inner-stands}
use Rattle.merging.proofs.WholeLaws.{whole_run}
use Rattle.merging.proofs.AddsLaws.{walk-fits}
use Rattle.enumerations.specs.declared.Inner.{Inner}
use Rattle.merging.specs.declared.Position.TheVariants.{Copying}
use Rattle.merging.specs.declared.Walk.{Walk}
use Rattle.std.specs.Prelude.{Option, Some, Result, Ok}
use Rattle.enumerations.specs.declared.Size.{Size}
use Rattle.merging.specs.declared.Misfit.{Misfit}
use Rattle.book.specs.Sizes.{list_size}

-- the opening, and then the records of the list
laid-after : (c : Bool) (o o₁ o₂ : List ℕ) (i : ℕ) (r : Result Size Misfit) (h : Record) (l : List Record)
    → length h ≡ 2 → o₁ ≡ put_at o i h
    → RanTo (cond c (wrote l) barred) i (record { bytes = 2; records = 1 }) o₁ o₂ r → LaidAs c (h ∷ l) i o o₂ r
laid-after true o o₁ o₂ i r h l s e (q, f) =
    let n : length (h ++ bytes l) ≡ 2 + length (bytes l) = length-append h (bytes l) ∙ rw s in (
      q ∙ ap Ok (size_is (sym n) (omega arith)),
      λ g. let u : o₁ ≡ splice o i h = e ∙ put-fits o i h (omega arith) in
          let v : i + 2 + length (bytes l) ≤ length o₁ = rw (e, length-put o i h) (omega arith) in
          f v ∙ rw u (splice-splice o i (i + 2) h (bytes l) (ap (i +◌) s) (omega arith)),
    )
laid-after false o o₁ o₂ i r h l s e q = q

-- what is written in the rest r behind the bytes p
splice-behind : (p r l : List ℕ) (n i : ℕ) → length p ≡ n → n ≤ i → splice (p ++ r) i l ≡ p ++ splice r (i - n) l
splice-behind p r l n i e h =
    let u : take i (p ++ r) ≡ p ++ take (i - n) r =
    ap (λ (k : ℕ). take k (p ++ r)) (omega arith) ∙ take-append-add p r (i - n) in
    let v : drop (i + length l) (p ++ r) ≡ drop (i - n + length l) r =
    ap (λ (k : ℕ). drop k (p ++ r)) (omega arith) ∙ drop-append-add p r (i - n + length l) in
    rw (u, v) (simp append_assoc)

laid-behind : (c : Bool) (l : List Record) (p r r₁ : List ℕ) (n i : ℕ) (a : Result Size Misfit) → length p ≡ n → n ≤ i
    → LaidAs c l (i - n) r r₁ a → LaidAs c l i (p ++ r) (p ++ r₁) a
laid-behind true l p r r₁ n i a e h (q, f) = (
  q,
  λ g. let k = length-append p r in
      ap (p ++◌) (f (omega arith)) ∙ sym (splice-behind p r (bytes l) n i e h),
)
laid-behind false l p r r₁ n i a e h q = q

pub merged-laid : (t p r x : List ℕ) (n base i : ℕ) (r₁ r₂ : List ℕ) (a : Result Size Misfit) (vb vx : Option Inner)
    (w : Walk) (k : ℕ) → length p ≡ n → n ≤ i → vb ≡ inner_at p base → vx ≡ inner_at x 0 → Starts vb vx w
    → r₁ ≡ put_at r (i - n) (13 ∷ bit (final_of vb || final_of vx) 1 ∷ []) → n * (length x + 1) < k →
    RanTo (run_from k t p x w) (i - n) (record { bytes = 2; records = 1 }) r₁ r₂ a →
    (b e : Enum) → Stands t p b base → Stands t x e 0 → Merges b e i (p ++ r) (p ++ r₂) a
merged-laid t p r x n base i r₁ r₂ a vb vx w k lp hi eb ex st er hk ran b e sb se ob oe =
    let ib = eb ∙ inner-stands t p b base sb in
    let ix = ex ∙ inner-stands t x e 0 se in
    let I : Inner = record { list = base + list_size; is_final = final b } in
    let J : Inner = record { list = 2; is_final = final e } in
    let first : get_or w.places 0 no_position ≡ Copying (Some I) (Some I.list) (Some J.list) = st.first ∙ rw (ib, ix) in
    let run : run_from k t p x w ≡ cond (enum_fits (merge b e) b) (wrote (element_records (merge b e))) barred =
    whole_run t p x b e I J k w (stands-whole t p b base sb).list (stands-whole t x e 0 se).list refl sb.deep se.deep
    st.depth st.eight first (rw lp hk) ∙ rw (walk-fits b e ob oe) in
    let f : bit (final_of vb || final_of vx) 1 ≡ bit (final (merge b e)) 1 = rw (ib, ix, final-merge b b e) in
    laid-behind (enum_fits (merge b e) b) (records (merge b e)) p r r₂ n i a lp hi
    (laid-after (enum_fits (merge b e) b) r r₁ r₂ (i - n) a (open_record (merge b e)) (element_records (merge b e)) refl
    (er ∙ rw f) (rw run at ran))

pub lt-add-one : (n : ℕ) → n < n + 1
lt-add-one n = omega arith
