-- A listing goes from a record to where it ends, and passes the records that finding finds, by their numbers.
use mathlib.Core.Path.{◌≡◌, sym, ap, ◌∙◌}
use mathlib.Core.Option.{none, some}
use mathlib.Core.List.{List}
use Prim.Native.Nat.{ℕ, suc, ◌+◌, ◌-◌, ◌≤◌, ◌<◌}
use native.Mathlib.Nat.{add-zero, zero-add}
use native.Mathlib.Omega.{arith}
use lib.ListN.{length}
use Rattle.rules.specs.Show.{records_at, beginning_in, find_record}
use Rattle.rules.proofs.RecordLaws.{begin-none, begin-here, begin-suc}
use Rattle.records.specs.Finding.{record_end, Listed}
use Rattle.records.proofs.WalkLaws.{none-at, ended}

pub listed-first : (b : List ℕ) → Listed b 0 0
unfolding find_record
listed-first b m = ap (λ (n : ℕ). beginning_in 0 (records_at b 0) n) (zero-add m)

module _ (b : List ℕ) (i e : ℕ) (f : record_end b i ≡ some e) where
  pub end-inside : (i < e) × (e ≤ length b)
  end-inside =
      let (n, w, q) = ended b i e f in
      (omega (arith, w.some), omega (arith, w.within))

  module _ (k : ℕ) (l : Listed b k i) where
    pub listed_here : find_record b k ≡ some i
    listed_here = let (n, w, q) = ended b i e f in ap (find_record b) (sym (add-zero k)) ∙ l 0 ∙ begin-here w

    pub listed_next : Listed b (k + 1) e
    listed_next m =
        let (n, w, q) = ended b i e f in
        let s : k + 1 + m ≡ k + suc m = omega arith in
        ap (find_record b) s ∙ l (suc m) ∙ begin-suc m w ∙ ap (λ (j : ℕ). beginning_in j (records_at b j) m) q

-- where no record is whole, none behind it is found
pub listed-none : (b : List ℕ) (i k m : ℕ) → record_end b i ≡ none → Listed b m i → m ≤ k → find_record b k ≡ none
listed-none b i k m e l h =
    let s : k ≡ m + (k - m) = omega arith in
    ap (find_record b) s ∙ l (k - m) ∙ begin-none i (records_at b i) (k - m) (none-at b i e)
