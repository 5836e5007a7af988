-- Laws by which the code follows the records of a book.
use mathlib.Core.Path.{◌≡◌, refl, sym, ap, ◌∙◌}
use mathlib.Core.Logic.{⊎_elim}
use mathlib.Core.Option.{none, some, some-injective, some-ne-none}
use mathlib.Core.List.{List, []}
use Rattle.std.specs.Prelude.{Option as code·Option, Some, None, is_some, true, false}
use Prim.Native.Nat.{ℕ, ◌+◌, ◌-◌, ◌≤◌, ◌<◌}
use native.Mathlib.Nat.{add-zero}
use native.Mathlib.Omega.{arith}
use lib.ListN.{length, get_or, drop, length-drop}
use lib.Seq.{get_or-drop}
use Rattle.rules.specs.Show.{size_of, records_at}
use Rattle.rules.proofs.RecordLaws.{no_front, Whole, whole, none-behind, look}
use Rattle.records.specs.Finding.{found_at, end_in, record_end}

-- ---- where the record at a place ends
-- there is none, or a whole one
pub end-none : (b : List ℕ) (i : ℕ) → records_at b i ≡ [] → record_end b i ≡ none
unfolding record_end
end-none b i e = ap (end_in i) e

pub end-here : {b : List ℕ} {i n : ℕ} → Whole b i n → record_end b i ≡ some (i + n)
unfolding record_end
end-here {b} {i} {n} w = rw (w.first, w.long)

pub end-out : (b : List ℕ) (i : ℕ) → length b ≤ i → record_end b i ≡ none
end-out b i h = end-none b i (none-behind b i h)

module _ (b : List ℕ) (i n : ℕ) (e : n ≡ size_of (get_or b i 0)) where
  kind_at : size_of (get_or (drop i b) 0 0) ≡ n
  kind_at = rw (get_or-drop, add-zero) (sym e)

  -- of no kind, or cut off
  pub end-short : (0 < n → length b - i < n) → record_end b i ≡ none
  end-short s =
      end-none b i (no_front (drop i b) (λ _ z. rw (kind_at, length-drop) (s (omega (arith, kind_at)))))

  pub end-whole : 0 < n → n ≤ length b - i → record_end b i ≡ some (i + n)
  end-whole z s = end-here (whole b i n (sym kind_at) z (rw length-drop s))

-- what is known by the end that was found
pub none-at : (b : List ℕ) (i : ℕ) → record_end b i ≡ none → records_at b i ≡ []
none-at b i e = ⊎_elim (λ p. p) (λ (n, w). absurd (some-ne-none (i + n) (sym (end-here w) ∙ e))) (look b i)

-- a record that ends is whole
pub ended : (b : List ℕ) (i e : ℕ) → record_end b i ≡ some e → (n : ℕ) × Whole b i n × (i + n ≡ e)
ended b i e f =
    ⊎_elim (λ p. absurd (some-ne-none e (sym f ∙ end-none b i p)))
    (λ (n, w). (n, w, some-injective (i + n) e (sym (end-here w) ∙ f))) (look b i)

-- the same of the code's answer
pub whole-found : (b : List ℕ) (i : ℕ) (f : code·Option ℕ) → found_at f ≡ record_end b i → is_some f ≡ true
    → (n : ℕ) × Whole b i n
whole-found b i (Some e) q s = let (n, w, r) = ended b i e (sym q) in (n, w)
whole-found b i None q s = absurd (cc)

pub none-found : (b : List ℕ) (i : ℕ) (f : code·Option ℕ) → found_at f ≡ record_end b i → is_some f ≡ false
    → record_end b i ≡ none
none-found b i (Some e) q s = absurd (cc)
none-found b i None q s = sym q

-- ---- one outcome
pub one_found : (f g : code·Option ℕ) → found_at f ≡ found_at g → f ≡ g
one_found (Some i) (Some j) e = ap Some (some-injective i j e)
one_found (Some i) None e = absurd (some-ne-none i e)
one_found None (Some j) e = absurd (some-ne-none j (sym e))
one_found None None e = refl
