-- Document 01, "Types and bases", as claims on merging: what is in a merged enumeration and in which order, that no
-- list has an element twice, and when 17 refuses it.
use Rattle.std.specs.Prelude.{◌≡◌, ◌↔◌, true, ◌||◌, List, [], ◌++◌, ℕ}
use Rattle.std.proofs.Math.Option.{none, some}
use Rattle.rules.specs.Enumerations.{Enum, final, at, merge, enum_fits, twice}
use Rattle.rules.specs.Merged.{names, new_names, distinct, adds_nothing}

-- ---- the claims on the written x merged into the base's b; within a shared element they hold again,
-- of what is merged there
pub record Merged (b x : Enum) : Type 0 where
  -- the base's names where they stood, then the new ones in text order
  pub in_order : names (merge b x) ≡ (names b ++ new_names b x)
  -- inside a shared element both are merged; an element that is not written, and one that is new, stay as they are;
  -- nothing else is there
  pub shared : (n : List ℕ) (i j : Enum) → at n b ≡ some i → at n x ≡ some j → at n (merge b x) ≡ some (merge i j)
  pub unwritten : (n : List ℕ) (i : Enum) → at n b ≡ some i → at n x ≡ none → at n (merge b x) ≡ some i
  pub new : (n : List ℕ) → at n b ≡ none → at n (merge b x) ≡ at n x
  -- a list is FINAL if it was so or is written so
  pub final_stays : final (merge b x) ≡ (final b || final x)
  pub still_distinct : distinct b ≡ true → distinct x ≡ true → distinct (merge b x) ≡ true
  -- 17 passes it exactly where nothing is added to a FINAL list or leaf
  pub fits_base : distinct b ≡ true → distinct x ≡ true → enum_fits (merge b x) b ≡ adds_nothing x b

abbrev pub AllMerged : Type 0
AllMerged = (b x : Enum) → Merged b x

-- 9 finds no element twice exactly where all are distinct
abbrev pub DistinctFound : Type 0
DistinctFound = (e : Enum) → (twice e [] ≡ none) ↔ (distinct e ≡ true)
