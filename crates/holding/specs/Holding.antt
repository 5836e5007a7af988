-- One enumeration held against another, on bytes.
use Rattle.std.specs.Prelude.{◌≡◌, Bool, false, cond, List, ℕ, ◌+◌, Option, Some, None}
use Rattle.rules.specs.Enumerations.{Enum, final}
use Rattle.enumerations.specs.Lists.{is_element, inner_at, list_of, final_of, written, find_of}
use Rattle.enumerations.specs.Standing.{ElementsOf}
use Rattle.enumerations.specs.declared.Inner.{Inner}
use Rattle.holding.specs.declared.Held.{Held}
use Rattle.holding.specs.declared.Held.TheVariants.{Fits, Misfit, Deeper}
use Rattle.book.specs.Sizes.{element_size}

abbrev pub has_elements : List ℕ → Option Inner → Bool
has_elements s None = false
has_elements s (Some v) = is_element s v.list

-- what has no elements
abbrev pub held_leaf : List ℕ → Option Inner → Held
held_leaf s w = cond (has_elements s w) Misfit Fits

abbrev pub held_of : List ℕ → Option Inner → Option Inner → Held
held_of s None w = held_leaf s w
held_of s (Some v) w = cond (is_element s v.list) (Deeper v w) (held_leaf s w)

-- what is inside an element, held against what stands behind the one that v has of its name, if it has one
abbrev pub held_found : List ℕ → Option Inner → Option Inner → Option ℕ → Held
held_found s i v None = cond (final_of v) Misfit Fits
held_found s i v (Some m) = held_of s i (inner_at s m)

-- the element at a place, held against v
unfoldable pub held_at : List ℕ → List ℕ → ℕ → Option Inner → Held
held_at t s p v = held_found s (inner_at s (p + element_size)) v (find_of t s (list_of v) (written s p))

-- v is read where the list e stands
pub record Reads (t s : List ℕ) (e : Enum) (v : Option Inner) : Type 0 where
  pub is_final : final_of v ≡ final e
  pub list : ElementsOf t s e (list_of v)
