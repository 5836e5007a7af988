-- Enumerations as records in bytes, read at a place of the bytes s: total on any bytes.
use Rattle.std.specs.Prelude.{Bool, false, cond, ◌&&◌, List, ℕ, zero, suc, ◌+◌, ◌-◌, length, get_or, eqb, leb}
use Rattle.std.specs.Prelude.{Option, Some, None, option_map}
use Rattle.rules.specs.Bytes.{same}
use Rattle.rules.specs.Show.{read4}
use Rattle.ground.specs.Parts.{part}
use Rattle.ground.specs.declared.Name as code
use Rattle.enumerations.specs.declared.End.{End}
use Rattle.enumerations.specs.declared.Inner.{Inner}
use Rattle.book.specs.Sizes.{element_size, list_size}

unfoldable pub is_element : List ℕ → ℕ → Bool
is_element s p = leb (p + element_size) (length s) && eqb (get_or s p 0) 14

unfoldable pub is_opening : List ℕ → ℕ → Bool
is_opening s p = leb (p + list_size) (length s) && eqb (get_or s p 0) 13

-- the place, if an element stands there
abbrev pub element_at : List ℕ → Option ℕ → Option ℕ
element_at s None = None
element_at s (Some p) = cond (is_element s p) (Some p) None

-- the end of a list, from the place p in it on, where k inner lists are open and c records are passed
unfoldable pub end_from : ℕ → List ℕ → ℕ → ℕ → ℕ → End
end_from zero s p k c = record { at = p; records = c }
end_from (suc f) s p k c =
    cond (leb (length s) p) (record { at = p; records = c })
    (cond (eqb (get_or s p 0) 14) (end_from f s (p + element_size) k (c + 1))
    (cond (eqb (get_or s p 0) 13) (end_from f s (p + list_size) (k + 1) (c + 1))
    (cond (eqb k 0) (record { at = p + 1; records = c + 1 }) (end_from f s (p + 1) (k - 1) (c + 1)))))

-- past the inner enumeration at a place, if there is one
unfoldable pub past_inner : List ℕ → ℕ → ℕ
past_inner s p = cond (is_opening s p) (end_from (length s + 1) s (p + list_size) 0 0).at p

-- the inner enumeration at a place
unfoldable pub inner_at : List ℕ → ℕ → Option Inner
inner_at s p =
    cond (is_opening s p) (Some (record { list = p + list_size; is_final = eqb (get_or s (p + 1) 0) 1 })) None

abbrev pub list_of : Option Inner → Option ℕ
list_of v = option_map (λ (i : Inner). i.list) v

abbrev pub final_of : Option Inner → Bool
final_of None = false
final_of (Some i) = i.is_final

-- the name in the record of an element
abbrev pub written : List ℕ → ℕ → code.Name
written s p = record { offset = read4 s (p + 1); len = get_or s (p + 5) 0 }

unfoldable pub same_names : List ℕ → code.Name → code.Name → Bool
same_names t a b =
    leb (a.offset + a.len) (length t)
    && (leb (b.offset + b.len) (length t) && same (part t a.offset a.len) (part t b.offset b.len))

-- past the name of the first element with the name n in the list at p
unfoldable pub find_from : ℕ → List ℕ → List ℕ → ℕ → code.Name → Option ℕ
find_from zero t s p n = None
find_from (suc f) t s p n =
    cond (is_element s p)
    (cond (same_names t n (written s p)) (Some (p + element_size))
    (find_from f t s (past_inner s (p + element_size)) n))
    None

-- the same in a list, if there is one
abbrev pub find_of : List ℕ → List ℕ → Option ℕ → code.Name → Option ℕ
find_of t s None n = None
find_of t s (Some l) n = find_from (length s + 1) t s l n
