-- Elements by their list and name: chains through the elements of one enumeration, in lent numbers.
use Rattle.std.specs.Prelude.{◌≡◌, Bool, true, false, cond, ◌&&◌, ◌||◌, List, [], ◌∷◌, ℕ, ◌+◌, ◌-◌, ◌*◌, ◌/◌, ◌%◌}
use Rattle.std.specs.Prelude.{◌≤◌, ◌<◌, length, get_or, eqb, ltb, leb, Option, Some, None, is_some}
use Rattle.rules.specs.Enumerations.{Enum}
use Rattle.ground.specs.Parts.{part}
use Rattle.ground.specs.declared.Name as code
use Rattle.enumerations.specs.Lists.{is_element, written, same_names, find_from}
use Rattle.enumerations.specs.Standing.{end_of, Stands}
use Rattle.tables.specs.declared.Grid.{Grid}
use Rattle.book.specs.Sizes.{element_size, list_size}

-- an element that is entered: the start of its list, and its place
pub record Entry : Type 0 where
  pub list : ℕ
  pub at : ℕ

-- past the name of the element n of the list l, of those entered the last
abbrev pub seek_in : List ℕ → List ℕ → ℕ → code.Name → List Entry → Option ℕ
seek_in t s l n [] = None
seek_in t s l n (e ∷ es) =
    let r = seek_in t s l n es in
    cond (eqb e.list l && same_names t n (written s e.at)) (Some (e.at + element_size)) r

-- whether an element of the list l is entered
abbrev pub is_entered : ℕ → List Entry → Bool
is_entered l [] = false
is_entered l (e ∷ es) = let r = is_entered l es in eqb e.list l || r

-- ---- the numbers
abbrev pub hash_from : ℕ → List ℕ → ℕ
hash_from k [] = k
hash_from k (b ∷ l) = hash_from ((k * 131 + b) % 16777216) l

-- of k keys, that of the name n in the list l
unfoldable pub key_of : List ℕ → ℕ → ℕ → code.Name → ℕ
key_of t k l n = cond (leb (n.offset + n.len) (length t)) (hash_from (l % 16777216) (part t n.offset n.len) % k) 0

abbrev pub slot : Grid → ℕ → ℕ
slot g p = (p - g.from) / element_size

-- the number of a place; 0 is none
abbrev pub number_of : Option ℕ → ℕ
number_of None = 0
number_of (Some p) = p + 1

unfoldable pub cell_of : Grid → List ℕ → ℕ → ℕ → ℕ
cell_of g z i p = cond (ltb (slot g p) g.keys) (get_or z (i + slot g p) 0) 0

pub record Sized (g : Grid) (z : List ℕ) : Type 0 where
  pub some : 0 < g.keys
  pub fits : 3 * g.keys ≤ length z

-- the next of an element's chain, and its list
abbrev pub next_of : Grid → List ℕ → ℕ → ℕ
next_of g z p = cell_of g z g.keys p

abbrev pub list_of : Grid → List ℕ → ℕ → ℕ
list_of g z p = cell_of g z (g.keys + g.keys) p

-- the element at p is of the list l and has the name n
unfoldable pub hits : List ℕ → List ℕ → Grid → List ℕ → ℕ → ℕ → code.Name → Bool
hits t s g z p l n = eqb (list_of g z p) (l + 1) && (is_element s p && same_names t n (written s p))

-- ---- what the numbers say
-- x is the element e, and the rest is as c says; or it is not in the chain
abbrev pub Link : Bool → Grid → List ℕ → ℕ → Entry → (ℕ → Type 0) → Type 0
Link true g z x e c = (x ≡ e.at + 1) × (list_of g z e.at ≡ e.list + 1) × c (next_of g z e.at)
Link false g z x e c = c x

-- from x on goes the chain of the key k, the last entered first
abbrev pub Chain : List ℕ → List ℕ → Grid → List ℕ → ℕ → ℕ → List Entry → Type 0
Chain t s g z k x [] = x ≡ 0
Chain t s g z k x (e ∷ es) =
    Link (eqb (key_of t g.keys e.list (written s e.at)) k) g z x e (λ y. Chain t s g z k y es)

-- an element may be entered
pub record Next (s : List ℕ) (g : Grid) (l p : ℕ) : Type 0 where
  pub first : g.from ≤ l
  pub behind : l ≤ p
  pub element : is_element s p ≡ true
  pub room : slot g p < g.keys

-- the entered elements stand before p, each before the one entered after it
abbrev pub Before : List ℕ → Grid → List Entry → ℕ → Type 0
Before s g [] p = Unit {0}
Before s g (e ∷ es) p = Next s g e.list e.at × (e.at + element_size ≤ p) × Before s g es e.at

pub record Filled (t s : List ℕ) (g : Grid) (z : List ℕ) (es : List Entry) (p : ℕ) : Type 0 where
  pub chains : (k : ℕ) → k < g.keys → Chain t s g z k (get_or z k 0) es
  pub lists : (q l : ℕ) → list_of g z q ≡ l + 1 → is_entered l es ≡ true
  pub before : Before s g es p

-- whether the element at p clashes with an entered one of its list l; if not, it is entered
pub record Clash (t s : List ℕ) (g : Grid) (es : List Entry) (l p : ℕ) (z : List ℕ) (r : Bool) : Type 0 where
  pub says : r ≡ is_some (seek_in t s l (written s p) es)
  pub more : r ≡ false → Filled t s g z (record { list = l; at = p } ∷ es) (p + element_size)

-- what is entered of the list l is what is found in it
abbrev pub Serves : List ℕ → List ℕ → List Entry → ℕ → Type 0
Serves t s es l = (n : code.Name) → seek_in t s l n es ≡ find_from (length s + 1) t s l n

-- every list that has an element entered is entered whole
pub record Gathered (t s : List ℕ) (g : Grid) (z : List ℕ) : Type 0 where
  pub entries : List Entry
  pub top : ℕ
  pub filled : Filled t s g z entries top
  pub whole : (l : ℕ) → is_entered l entries ≡ true → Serves t s entries l

-- the list l and those inside it are entered, up to the place q; the lists before it are as they were
pub record Grown (t s : List ℕ) (g : Grid) (es : List Entry) (z : List ℕ) (l q : ℕ) : Type 0 where
  pub entries : List Entry
  pub filled : Filled t s g z entries q
  pub same_entered : (m : ℕ) → m < l → is_entered m entries ≡ is_entered m es
  pub same_found : (m : ℕ) → m < l → (n : code.Name) → seek_in t s m n entries ≡ seek_in t s m n es
  pub whole : (m : ℕ) → l ≤ m → is_entered m entries ≡ true → Serves t s entries m

-- the list e at l lies in the grid
abbrev pub InGrid : Grid → Enum → ℕ → Type 0
InGrid g e l = (g.from ≤ l) × (end_of e l ≤ g.from + element_size * g.keys)

-- the grid has room for an enumeration that stands at p
pub record GridFor (s : List ℕ) (p : ℕ) (g : Grid) : Type 0 where
  pub some : 0 < g.keys
  pub small : 6 * g.keys ≤ length s + element_size
  pub room : (t : List ℕ) (e : Enum) → Stands t s e p → InGrid g e (p + list_size)

-- ---- how many numbers are lent
-- k are a table for an enumeration in n bytes
abbrev pub TableFor : ℕ → ℕ → Type 0
TableFor n k = n + 6 ≤ 2 * k

-- k are two tables: one for an enumeration in n bytes, and behind it one for another in m
abbrev pub TablesFor : ℕ → ℕ → ℕ → Type 0
TablesFor n m k = n + m + 14 ≤ 2 * k
