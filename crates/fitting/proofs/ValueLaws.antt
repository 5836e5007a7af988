-- What the code makes of types by value, for the types that have these values.
use mathlib.Core.Path.{◌≡◌, refl, sym}
use mathlib.Core.Bool.{Bool, true, false, cond, not}
use mathlib.Core.Option.{Option, none, some}
use mathlib.Core.List.{List}
use Prim.Native.Nat.{ℕ, ◌≤◌, ◌<◌}
use native.Mathlib.Omega.{arith}
use lib.IntN.{ℤ, pos, negsuc, nat_abs}
use lib.Signed.{le_z}
use lib.Dec.{eqb}
use Rattle.rules.specs.Texts.{length_fits}
use Rattle.rules.specs.Numbers.{most_decimals, magnitude_limit, Range}
use Rattle.rules.specs.Types.{Ty, text, numeric, structure, enum, kind_of, unit_of, bounds_fit, fits}
use Rattle.rules.specs.Declarations.{Def, measure_in}
use Rattle.rules.specs.Judge.{is_numeric}
use Rattle.std.specs.Prelude.{Some, None, Option as code·Option}
use Rattle.numbers.proofs.SignedLaws.{held, kept}
use Rattle.numbers.proofs.BoundLaws.{range-is}
use Rattle.rules.specs.All.{AnyIs}
use Rattle.names.specs.Index.{entry, row, Says, Known, definition_width}
use Rattle.names.proofs.BaseLaws.{entry-there}
use Rattle.wellformed.specs.Fairness.{Fair}
use Rattle.fitting.specs.Values.{unit_number, limit_by, number_by, Valued, Typed, Sized, FairOrNone}
use Rattle.fitting.specs.Fitting.{unit_by, text_sort, sort_of, limit_fits, is_numeric_by, fits_by}
use Rattle.fitting.specs.declared.Typing.{Typing}
use Rattle.fitting.specs.declared.Typing.TheVariants as typing
use Rattle.fitting.specs.declared.Sort.{Sort}
use Rattle.fitting.specs.declared.Sort.TheVariants.{Line, Lines, Number, Enumeration, Structure}

-- ---- values
pub typed-valued : (t b : List ℕ) (x : Ty) (c : Typing) → Typed t b x c → Valued x c
typed-valued t b (text m n) c h = h
typed-valued t b (numeric r u) c h = h
typed-valued t b (enum e) c h = (h.0, h.1)
typed-valued t b structure c h = h

pub sized_base : (t : List ℕ) (x : Ty) (c : Typing) → FairOrNone t x → Valued x c → Sized c
sized_base t (text m n) c f h = rw h tt
sized_base t (numeric none u) c f h = rw h tt
sized_base t (numeric (some r) u) c f h = rw h (f.0, f.1, f.2)
sized_base t (enum e) c f h = rw h.1 tt
sized_base t structure c f h = rw h tt

pub fair-or-none : (t : List ℕ) (x : Ty) → Fair t x → FairOrNone t x
fair-or-none t (text m n) h = h
fair-or-none t (numeric r u) h = h
fair-or-none t (enum e) h = h
fair-or-none t structure h = absurd h

-- ---- bounds
-- a signed number that is read back
pub held_small : (z : ℤ) → nat_abs z < magnitude_limit → held z ≡ z
held_small (pos n) h = kept (pos n) (omega arith)
held_small (negsuc n) h = kept (negsuc n) (omega arith)

pub sized_range : {c : Typing} (d : ℕ) (l h : ℤ) (u : code·Option ℕ) → Sized c → c ≡ typing.Range d l h u
    → (d ≤ most_decimals) × (nat_abs l < magnitude_limit) × (nat_abs h < magnitude_limit)
sized_range d l h u s e = rw e at s

-- ---- kinds
pub numeric-valued : (y : Ty) (c : Typing) → Valued y c → is_numeric_by c ≡ is_numeric y
numeric-valued (text m n) c v = rw v
numeric-valued (numeric none u) c v = rw v
numeric-valued (numeric (some r) u) c v = rw v
numeric-valued (enum e) c v = rw v.1
numeric-valued structure c v = rw v

pub unit-valued : (y : Ty) (c : Typing) → Valued y c → unit_by c ≡ unit_number (unit_of y)
unit-valued (text m n) c v = rw v
unit-valued (numeric none u) c v = rw v
unit-valued (numeric (some r) u) c v = rw v
unit-valued (enum e) c v = rw v.1
unit-valued structure c v = rw v

-- what the rules call a sort
abbrev pub sort_number : Sort → ℕ
sort_number Line = 1
sort_number Lines = 2
sort_number Number = 3
sort_number Enumeration = 4
sort_number Structure = 5

sort-text : (m : Bool) → sort_number (text_sort (eqb (cond m 9 8) 9)) ≡ cond m 2 1
sort-text true = refl
sort-text false = refl

pub sort-valued : (y : Ty) (c : Typing) → Valued y c → sort_number (sort_of c) ≡ kind_of y
sort-valued (text m n) c v = rw v (sort-text m)
sort-valued (numeric none u) c v = rw v
sort-valued (numeric (some r) u) c v = rw v
sort-valued (enum e) c v = rw v.1
sort-valued structure c v = rw v

-- ---- 17
-- no range whose first bound is the greater
abbrev pub Told : Ty → Type 0
Told (text m n) = Unit {0}
Told (numeric r u) = AnyIs (λ (q : Range). le_z q.low q.high ≡ true) r
Told (enum e) = Unit {0}
Told structure = Unit {0}

pub fair-told : (t : List ℕ) (x : Ty) → FairOrNone t x → Told x
fair-told t (text m n) f = tt
fair-told t (numeric none u) f = tt
fair-told t (numeric (some r) u) f = f.3
fair-told t (enum e) f = tt
fair-told t structure f = tt

pub same_kind : (m k : Bool) → ◌≡◌ {A = ℕ} (cond m 2 1) (cond k 2 1) → cond m k (not k) ≡ true
same_kind true true e = refl
same_kind true false e = absurd (omega arith)
same_kind false true e = absurd (omega arith)
same_kind false false e = refl

pub no_text : {A : Type 0} (m : Bool) (k : ℕ) → 2 < k → cond m 2 1 ≡ k → A
no_text true k h e = absurd (omega arith)
no_text false k h e = absurd (omega arith)

limits : (n l : Option ℕ) → limit_fits (limit_by n) (limit_by l) ≡ length_fits n l
limits none none = refl
limits none (some l) = refl
limits (some n) none = refl
limits (some n) (some l) = refl

text-fits : (m : Bool) (n : Option ℕ) (b : Ty) (d : Typing) → Valued b d → kind_of (text m n) ≡ kind_of b
    → fits_by (typing.Text (cond m 9 8) (limit_by n)) d ≡ fits (text m n) b
text-fits m n (text k l) d u e = rw (u, same_kind m k e) (limits n l)
text-fits m n (numeric r w) d u e = no_text m 3 (omega arith) e
text-fits m n (enum b) d u e = no_text m 4 (omega arith) e
text-fits m n structure d u e = no_text m 5 (omega arith) e

-- of types that are not both enumerations
pub fits-valued : (x b : Ty) (c d : Typing) → Told x
    → ((p q : ℕ) → c ≡ typing.Enumeration p → d ≡ typing.Enumeration q → ⊥) → Valued x c → Valued b d
    → kind_of x ≡ kind_of b → fits_by c d ≡ fits x b
fits-valued (text m n) b c d f h v u e = rw v (text-fits m n b d u e)
fits-valued (numeric r w) (text k l) c d f h v u e = no_text k 3 (omega arith) (sym e)
fits-valued (numeric r w) (numeric q x) c d f h v u e = rw (v, u) (bounds-fit r q f)
  where
    bounds-fit : (r q : Option Range) → AnyIs (λ (k : Range). le_z k.low k.high ≡ true) r
        → fits_by (number_by r w) (number_by q x) ≡ bounds_fit r q
    bounds-fit none none f = refl
    bounds-fit none (some q) f = refl
    bounds-fit (some r) none f = refl
    bounds-fit (some r) (some q) f = sym (range-is r q f)
fits-valued (numeric r w) (enum b) c d f h v u e = absurd (omega arith)
fits-valued (numeric r w) structure c d f h v u e = absurd (omega arith)
fits-valued (enum x) (text m n) c d f h v u e = no_text m 4 (omega arith) (sym e)
fits-valued (enum x) (numeric r w) c d f h v u e = absurd (omega arith)
fits-valued (enum x) (enum b) c d f h v u e = absurd (h v.0 u.0 v.1 u.1)
fits-valued (enum x) structure c d f h v u e = absurd (omega arith)
fits-valued structure b c d f h v u e = rw v

-- ---- the unit at a position
pub no_unit : (ks : List Def) (p : ℕ) → p ≡ 0 → None ≡ unit_number (measure_in (entry ks p))
no_unit ks p e = rw e

pub unit-there : (t : List ℕ) (ks : List Def) (x : List ℕ) (count p : ℕ) → p ≤ count → Known t ks x count
    → ¬ (p ≡ 0) → (m : ℕ) → ((u : List ℕ) (d : Def) → Says u d (row definition_width x p) → m ≡ d.number)
    → Some m ≡ unit_number (measure_in (entry ks p))
unit-there t ks x count p l k z m e =
    let n = k.all in
    let (d, q) = entry-there ks p (omega arith) (omega arith) in
    rw (q, e t d (k.says p d q))
