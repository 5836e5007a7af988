-- `read_number` reads every legal number of what an accepted text declares: its ranges are small, and so are the
-- readings at their bases.
use mathlib.Core.Path.{◌≡◌, refl, sym, ◌∙◌, subst}
use mathlib.Core.Logic.{inl, inr}
use mathlib.Core.Bool.{true, false}
use mathlib.Core.Option.{Option, some}
use mathlib.Core.List.{List, [], ◌∷◌}
use Prim.Native.Nat.{ℕ, ◌≤◌, ◌<◌}
use native.Mathlib.Omega.{arith}
use lib.ListN.{length}
use lib.IntN.{ℤ, pos, negsuc, nat_abs}
use lib.Signed.{le_z}
use lib.Dec.{eqb}
use borrow.Author.Tests.{le-ltb, lt-leb, leb-true}
use Rattle.rules.specs.Numbers as N
use Rattle.rules.specs.Numbers.{most_decimals, magnitude_limit, Range, in_range, reads, read_number}
use Rattle.rules.specs.Types.{Measure, Ty, numeric, structure, Value, number, in_bounds, legal, reading}
use Rattle.rules.specs.Declarations.{Link, Use, inline, of_domain, of_structure, ty_of, Attribute, Def, State, known}
use Rattle.rules.specs.Declarations.{attribute_at}
use Rattle.rules.specs.Book.{records}
use Rattle.rules.specs.Judge.{is_domain}
use Rattle.rules.specs.All.{All, In}
use Rattle.rules.proofs.Tests.{never, split}
use Rattle.rules.proofs.AllLaws.{apart, any-is, any-lookup, all-attribute, in-append, all_in_lem}
use Rattle.std.specs.Prelude.{Ok}
use Rattle.numbers.specs.Answer.{Reading, Promised}
use Rattle.numbers.proofs.ReadLaws.{one_answer}
use Rattle.wellformed.specs.Fairness.{Fair, FairRange, FairUse, FairAttribute, FairDef, FairState}
use Rattle.claims.specs.Steps as S
use Rattle.claims.specs.Steps.{Declared, base_of, first_of, numbered, domain_in, Inherits, near, far, Nearest, Passes}
use Rattle.claims.specs.Steps.{through, straight, EveryReading}
use Rattle.claims.proofs.StateLaws.{in_all}
use Rattle.demands.specs.Demands.{ReadBy, NumbersRead}
use Rattle.demands.proofs.FairLaws.{Typed}

-- ---- numbers
-- what lies between small bounds is small
between-small : (l v h : ℤ) (k : ℕ) → nat_abs l < k → nat_abs h < k → le_z l v ≡ true → le_z v h ≡ true → nat_abs v < k
between-small l (pos v) (pos h) k a b p q = omega (arith, leb-true v h q)
between-small l (pos v) (negsuc h) k a b p q = never q
between-small (pos l) (negsuc v) h k a b p q = never p
between-small (negsuc l) (negsuc v) h k a b p q = omega (arith, leb-true v l p)

-- a range with its unit
abbrev ranged : Range → Option Measure → Ty
ranged r i = numeric (some r) i

range_small : (r : Range) (i : Option Measure) (v : ℤ) (u : Option Measure) → FairRange r
    → legal (ranged r i) (number r.decimals v u) ≡ true → nat_abs v < magnitude_limit
range_small r i v u f e =
    let b : in_bounds (some r) r.decimals v ≡ true = (split {x = in_bounds (some r) r.decimals v} e).0 in
    let i : in_range r v ≡ true = (split {x = eqb r.decimals r.decimals} b).1 in
    let (a, b) = split {x = le_z r.low v} i in
    between-small r.low v r.high magnitude_limit f.1 f.2 a b

-- neither 20 nor 21
read_small : (v : ℤ) (d db : ℕ) → d ≤ most_decimals → db ≤ most_decimals → nat_abs v < magnitude_limit
    → nat_abs (N.reading d db v) < magnitude_limit
    → read_number v d db ≡ reads (N.reading d db v)
unfolding read_number
read_small v d db a b c e =
    rw (
      le-ltb most_decimals d a,
      le-ltb most_decimals db b,
      lt-leb magnitude_limit (nat_abs v) c,
      lt-leb magnitude_limit (nat_abs (N.reading d db v)) e,
    )

-- ---- types: what is small, and each of whose legal values has a legal reading at another
abbrev Reads : Ty → Ty → Type 0
Reads x y = (v : Value) → legal x v ≡ true → (w : Value) × (reading y v ≡ some w) × (legal y w ≡ true)

range-reads : (r q : Range) (i j : Option Measure) → FairRange r → FairRange q → Reads (ranged r i) (ranged q j) →
    (v : ℤ) (u : Option Measure) → legal (ranged r i) (number r.decimals v u) ≡ true
    → (a : Reading) → Promised v r.decimals q.decimals a
    → (w : ℤ) × (a ≡ Ok w) × (reading (ranged q j) (number r.decimals v u) ≡ some (number q.decimals w u))
    × (legal (ranged q j) (number q.decimals w u) ≡ true)
range-reads r q i j f g h v u e a p =
    let w = N.reading r.decimals q.decimals v in
    let (x, k, o) = h (number r.decimals v u) e in
    let z : x ≡ number q.decimals w u = cc in
    let l : legal (ranged q j) (number q.decimals w u) ≡ true =
    subst (λ (x : Value). legal (ranged q j) x ≡ true) z o in
    let b = range_small r i v u f e in
    let n = read_small v r.decimals q.decimals f.0 g.0 b (range_small q j w u g l) in
    (w, one_answer v r.decimals q.decimals a (Ok w) p (record { number = rw n; value = rw n }), refl, l)

-- a range is fair
abbrev Ranged : List ℕ → Ty → Type 0
Ranged t x = (r : Range) (i : Option Measure) → x ≡ ranged r i → Fair t x

read_by : (t : List ℕ) (x y : Ty) → Ranged t x → Ranged t y → Reads x y → ReadBy x y
read_by t x y f g h r q i j k l =
    let a : FairRange r = subst (Fair t) k (f r i k) in
    let b : FairRange q = subst (Fair t) l (g q j l) in
    let c : Reads (ranged r i) (ranged q j) = rw (k, l) at h in
    rw (k, l) (range-reads r q i j a b c)

-- ---- what is declared: domains, and what types attributes
not-range : {A : Type 0} (r : Range) (i : Option Measure) → structure ≡ ranged r i → A
not-range r i e = absurd (let z : ◌≡◌ {A = ℕ} 0 1 = cc in omega arith)

def-ranged : (t : List ℕ) (n : ℕ) (d : Def) → FairDef t n d → Typed d → Ranged t d.type
def-ranged t n d f (inl e) r i k = f.type e
def-ranged t n d f (inr e) r i k = not-range r i (sym e ∙ k)

use-ranged : (t : List ℕ) (u : Use) → FairUse t u → Ranged t (ty_of u)
use-ranged t (inline x) f r i e = f
use-ranged t (of_domain l bs) f r i e = f
use-ranged t (of_structure l bs) f r i e = not-range r i e

-- a base is declared, and a nearest inherited attribute is a declared class's own
first-declared : (s : State) (l : List Link) (b : Def) → first_of s l ≡ some b → Declared s b
first-declared s [] b e = apart (sym e)
first-declared s (l ∷ bs) b e = any-is (Declared s) (numbered s l.number) b
    (any-lookup (Declared s) _ (known s.decls) (all_in_lem (known s.decls))) e

own_in : (n : List ℕ) (l : List Attribute) (a : Attribute) → attribute_at n l ≡ some a → In a l
own_in n l a e = all-attribute (λ (b : Attribute). In b l) n l a (all_in_lem l) e

inherits-own : (s : State) (n : List ℕ) (a : Attribute) (c : Def) → Inherits s n a c
    → (d : Def) × Declared s d × In a d.own
inherits-own s n a c (near b e f) = (b, first-declared s c.bases b e, own_in n b.own a f)
inherits-own s n a c (far b e f i) = inherits-own s n a b i

-- where no domain is named, an attribute's step is the reading at the base's type
passes-reads : (s : State) (a b : Attribute) (v w : Value) → is_domain a.use_of ≡ false → Passes s a b v w
    → reading (ty_of b.use_of) v ≡ some w
passes-reads s a b v w h (straight i e) = e
passes-reads s a b v w h (through d e i j c) = go a.use_of h i
  where
    go : {A : Type 0} (u : Use) → is_domain u ≡ false → domain_in s u ≡ some d → A
    go (inline x) k i = apart (sym i)
    go (of_domain l bs) k i = never (sym k)
    go (of_structure l bs) k i = apart (sym i)

-- ---- a state that is fair and reads legally
module _ (t : List ℕ) (s : State) (h : FairState t s) (k : All Typed (known s.decls)) (e : EveryReading s) where
  fair-def : (d : Def) → Declared s d → FairDef t (length (records s)) d
  fair-def d i = in_all (FairDef t (length (records s))) h.defs i

  declared-ranged : (d : Def) → Declared s d → Ranged t d.type
  declared-ranged d i = def-ranged t (length (records s)) d (fair-def d i) (in_all Typed k i)

  own-ranged : (d : Def) → Declared s d → (a : Attribute) → In a d.own → Ranged t (ty_of a.use_of)
  own-ranged d i a j = use-ranged t a.use_of (in_all (FairAttribute t (length (records s)))
      (fair-def d i).attributes (in-append d.own d.inherited j)).used

  read-domains : (d b : Def) → Declared s d → base_of s d ≡ some b → ReadBy d.type b.type
  read-domains d b i f =
      read_by t d.type b.type (declared-ranged d i) (declared-ranged b (first-declared s d.bases b f))
      (λ v l. (e.domains d i v l d v S.Climbs.start).onward b f)

  read-attributes : (a b : Attribute) → Nearest s a b → is_domain a.use_of ≡ false
      → ReadBy (ty_of a.use_of) (ty_of b.use_of)
  read-attributes a b n o =
      let (d, i, j) = inherits-own s a.name.bytes b n.class n.inherits in
      read_by t (ty_of a.use_of) (ty_of b.use_of) (own-ranged n.class n.declared a n.own)
      (own-ranged d i b j) straightly
    where
      straightly : Reads (ty_of a.use_of) (ty_of b.use_of)
      straightly v l =
          let (w, p, q) = (e.attributes n.class n.declared a n.own v l a v S.Rises.start).onward b n in
          (w, passes-reads s a b v w o p, q)

  pub numbers-read : NumbersRead s
  numbers-read = record { domains = read-domains; attributes = read-attributes }
