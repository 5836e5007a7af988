-- What holds of every state that the units lead to: the values of each definition read at its base, those of each
-- attribute at its own.
use mathlib.Core.Path.{◌≡◌, refl, sym, ap, ◌∙◌, subst}
use mathlib.Core.Bool.{Bool, true, false, cond}
use mathlib.Core.Option.{Option, none, some}
use mathlib.Core.List.{List, [], ◌∷◌, ◌++◌}
use Prim.Native.Nat.{ℕ, ◌≤◌, ◌<◌}
use native.Mathlib.Omega.{arith}
use lib.ListN.{length}
use lib.Dec.{eqb}
use borrow.Author.Tests.{eqb-true, eq-eqb}
use Rattle.rules.specs.Types.{Ty}
use Rattle.rules.specs.Declarations.{Link, Use, inline, of_domain, of_structure, ty_of, Attribute, Def, link_of}
use Rattle.rules.specs.Declarations.{attributes_of, attribute_at, is_found, Sort, is_sort, domain, State, known, lookup}
use Rattle.rules.specs.Book.{records}
use Rattle.rules.specs.Judge.{or_no_def, base_of_attribute, may_extend, naming, descends}
use Rattle.rules.specs.All.{All, AnyIs, In, first, later}
use Rattle.rules.proofs.AllLaws.{all_map, all_append}
use Rattle.claims.specs.Readings.{proper, Inside}

-- a member has what all have
pub in_all : {A : Type 0} (P : A → Type 0) {a : A} {l : List A} → All P l → In a l → P a
in_all P h first = h.0
in_all P h (later k) = in_all P h.1 k

-- and a member of a list is one of every longer list
pub in_right : {A : Type 0} {a : A} (l : List A) {m : List A} → In a m → In a (l ++ m)
in_right [] i = i
in_right (b ∷ l) i = later (in_right l i)

-- ---- a definition is found again by its number
abbrev pub has_number : ℕ → Def → Bool
has_number k d = eqb d.number k

-- the link is a definition's, with its bases
abbrev pub Linked : List Def → Link → List Link → Type 0
Linked K l bs = (d : Def) × (lookup (has_number l.number) K ≡ some d) × (link_of d ≡ l) × (d.bases ≡ bs)

-- the values of t read at the first link's type, those of that type at the next one's, and so on; each link's bases are
-- those behind it
abbrev pub Chained : List Def → Ty → List Link → Type 0
Chained K t [] = Unit
Chained K t (l ∷ bs) = Inside t l.type × Linked K l bs × Chained K l.type bs

-- ---- what is good
abbrev pub GoodUse : List Def → Use → Type 0
GoodUse K (inline t) = proper t ≡ true
GoodUse K (of_domain l bs) = (proper l.type ≡ true) × Linked K l bs × Chained K l.type bs
GoodUse K (of_structure l bs) = Unit

-- an attribute's type over its base's: its values read there, or it names a domain that is the base's or descends from
-- it
abbrev pub Over : Use → Use → Type 0
Over (inline t) b = Inside t (ty_of b)
Over (of_domain l bs) b = descends (of_domain l bs) b ≡ true
Over (of_structure l bs) b = Unit

abbrev pub GoodAttribute : List Def → Attribute → Type 0
GoodAttribute K a = GoodUse K a.use_of

abbrev pub OverBase : Use → Attribute → Type 0
OverBase u b = Over u b.use_of

-- an own attribute over what is inherited under its name
pub record GoodOwn (inherited : List Attribute) (a : Attribute) : Type 0 where
  pub extended : a.extended ≡ is_found (attribute_at a.name.bytes inherited)
  pub base : a.base ≡ base_of_attribute (attribute_at a.name.bytes inherited)
  pub over : AnyIs (OverBase a.use_of) (attribute_at a.name.bytes inherited)

abbrev pub first_def : List Def → List Link → Option Def
first_def K [] = none
first_def K (l ∷ bs) = lookup (has_number l.number) K

abbrev pub Under : Sort → Def → Type 0
Under c b = may_extend c b.sort ≡ true

pub record GoodDef (K : List Def) (d : Def) : Type 0 where
  pub proper-type : proper d.type ≡ true
  pub chained : Chained K d.type d.bases
  pub sorted : AnyIs (Under d.sort) (first_def K d.bases)
  pub bare : is_sort domain d.sort ≡ true → attributes_of d ≡ []
  pub inherits : d.inherited ≡ attributes_of (or_no_def (first_def K d.bases))
  pub own : All (GoodOwn d.inherited) d.own
  pub uses : All (GoodAttribute K) (attributes_of d)

pub record KnownDef (K : List Def) (d : Def) : Type 0 where
  pub good : GoodDef K d
  pub again : lookup (has_number d.number) K ≡ some d

-- the class that is being read: its number is above all others, below n
pub record GoodOpen (K : List Def) (n : ℕ) (c : Def) : Type 0 where
  pub good : GoodDef K c
  pub sort : is_sort domain c.sort ≡ false
  pub before : c.number < n
  pub last : All (λ (d : Def). d.number < c.number) K

pub record Good (K : List Def) (n : ℕ) (o : Option Def) : Type 0 where
  pub defs : All (KnownDef K) K
  pub before : All (λ (d : Def). d.number < n) K
  pub opened : AnyIs (GoodOpen K n) o

abbrev pub Sound : State → Type 0
Sound s = Good (known s.decls) (length (records s)) s.open_class

-- ---- it stays when definitions are appended
lookup-append : (p : Def → Bool) (K E : List Def) (d : Def) → lookup p K ≡ some d → lookup p (K ++ E) ≡ some d
lookup-append p [] E d h = cc
lookup-append p (a ∷ K) E d h = go (p a) refl (λ q. lookup-append p K E d q)
  where
    go : (t : Bool) → p a ≡ t → (lookup p K ≡ some d → lookup p (K ++ E) ≡ some d) → lookup p (a ∷ (K ++ E)) ≡ some d
    go true e ih = rw e (rw e at h)
    go false e ih = rw e (ih (rw e at h))

module _ (K E : List Def) where
  linked-more : (l : Link) (bs : List Link) → Linked K l bs → Linked (K ++ E) l bs
  linked-more l bs h = (h.0, lookup-append (has_number l.number) K E h.0 h.1, h.2, h.3)

  chained_more : (t : Ty) (bs : List Link) → Chained K t bs → Chained (K ++ E) t bs
  chained_more t [] h = tt
  chained_more t (l ∷ bs) h = (h.0, linked-more l bs h.1, chained_more l.type bs h.2)

  first_more : (t : Ty) (bs : List Link) → Chained K t bs → first_def K bs ≡ first_def (K ++ E) bs
  first_more t [] h = refl
  first_more t (l ∷ bs) h = h.1.1 ∙ sym (lookup-append (has_number l.number) K E h.1.0 h.1.1)

  use-more : (u : Use) → GoodUse K u → GoodUse (K ++ E) u
  use-more (inline t) h = h
  use-more (of_domain l bs) h = (h.0, linked-more l bs h.1, chained_more l.type bs h.2)
  use-more (of_structure l bs) h = tt

  pub def-more : (d : Def) → GoodDef K d → GoodDef (K ++ E) d
  def-more d h = record {
    proper-type = h.proper-type;
    chained = chained_more d.type d.bases h.chained;
    sorted = subst (AnyIs (Under d.sort)) (first_more d.type d.bases h.chained) h.sorted;
    bare = h.bare;
    inherits =
        h.inherits ∙ ap (λ (o : Option Def). attributes_of (or_no_def o)) (first_more d.type d.bases h.chained);
    own = h.own;
    uses = all_map (λ a k. use-more a.use_of k) (attributes_of d) h.uses;
  }

  known_more : (d : Def) → KnownDef K d → KnownDef (K ++ E) d
  known_more d h = record {
    good = def-more d h.good;
    again = lookup-append (has_number d.number) K E d h.again;
  }

-- a new number
lookup-new : (K : List Def) (e : Def) → All (λ (d : Def). d.number < e.number) K
    → lookup (has_number e.number) (K ++ (e ∷ [])) ≡ some e
lookup-new [] e h = let p : eqb e.number e.number ≡ true = eq-eqb e.number e.number refl in rw p
lookup-new (d ∷ K) e h = go (eqb d.number e.number) refl (lookup-new K e h.1)
  where
    go : (t : Bool) → eqb d.number e.number ≡ t → lookup (has_number e.number) (K ++ (e ∷ [])) ≡ some e →
        lookup (has_number e.number) (d ∷ (K ++ (e ∷ []))) ≡ some e
    go true p ih = let q = eqb-true d.number e.number p in let r = h.0 in absurd (omega arith)
    go false p ih = rw p ih

pub becomes-known : (K : List Def) (e : Def) → All (λ (d : Def). d.number < e.number) K
    → GoodDef K e → KnownDef (K ++ (e ∷ [])) e
becomes-known K e h g = record { good = def-more K (e ∷ []) e g; again = lookup-new K e h }

pub grow : (K E : List Def) (n m : ℕ) (o : Option Def) → All (KnownDef K) K → All (λ (d : Def). d.number < n) K → n ≤ m
    → All (KnownDef (K ++ E)) E → All (λ (d : Def). d.number < m) E → AnyIs (GoodOpen (K ++ E) m) o → Good (K ++ E) m o
grow K E n m o h k q g b z = record {
  defs = all_append (KnownDef (K ++ E)) K E (all_map (known_more K E) K h) g;
  before = all_append (λ (d : Def). d.number < m) K E (all_map (λ d r. omega arith) K k) b;
  opened = z;
}

pub good-naming : (K : List Def) (d : Def) → KnownDef K d → GoodUse K (naming d)
good-naming K d h = go (is_sort domain d.sort)
  where
    go : (t : Bool) → GoodUse K (cond t (of_domain (link_of d) d.bases) (of_structure (link_of d) d.bases))
    go true = (h.good.proper-type, (d, h.again, refl, refl), h.good.chained)
    go false = tt
