-- What holds of every element of a list, or of what may be there.
use mathlib.Core.Path.{◌≡◌, subst}
use mathlib.Core.Bool.{Bool, true, false, cond}
use mathlib.Core.Option.{Option, none, some}
use mathlib.Core.List.{List, [], ◌∷◌, ◌++◌}
use Prim.Native.Nat.{ℕ}
use native.Mathlib.Omega.{arith}
use Rattle.rules.specs.Bytes.{same}
use Rattle.rules.specs.Grammar as G
use Rattle.rules.specs.Grammar.{Reference}
use Rattle.rules.specs.Declarations.{Attribute, Def, is_sort, topic, attribute_at, State, known, lookup, at_home}
use Rattle.rules.specs.Declarations.{in_topic_of, resolve}
use Rattle.rules.specs.Judge.{resolved}
use Rattle.rules.specs.All.{All, AnyIs, In, first, later}

pub apart : {A B : Type 0} {a : A} → some a ≡ none → B
apart e = let z : ◌≡◌ {A = ℕ} 0 1 = cc in absurd (omega arith)

pub all_map : {A : Type 0} {P Q : A → Type 0} → ((a : A) → P a → Q a) → (l : List A) → All P l → All Q l
all_map f [] h = tt
all_map f (a ∷ l) h = (f a h.0, all_map f l h.1)

pub all_append : {A : Type 0} (P : A → Type 0) (l m : List A) → All P l → All P m → All P (l ++ m)
all_append P [] m h k = k
all_append P (a ∷ l) m h k = (h.0, all_append P l m h.1 k)

pub all_left : {A : Type 0} (P : A → Type 0) (l m : List A) → All P (l ++ m) → All P l
all_left P [] m h = tt
all_left P (a ∷ l) m h = (h.0, all_left P l m h.1)

pub all_right : {A : Type 0} (P : A → Type 0) (l m : List A) → All P (l ++ m) → All P m
all_right P [] m h = h
all_right P (a ∷ l) m h = all_right P l m h.1

pub any-map : {A : Type 0} {P Q : A → Type 0} → ((a : A) → P a → Q a) → (o : Option A) → AnyIs P o → AnyIs Q o
any-map f none h = tt
any-map f (some a) h = f a h

pub any-is : {A : Type 0} (P : A → Type 0) (o : Option A) (a : A) → AnyIs P o → o ≡ some a → P a
any-is P o a h e = subst (AnyIs P) e h

pub any-cond : {A : Type 0} (P : A → Type 0) (t : Bool) (x y : Option A) → AnyIs P x → AnyIs P y → AnyIs P (cond t x y)
any-cond P true x y h k = h
any-cond P false x y h k = k

-- ---- what is found
pub any-lookup : (P : Def → Type 0) (p : Def → Bool) (l : List Def) → All P l → AnyIs P (lookup p l)
any-lookup P p [] h = tt
any-lookup P p (d ∷ l) h = any-cond P (p d) (some d) (lookup p l) h.0 (any-lookup P p l h.1)

pub any-attribute : (P : Attribute → Type 0) (n : List ℕ) (l : List Attribute) → All P l → AnyIs P (attribute_at n l)
any-attribute P n [] h = tt
any-attribute P n (a ∷ l) h =
    any-cond P (same n a.name.bytes) (some a) (attribute_at n l) h.0 (any-attribute P n l h.1)

pub all-attribute : (P : Attribute → Type 0) (n : List ℕ) (l : List Attribute) (a : Attribute) → All P l
    → attribute_at n l ≡ some a → P a
all-attribute P n l a h e = any-is P (attribute_at n l) a (any-attribute P n l h) e

pub any-if : {A : Type 0} (P : A → Type 0) (t : Bool) (x : Option A) → AnyIs P x → AnyIs P (cond t x none)
any-if P t x h = any-cond P t x none h tt

-- ---- what a reference leads to
module _ (P : Def → Type 0) (s : State) (h : All P (known s.decls)) where
  any-topic : (n : List ℕ) (o : Option Def) → AnyIs P (in_topic_of s n o)
  any-topic n none = tt
  any-topic n (some d) =
      any-if P (is_sort topic d.sort) (at_home s (some d.number) n) (any-lookup P _ (known s.decls) h)

  pub any-resolve : (r : Reference) → AnyIs P (resolve s r)
  any-resolve (G.bare n) = any-lookup P _ (known s.decls) h
  any-resolve (G.in_model m n) =
      any-if P (same m.bytes s.model.bytes) (at_home s none n.bytes) (any-lookup P _ (known s.decls) h)
  any-resolve (G.in_topic m p n) =
      any-if P (same m.bytes s.model.bytes) (in_topic_of s n.bytes (at_home s none p.bytes))
      (any-topic n.bytes (at_home s none p.bytes))

  pub any-resolved : (b : Option Reference) → AnyIs P (resolved s b)
  any-resolved none = tt
  any-resolved (some r) = any-resolve r

-- ---- members
pub in-append : {A : Type 0} {a : A} (l m : List A) → In a l → In a (l ++ m)
in-append {A = A} {a = a} [] m h = elim h [ ]
in-append (b ∷ l) m first = first
in-append (b ∷ l) m (later h) = later (in-append l m h)

pub all_in_lem : {A : Type 0} (l : List A) → All (λ (a : A). In a l) l
all_in_lem [] = tt
all_in_lem (a ∷ l) = (first, all_map (λ b h. later h) l (all_in_lem l))
