-- The number of a definition or an attribute is the count of records before its own.
use mathlib.Core.Path.{◌≡◌, refl, sym, ap, ◌∙◌, subst}
use mathlib.Core.Bool.{Bool, true, false}
use mathlib.Core.Option.{Option, none, some}
use mathlib.Core.List.{List, [], ◌∷◌, ◌++◌, append_assoc}
use Prim.Native.Nat.{ℕ, suc, ◌+◌}
use native.Mathlib.Omega.{arith}
use lib.ListN.{length, length-append}
use Rattle.rules.proofs.GrowLaws.{closed-records, open-records}
use Rattle.rules.specs.Names.{Name}
use Rattle.rules.specs.Grammar.{Written}
use Rattle.rules.specs.Units as U
use Rattle.rules.specs.Declarations as D
use Rattle.rules.specs.Declarations.{Attribute, Sort, Def, Decl, def, State, known}
use Rattle.rules.specs.Book.{Record, decl_records, decls_records, head_records, end_records, def_record}
use Rattle.rules.specs.Book.{attribute_records}
use Rattle.rules.specs.Book.{attributes_records, open_records}
use Rattle.rules.specs.Check.{Given}
use Rattle.rules.specs.Judge.{resolved, reference_in, declare, new_topic, new_class, new_domain, new_attribute}
use Rattle.rules.specs.Judge.{with_attribute, inherited_as, after_member, after_close, rules_of, next_state}
use Rattle.rules.specs.All.{All, AnyIs, In, first, later, Unbroken}
use Rattle.rules.proofs.AllLaws.{any-is}
use Rattle.rules.proofs.Tests.{never}
use Rattle.claims.specs.Steps.{Declared, StandsAt, RecordNumbers}
use Rattle.claims.proofs.UnitLaws.{Moves, is_class}
use Rattle.claims.proofs.JudgeLaws.{is_open}
use Rattle.claims.proofs.RunLaws.{Invariant, Ended, reached-keeps}

-- ---- attributes from the record number n on
abbrev Placed : ℕ → List Attribute → Type 0
Placed n [] = Unit
Placed n (a ∷ l) = (a.number ≡ n) × Placed (n + length (attribute_records a)) l

placed-append : (n : ℕ) (l : List Attribute) (a : Attribute) → Placed n l
    → a.number ≡ n + length (attributes_records l) → Placed n (l ++ (a ∷ []))
placed-append n [] a h e = (omega arith, tt)
placed-append n (b ∷ l) a h e =
    let x = length-append (attribute_records b) (attributes_records l) in
    (h.0, placed-append (n + length (attribute_records b)) l a h.1 (omega arith))

-- a class or structure has its attributes behind its head; nothing else has any
abbrev Own : Sort → ℕ → List Attribute → Type 0
Own D.topic n l = l ≡ []
Own D.class n l = Placed n l
Own D.struct n l = Placed n l
Own D.domain n l = l ≡ []
Own D.unit n l = l ≡ []

record DefAt (n : ℕ) (d : Def) : Type 0 where
  number : d.number ≡ n
  own : Own d.sort (suc n) d.own

abbrev At : ℕ → Decl → Type 0
At n (D.model x) = Unit
At n (D.def d) = DefAt n d
At n (D.end_topic x) = Unit

abbrev Laid : ℕ → List Decl → Type 0
Laid n [] = Unit
Laid n (x ∷ l) = At n x × Laid (n + length (decl_records x)) l

laid-append : (n : ℕ) (l : List Decl) (x : Decl) → Laid n l
    → At (n + length (decls_records l)) x → Laid n (l ++ (x ∷ []))
laid-append n [] x h k = let e : n + 0 ≡ n = omega arith in (subst (λ (j : ℕ). At j x) e k, tt)
laid-append n (y ∷ l) x h k =
    let q = length-append (decl_records y) (decls_records l) in
    let e : n + length (decls_records (y ∷ l))
    ≡ (n + length (decl_records y)) + length (decls_records l) = omega arith in
    (h.0, laid-append (n + length (decl_records y)) l x h.1 (subst (λ (j : ℕ). At j x) e k))

-- the open class is a class or a structure
record OpenAt (n : ℕ) (c : Def) : Type 0 where
  def_at : DefAt n c
  sort : is_class c.sort ≡ true

record InOrder (s : State) : Type 0 where
  laid : Laid 0 s.decls
  opened : AnyIs (OpenAt (length (decls_records s.decls))) s.open_class

-- ---- each unit keeps the order
declared-laid : (s : State) → InOrder s → (x : Decl) → At (length (decls_records s.decls)) x → InOrder (declare s x)
declared-laid s h x k =
    let e : length (decls_records s.decls) ≡ 0 + length (decls_records s.decls) = omega arith in
    record { laid = laid-append 0 s.decls x h.laid (subst (λ (j : ℕ). At j x) e k); opened = tt }

own-append : (x : Sort) (n : ℕ) (l : List Attribute) (a : Attribute) → is_class x ≡ true → Own x n l
    → a.number ≡ n + length (attributes_records l)
    → Own x n (l ++ (a ∷ []))
own-append D.topic n l a z h e = never z
own-append D.class n l a z h e = placed-append n l a h e
own-append D.struct n l a z h e = placed-append n l a h e
own-append D.domain n l a z h e = never z
own-append D.unit n l a z h e = never z

head-length : (x : Sort) (c : Def) → is_class x ≡ true
    → length (head_records x c) ≡ suc (length (attributes_records c.own))
head-length D.topic c z = never z
head-length D.class c z = refl
head-length D.struct c z = refl
head-length D.domain c z = never z
head-length D.unit c z = never z

new-domain-at : (s : State) (n : Name) (p : List (List ℕ)) (w : Written) (o g : Option Def) → is_open s ≡ false →
    DefAt (length (decls_records s.decls)) (new_domain s n p w o g)
unfolding new_domain
new-domain-at s n p w o g c = record { number = closed-records s c; own = refl }

new-topic-at : (s : State) (n : Name) → is_open s ≡ false → DefAt (length (decls_records s.decls)) (new_topic s n)
unfolding new_topic
new-topic-at s n c = record { number = closed-records s c; own = refl }

new-class-at : (s : State) (x : Sort) (n : Name) (p : List (List ℕ)) (o : Option Def)
    → is_open s ≡ false → is_class x ≡ true
    → OpenAt (length (decls_records s.decls)) (new_class s x n p o)
unfolding new_class
new-class-at s D.topic n p o c z = never z
new-class-at s D.class n p o c z = record { def_at = record { number = closed-records s c; own = tt }; sort = refl }
new-class-at s D.struct n p o c z = record { def_at = record { number = closed-records s c; own = tt }; sort = refl }
new-class-at s D.domain n p o c z = never z
new-class-at s D.unit n p o c z = never z

new-unit-at : (s : State) (n : Name) (p : List (List ℕ)) (o : Option Def) → is_open s ≡ false
    → DefAt (length (decls_records s.decls)) (new_class s D.unit n p o)
unfolding new_class
new-unit-at s n p o c = record { number = closed-records s c; own = refl }

with-attribute-at : (k : ℕ) (c : Def) (a : Attribute) → OpenAt k c
    → a.number ≡ suc k + length (attributes_records c.own)
    → OpenAt k (with_attribute c a)
unfolding with_attribute
with-attribute-at k c a h e = record {
  def_at = record {
    number = h.def_at.number;
    own = own-append c.sort (suc k) c.own a h.sort h.def_at.own e;
  };
  sort = h.sort;
}

new-attribute-number : (s : State) (c : Def) (n : Name) (p : List (List ℕ)) (w : Written)
    (o : Option Attribute) (g : Option Def)
    → s.open_class ≡ some c → is_class c.sort ≡ true →
    (new_attribute s n p w o g).number ≡ suc (length (decls_records s.decls)) + length (attributes_records c.own)
unfolding new_attribute
new-attribute-number s c n p w o g e z = let a = open-records s c e in let b = head-length c.sort c z in omega arith

open_at : (s : State) → InOrder s → (c : Def) → s.open_class ≡ some c → OpenAt (length (decls_records s.decls)) c
open_at s h c e = any-is (OpenAt (length (decls_records s.decls))) s.open_class c h.opened e

member-order : (s : State) (n : Name) (p : List (List ℕ)) (w : Written) → InOrder s
    → (o : Option Def) → s.open_class ≡ o
    → InOrder (after_member s n p w o)
member-order s n p w h none e = h
member-order s n p w h (some c) e =
    let o = inherited_as c n in
    let g = resolved s (reference_in w.type) in
    let z = open_at s h c e in
    record {
      laid = h.laid;
      opened = with-attribute-at _ c (new_attribute s n p w o g) z (new-attribute-number s c n p w o g e z.sort);
    }

close-order : (s : State) → InOrder s → (o : Option Def) → s.open_class ≡ o
    → (t : Option Def) → InOrder (after_close s o t)
close-order s h (some c) e t = declared-laid s h (def c) (open_at s h c e).def_at
close-order s h none e (some t) = record { laid = (declared-laid s h (D.end_topic t.name) tt).laid; opened = tt }
close-order s h none e none = h

next-order : (s : State) (u : U.Unit) (b : Bool) → InOrder s → Moves (is_open s) (some u) b
    → All Unbroken (rules_of s u) → InOrder (next_state s u)
next-order s (U.header v) b h m q = h
next-order s (U.model n x) b h m q = record { laid = (tt, tt); opened = tt }
next-order s (U.topic n) b h m q = record {
  laid = (declared-laid s h (def (new_topic s n)) (new-topic-at s n m.0)).laid;
  opened = tt;
}
next-order s (U.class c n p r) b h m q = record {
  laid = h.laid;
  opened = new-class-at s c n p (resolved s r) m.0 m.2;
}
next-order s (U.domain n p r w) b h m q =
    let g = resolved s (reference_in w.type) in
    declared-laid s h (def (new_domain s n p w (resolved s r) g)) (new-domain-at s n p w (resolved s r) g m.0)
next-order s (U.attribute n p w) b h m q = member-order s n p w h s.open_class refl
next-order s (U.unit n p r) b h m q =
    declared-laid s h (def (new_class s D.unit n p (resolved s r))) (new-unit-at s n p (resolved s r) m.0)
next-order s (U.close n) b h m q = close-order s h s.open_class refl s.topic

order : Invariant InOrder
order = record { begins = record { laid = tt; opened = tt }; goes = next-order }

-- ---- so each is found there
record Within (all : List Record) (n k : ℕ) (l : List Record) : Type 0 where
  before : List Record
  behind : List Record
  split : all ≡ before ++ (l ++ behind)
  count : n + length before ≡ k

-- behind what stands before it
behind_more : (x all : List Record) (n k : ℕ) (l : List Record)
    → Within all (n + length x) k l → Within (x ++ all) n k l
behind_more x all n k l h = record {
  before = x ++ h.before;
  behind = h.behind;
  split = ap (λ (z : List Record). x ++ z) h.split ∙ sym (append_assoc x h.before (l ++ h.behind));
  count = let e = length-append x h.before in let c = h.count in omega arith;
}

-- and before what stands behind it
before_more : (x all : List Record) (n k : ℕ) (l : List Record) → Within all n k l → Within (all ++ x) n k l
before_more x all n k l h = record {
  before = h.before;
  behind = h.behind ++ x;
  split = rw h.split (simp append_assoc);
  count = h.count;
}

here : (l more : List Record) (n k : ℕ) → k ≡ n → Within (l ++ more) n k l
here l more n k e = record { before = []; behind = more; split = refl; count = omega arith }

placed-in : (n : ℕ) (l : List Attribute) → Placed n l → {a : Attribute} → In a l
    → Within (attributes_records l) n a.number (attribute_records a)
placed-in n [] h i = elim i [ ]
placed-in n (b ∷ l) h first = here (attribute_records b) (attributes_records l) n b.number h.0
placed-in n (b ∷ l) h {a} (later i) = behind_more (attribute_records b) (attributes_records l) n a.number
    (attribute_records a) (placed-in (n + length (attribute_records b)) l h.1 i)

nested : (all l m : List Record) (n j k : ℕ) → Within all n j l → Within l j k m → Within all n k m
nested all l m n j k h i = record {
  before = h.before ++ i.before;
  behind = i.behind ++ h.behind;
  split = h.split ∙ rw i.split (simp append_assoc);
  count = let e = length-append h.before i.before in let c = h.count in let d = i.count in omega arith;
}

headed : (r : Record) (c : Def) (n : ℕ) → Placed (suc n) c.own → {a : Attribute}
    → In a c.own → (end : List Record)
    → Within (r ∷ (attributes_records c.own ++ end)) n a.number (attribute_records a)
headed r c n h {a} i end =
    let e : suc n ≡ n + length (r ∷ []) = omega arith in
    behind_more (r ∷ []) (attributes_records c.own ++ end) n a.number (attribute_records a)
    (subst (λ (j : ℕ). Within (attributes_records c.own ++ end) j a.number (attribute_records a)) e (before_more end
    (attributes_records c.own) (suc n) a.number (attribute_records a) (placed-in (suc n) c.own h i)))

in-none : {A B : Type 0} {a : A} {l : List A} → l ≡ [] → In a l → B
in-none e first = let z : ◌≡◌ {A = ℕ} 0 1 = cc in absurd (omega arith)
in-none e (later i) = let z : ◌≡◌ {A = ℕ} 0 1 = cc in absurd (omega arith)

own_in : (x : Sort) (c : Def) (n : ℕ) → Own x (suc n) c.own → {a : Attribute} → In a c.own →
    Within (head_records x c ++ end_records x) n a.number (attribute_records a)
own_in D.topic c n h i = in-none h i
own_in D.class c n h i = headed (def_record 4 c) c n h i (end_records D.class)
own_in D.struct c n h i = headed (def_record 5 c) c n h i (end_records D.struct)
own_in D.domain c n h i = in-none h i
own_in D.unit c n h i = in-none h i

record Found (l : List Decl) (n : ℕ) (d : Def) : Type 0 where
  at : ℕ
  def_at : DefAt at d
  within : Within (decls_records l) n at (decl_records (def d))

found-more : (x : Decl) (l : List Decl) (n : ℕ) (d : Def) → Found l (n + length (decl_records x)) d → Found (x ∷ l) n d
found-more x l n d h = record {
  at = h.at;
  def_at = h.def_at;
  within = behind_more (decl_records x) (decls_records l) n h.at (decl_records (def d)) h.within;
}

laid_in : (n : ℕ) (l : List Decl) → Laid n l → {d : Def} → In d (known l) → Found l n d
laid_in n [] h i = elim i [ ]
laid_in n (D.model x ∷ l) h {d} i = found-more (D.model x) l n d (laid_in (n + 1) l h.1 i)
laid_in n (D.def e ∷ l) h first = record {
  at = n;
  def_at = h.0;
  within = here (decl_records (def e)) (decls_records l) n n refl;
}
laid_in n (D.def e ∷ l) h {d} (later i) =
    found-more (def e) l n d (laid_in (n + length (decl_records (def e))) l h.1 i)
laid_in n (D.end_topic x ∷ l) h {d} i = found-more (D.end_topic x) l n d (laid_in (n + 1) l h.1 i)

module _ (s : State) (h : InOrder s) where
  stands : (k : ℕ) (l : List Record) → Within (decls_records s.decls) 0 k l → StandsAt s k l
  stands k l w =
      let z = before_more (open_records s.open_class) (decls_records s.decls) 0 k l w in
      let c = z.count in
      record { before = z.before; behind = z.behind; split = z.split; count = omega arith }

  found : (d : Def) → Declared s d → Found s.decls 0 d
  found d i = laid_in 0 s.decls h.laid i

  definition-stands : (d : Def) → Declared s d → StandsAt s d.number (decl_records (def d))
  definition-stands d i =
      let f = found d i in
      stands d.number (decl_records (def d)) (subst
      (λ (j : ℕ). Within (decls_records s.decls) 0 j (decl_records (def d))) (sym f.def_at.number) f.within)

  attribute-stands : (c : Def) → Declared s c → (a : Attribute) → In a c.own
      → StandsAt s a.number (attribute_records a)
  attribute-stands c i a j =
      let f = found c i in
      stands a.number (attribute_records a) (nested (decls_records s.decls) (decl_records (def c))
      (attribute_records a) 0 f.at a.number f.within (own_in c.sort c f.at f.def_at.own j))

pub record-numbers : (t : List ℕ) (g : Given) (s : State) → Ended t g s → RecordNumbers s
record-numbers t g s h =
    let i = reached-keeps t g InOrder order h.reaches in
    record { definition = definition-stands s i; attribute = attribute-stands s i }
