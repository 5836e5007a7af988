-- What the code has read tells which unit of the rules it is.
use mathlib.Core.Path.{◌≡◌, sym, subst}
use mathlib.Core.Bool.{Bool}
use mathlib.Core.Option.{Option, none, some}
use mathlib.Core.List.{List}
use Prim.Native.Nat.{ℕ}
use Rattle.rules.specs.Names as R
use Rattle.rules.specs.Names.{Sort}
use Rattle.rules.specs.Symbols as S
use Rattle.rules.specs.Grammar as G
use Rattle.rules.specs.Units as U
use Rattle.rules.specs.Units.{class_sort}
use Rattle.rules.specs.Declarations.{State}
use Rattle.ground.specs.declared.Name.{Name}
use Rattle.units.specs.declared.ModelHead.{ModelHead}
use Rattle.units.specs.declared.Head.{Head}
use Rattle.units.specs.declared.DomainUnit.{DomainUnit}
use Rattle.units.specs.declared.AttributeUnit.{AttributeUnit}
use Rattle.units.specs.declared.Unit as code
use Rattle.units.specs.declared.Unit.TheVariants.{Header, Model, Topic, Class, Domain, Attribute, Measure}
use Rattle.units.specs.declared.Unit.TheVariants.{Close, Mark}
use Rattle.state.specs.Keeping.{Comes}
use Rattle.judge.specs.Judging.{ComesAny}

-- the units that come, by cases
data Case (t : List ℕ) (s : State) (rs : List ℕ) : Option U.Unit → code.Unit → Type 0 where
  header : {v : S.Symbol} {n : Name} → Comes t s (U.header v) (Header n) rs → Case t s rs (some (U.header v)) (Header n)
  model : {n : R.Name} {q : U.Strings} {h : ModelHead} → Comes t s (U.model n q) (Model h) rs
      → Case t s rs (some (U.model n q)) (Model h)
  topic : {n : R.Name} {m : Name} → Comes t s (U.topic n) (Topic m) rs → Case t s rs (some (U.topic n)) (Topic m)
  class : (k : Bool) {n : R.Name} {p : List (List ℕ)} {b : Option G.Reference} {h : Head} → Comes t s
      (U.class (class_sort k) n p b) (Class h) rs → Case t s rs (some (U.class (class_sort k) n p b)) (Class h)
  domain : {n : R.Name} {p : List (List ℕ)} {b : Option G.Reference} {w : G.Written} {d : DomainUnit}
      → Comes t s (U.domain n p b w) (Domain d) rs → Case t s rs (some (U.domain n p b w)) (Domain d)
  attribute : {n : R.Name} {p : List (List ℕ)} {w : G.Written} {a : AttributeUnit}
      → Comes t s (U.attribute n p w) (Attribute a) rs → Case t s rs (some (U.attribute n p w)) (Attribute a)
  measure : {n : R.Name} {p : List (List ℕ)} {b : Option G.Reference} {h : Head}
      → Comes t s (U.unit n p b) (Measure h) rs
      → Case t s rs (some (U.unit n p b)) (Measure h)
  close : {n : R.Name} {m : Name} → Comes t s (U.close n) (Close m) rs → Case t s rs (some (U.close n)) (Close m)
  mark : Case t s rs none Mark

module _ {t : List ℕ} {s : State} {rs : List ℕ} where
  comes-as : {v : U.Unit} {u : code.Unit} (w : code.Unit) → u ≡ w → Comes t s v u rs → Comes t s v w rs
  comes-as {v} w e c = subst (λ (x : code.Unit). Comes t s v x rs) e c

  is-case : (v : Option U.Unit) {u : code.Unit} (w : code.Unit) → u ≡ w → Case t s rs v w → Case t s rs v u
  is-case v w e c = subst (λ (x : code.Unit). Case t s rs v x) (sym e) c

  cases : (v : Option U.Unit) (u : code.Unit) → ComesAny t s v u rs → Case t s rs v u
  cases none u c = is-case none Mark c mark
  cases (some (U.header v)) u c = is-case _ _ c.is (header (comes-as _ c.is c))
  cases (some (U.model n q)) u c = is-case _ _ c.is.1 (model (comes-as _ c.is.1 c))
  cases (some (U.topic n)) u c = is-case _ _ c.is (topic (comes-as _ c.is c))
  cases (some (U.class d n p b)) u c =
      let (k, e, f) = c.is in
      of-sort k e f (subst (λ (x : Sort). Comes t s (U.class x n p b) u rs) e c)
    where
      of-sort : (k : Bool) → d ≡ class_sort k → {h : Head} → u ≡ Class h
          → Comes t s (U.class (class_sort k) n p b) u rs → Case t s rs (some (U.class d n p b)) u
      of-sort k e f x = subst (λ (y : Sort). Case t s rs (some (U.class y n p b)) u) (sym e)
          (is-case _ _ f (class k (comes-as _ f x)))
  cases (some (U.domain n p b w)) u c = is-case _ _ c.is.0 (domain (comes-as _ c.is.0 c))
  cases (some (U.attribute n p w)) u c = is-case _ _ c.is.0 (attribute (comes-as _ c.is.0 c))
  cases (some (U.unit n p b)) u c = is-case _ _ c.is (measure (comes-as _ c.is c))
  cases (some (U.close n)) u c = is-case _ _ c.is (close (comes-as _ c.is c))

  -- ---- what the code has read is of the unit that came
  module _ (v : Option U.Unit) {u : code.Unit} (c : ComesAny t s v u rs) where
    at : (w : code.Unit) → u ≡ w → Case t s rs v w
    at w e = subst (λ (x : code.Unit). Case t s rs v x) e (cases v u c)

    pub a-model : {d : ModelHead} → u ≡ Model d → (n : R.Name) × (q : U.Strings) × Comes t s (U.model n q) (Model d) rs
    a-model {d} e = go v (at (Model d) e)
      where
        go : (v : Option U.Unit) → Case t s rs v (Model d)
            → (n : R.Name) × (q : U.Strings) × Comes t s (U.model n q) (Model d) rs
        go v (model {n} {q} h) = (n, q, h)

    pub a-topic : {m : Name} → u ≡ Topic m → (n : R.Name) × Comes t s (U.topic n) (Topic m) rs
    a-topic {m} e = go v (at (Topic m) e)
      where
        go : (v : Option U.Unit) → Case t s rs v (Topic m) → (n : R.Name) × Comes t s (U.topic n) (Topic m) rs
        go v (topic {n} h) = (n, h)

    pub a-class : {d : Head} → u ≡ Class d → (k : Bool) × (n : R.Name) × (p : List (List ℕ))
        × (b : Option G.Reference) × Comes t s (U.class (class_sort k) n p b) (Class d) rs
    a-class {d} e = go v (at (Class d) e)
      where
        go : (v : Option U.Unit) → Case t s rs v (Class d) → (k : Bool) × (n : R.Name) × (p : List (List ℕ))
            × (b : Option G.Reference) × Comes t s (U.class (class_sort k) n p b) (Class d) rs
        go v (class k {n} {p} {b} h) = (k, n, p, b, h)

    pub a-domain : {d : DomainUnit} → u ≡ Domain d → (n : R.Name) × (p : List (List ℕ)) × (b : Option G.Reference)
        × (w : G.Written) × Comes t s (U.domain n p b w) (Domain d) rs
    a-domain {d} e = go v (at (Domain d) e)
      where
        go : (v : Option U.Unit) → Case t s rs v (Domain d) → (n : R.Name) × (p : List (List ℕ))
            × (b : Option G.Reference) × (w : G.Written) × Comes t s (U.domain n p b w) (Domain d) rs
        go v (domain {n} {p} {b} {w} h) = (n, p, b, w, h)

    pub an-attribute : {a : AttributeUnit} → u ≡ Attribute a
        → (n : R.Name) × (p : List (List ℕ)) × (w : G.Written) × Comes t s (U.attribute n p w) (Attribute a) rs
    an-attribute {a} e = go v (at (Attribute a) e)
      where
        go : (v : Option U.Unit) → Case t s rs v (Attribute a)
            → (n : R.Name) × (p : List (List ℕ)) × (w : G.Written) × Comes t s (U.attribute n p w) (Attribute a) rs
        go v (attribute {n} {p} {w} h) = (n, p, w, h)

    pub a-measure : {d : Head} → u ≡ Measure d
        → (n : R.Name) × (p : List (List ℕ)) × (b : Option G.Reference) × Comes t s (U.unit n p b) (Measure d) rs
    a-measure {d} e = go v (at (Measure d) e)
      where
        go : (v : Option U.Unit) → Case t s rs v (Measure d)
            → (n : R.Name) × (p : List (List ℕ)) × (b : Option G.Reference) × Comes t s (U.unit n p b) (Measure d) rs
        go v (measure {n} {p} {b} h) = (n, p, b, h)

    pub a-close : {m : Name} → u ≡ Close m → (n : R.Name) × Comes t s (U.close n) (Close m) rs
    a-close {m} e = go v (at (Close m) e)
      where
        go : (v : Option U.Unit) → Case t s rs v (Close m) → (n : R.Name) × Comes t s (U.close n) (Close m) rs
        go v (close {n} h) = (n, h)

  -- ---- and what holds of that unit holds of the one that came
  module _ (P : Option U.Unit → Type 0) (v : Option U.Unit) {u : code.Unit} (c : ComesAny t s v u rs) where
    pub by-model : {d : ModelHead} → u ≡ Model d
        → ((n : R.Name) (q : U.Strings) → Comes t s (U.model n q) (Model d) rs → P (some (U.model n q))) → P v
    by-model {d} e f = go v (at v c (Model d) e)
      where
        go : (v : Option U.Unit) → Case t s rs v (Model d) → P v
        go v (model {n} {q} h) = f n q h

    pub by-topic : {m : Name} → u ≡ Topic m
        → ((n : R.Name) → Comes t s (U.topic n) (Topic m) rs → P (some (U.topic n))) → P v
    by-topic {m} e f = go v (at v c (Topic m) e)
      where
        go : (v : Option U.Unit) → Case t s rs v (Topic m) → P v
        go v (topic {n} h) = f n h

    pub by-domain : {d : DomainUnit} → u ≡ Domain d
        → ((n : R.Name) (p : List (List ℕ)) (b : Option G.Reference) (w : G.Written)
        → Comes t s (U.domain n p b w) (Domain d) rs → P (some (U.domain n p b w))) → P v
    by-domain {d} e f = go v (at v c (Domain d) e)
      where
        go : (v : Option U.Unit) → Case t s rs v (Domain d) → P v
        go v (domain {n} {p} {b} {w} h) = f n p b w h

    pub by-measure : {d : Head} → u ≡ Measure d
        → ((n : R.Name) (p : List (List ℕ)) (b : Option G.Reference) → Comes t s (U.unit n p b) (Measure d) rs
        → P (some (U.unit n p b))) → P v
    by-measure {d} e f = go v (at v c (Measure d) e)
      where
        go : (v : Option U.Unit) → Case t s rs v (Measure d) → P v
        go v (measure {n} {p} {b} h) = f n p b h

    pub by-close : {m : Name} → u ≡ Close m
        → ((n : R.Name) → Comes t s (U.close n) (Close m) rs → P (some (U.close n))) → P v
    by-close {m} e f = go v (at v c (Close m) e)
      where
        go : (v : Option U.Unit) → Case t s rs v (Close m) → P v
        go v (close {n} h) = f n h
