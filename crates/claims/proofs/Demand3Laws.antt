-- Both halves of demand 3 for `check`.
use mathlib.Core.Path.{◌≡◌, refl, sym, ap, ◌∙◌, subst}
use mathlib.Core.Logic.{◌⊎◌, inl, inr}
use mathlib.Core.Bool.{Bool, true, false, cond, not, ◌&&◌}
use mathlib.Core.Option.{Option, none, some}
use mathlib.Core.List.{List, [], ◌∷◌, ◌++◌}
use Prim.Native.Nat.{ℕ, suc, ◌≤◌, ◌<◌}
use native.Mathlib.Omega.{arith}
use lib.ListN.{length}
use lib.Dec.{ltb}
use borrow.Author.Tests.{eqb-true}
use Rattle.rules.proofs.RuleLaws.{element-nine}
use Rattle.rules.specs.Names.{Name}
use Rattle.rules.specs.Grammar as G
use Rattle.rules.specs.Grammar.{Reference, WrittenType, Written}
use Rattle.rules.specs.Units as U
use Rattle.rules.specs.Types.{Ty, kind_of, unit_of, fits, keeps_unit}
use Rattle.rules.specs.Declarations.{Use, inline, of_domain, of_structure, ty_of, Attribute, unit, Def, is_found, State}
use Rattle.rules.specs.Declarations.{known}
use Rattle.rules.specs.Book.{book}
use Rattle.rules.specs.Judge as J
use Rattle.rules.specs.Judge.{Rule, Judged, ok, refused, first_broken_or, or_no_attribute, resolved, reference_in}
use Rattle.rules.specs.Judge.{is_naming}
use Rattle.rules.specs.Judge.{descends, element_rule, type_rules, extends_rules, class_rules, domain_to_16, domain17}
use Rattle.rules.specs.Judge.{target_in, domain22, domain_rules, new_attribute, attribute_to_16, attribute17}
use Rattle.rules.specs.Judge.{attribute18}
use Rattle.rules.specs.Judge.{attribute22}
use Rattle.rules.specs.Judge.{attribute_rules, inherited_as, member_rules, open_name, judge}
use Rattle.rules.specs.Check.{Given, unit_place, capacity, room, answer_of, check}
use Rattle.rules.specs.All.{All, AnyIs, In, first, later, Unbroken}
use Rattle.rules.proofs.AllLaws.{any-is, apart}
use Rattle.rules.proofs.Tests.{never, both, split, not-both, is_false, not_is, not-false, fail-l, either-fails}
use Rattle.claims.specs.Readings.{proper, Outside, NumberOutside, UnitOutside}
use Rattle.claims.specs.Steps.{Inherits}
use Rattle.claims.specs.Ranking.{rank, RuleBroken}
use Rattle.claims.specs.Reached.{Judges}
use Rattle.claims.specs.Demand3.{type_over, use_over, AcceptedReads, Extends, Misfit, RefusedHasNumber}
use Rattle.claims.specs.Demand3.{RefusedHasUnit, RefusedThere, ValueRefuses, NumberRefuses, Demand3}
use Rattle.claims.proofs.TypeLaws.{inside, number-inside, number-outside, unit-outside, misnumbered, mismeasured}
use Rattle.claims.proofs.TypeLaws.{units-kept}
use Rattle.claims.proofs.MeasureLaws.{units-descend}
use Rattle.claims.proofs.StateLaws.{in_right, GoodUse, GoodDef, KnownDef, Sound, GoodAttribute}
use Rattle.claims.proofs.RuleLaws.{not-refused, first-broken-came, first-broken-never, first-broken-hit}
use Rattle.claims.proofs.RuleLaws.{under, under-append, under_more, Refuses, in-refuses, behind-refuses}
use Rattle.claims.proofs.JudgeLaws.{type-proper, domain-types, domain-kind, good-use, attribute-types}
use Rattle.claims.proofs.JudgeLaws.{attribute-kind, based, inherited-use, open-good}
use Rattle.claims.proofs.RunLaws.{Ended, Ending, run_ends, judged-run, reached-sound, ended-closed}
use Rattle.claims.proofs.PromiseLaws.{accepted-book}
use Rattle.claims.proofs.RankingLaws.{texts-ranked}
use Rattle.claims.proofs.RecordLaws.{record-numbers}
use Rattle.claims.proofs.MeasuredLaws.{units-declared}
use Rattle.claims.proofs.StepLaws.{every-reading, booked-bases, sorts-kept, inherits-found, found-inherits}

-- ---- the numbers of the rules before 17
element-under : (x : Option WrittenType) → ltb (rank (element_rule x).number) (rank 17) ≡ true
unfolding rank
element-under x = ap (λ (k : ℕ). ltb (rank k) (rank 17)) (element-nine x)

types-under : (b : Bool) (p : ℕ) (x : Option WrittenType) → under 17 (type_rules b p x) ≡ true
unfolding rank
types-under b p none = refl
types-under b p (some (G.text m none)) = refl
types-under b p (some (G.text m (some y))) = refl
types-under b p (some (G.numeric none r)) = refl
types-under b p (some (G.numeric (some q) r)) = refl
types-under b p (some (G.enum e)) = refl
types-under b p (some (G.named r)) = refl

kinds-under : (b : Bool) (p : ℕ) (x : Option WrittenType) (l : List Rule) → under 17 l ≡ true
    → under 17 (type_rules b p x ++ l) ≡ true
kinds-under b p x l h = under-append 17 (type_rules b p x) l (types-under b p x) h

-- 17, then 18, then 22, then 19
from-17 : rank 17 < rank 22
unfolding rank
from-17 = omega arith

to-17 : rank 18 ≡ suc (rank 17)
unfolding rank
to-17 = refl

to-22 : rank 19 ≡ suc (rank 22)
unfolding rank
to-22 = refl

-- of the rules to 16 and those behind them
rules-under : (k : ℕ) (l m : List Rule) → rank 17 ≤ rank k → under 17 l ≡ true → under k m ≡ true
    → under k (l ++ m) ≡ true
rules-under k l m e h i = under-append k l m (under_more 17 k l e h) i

-- ---- what 17 or 22 says of a unit
record Step (S : Ty → Ty → Type 0) (s : State) (u : U.Unit) : Type 0 where
  type : Ty
  base : Ty
  extends : Extends s u type base
  kind : kind_of type ≡ kind_of base
  outside : Outside type base
  shown : S type base

-- a value that shows it
abbrev Seen : (Ty → Ty → Type 0) → Ty → Ty → Type 0
Seen S t b = proper t ≡ true → kind_of t ≡ kind_of b → Outside t b × S t b

by_number : (t b : Ty) → fits t b ≡ false → Seen NumberOutside t b
by_number t b f o k = let x = misnumbered t b o k f in (number-outside t b x, x)

by-unit : (t b : Ty) → keeps_unit t b ≡ false → Seen UnitOutside t b
by-unit t b f o k = let x = mismeasured t b o k f in (unit-outside t b x, x)

-- of types that are t and b
moved : (S : Ty → Ty → Type 0) {x y : Ty} (t b : Ty) → x ≡ t → y ≡ b → S x y → S t b
moved S {x} {y} t b d e v = subst (λ (z : Ty). S t z) e (subst (λ (z : Ty). S z y) d v)

outside-fails : (t b : Ty) → Outside t b → (fits t b ≡ false) ⊎ (keeps_unit t b ≡ false)
outside-fails t b (v, p, q) =
    either-fails (is_false (λ f. not-both (inside t b (split f).0 (split {x = fits t b} f).1 v p) q))

number-fails : (t b : Ty) → NumberOutside t b → fits t b ≡ false
number-fails t b (v, p, o, q) = is_false (λ f. not-both (number-inside t b f v p) (q (unit_of b)))

-- ---- domains
module _ (s : State) (n : Name) (p : List (List ℕ)) (b : Option Reference) (w : Written) where
  abbrev domain_early : Option Def → List Rule
  domain_early o = domain_to_16 s n p b w o (target_in s w)

  abbrev number_rule : Option Def → Rule
  number_rule o = domain17 w o (target_in s w)

  abbrev unit_rule : Option Def → Rule
  unit_rule o = domain22 w o (target_in s w)

  domain-under : (o : Option Def) → under 17 (domain_early o) ≡ true
  unfolding rank domain_to_16
  domain-under o = both (element-under w.type) (kinds-under (is_found o) w.place w.type _ refl)

  domain-came-17 : (o : Option Def) (x : State) (q : ℕ)
      → first_broken_or (domain_rules s n p b w o (target_in s w)) x ≡ refused 17 q
      → All Unbroken (domain_early o) × ((number_rule o).broken ≡ true)
  unfolding domain_rules
  domain-came-17 o x q z =
      let r = first-broken-came (domain_early o) _ _ 17 q (domain-under o) z in
      (r.kept, first-broken-hit (number_rule o) (unit_rule o ∷ []) _ 17 q refl r.rest)

  domain-came-22 : (o : Option Def) (x : State) (q : ℕ)
      → first_broken_or (domain_rules s n p b w o (target_in s w)) x ≡ refused 22 q
      → All Unbroken (domain_early o) × ((unit_rule o).broken ≡ true)
  unfolding domain_rules rank
  domain-came-22 o x q z =
      let e = under_more 17 22 (domain_early o) (omega (arith, from-17)) (domain-under o) in
      let r = first-broken-came (domain_early o) (number_rule o ∷ unit_rule o ∷ []) _ 22 q e z in
      let i = first-broken-came (number_rule o ∷ []) (unit_rule o ∷ []) _ 22 q refl r.rest in
      (r.kept, first-broken-hit (unit_rule o) [] _ 22 q refl i.rest)

  domain-refuses : (o : Option Def) (x : State) (r : Rule) → In r (number_rule o ∷ unit_rule o ∷ []) → r.broken ≡ true
      → Refuses 19 (first_broken_or (domain_rules s n p b w o (target_in s w)) x)
  unfolding domain_rules rank
  domain-refuses o x r i h =
      in-refuses 19 _ x (rules-under 19 (domain_early o) _ (omega (arith, from-17, to-22)) (domain-under o) refl)
      r (in_right (domain_early o) i) h

  domain-step : (S : Ty → Ty → Type 0) (d : Def) → resolved s b ≡ some d → KnownDef (known s.decls) d
      → All Unbroken (domain_early (some d)) → Seen S (type_over s w d.type) d.type → Step S s (U.domain n p b w)
  domain-step S d e h r v =
      let t = type_over s w d.type in
      let k = eqb-true (kind_of t) (kind_of d.type) (domain-kind s n p b w (target_in s w) d r) in
      let o = type-proper true w.place w.type (target_in s w) d.type h.good.proper-type
      (domain-types s n p b w (target_in s w) (some d) r) in
      let (x, y) = v o k in
      record { type = t; base = d.type; extends = (d, e, refl, refl); kind = k; outside = x; shown = y }

  domain-17 : (o : Option Def) (x : State) (q : ℕ) → resolved s b ≡ o → AnyIs (KnownDef (known s.decls)) o
      → first_broken_or (domain_rules s n p b w o (target_in s w)) x ≡ refused 17 q
      → Step NumberOutside s (U.domain n p b w)
  domain-17 none x q e h z = never (domain-came-17 none x q z).1
  domain-17 (some d) x q e h z =
      let r = domain-came-17 (some d) x q z in
      domain-step NumberOutside d e h r.0 (by_number _ d.type (not_is r.1))

  domain-22 : (o : Option Def) (x : State) (q : ℕ) → resolved s b ≡ o → AnyIs (KnownDef (known s.decls)) o
      → first_broken_or (domain_rules s n p b w o (target_in s w)) x ≡ refused 22 q
      → Step UnitOutside s (U.domain n p b w)
  domain-22 none x q e h z = never (domain-came-22 none x q z).1
  domain-22 (some d) x q e h z =
      let r = domain-came-22 (some d) x q z in
      domain-step UnitOutside d e h r.0 (by-unit _ d.type (not_is r.1))

  -- 17, or 22 of the unit alone
  domain-outside : (d : Def) (t : State) → Outside (type_over s w d.type) d.type
      → Refuses 19 (first_broken_or (domain_rules s n p b w (some d) (target_in s w)) t)
  domain-outside d t v = which (outside-fails (type_over s w d.type) d.type v)
    where
      which : (fits (type_over s w d.type) d.type ≡ false) ⊎ (keeps_unit (type_over s w d.type) d.type ≡ false)
          → Refuses 19 (first_broken_or (domain_rules s n p b w (some d) (target_in s w)) t)
      which (inl j) = domain-refuses (some d) t (number_rule (some d)) first (not-false j)
      which (inr j) = domain-refuses (some d) t (unit_rule (some d)) (later first) (not-false j)

  domain-number : (d : Def) (t : State) → NumberOutside (type_over s w d.type) d.type
      → Refuses 18 (first_broken_or (domain_rules s n p b w (some d) (target_in s w)) t)
  unfolding domain_rules
  domain-number d t v =
      behind-refuses 18 (domain_early (some d)) (unit_rule (some d) ∷ []) t (number_rule (some d))
      (under_more 17 18 (domain_early (some d)) (omega (arith, to-17)) (domain-under (some d))) (omega (arith, to-17))
      (not-false (number-fails (type_over s w d.type) d.type v))

-- ---- attributes
use-proper : (K : List Def) (u : Use) → GoodUse K u → proper (ty_of u) ≡ true
use-proper K (inline t) h = h
use-proper K (of_domain l bs) h = h.0
use-proper K (of_structure l bs) h = refl

module _ (s : State) (c : Def) (n : Name) (p : List (List ℕ)) (w : Written) where
  abbrev early : Option Attribute → List Rule
  early o = attribute_to_16 s c n p w o (target_in s w)

  abbrev fit_over : Option Attribute → Rule
  fit_over o = attribute17 w.place (is_found o) (is_naming w.type)
      (use_over s w (or_no_attribute o)) (or_no_attribute o).use_of

  abbrev descent_over : Option Attribute → Rule
  descent_over o = attribute18 w.place (is_found o) (is_naming w.type)
      (use_over s w (or_no_attribute o)) (or_no_attribute o).use_of

  abbrev unit_over : Option Attribute → Rule
  unit_over o = attribute22 w.place (is_found o) (is_naming w.type)
      (use_over s w (or_no_attribute o)) (or_no_attribute o).use_of

  attribute-under : (o : Option Attribute) → under 17 (early o) ≡ true
  unfolding rank attribute_to_16
  attribute-under o = both (element-under w.type) (kinds-under (is_found o) w.place w.type _ refl)

  attribute-came-17 : (o : Option Attribute) (x : State) (q : ℕ)
      → first_broken_or (attribute_rules s c n p w o (target_in s w)) x ≡ refused 17 q
      → All Unbroken (early o) × ((fit_over o).broken ≡ true)
  unfolding attribute_rules new_attribute
  attribute-came-17 o x q z =
      let r = first-broken-came (early o) _ _ 17 q (attribute-under o) z in
      (r.kept, first-broken-hit (fit_over o) (descent_over o ∷ unit_over o ∷ []) _ 17 q refl r.rest)

  attribute-came-22 : (o : Option Attribute) (x : State) (q : ℕ)
      → first_broken_or (attribute_rules s c n p w o (target_in s w)) x ≡ refused 22 q
      → All Unbroken (early o) × ((unit_over o).broken ≡ true)
  unfolding attribute_rules new_attribute rank
  attribute-came-22 o x q z =
      let e = under_more 17 22 (early o) (omega (arith, from-17)) (attribute-under o) in
      let r = first-broken-came (early o) (fit_over o ∷ descent_over o ∷ unit_over o ∷ []) _ 22 q e z in
      let i = first-broken-came (fit_over o ∷ descent_over o ∷ []) (unit_over o ∷ []) _ 22 q refl r.rest in
      (r.kept, first-broken-hit (unit_over o) [] _ 22 q refl i.rest)

  attribute-refuses : (o : Option Attribute) (x : State) (r : Rule)
      → In r (fit_over o ∷ descent_over o ∷ unit_over o ∷ []) → r.broken ≡ true
      → Refuses 19 (first_broken_or (attribute_rules s c n p w o (target_in s w)) x)
  unfolding attribute_rules new_attribute rank
  attribute-refuses o x r i h =
      in-refuses 19 _ x (rules-under 19 (early o) _ (omega (arith, from-17, to-22)) (attribute-under o) refl)
      r (in_right (early o) i) h

  attribute-step : (S : Ty → Ty → Type 0) (a : Attribute) → (sound : Sound s) → s.open_class ≡ some c
      → inherited_as c n ≡ some a → All Unbroken (early (some a))
      → (is_naming w.type && descends (use_over s w a) a.use_of) ≡ false
      → Seen S (ty_of (use_over s w a)) (ty_of a.use_of) → Step S s (U.attribute n p w)
  attribute-step S a sound e f r x v =
      let K = known s.decls in
      let h : GoodDef K c = (open-good s sound c e).good in
      let u = use_over s w a in
      let k = eqb-true (kind_of (ty_of u)) (kind_of (ty_of a.use_of)) (attribute-kind s c n p w (target_in s w) a r) in
      let i : GoodUse K a.use_of = any-is (GoodAttribute K) _ a (inherited-use K c h n.bytes) f in
      let m = good-use K true w.place w.type (target_in s w) a.use_of (based s sound (reference_in w.type)) i
      (attribute-types s c n p w (target_in s w) (some a) r) in
      let (y, z) = v (use-proper K u m) k in
      record {
        type = ty_of u;
        base = ty_of a.use_of;
        extends = (c, a, e, found-inherits s sound n.bytes a c.bases c refl h f, x, refl, refl);
        kind = k;
        outside = y;
        shown = z;
      }

  attribute-17 : (o : Option Attribute) (t : State) (q : ℕ) → Sound s → s.open_class ≡ some c → inherited_as c n ≡ o
      → first_broken_or (attribute_rules s c n p w o (target_in s w)) t ≡ refused 17 q
      → Step NumberOutside s (U.attribute n p w)
  attribute-17 none t q sound e f z = never (attribute-came-17 none t q z).1
  attribute-17 (some a) t q sound e f z =
      let r = attribute-came-17 (some a) t q z in
      let u = use_over s w a in
      let x : (not (is_naming w.type && descends u a.use_of) ≡ true)
      × (not (fits (ty_of u) (ty_of a.use_of)) ≡ true) = split r.1 in
      attribute-step NumberOutside a sound e f r.0 (not_is x.0) (by_number _ _ (not_is x.1))

  attribute-22 : (o : Option Attribute) (t : State) (q : ℕ) → Sound s → s.open_class ≡ some c → inherited_as c n ≡ o
      → first_broken_or (attribute_rules s c n p w o (target_in s w)) t ≡ refused 22 q
      → Step UnitOutside s (U.attribute n p w)
  attribute-22 none t q sound e f z = never (attribute-came-22 none t q z).1
  attribute-22 (some a) t q sound e f z =
      let r = attribute-came-22 (some a) t q z in
      let u = use_over s w a in
      let x : (not (is_naming w.type) ≡ true)
      × (not (keeps_unit (ty_of u) (ty_of a.use_of)) ≡ true) = split r.1 in
      attribute-step UnitOutside a sound e f r.0
      (fail-l {x = is_naming w.type} (descends u a.use_of) (not_is x.0))
      (by-unit _ _ (not_is x.1))

  -- 17, or of a type in place 22, or of another domain 18
  attribute-fails : (a : Attribute) (t : State) → (is_naming w.type && descends (use_over s w a) a.use_of) ≡ false
      → (fits (ty_of (use_over s w a)) (ty_of a.use_of) ≡ false)
      ⊎ (keeps_unit (ty_of (use_over s w a)) (ty_of a.use_of) ≡ false)
      → Refuses 19 (first_broken_or (attribute_rules s c n p w (some a) (target_in s w)) t)
  attribute-fails a t m (inl j) =
      attribute-refuses (some a) t (fit_over (some a)) first (both (not-false m) (not-false j))
  attribute-fails a t m (inr j) = go (is_naming w.type) refl
    where
      go : (x : Bool) → is_naming w.type ≡ x
          → Refuses 19 (first_broken_or (attribute_rules s c n p w (some a) (target_in s w)) t)
      go true e = attribute-refuses (some a) t (descent_over (some a)) (later first) (both e (not-false (rw e at m)))
      go false e =
          attribute-refuses (some a) t (unit_over (some a)) (later (later first)) (both (not-false e) (not-false j))

  attribute-number : (a : Attribute) (t : State)
      → (is_naming w.type && descends (use_over s w a) a.use_of) ≡ false
      → NumberOutside (ty_of (use_over s w a)) (ty_of a.use_of)
      → Refuses 18 (first_broken_or (attribute_rules s c n p w (some a) (target_in s w)) t)
  unfolding attribute_rules new_attribute
  attribute-number a t m v =
      let o = some a in
      behind-refuses 18 (early o) (descent_over o ∷ unit_over o ∷ []) t (fit_over o)
      (under_more 17 18 (early o) (omega (arith, to-17)) (attribute-under o)) (omega (arith, to-17))
      (both (not-false m) (not-false (number-fails (ty_of (use_over s w a)) (ty_of a.use_of) v)))

-- ---- what shows that a type is not one for the base, S, has a number before k refuse it
record Telling (k : ℕ) (S : Ty → Ty → Type 0) : Type 0 where
  domain : (s : State) (n : Name) (p : List (List ℕ)) (b : Option Reference) (w : Written) (d : Def) (t : State)
      → S (type_over s w d.type) d.type
      → Refuses k (first_broken_or (domain_rules s n p b w (some d) (target_in s w)) t)
  attribute : (s : State) (c : Def) (n : Name) (p : List (List ℕ)) (w : Written) (a : Attribute) (t : State)
      → (is_naming w.type && descends (use_over s w a) a.use_of) ≡ false
      → S (ty_of (use_over s w a)) (ty_of a.use_of)
      → Refuses k (first_broken_or (attribute_rules s c n p w (some a) (target_in s w)) t)

value_tells : Telling 19 Outside
value_tells = record {
  domain = domain-outside;
  attribute = λ s c n p w a t m v.
      attribute-fails s c n p w a t m (outside-fails (ty_of (use_over s w a)) (ty_of a.use_of) v);
}

number-tells : Telling 18 NumberOutside
number-tells = record { domain = domain-number; attribute = attribute-number }

module _ (k : ℕ) (S : Ty → Ty → Type 0) (f : Telling k S) (s : State) where
  domain-value : (n : Name) (p : List (List ℕ)) (b : Option Reference) (w : Written) (o : Option Def) (t : State)
      → resolved s b ≡ o → (x y : Ty) → Extends s (U.domain n p b w) x y → S x y
      → Refuses k (first_broken_or (domain_rules s n p b w o (target_in s w)) t)
  domain-value n p b w o t e x y (d, r, g, i) v =
      let j : some d ≡ o = sym r ∙ e in
      subst (λ (z : Option Def). Refuses k (first_broken_or (domain_rules s n p b w z (target_in s w)) t)) j
      (f.domain s n p b w d t (moved S (type_over s w d.type) d.type g i v))

  attribute-value : (c : Def) (n : Name) (p : List (List ℕ)) (w : Written) (o : Option Attribute) (t : State)
      → (sound : Sound s) → s.open_class ≡ some c → inherited_as c n ≡ o → (x y : Ty)
      → Extends s (U.attribute n p w) x y → S x y
      → Refuses k (first_broken_or (attribute_rules s c n p w o (target_in s w)) t)
  attribute-value c n p w o t sound e i x y (d, a, j, r, m, u, z) v =
      let q : some c ≡ some d = sym e ∙ j in
      let h : d ≡ c = cc in
      let g = (open-good s sound c e).good in
      let l : some a ≡ o = sym (inherits-found s sound n.bytes a g (subst (Inherits s n.bytes a) h r)) ∙ i in
      subst (λ (o : Option Attribute). Refuses k (first_broken_or (attribute_rules s c n p w o (target_in s w)) t)) l
      (f.attribute s c n p w a t m (moved S (ty_of (use_over s w a)) (ty_of a.use_of) u z v))

  member-value : (n : Name) (p : List (List ℕ)) (w : Written) (t : State) → Sound s → (o : Option Def)
      → s.open_class ≡ o → (x y : Ty) → Extends s (U.attribute n p w) x y → S x y
      → Refuses k (first_broken_or (member_rules s n p w o) t)
  member-value n p w t h none e x y i v = apart (sym i.2 ∙ e)
  member-value n p w t h (some c) e x y i v = attribute-value c n p w (inherited_as c n) t h e refl x y i v

  judge-value : (u : U.Unit) → Sound s → (x y : Ty) → Extends s u x y → S x y → Refuses k (judge s u)
  unfolding judge
  judge-value (U.header v) h x y e o = absurd e
  judge-value (U.model n q) h x y e o = absurd e
  judge-value (U.topic n) h x y e o = absurd e
  judge-value (U.class c n p r) h x y e o = absurd e
  judge-value (U.domain n p r w) h x y e o = domain-value n p r w (resolved s r) _ refl x y e o
  judge-value (U.attribute n p w) h x y e o = member-value n p w _ h s.open_class refl x y e o
  judge-value (U.unit n p r) h x y e o = absurd e
  judge-value (U.close n) h x y e o = absurd e

-- ---- every unit
module _ (s : State) (n : Name) (p : List (List ℕ)) (w : Written) (t : State) (h : Sound s) where
  member-17 : (q : ℕ) (o : Option Def) → s.open_class ≡ o → first_broken_or (member_rules s n p w o) t ≡ refused 17 q
      → Step NumberOutside s (U.attribute n p w)
  member-17 q none e z = not-refused z
  member-17 q (some c) e z = attribute-17 s c n p w (inherited_as c n) t q h e refl z

  member-22 : (q : ℕ) (o : Option Def) → s.open_class ≡ o → first_broken_or (member_rules s n p w o) t ≡ refused 22 q
      → Step UnitOutside s (U.attribute n p w)
  member-22 q none e z = not-refused z
  member-22 q (some c) e z = attribute-22 s c n p w (inherited_as c n) t q h e refl z

judge-17 : (s : State) (u : U.Unit) (q : ℕ) → Sound s → judge s u ≡ refused 17 q → Step NumberOutside s u
unfolding judge class_rules extends_rules
judge-17 s (U.header v) q h z = absurd (first-broken-never (J.header_rules v) _ 17 q refl z)
judge-17 s (U.model n x) q h z = absurd (first-broken-never [] _ 17 q refl z)
judge-17 s (U.topic n) q h z = absurd (first-broken-never (J.topic_rules s n) _ 17 q refl z)
judge-17 s (U.class c n p r) q h z = absurd (first-broken-never (class_rules s c n p r (resolved s r)) _ 17 q refl z)
judge-17 s (U.domain n p r w) q h z = domain-17 s n p r w (resolved s r) _ q refl (based s h r) z
judge-17 s (U.attribute n p w) q h z = member-17 s n p w _ h q s.open_class refl z
judge-17 s (U.unit n p r) q h z = absurd (first-broken-never (class_rules s unit n p r (resolved s r)) _ 17 q refl z)
judge-17 s (U.close n) q h z =
    absurd (first-broken-never (J.end_rules n (open_name s s.open_class s.topic)) _ 17 q refl z)

judge-22 : (s : State) (u : U.Unit) (q : ℕ) → Sound s → judge s u ≡ refused 22 q → Step UnitOutside s u
unfolding judge class_rules extends_rules
judge-22 s (U.header v) q h z = absurd (first-broken-never (J.header_rules v) _ 22 q refl z)
judge-22 s (U.model n x) q h z = absurd (first-broken-never [] _ 22 q refl z)
judge-22 s (U.topic n) q h z = absurd (first-broken-never (J.topic_rules s n) _ 22 q refl z)
judge-22 s (U.class c n p r) q h z = absurd (first-broken-never (class_rules s c n p r (resolved s r)) _ 22 q refl z)
judge-22 s (U.domain n p r w) q h z = domain-22 s n p r w (resolved s r) _ q refl (based s h r) z
judge-22 s (U.attribute n p w) q h z = member-22 s n p w _ h q s.open_class refl z
judge-22 s (U.unit n p r) q h z = absurd (first-broken-never (class_rules s unit n p r (resolved s r)) _ 22 q refl z)
judge-22 s (U.close n) q h z =
    absurd (first-broken-never (J.end_rules n (open_name s s.open_class s.topic)) _ 22 q refl z)

-- ---- the run: 19 comes from the room alone
cond-19 : (b : Bool) (p k q : ℕ) (s : State) → ¬ (k ≡ 19) → cond b (refused 19 p) (ok s) ≡ refused k q → ⊥
cond-19 true p k q s n z = n cc
cond-19 false p k q s n z = not-refused z

room-other : (g : Given) (p : ℕ) (j : Judged) (k q : ℕ) → ¬ (k ≡ 19) → room g p j ≡ refused k q → j ≡ refused k q
room-other g p (ok s) k q n z = absurd (cond-19 (ltb (capacity g) (length (book s))) p k q s n z)
room-other g p (refused i x) k q n z = z

accepted_reads : AcceptedReads
accepted_reads t g n k a =
    let b = accepted-book t g n k (check t g).buffer (record { answer = sym a; buffer = refl }) in
    let s = b.state in
    let h : Ended t g s = subst (Ending t g) b.runs (run_ends t g) in
    let r = reached-sound t g h.reaches in
    record {
      state = s;
      runs = b.runs;
      closed = ended-closed t g s h;
      reads = every-reading s r;
      bases = booked-bases s r;
      sorts = sorts-kept s r;
      numbers = record-numbers t g s h;
      units = units-declared t g s h;
    }

broken-misfit : (S : Ty → Ty → Type 0) (t : List ℕ) (g : Given) (s : State) (k p : ℕ) → ¬ (k ≡ 19)
    → ((u : U.Unit) → Sound s → judge s u ≡ refused k p → Step S s u) → RuleBroken t g s k p → Misfit t g k p S
broken-misfit S t g s k p n f b =
    let z = room-other g (unit_place b.unit) (judge s b.unit) k p n b.refuses in
    let r = f b.unit (reached-sound t g b.judges.reaches) z in
    record {
      state = s;
      unit = b.unit;
      judges = b.judges;
      refuses = z;
      type = r.type;
      base = r.base;
      extends = r.extends;
      kind = r.kind;
      outside = r.outside;
      shown = r.shown;
    }

refused_has_number : RefusedHasNumber
refused_has_number t g p a =
    let (s, b) = texts-ranked.broken t g 17 p a (omega arith) in
    broken-misfit NumberOutside t g s 17 p (λ e. omega arith) (λ u h z. judge-17 s u p h z) b

refused_has_unit : RefusedHasUnit
refused_has_unit t g p a =
    let (s, b) = texts-ranked.broken t g 22 p a (omega arith) in
    broken-misfit UnitOutside t g s 22 p (λ e. omega arith) (λ u h z. judge-22 s u p h z) b

judged-there : (t : List ℕ) (g : Given) (s : State) (u : U.Unit) → Judges t g s u → (k m : ℕ) → rank m ≡ suc (rank k)
    → Refuses m (judge s u) → RefusedThere t g s u k
judged-there t g s u j k m e (n, p, z, l) =
    let r = judged-run t g j n p (ap (room g (unit_place u)) z) in
    record { number = n; place = p; answers = ap (answer_of t) r; refuses = z; by = omega (arith, e, l) }

value_refuses : ValueRefuses
value_refuses t g s u j x b e o =
    judged-there t g s u j 22 19 to-22 (judge-value 19 Outside value_tells s u (reached-sound t g j.reaches) x b e o)

number_refuses : NumberRefuses
number_refuses t g s u j x b e o =
    let h = reached-sound t g j.reaches in
    judged-there t g s u j 17 18 to-17 (judge-value 18 NumberOutside number-tells s u h x b e o)

pub demand3 : Demand3
demand3 = record {
  accepted_reads = accepted_reads;
  refused_has_number = refused_has_number;
  refused_has_unit = refused_has_unit;
  value_refuses = value_refuses;
  number_refuses = number_refuses;
  descend = units-descend;
  unit_kept = units-kept;
}
