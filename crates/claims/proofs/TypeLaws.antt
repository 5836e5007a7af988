-- A type fits a base in number and unit exactly when every legal value of it has a legal reading there; down types of
-- which each fits the next, every legal value reads to the end.
use mathlib.Core.Path.{◌≡◌, refl, sym, ap, ◌∙◌, subst}
use mathlib.Core.Logic.{⊎_elim}
use mathlib.Core.Bool.{Bool, true, false, cond, not, ◌&&◌, true≢false}
use mathlib.Core.Option.{Option, none, some}
use mathlib.Core.List.{List, [], ◌∷◌}
use Prim.Native.Nat.{ℕ, suc}
use native.Mathlib.Omega.{arith}
use lib.ListN.{length}
use lib.IntN.{ℤ, pos, negsuc}
use lib.Signed.{le_z, ≤ℤ_refl}
use lib.Dec.{eqb, leb}
use borrow.Author.Tests.{eqb-true, eq-eqb, lt-leb}
use Rattle.rules.specs.Numbers as N
use Rattle.rules.specs.Numbers.{Range, in_range}
use Rattle.rules.specs.Texts.{within, one_line, length_fits, legal_text}
use Rattle.rules.specs.Enumerations.{Enum, Path, read_path, enum_fits}
use Rattle.rules.specs.Types.{Measure, unit_fits, Ty, text, numeric, structure, enum, kind_of, unit_of, Value, string}
use Rattle.rules.specs.Types.{number, path, in_bounds, legal, some_path, reading, bounds_fit, fits, keeps_unit}
use Rattle.rules.proofs.AllLaws.{apart}
use Rattle.rules.proofs.NumberLaws.{le_z_is, reading-same}
use Rattle.rules.proofs.Tests.{never, both, split, fail-l, fail-r, not-both, either-fails, contra}
use Rattle.claims.specs.Readings.{readable, reads, Inside, Outside, in_unit, NumberInside, NumberOutside, unit_in}
use Rattle.claims.specs.Readings.{UnitInside, UnitOutside, Says, KindsTold, proper, TextsJudged}
use Rattle.claims.specs.Readings.{NumbersJudged, EnumerationsJudged, TypesJudged, UnitsKept, StairsRead}
use Rattle.rules.proofs.MeasureLaws.{unit-itself}
use Rattle.claims.proofs.MeasureLaws.{unit-onward}
use Rattle.claims.proofs.NumberLaws as NL
use Rattle.claims.proofs.TextLaws.{text-sound, text-complete}
use Rattle.claims.proofs.EnumerationLaws as EL

-- ---- what fits reads
text-reads : (m k : Bool) (n l : Option ℕ) → (cond m k (not k) && length_fits n l) ≡ true
    → (s : List ℕ) → legal_text m n s ≡ true
    → legal_text k l s ≡ true
text-reads true true n l p s q = text-sound true n l p s q
text-reads true false n l p s q = never p
text-reads false true n l p s q = never p
text-reads false false n l p s q = text-sound false n l p s q

-- the number's reading is within the bounds
abbrev reads_in : Option Range → ℕ → ℤ → Bool
reads_in none d v = true
reads_in (some b) d v = in_range b (N.reading d b.decimals v)

number-reads : (b : Option Range) (w : Option Measure) (d : ℕ) (v : ℤ) (u : Option Measure)
    → readable (numeric b w) (number d v u) ≡ (reads_in b d v && unit_fits u w)
number-reads none w d v u = refl
number-reads (some b) w d v u = rw (eq-eqb b.decimals b.decimals refl)

bounds-read : (r b : Option Range) → bounds_fit r b ≡ true → (d : ℕ) (v : ℤ) → in_bounds r d v ≡ true
    → reads_in b d v ≡ true
bounds-read r none p d v h = refl
bounds-read none (some b) p d v h = never p
bounds-read (some r) (some b) p d v h =
    let k : (eqb d r.decimals ≡ true) × (in_range r v ≡ true) = split h in
    let e : d ≡ r.decimals = eqb-true d r.decimals k.0 in rw e (NL.fits-sound r b p v k.1)

path-reads : (b : Enum) (p : Path) → EL.Read b p → readable (enum b) (path p) ≡ true
path-reads b p (w, e, l) = rw e l

pub number-inside : (t b : Ty) → fits t b ≡ true → NumberInside t b
number-inside (text m n) (text k l) p (string s) q = text-reads m k n l p s q
number-inside (text m n) (text k l) p (number d v u) q = never q
number-inside (text m n) (text k l) p (path v) q = never q
number-inside (text m n) (numeric r w) p v q = never p
number-inside (text m n) (enum e) p v q = never p
number-inside (text m n) structure p v q = never p
number-inside (numeric r u) (text m n) p v q = never p
number-inside (numeric r u) (numeric b w) p (string s) q = never q
number-inside (numeric r u) (numeric b w) p (number d v y) q =
    number-reads b w d v w ∙ both (bounds-read r b p d v (split {x = in_bounds r d v} q).0) (unit-itself w)
number-inside (numeric r u) (numeric b w) p (path v) q = never q
number-inside (numeric r u) (enum e) p v q = never p
number-inside (numeric r u) structure p v q = never p
number-inside (enum e) (text m n) p v q = never p
number-inside (enum e) (numeric r w) p v q = never p
number-inside (enum e) (enum b) p (string s) q = never q
number-inside (enum e) (enum b) p (number d v u) q = never q
number-inside (enum e) (enum b) p (path v) q = path-reads b v (EL.fits-sound e b p v q)
number-inside (enum e) structure p v q = never p
number-inside structure b p (string s) q = never q
number-inside structure b p (number d v u) q = never q
number-inside structure b p (path v) q = never q

-- ---- units: a legal value has one that its type allows, and so has what reads legally
unit-legal : (t : Ty) (v : Value) → legal t v ≡ true → unit_fits (unit_in v) (unit_of t) ≡ true
unit-legal (text m n) (string s) q = refl
unit-legal (text m n) (number d v u) q = never q
unit-legal (text m n) (path p) q = refl
unit-legal (numeric r w) (string s) q = never q
unit-legal (numeric r w) (number d v u) q = (split {x = in_bounds r d v} q).1
unit-legal (numeric r w) (path p) q = never q
unit-legal (enum e) (string s) q = refl
unit-legal (enum e) (number d v u) q = never q
unit-legal (enum e) (path p) q = refl
unit-legal structure (string s) q = refl
unit-legal structure (number d v u) q = never q
unit-legal structure (path p) q = refl

unit-read : (b : Ty) (v : Value) → readable b v ≡ true → unit_fits (unit_in v) (unit_of b) ≡ true
unit-read (text m n) (string s) q = refl
unit-read (text m n) (number d v u) q = never q
unit-read (text m n) (path p) q = refl
unit-read (numeric r w) (string s) q = never q
unit-read (numeric r w) (number d v u) q =
    let k : (reads_in r d v && unit_fits u w) ≡ true = subst (λ (x : Bool). x ≡ true) (number-reads r w d v u) q in
    (split {x = reads_in r d v} k).1
unit-read (numeric r w) (path p) q = never q
unit-read (enum e) (string s) q = refl
unit-read (enum e) (number d v u) q = never q
unit-read (enum e) (path p) q = refl
unit-read structure (string s) q = refl
unit-read structure (number d v u) q = never q
unit-read structure (path p) q = refl

unit-inside : (t b : Ty) → keeps_unit t b ≡ true → UnitInside t b
unit-inside t b f v p = unit-onward (unit_in v) (unit_of t) (unit_of b) (unit-legal t v p) f

-- number and unit together
both_read : (b : Ty) (v : Value) → readable b (in_unit (unit_of b) v) ≡ true → unit_fits (unit_in v) (unit_of b) ≡ true
    → readable b v ≡ true
both_read b (string s) h k = h
both_read (text m n) (number d v u) h k = h
both_read (numeric r w) (number d v u) h k =
    let i : (reads_in r d v && unit_fits w w) ≡ true = subst (λ (x : Bool). x ≡ true) (number-reads r w d v w) h in
    number-reads r w d v u ∙ both (split {x = reads_in r d v} i).0 k
both_read (enum e) (number d v u) h k = h
both_read structure (number d v u) h k = h
both_read b (path p) h k = h

pub inside : (t b : Ty) → fits t b ≡ true → keeps_unit t b ≡ true → Inside t b
inside t b f g v p = both_read b v (number-inside t b f v p) (unit-inside t b g v p)

own-unit : (v : Value) → in_unit (unit_in v) v ≡ v
own-unit (string s) = refl
own-unit (number d v u) = refl
own-unit (path p) = refl

pub number-outside : (t b : Ty) → NumberOutside t b → Outside t b
number-outside t b (v, p, o, q) = (v, p, subst (λ (w : Value). readable b w ≡ false) (own-unit v) (q (unit_in v)))

pub unit-outside : (t b : Ty) → UnitOutside t b → Outside t b
unit-outside t b (v, p, o, q) = (v, p, contra (unit-read b v) q)

pub structure-none : {A : Type 0} (v : Value) → legal structure v ≡ true → A
structure-none (string s) p = never p
structure-none (number d v u) p = never p
structure-none (path q) p = never p

-- ---- of what does not fit, a value that shows it
text-shown : (m : Bool) (n l : Option ℕ) → length_fits n l ≡ false → NumberOutside (text m n) (text m l)
text-shown m n l p = let (s, a, b) = text-complete m n l p in (string s, a, refl, λ _. b)

-- a number above a bound
above : ℤ → ℕ
above (pos n) = suc n
above (negsuc n) = 0

above-no : (h : ℤ) → le_z (pos (above h)) h ≡ false
unfolding above
above-no (pos n) = lt-leb (suc n) n (omega arith)
above-no (negsuc n) = refl

-- a number of the first whose reading is outside the second's bounds
abbrev Beyond : Option Range → Option Range → Type 0
Beyond r b = (d : ℕ) × (v : ℤ) × (in_bounds r d v ≡ true) × (reads_in b d v ≡ false)

bounds-shown : (r b : Option Range) (u : Option Measure) → proper (numeric r u) ≡ true
    → bounds_fit r b ≡ false → Beyond r b
bounds-shown none none u o p = absurd (true≢false p)
bounds-shown (some r) none u o p = absurd (true≢false p)
bounds-shown none (some b) u o p =
    let d = b.decimals in
    let v = above b.high in
    (d, pos v, refl, rw (reading-same d (pos v)) (fail-r (le_z b.low (pos v)) (above-no b.high)))
bounds-shown (some r) (some b) u o p =
    let (v, h, q) = NL.fits-complete r b o p in
    (r.decimals, v, both (eq-eqb r.decimals r.decimals refl) h, q)

number-shown : (r b : Option Range) (u w : Option Measure) → proper (numeric r u) ≡ true → bounds_fit r b ≡ false
    → NumberOutside (numeric r u) (numeric b w)
number-shown r b u w o p =
    let (d, v, h, q) = bounds-shown r b u o p in
    (number d v u, both h (unit-itself u), refl, λ y. number-reads b w d v y ∙ fail-l (unit_fits y w) q)

enum-shown : (e b : Enum) → enum_fits e b ≡ false → NumberOutside (enum e) (enum b)
enum-shown e b p = let (v, h, q) = EL.fits-complete e b p in (path v, h, refl, λ _. rw q)

text-kind : (m : Bool) (k : ℕ) → leb 3 k ≡ true → eqb (cond m 2 1) k ≡ true → ⊥
text-kind true k h p = let e = eqb-true 2 k p in never (ap (leb 3) e ∙ h)
text-kind false k h p = let e = eqb-true 1 k p in never (ap (leb 3) e ∙ h)

shown-17 : (t b : Ty) → proper t ≡ true → eqb (kind_of t) (kind_of b) ≡ true → fits t b ≡ false → NumberOutside t b
shown-17 (text true n) (text true l) o k p = text-shown true n l p
shown-17 (text true n) (text false l) o k p = never k
shown-17 (text false n) (text true l) o k p = never k
shown-17 (text false n) (text false l) o k p = text-shown false n l p
shown-17 (text m n) (numeric r w) o k p = absurd (text-kind m 3 refl k)
shown-17 (text m n) (enum e) o k p = absurd (text-kind m 4 refl k)
shown-17 (text m n) structure o k p = absurd (text-kind m 5 refl k)
shown-17 (numeric r u) (text true n) o k p = never k
shown-17 (numeric r u) (text false n) o k p = never k
shown-17 (numeric r u) (numeric b w) o k p = number-shown r b u w o p
shown-17 (numeric r u) (enum e) o k p = never k
shown-17 (numeric r u) structure o k p = never k
shown-17 (enum e) (text true n) o k p = never k
shown-17 (enum e) (text false n) o k p = never k
shown-17 (enum e) (numeric b w) o k p = never k
shown-17 (enum e) (enum b) o k p = enum-shown e b p
shown-17 (enum e) structure o k p = never k
shown-17 structure b o k p = absurd (true≢false p)

-- a number of the type: the first bound of a range, 0 of NUMERIC
legal-number : (r : Option Range) (u : Option Measure) → proper (numeric r u) ≡ true
    → (d : ℕ) × (v : ℤ) × (in_bounds r d v ≡ true)
legal-number none u o = (0, pos 0, refl)
legal-number (some r) u o = (
  r.decimals,
  r.low,
  both (eq-eqb r.decimals r.decimals refl) (both (le_z_is.1 (≤ℤ_refl r.low)) o),
)

measure-shown : (r b : Option Range) (u w : Option Measure) → proper (numeric r u) ≡ true → unit_fits u w ≡ false
    → UnitOutside (numeric r u) (numeric b w)
measure-shown r b u w o p = let (d, v, h) = legal-number r u o in (number d v u, both h (unit-itself u), refl, p)

shown-22 : (t b : Ty) → proper t ≡ true → eqb (kind_of t) (kind_of b) ≡ true → keeps_unit t b ≡ false → UnitOutside t b
shown-22 (text m n) (text k l) o e p = absurd (true≢false p)
shown-22 (text m n) (numeric r w) o e p = absurd (text-kind m 3 refl e)
shown-22 (text m n) (enum b) o e p = absurd (true≢false p)
shown-22 (text m n) structure o e p = absurd (true≢false p)
shown-22 (numeric r u) (text true n) o e p = never e
shown-22 (numeric r u) (text false n) o e p = never e
shown-22 (numeric r u) (numeric b w) o e p = measure-shown r b u w o p
shown-22 (numeric r u) (enum b) o e p = never e
shown-22 (numeric r u) structure o e p = never e
shown-22 (enum x) (text k l) o e p = absurd (true≢false p)
shown-22 (enum x) (numeric r w) o e p = never e
shown-22 (enum x) (enum b) o e p = absurd (true≢false p)
shown-22 (enum x) structure o e p = absurd (true≢false p)
shown-22 structure (text k l) o e p = absurd (true≢false p)
shown-22 structure (numeric r w) o e p = never e
shown-22 structure (enum b) o e p = absurd (true≢false p)
shown-22 structure structure o e p = absurd (true≢false p)

module _ (t b : Ty) (o : proper t ≡ true) (k : kind_of t ≡ kind_of b) where
  pub misnumbered : fits t b ≡ false → NumberOutside t b
  misnumbered = shown-17 t b o (eq-eqb (kind_of t) (kind_of b) k)

  pub mismeasured : keeps_unit t b ≡ false → UnitOutside t b
  mismeasured = shown-22 t b o (eq-eqb (kind_of t) (kind_of b) k)

-- ---- the claims
says : (x : Bool) {A B : Type 0} → (x ≡ true → A) → (x ≡ false → B) → (A → B → ⊥) → Says x A B
says true f g n = ((f, λ _. refl), (g, λ b. absurd (n (f refl) b)))
says false f g n = ((f, λ a. absurd (n a (g refl))), (g, λ _. refl))

pub types-judged : TypesJudged
types-judged t b o k = record {
  both = says (fits t b && keeps_unit t b)
      (λ h. inside t b (split {x = fits t b} h).0 (split {x = fits t b} h).1) one-fails
      (λ h x. not-both (h x.0 x.1) x.2);
  by_17 = says (fits t b) (number-inside t b) (misnumbered t b o k)
      (λ h x. not-both (h x.0 x.1) (x.3 (unit_of b)));
  by_22 = says (keeps_unit t b) (unit-inside t b) (mismeasured t b o k) (λ h x. not-both (h x.0 x.1) x.3);
}
  where
    one-fails : (fits t b && keeps_unit t b) ≡ false → Outside t b
    one-fails e = ⊎_elim (λ f. number-outside t b (misnumbered t b o k f))
        (λ f. unit-outside t b (mismeasured t b o k f)) (either-fails e)

pub texts-judged : TextsJudged
texts-judged m n l = types-judged (text m n) (text m l) refl refl

pub numbers-judged : NumbersJudged
numbers-judged r b u w o = types-judged (numeric r u) (numeric b w) o refl

pub enumerations-judged : EnumerationsJudged
enumerations-judged e b = types-judged (enum e) (enum b) refl refl

pub kinds-told : KindsTold
kinds-told n = (refl, all_read)
  where
    all_read : Inside (text false n) (text true n)
    all_read (string s) q = let r : (within n (length s) ≡ true) × (one_line s ≡ true) = split q in both r.0 refl
    all_read (number d v u) q = never q
    all_read (path p) q = never q

-- ---- a reading's unit
same-unit : {v w : Value} → some v ≡ some w → unit_in w ≡ unit_in v
same-unit {v} {w} e = let z : v ≡ w = cc in ap unit_in (sym z)

pub units-kept : UnitsKept
units-kept (text m n) (string s) w e = same-unit e
units-kept (numeric r u) (string s) w e = apart (sym e)
units-kept (enum b) (string s) w e = apart (sym e)
units-kept structure (string s) w e = apart (sym e)
units-kept (text m n) (number d v u) w e = apart (sym e)
units-kept (numeric none i) (number d v u) w e = same-unit e
units-kept (numeric (some r) i) (number d v u) w e = same-unit e
units-kept (enum b) (number d v u) w e = apart (sym e)
units-kept structure (number d v u) w e = apart (sym e)
units-kept (text m n) (path p) w e = apart (sym e)
units-kept (numeric r u) (path p) w e = apart (sym e)
units-kept (enum b) (path p) w e = go (read_path b p) e
  where
    go : (o : Option Path) → some_path o ≡ some w → unit_in w ≡ none
    go none i = apart (sym i)
    go (some q) i = same-unit i
units-kept structure (path p) w e = apart (sym e)

-- ---- stairs
step-reads : (b : Ty) (l : List Ty) (v : Value) → readable b v ≡ true
    → ((w : Value) → legal b w ≡ true → reads l w ≡ true) → reads (b ∷ l) v ≡ true
step-reads b l v p k = go (reading b v) refl
  where
    go : (o : Option Value) → reading b v ≡ o → reads (b ∷ l) v ≡ true
    go none e = not-both p (rw e)
    go (some w) e = let q : legal b w ≡ true = rw e at p in rw e (both q (k w q))

pub stair-reads : StairsRead
stair-reads t [] h v q = refl
stair-reads t (b ∷ l) h v q = step-reads b l v (inside t b h.0 h.1 v q) (λ w r. stair-reads b l h.2 w r)
