-- The stages of judging a domain, each by its part of the rules.
use mathlib.Core.Path.{◌≡◌, refl, sym, ap, ◌∙◌, subst}
use mathlib.Core.Bool.{Bool, true, false, not, ◌&&◌, ◌||◌}
use mathlib.Core.Option.{Option, none, some}
use mathlib.Core.List.{List, [], ◌∷◌, ◌++◌, append_assoc, append-nil}
use Prim.Native.Nat.{ℕ, zero, suc, ◌+◌, ◌≤◌, ◌<◌}
use native.Mathlib.Omega.{arith}
use lib.ListN.{length, get_or, take}
use lib.Dec.{ltb}
use borrow.Author.Tests.{lt-ltb}
use Rattle.std.specs.Prelude.{⊤, Result, Ok, Err, Option as code·Option}
use Rattle.wellformed.proofs.TypeLaws.{sort-domain}
use Rattle.state.proofs.TargetLaws.{earlier-among, earlier-off, earlier-ruled}
use Rattle.state.proofs.KeepLaws.{none_open}
use Rattle.rules.specs.Names.{Name}
use Rattle.rules.specs.Grammar.{Reference, WrittenType, Written}
use Rattle.rules.specs.Units as U
use Rattle.rules.specs.Types.{Ty, structure, unit_of, keeps_unit}
use Rattle.rules.specs.Declarations.{Sort, domain, Def, Attribute, State, attributes_of, is_found, is_sort, at_hand}
use Rattle.rules.specs.Declarations.{known}
use Rattle.rules.specs.Declarations.{measure_in}
use Rattle.rules.specs.Book.{Record, bytes, records, flags, type_records, def_record}
use Rattle.rules.specs.Judge as J
use Rattle.rules.specs.Judge.{Rule, rule, ok, first_broken_or, or_no_def, resolved, has_twice, has_abstract, has_final}
use Rattle.rules.specs.Judge.{is_numeric, is_naming, domain_type, element_rule, extends_rules, new_domain, domain_to_16}
use Rattle.rules.specs.Judge.{domain_rules, target_in, judge}
use Rattle.rules.specs.Check.{Given, lent, room}
use Rattle.rules.proofs.Tests.{never, not-fails}
use Rattle.ground.specs.Parts.{splice}
use Rattle.ground.specs.declared.Name as ground
use Rattle.names.specs.Index.{entry, row, Says, Known, Chained, definition_width}
use Rattle.names.specs.References.{bytes_of, Inside}
use Rattle.names.proofs.BaseLaws.{entry-there}
use Rattle.members.specs.Held.{Held, heading, attributes_in}
use Rattle.members.proofs.HeldLaws.{indexed}
use Rattle.enumerations.specs.Standing.{InText}
use Rattle.enumerations.specs.declared.Size.{Size}
use Rattle.enumerations.specs.Records.{size_of}
use Rattle.readers.specs.Reads.{name_cut}
use Rattle.parts.specs.Forms.{any_of, flags_of, optional_of, written_of}
use Rattle.parts.specs.declared.types.Meant.{Meant}
use Rattle.units.specs.declared.DomainUnit.{DomainUnit}
use Rattle.units.specs.declared.Unit.TheVariants.{Domain}
use Rattle.rules.specs.All.{AnyIs}
use Rattle.wellformed.specs.Fairness.{Begins, Fair, FairDef, UnitIn, NamesAll, Rising, FairState}
use Rattle.rules.proofs.AllLaws.{any-map, any-resolved}
use Rattle.wellformed.proofs.UseLaws.{unit-before}
use Rattle.wellformed.proofs.TypeLaws.{domain-fair}
use Rattle.wellformed.proofs.KeepLaws.{judge-fair}
use Rattle.ground.specs.declared.Ruling.{Ruling}
use Rattle.fitting.specs.declared.Typing.{Typing}
use Rattle.fitting.specs.declared.Typing.TheVariants.{Structure}
use Rattle.ground.specs.Rulings.{ruling_of, judged_by}
use Rattle.fitting.specs.Values.{Valued, Typed, Sized, UnitNumbered, FairOrNone, unit_number}
use Rattle.types.specs.declared.Over.{Over}
use Rattle.types.specs.Writing.{Scratched, Once}
use Rattle.ground.proofs.RulingLaws.{first-broken-by}
use Rattle.fitting.proofs.ValueLaws.{typed-valued, sized_base, fair-or-none}
use Rattle.types.proofs.TypeLaws.{sized-meant, scratched, once-of}
use Rattle.state.specs.declared.State as code
use Rattle.state.specs.Keeping.{Keeps, JudgedAs, Comes, verdict}
use Rattle.state.specs.Targets.{Ruled, target_rules, among_rules, earlier_of}
use Rattle.written.specs.Written.{written_rules, LaidWhen}
use Rattle.domains.specs.Stages.{name_rules, Leads, rules_from_13, declared_in, from_rule_13, Extending}
use Rattle.domains.specs.Stages.{OverIs}
use Rattle.domains.specs.declared.Reached.{Reached}
use Rattle.book.specs.Places.{Stands}
use Rattle.book.specs.Sizes.{head_size}

-- ---- MANDATORY in effect
module _ (ks : List Def) (base : ℕ) (w : Bool) where
  pub mandatory-base : (t x : List ℕ) (count : ℕ) → base ≤ count → Known t ks x count → w ≡ false → 0 < base
      → (f : ℕ) → ((t : List ℕ) (d : Def) → Says t d (row definition_width x base)
      → f ≡ flags d.abstract d.final false d.mandatory)
      → (r : Bool) → ((a f' e m : Bool) → f ≡ flags a f' e m → r ≡ m) → r ≡ (w || (or_no_def (entry ks base)).mandatory)
  mandatory-base t x count l k e z f hf r hr =
      let n = k.all in
      let (d, q) = entry-there ks base z (omega arith) in
      rw (e, q) (hr d.abstract d.final false d.mandatory (hf t d (k.says base d q)))

-- ---- 9
module _ (t : List ℕ) (s : State) (n : Name) (w : Option WrittenType) (a : ground.Name) (e : a ≡ name_cut n)
    (h : InText t n) (k : Bool) (i : k ≡ is_found (at_hand s (bytes_of t a))) where
  at_name : k ≡ is_found (at_hand s n.bytes)
  at_name = i ∙ ap (λ (b : List ℕ). is_found (at_hand s b)) (ap (bytes_of t) e ∙ h.there)

  pub name-taken : k ≡ true → Err (record { number = 9; place = a.offset }) ≡ ruling_of (name_rules s n w)
  name-taken j = rw (← at_name, j, e)

  pub name_free : k ≡ false → (q : Result ⊤ Ruling) → q ≡ ruling_of (element_rule w ∷ [])
      → q ≡ ruling_of (name_rules s n w)
  name_free j q g = g ∙ rw (← at_name, j)

-- where 9 is not broken, no element is there twice
once-named : (s : State) (n : Name) (w : Option WrittenType) → ruling_of (name_rules s n w) ≡ Ok tt → Once w
once-named s n w h = once-of w tt (go (is_found (at_hand s n.bytes)) h)
  where
    go : (b : Bool) → ruling_of (rule 9 n.offset b ∷ element_rule w ∷ []) ≡ Ok tt
        → ruling_of (element_rule w ∷ []) ≡ Ok tt
    go true e = cc
    go false e = e

-- ---- 10 to 12
middle : (q : ℕ) (x y z : Bool) → ruling_of (rule 10 q x ∷ rule 11 q y ∷ rule 12 q z ∷ []) ≡ Ok tt → y ≡ false
middle q true y z e = cc
middle q false true z e = cc
middle q false false z e = refl

extends-sort : (b : Option Reference) (o : Option Def) (w : Option WrittenType) (target : Option Def)
    → ruling_of (among_rules domain b o w target) ≡ Ok tt
    → (is_found o && not (is_sort domain (or_no_def o).sort)) ≡ false
unfolding extends_rules
extends-sort b o w target h =
    middle (J.place_of b) (is_found b && not (is_found o)) (is_found o && not (is_sort domain (or_no_def o).sort))
    (or_no_def o).final (earlier-off (ruling_of (extends_rules domain b o)) (ruling_of (target_rules w target)) tt
    (earlier-among domain b o w target ∙ h)).0

-- of what EXTENDS leads to; and of both, where neither is broken
abbrev pub Extends : State → Option Reference → Written → Result ℕ Ruling → Type 0
Extends s b w r =
    Ruled r (among_rules domain b (resolved s b) w.type (target_in s w))
    (λ p. entry (known s.decls) p ≡ resolved s b)

pub leads : (s : State) (b : Option Reference) (w : Written) (a : Result ℕ Ruling) (q : Result ⊤ Ruling) (target : ℕ)
    → Ruled a (extends_rules domain b (resolved s b)) (λ p. entry (known s.decls) p ≡ resolved s b)
    → entry (known s.decls) target ≡ target_in s w
    → q ≡ ruling_of (target_rules w.type (entry (known s.decls) target))
    → Extends s b w (earlier_of a q)
leads s b w a q target ea et eq =
    earlier-ruled a q (extends_rules domain b (resolved s b)) (target_rules w.type (target_in s w))
    (among_rules domain b (resolved s b) w.type (target_in s w)) (λ p. entry (known s.decls) p ≡ resolved s b) ea
    (eq ∙ ap (λ (g : Option Def). ruling_of (target_rules w.type g)) et)
    (earlier-among domain b (resolved s b) w.type (target_in s w))

-- ---- the base
-- of a fair definition, or none, that a domain may extend
pub record BaseIs (t : List ℕ) (o : Option Def) : Type 0 where
  pub typed : (d : Def) → o ≡ some d → (d.sort ≡ domain) × Fair t d.type
  pub fair : FairOrNone t (or_no_def o).type
  pub bare : attributes_of (or_no_def o) ≡ []

base-is : (t : List ℕ) (n : ℕ) (o : Option Def) → AnyIs (FairDef t n) o
    → (is_found o && not (is_sort domain (or_no_def o).sort)) ≡ false → BaseIs t o
base-is t n none k e = record {
  typed = λ d q. let z : ◌≡◌ {A = ℕ} 0 1 = cc in absurd (omega arith);
  fair = tt;
  bare = refl;
}
base-is t n (some d) k e =
    let s : is_sort domain d.sort ≡ true = not-fails e in
    let g = sort-domain d.sort s in
    let f = domain-fair t n d k s in
    record {
      typed = λ c q. let i : d ≡ c = cc in subst (λ (x : Def). (x.sort ≡ domain) × Fair t x.type) i (g, f);
      fair = fair-or-none t d.type f;
      bare = k.bare g;
    }

pub base-none : (t b : List ℕ) (ks : List Def) (base : ℕ) → base ≡ 0
    → Typed t b (or_no_def (entry ks base)).type Structure
base-none t b ks base e = rw e

pub base_there : (t b : List ℕ) (ks : List Def) (ms : List Attribute) (x : List ℕ) (count : ℕ) (y : List ℕ)
    (total base : ℕ) → 0 < base → base ≤ count → Held t b ks ms x count y total
    → ((d : Def) → entry ks base ≡ some d → (d.sort ≡ domain) × Fair t d.type × UnitNumbered d.type) → (at : ℕ)
    → at ≡ get_or (row definition_width x base) 6 0
    → (r : Typing) → ((t : List ℕ) (h : Record) (x : Ty) → length h ≡ head_size → Fair t x → UnitNumbered x
    → Stands b at (h ∷ type_records x) → Typed t b x r) → Typed t b (or_no_def (entry ks base)).type r
base_there t b ks ms x count y total base z l h f at e r g =
    let n = h.all_defs in
    let (d, q) = entry-there ks base z (omega arith) in
    let (s, v, u) = f d q in
    let w : Stands b at (heading d.sort d) = rw e (h.def_rows base d q).stands in
    rw q (g t (def_record 7 d) d.type refl v u (subst (λ (c : Sort). Stands b at (heading c d)) s w))

found_at : (ks : List Def) (base : ℕ) → base ≤ length ks → is_found (entry ks base) ≡ ltb 0 base
found_at ks zero h = refl
found_at ks (suc i) h = let (d, q) = entry-there ks (suc i) (omega arith) h in rw (q, lt-ltb 0 (suc i) (omega arith))

-- ---- the unit, and its rules in stages
abbrev pub domain_of : Name → List (List ℕ) → Option Reference → Written → DomainUnit
domain_of n p b w = record { name = name_cut n; properties = flags_of p; base = optional_of b; written = written_of w }

pub domain-is : {t : List ℕ} {s : State} {n : Name} {p : List (List ℕ)} {b : Option Reference} {w : Written} {d :
    DomainUnit} {rs : List ℕ} → Comes t s (U.domain n p b w) (Domain d) rs
    → d ≡ domain_of n p b w
domain-is h = let e = h.is.0 in cc

pub unit-inside : {t : List ℕ} {s : State} {n : Name} {p : List (List ℕ)} {b : Option Reference} {w : Written} {d :
    DomainUnit} {rs : List ℕ} → Comes t s (U.domain n p b w) (Domain d) rs → Inside t d.name
unit-inside {t = t} h = subst (λ (u : DomainUnit). Inside t u.name) (sym (domain-is h)) h.fair.0.fits

pub unit-scratch : {t : List ℕ} {s : State} {n : Name} {p : List (List ℕ)} {b : Option Reference} {w : Written} {d :
    DomainUnit} {rs : List ℕ} → Comes t s (U.domain n p b w) (Domain d) rs → Scratched t rs w.type
unit-scratch {t = t} {w = w} {rs = rs} h = scratched t h.scratch rs w.type h.fair.2.type h.is.1

in-stages : (s : State) (n : Name) (p : List (List ℕ)) (b : Option Reference) (w : Written) (o target : Option Def)
    → domain_rules s n p b w o target
    ≡ name_rules s n w.type ++ (among_rules domain b o w.type target ++ rules_from_13 n p w o target)
unfolding domain_rules domain_to_16 new_domain
in-stages s n p b w o target = simp append_assoc

first-broken-all : (l : List Rule) (s : State) → first_broken_or l s ≡ judged_by (ruling_of l) (ok s)
first-broken-all l s = ap (λ (m : List Rule). first_broken_or m s) (sym (append-nil l)) ∙ first-broken-by l [] s

module _ (s : State) (n : Name) (p : List (List ℕ)) (b : Option Reference) (w : Written) where
  abbrev names· : List Rule
  names· = name_rules s n w.type

  abbrev leads· : List Rule
  leads· = among_rules domain b (resolved s b) w.type (target_in s w)

  abbrev types· : List Rule
  types· = rules_from_13 n p w (resolved s b) (target_in s w)

  judge-is : judge s (U.domain n p b w)
      ≡ judged_by (ruling_of names·) (judged_by (ruling_of leads·) (first_broken_or types· (declared_in s n p b w)))
  unfolding judge
  judge-is =
      ap (λ (l : List Rule). first_broken_or l (declared_in s n p b w))
      (in-stages s n p b w (resolved s b) (target_in s w))
      ∙ (first-broken-by names· (leads· ++ types·) (declared_in s n p b w)
      ∙ ap (judged_by (ruling_of names·)) (first-broken-by leads· types· (declared_in s n p b w)))

  passed-both : ruling_of names· ≡ Ok tt → ruling_of leads· ≡ Ok tt
      → judge s (U.domain n p b w) ≡ from_rule_13 s n p b w
  passed-both e f = judge-is ∙ rw (e, f)

  module _ (t o o₁ x₁ z₁ y hs : List ℕ) where
    pub refused-name : (q : Ruling) → Err q ≡ ruling_of names·
        → JudgedAs t (verdict s (U.domain n p b w) o) (Err q) o₁ x₁ z₁ y hs
    refused-name q e = rw (judge-is, ← e) refl

    pub refused-reference : (q : Ruling) → ruling_of names· ≡ Ok tt → ruling_of leads· ≡ Err q
        → JudgedAs t (verdict s (U.domain n p b w) o) (Err q) o₁ x₁ z₁ y hs
    refused-reference q f e = rw (judge-is, f, e) refl

    pub judged-late : (r : Result code.State Ruling) → ruling_of names· ≡ Ok tt → ruling_of leads· ≡ Ok tt
        → JudgedAs t (room (lent (length o)) n.offset (from_rule_13 s n p b w)) r o₁ x₁ z₁ y hs
        → JudgedAs t (verdict s (U.domain n p b w) o) r o₁ x₁ z₁ y hs
    judged-late r e f g = rw (passed-both e f) g

-- ---- 13 to 17 and 22
whole-laid : (u : Result ⊤ Ruling) (l : List Record) (at : ℕ) (o o₂ : List ℕ) (z : Size) → LaidWhen u l at o o₂ (Ok z)
    → (z ≡ size_of l) × (u ≡ Ok tt) × (at + length (bytes l) ≤ length o → o₂ ≡ splice o at (bytes l))
whole-laid (Err q) l at o o₂ z h = absurd (cc)
whole-laid (Ok y) l at o o₂ z h = let i = h.0 in (cc, refl, h.1)

broken-laid : (u : Result ⊤ Ruling) (l : List Record) (at : ℕ) (o o₂ : List ℕ) (q : Ruling)
    → LaidWhen u l at o o₂ (Err q) → u ≡ Err q
broken-laid (Err p) l at o o₂ q h = let i : q ≡ p = cc in rw i
broken-laid (Ok y) l at o o₂ q h = let i = h.0 in absurd (cc)

module _ (t : List ℕ) (n : Name) (p : List (List ℕ)) (w : Written) (c target : Option Def) (s' : State) (m : Given)
    (o₁ x₁ z₁ y hs : List ℕ)
    (k : Bool) (i : k ≡ (has_twice p || ((has_abstract p && has_final p)
    || (is_numeric (domain_type w.type target (or_no_def c).type) && not (has_abstract p))))) where
  abbrev from-14 : List Rule
  from-14 = written_rules (is_found c) w.place w.type target (or_no_def c).type

  pub refused-head : (r : Result code.State Ruling) → k ≡ true → r ≡ Err (record { number = 13; place = n.offset })
      → JudgedAs t (room m n.offset (first_broken_or (rules_from_13 n p w c target) s')) r o₁ x₁ z₁ y hs
  refused-head r j g = rw (← i, j) g

  module _ (j : k ≡ false) (l : List Record) (at : ℕ) (o o₂ : List ℕ) where
    behind-head : first_broken_or (rules_from_13 n p w c target) s' ≡ judged_by (ruling_of from-14) (ok s')
    behind-head = rw (← i, j) (first-broken-all from-14 s')

    pub refused-type : (q : Ruling) → LaidWhen (ruling_of from-14) l at o o₂ (Err q)
        → JudgedAs t (room m n.offset (first_broken_or (rules_from_13 n p w c target) s')) (Err q) o₁ x₁ z₁ y hs
    refused-type q h = rw (behind-head, broken-laid _ l at o o₂ q h) refl

    pub fine-type : (z : Size) → LaidWhen (ruling_of from-14) l at o o₂ (Ok z)
        → first_broken_or (rules_from_13 n p w c target) s' ≡ ok s'
    fine-type z h = behind-head ∙ ap (λ (u : Result ⊤ Ruling). judged_by u (ok s')) (whole-laid _ l at o o₂ z h).1

-- ---- between the stages
module _ {t : List ℕ} {s : State} {st : code.State} {n : Name} {p : List
    (List ℕ)} {b : Option Reference} {w : Written} {o x z y hs rs : List ℕ} {d : DomainUnit} {e : Reached}
    (h : Extending t s st n p b w o x z y hs rs d e) where
  pub is-unit : d ≡ domain_of n p b w
  is-unit = domain-is h.comes

  pub once : Once w.type
  once = once-named s n w.type h.named

  pub a-base : BaseIs t (resolved s b)
  a-base = base-is t (length (records s)) (resolved s b)
      (any-resolved (FairDef t (length (records s))) s h.keeps.fair.defs b)
      (extends-sort b (resolved s b) w.type (target_in s w) h.reaches)

  -- the unit of its type
  pub unit-in : UnitIn (known s.decls) (or_no_def (resolved s b)).type
  unit-in = go (resolved s b) (any-resolved (NamesAll (known s.decls)) s h.keeps.fair.names b)
    where
      go : (c : Option Def) → AnyIs (NamesAll (known s.decls)) c → UnitIn (known s.decls) (or_no_def c).type
      go none k = tt
      go (some c) k = k.0

  few : length o ≤ 65535 → length (records s) ≤ 65535
  few l =
      let a = h.keeps.numbered in
      let i = h.keeps.fewer in
      let j = h.keeps.within in omega arith

  pub at_base : length o ≤ 65535 → (c : Def) → entry (known s.decls) e.base ≡ some c
      → (c.sort ≡ domain) × Fair t c.type × UnitNumbered c.type
  at_base l c q =
      let i : resolved s b ≡ some c = sym h.leads.base ∙ q in
      let (g, f) = a-base.typed c i in
      let u : UnitNumbered (or_no_def (resolved s b)).type =
      any-map (λ m k. let f = few l in omega arith) (unit_of (or_no_def (resolved s b)).type)
      (unit-before t (length (records s)) (known s.decls) h.keeps.fair.defs
      (or_no_def (resolved s b)).type unit-in) in
      (g, f, subst (λ (v : Option Def). UnitNumbered (or_no_def v).type) i u)

  pub is-based : e.base ≤ st.listing.count → is_found (resolved s b) ≡ ltb 0 e.base
  is-based l =
      ap is_found (sym h.leads.base)
      ∙ found_at (known s.decls) e.base (let a = h.keeps.held.all_defs in omega arith)

  pub no-class : s.open_class ≡ none
  no-class = none_open s h.comes.stands

  pub next-fair : from_rule_13 s n p b w ≡ ok (declared_in s n p b w) → FairState t (declared_in s n p b w)
  next-fair f =
      judge-fair t s (declared_in s n p b w) (U.domain n p b w) h.comes.fair
      h.comes.stands h.keeps.fair (passed-both s n p b w h.named h.reaches ∙ f)

-- a base that is not there gives no values
pub unbased : (c : Option Def) → is_found c ≡ false → (or_no_def c).type ≡ structure
unbased none f = refl
unbased (some c) f = never (sym f)

pub based-of : {t : List ℕ} {s : State} {st : code.State} {n : Name} {p : List
    (List ℕ)} {b : Option Reference} {w : Written} {o x z y hs rs : List ℕ} {d : DomainUnit} {e : Reached}
    → Keeps t s st o x z y hs → Comes t s (U.domain n p b w) (Domain d) rs
    → Ok tt ≡ ruling_of (name_rules s n w.type)
    → Ruled (Ok e) (among_rules domain b (resolved s b) w.type (target_in s w)) (Leads s b w)
    → Extending t s st n p b w o x z y hs rs d e
based-of k h f g = record { keeps = k; comes = h; named = sym f; reaches = g.0; leads = g.1 }

-- ---- its type over the base's
module _ {t : List ℕ} {s : State} {st : code.State} {n : Name} {p : List
    (List ℕ)} {b : Option Reference} {w : Written} {o x z y hs rs : List ℕ} {d : DomainUnit} {e : Reached}
    (h : Extending t s st n p b w o x z y hs rs d e) where
  abbrev unit : d ≡ domain_of n p b w
  unit = is-unit h

  abbrev front : List ℕ
  front = take st.extent.used o

  abbrev kind : Ty
  kind = (or_no_def (resolved s b)).type

  abbrev own : Ty
  own = domain_type w.type (target_in s w) kind

  -- by what is read of the base and of the unit
  module _ (low : e.base ≤ st.listing.count) (in_reach : e.target ≤ st.listing.count) (short : length o ≤ 65535)
      (m : Meant) (em : m ≡ d.written.meant) (of : Typing)
      (eb : (t : List ℕ) (ks : List Def) (ms : List Attribute) (count : ℕ) (y : List ℕ)
      (total : ℕ) → e.base ≤ count → Held t front ks ms x count y total
      → ((c : Def) → entry ks e.base ≡ some c → (c.sort ≡ domain) × Fair t c.type × UnitNumbered c.type)
      → Typed t front (or_no_def (entry ks e.base)).type of) where
    is-meant : m ≡ any_of w.type
    is-meant = em ∙ ap (λ (u : DomainUnit). u.written.meant) unit

    of_base : Typed t front kind of
    of_base =
        let held = subst (λ (f : List ℕ). Held t f (known s.decls) (attributes_in s) x st.listing.count y
        st.listing.total) (sym h.keeps.written) h.keeps.held in
        subst (λ (c : Option Def). Typed t front (or_no_def c).type of) h.leads.base
        (eb t (known s.decls) (attributes_in s) st.listing.count y
        st.listing.total low held (at_base h short))

    valued : Valued kind of
    valued = typed-valued t front kind of of_base

    pub over-is : (u : code·Option ℕ) → ((t : List ℕ) (ks : List Def) (count : ℕ) → e.target ≤ count
        → Known t ks x count → u ≡ unit_number (measure_in (entry ks e.target))) → (own' : Typing)
        → ((v : Option WrittenType) (g : Option Def) (k : Ty) → m ≡ any_of v → u ≡ unit_number (measure_in g)
        → Valued k of → Valued (domain_type v g k) own') → (f : Bool)
        → ((t : List ℕ) (ks : List Def) → Known t ks x st.listing.count → Chained ks x → Rising ks
        → (v : Option WrittenType) (g : Option Def) (k : Ty) → m ≡ any_of v → entry ks e.target ≡ g
        → UnitIn ks k → Valued k of → f ≡ keeps_unit (domain_type v g k) k)
        → OverIs t front w.type (resolved s b) (target_in s w)
        (record { based = ltb 0 e.base; own = own'; base = of; keeps = f })
    over-is u eu own' eo f ef =
        let i = indexed h.keeps.held in
        let q : u ≡ unit_number (measure_in (target_in s w)) =
        eu t (known s.decls) st.listing.count in_reach i.known
        ∙ ap (λ (c : Option Def). unit_number (measure_in c)) h.leads.target in
        record {
          based = is-based h low;
          of_base = of_base;
          own = eo w.type (target_in s w) kind is-meant q valued;
          keeps = ef t (known s.decls) i.known i.chained h.keeps.fair.rising w.type (target_in s w) kind
              is-meant h.leads.target (unit-in h) valued;
        }

  -- and by value
  module _ (r : Over) (v : OverIs t front w.type (resolved s b) (target_in s w) r) where
    pub own-sized : Sized r.own × Sized r.base
    own-sized =
        let f = (a-base h).fair in (
          sized-meant t w.type (target_in s w) kind r.own h.comes.fair.2.type f v.own,
          sized_base t kind r.base f (typed-valued t front kind r.base v.of_base),
        )

    abbrev from-14· : Bool → List Rule
    from-14· c = written_rules c w.place w.type (target_in s w) kind

    -- what lay_written ensures of this domain
    pub laid : (o₂ : List ℕ) (a : Result Size Ruling) → ((u : Option WrittenType) (g : Option Def) (k : Ty)
        → d.written.meant ≡ any_of u → is_naming u ≡ false → AnyIs (Begins d.written.place) u → Scratched t rs u
        → Once u → FairOrNone t k → (r.based ≡ false → k ≡ structure) → Valued (domain_type u g k) r.own
        → Typed t front k r.base → r.keeps ≡ keeps_unit (domain_type u g k) k
        → LaidWhen (ruling_of (written_rules r.based d.written.place u g k)) (type_records (domain_type u g k))
        (st.extent.used + head_size) o o₂ a)
        → LaidWhen (ruling_of (from-14· (is_found (resolved s b)))) (type_records own)
        (st.extent.used + head_size) o o₂ a
    laid o₂ a g =
        let i : d.written.place ≡ w.place = ap (λ (u : DomainUnit). u.written.place) unit in
        let q = g w.type (target_in s w) kind (ap (λ (u : DomainUnit). u.written.meant) unit) h.comes.fair.3
        (rw i h.comes.fair.2.begins) (unit-scratch h.comes) (once h) (a-base h).fair
        (λ f. unbased (resolved s b) (v.based ∙ f)) v.own v.of_base v.keeps in
        subst
        (λ (u : Bool). LaidWhen (ruling_of (from-14· u)) (type_records own) (st.extent.used + head_size) o o₂ a)
        (sym v.based) (rw i at q)

    -- where no rule is broken
    pub whole : (o₂ : List ℕ) (z : Size) → LaidWhen (ruling_of (from-14· (is_found (resolved s b)))) (type_records own)
        (st.extent.used + head_size) o o₂ (Ok z)
        → (z ≡ size_of (type_records own))
        × (st.extent.used + head_size + length (bytes (type_records own)) ≤ length o
        → o₂ ≡ splice o (st.extent.used + head_size) (bytes (type_records own)))
    whole o₂ z l =
        let u = whole-laid (ruling_of (from-14· (is_found (resolved s b)))) (type_records own)
        (st.extent.used + head_size) o o₂ z l in
        (u.0, u.2)

-- ---- a lent table or buffer keeps its length
pub still-below : {n a b : ℕ} → a ≡ b → b ≤ n → a ≤ n
still-below e h = omega arith
