-- Heads of classes, structures and units.
use mathlib.Core.Path.{◌≡◌, refl, sym, ap, ◌∙◌, subst}
use mathlib.Core.Bool.{Bool, true, false, cond, ◌&&◌, ◌||◌}
use mathlib.Core.Option.{Option, none, some}
use mathlib.Core.List.{List, [], ◌∷◌, ◌++◌, append-nil}
use Prim.Native.Nat.{ℕ, ◌+◌, ◌*◌, ◌≤◌, ◌<◌}
use native.Mathlib.Omega.{arith}
use lib.ListN.{length}
use borrow.Author.Tests.{ne_eqb}
use Rattle.std.specs.Prelude.{⊤, Result, Ok, Err}
use Rattle.std.specs.Result.{result_and}
use Rattle.rules.specs.Names as R
use Rattle.rules.specs.Grammar as G
use Rattle.rules.specs.Units as U
use Rattle.rules.specs.Declarations as D
use Rattle.rules.specs.Declarations.{Attribute, Def, Sort, State, sort_number, is_found, at_hand, known, attributes_of}
use Rattle.rules.specs.Declarations.{name_count, def}
use Rattle.rules.specs.Book.{bytes, flags, base_number, head_records, decl_records, book}
use Rattle.rules.specs.Judge as J
use Rattle.rules.specs.Units.{class_sort}
use Rattle.rules.specs.Judge.{Rule, ok, refused, rule, first_broken_or, judge, has_twice, has_abstract, has_final}
use Rattle.rules.specs.Judge.{or_no_def}
use Rattle.rules.specs.Judge.{bases_of, resolved, extends_rules, class_rules, new_class, declare, opened, next_state}
use Rattle.rules.specs.Check.{unit_place, lent, room}
use Rattle.ground.specs.Parts.{splice}
use Rattle.ground.specs.declared.Name.{Name}
use Rattle.book.specs.Forms.{head_form}
use Rattle.book.specs.Sizes.{head_size}
use Rattle.enumerations.specs.Standing.{InText}
use Rattle.names.specs.declared.NewDefinition.{NewDefinition}
use Rattle.names.specs.Index.{entry, row, definition_width, Rows}
use Rattle.names.specs.Chains.{Chains}
use Rattle.names.specs.References.{bytes_of, Inside}
use Rattle.names.specs.Rows.{definition_row, Narrow}
use Rattle.members.specs.Members.{most}
use Rattle.members.specs.Held.{heading, Held, Opened, InHand, attributes_in}
use Rattle.members.proofs.HeldLaws.{Agree, agree-def, row_written}
use Rattle.members.proofs.StateLaws.{book-opened, book-declared}
use Rattle.readers.specs.Reads.{name_cut}
use Rattle.units.specs.declared.Head.{Head}
use Rattle.units.specs.declared.Unit.TheVariants.{Class, Measure}
use Rattle.units.specs.Steps.{head_of}
use Rattle.wellformed.specs.Fairness.{FairState, FairUnit, MayStand}
use Rattle.wellformed.proofs.KeepLaws.{judge-fair}
use Rattle.ground.specs.declared.Ruling.{Ruling}
use Rattle.ground.specs.Rulings.{ruling_of, judged_by}
use Rattle.ground.proofs.RulingLaws.{first-broken-by, ruling-append}
use Rattle.state.specs.declared.State as code
use Rattle.state.specs.Keeping.{Keeps, OpenIs, JudgedAs, Comes, verdict, Small}
use Rattle.state.specs.Next.{opened_by, declared_by}
use Rattle.state.proofs.KeepLaws.{Written, written-splice, book-grown, records-opened, records-declared}
use Rattle.state.proofs.KeepLaws.{keeps-opened, keeps-declared}
use Rattle.state.proofs.JudgeLaws.{home-number, room-over, room_within}
use Rattle.state.proofs.RowLaws.{Tells, open_row, def_row}
use Rattle.classes.specs.Classes.{kind_of, head_definition, head_bytes, RuledTo13, Heads, HeadRuled}
use Rattle.book.specs.Places.{Stands}
use Rattle.book.proofs.StandLaws.{stands-new}

-- ---- 9 to 13
pub taken-by : (t : List ℕ) (s : State) (n : R.Name) (m : Name) (v : Bool) → m ≡ name_cut n → InText t n
    → v ≡ is_found (at_hand s (bytes_of t m)) → is_found (at_hand s n.bytes) ≡ v
taken-by t s n m v e h q =
    let b : bytes_of t m ≡ n.bytes = ap (bytes_of t) e ∙ h.there in
    sym (q ∙ ap (λ (l : List ℕ). is_found (at_hand s l)) b)

module _ (s : State) (c : Sort) (n : R.Name) (p : List (List ℕ)) (b : Option G.Reference) where
  abbrev mixed : Bool
  mixed = has_twice p || (has_abstract p && has_final p)

  abbrev among : List Rule
  among = extends_rules c b (resolved s b)

  pub ruled-taken : (k : ℕ) → k ≡ n.offset → is_found (at_hand s n.bytes) ≡ true
      → RuledTo13 s c n p b (Err (record { number = 9; place = k }))
  unfolding class_rules
  ruled-taken k ek e = rw (e, ek)

  module _ (free : is_found (at_hand s n.bytes) ≡ false) where
    rest : ruling_of (class_rules s c n p b (resolved s b))
        ≡ result_and (ruling_of among) (ruling_of (rule 13 n.offset mixed ∷ []))
    unfolding class_rules
    rest = rw free (ruling-append among (rule 13 n.offset mixed ∷ []))

    pub ruled-extends : (u : Ruling) → ruling_of among ≡ Err u → RuledTo13 s c n p b (Err u)
    ruled-extends u e = rw (rest, e)

    pub ruled-mixed : ruling_of among ≡ Ok tt → true ≡ mixed → (k : ℕ) → k ≡ n.offset
        → RuledTo13 s c n p b (Err (record { number = 13; place = k }))
    ruled-mixed e m k ek = rw (rest, e, ← m, ek)

    pub ruled-fine : ruling_of among ≡ Ok tt → false ≡ mixed → (q : ℕ) → entry (known s.decls) q ≡ resolved s b
        → RuledTo13 s c n p b (Ok q)
    ruled-fine e m q f = (rw (rest, e, ← m), f)

-- ---- the record and the row
-- the row with the flags f
abbrev row_of : code.State → Head → ℕ → ℕ → NewDefinition
row_of st h base f = record {
  name = h.name;
  home = st.context.home;
  number = st.extent.records;
  sort = h.sort;
  flags = f;
  place = st.extent.used;
  base = base;
  first = st.listing.total;
}

pub class-row : (x : List ℕ) (st : code.State) (h : Head) (base f : ℕ)
    → f ≡ flags h.properties.is_abstract h.properties.is_final false false
    → splice x ((st.listing.count + 1) * definition_width) (definition_row (row_of st h base f))
    ≡ splice x ((st.listing.count + 1) * definition_width) (definition_row (head_definition st h base))
class-row x st h base f ef = rw ef

-- its numbers fit their 16 bits
pub class-narrow : (st : code.State) (h : Head) (base f n : ℕ) → h.name.offset + h.name.len ≤ 65535
    → st.extent.used + head_size ≤ n → n ≤ 65535 → Small st → base ≤ st.listing.count → h.sort ≤ 4 → f < 256
    → Narrow (row_of st h base f)
class-narrow st h base f n i w wn a wb wm wf =
    let e = a.fewer in
    let o = a.home in
    let r = a.rows in
    record {
      offset = omega arith;
      size = omega arith;
      home = omega arith;
      number = omega arith;
      sort = omega arith;
      flags = omega arith;
      place = omega arith;
      base = omega arith;
      first = omega arith;
    }

pub class-record : (o : List ℕ) (u : ℕ) (h : Head) (d : Option Def) (k f g : ℕ) (v : List ℕ)
    → v ≡ head_form k h.name.offset h.name.len f g → k ≡ kind_of h.sort
    → f ≡ flags h.properties.is_abstract h.properties.is_final false false
    → g ≡ base_number (bases_of d) → splice o u v ≡ splice o u (head_bytes h d)
class-record o u h d k f g v ev ek ef eg = rw (ev, ek, ef, eg)

pub kind-class : (k : ℕ) → k ≡ 1 → 4 ≡ kind_of k
kind-class k e = rw e

pub kind-structure : (k : ℕ) → k ≡ 2 → 5 ≡ kind_of k
kind-structure k e = rw e

pub kind-unit : (k : ℕ) → ¬ (k ≡ 1) → ¬ (k ≡ 2) → 18 ≡ kind_of k
kind-unit k e f = rw (ne_eqb k 1 e, ne_eqb k 2 f)

-- what is first written of the sort c is one record
pub record Formed (c : Sort) : Type 0 where
  pub one : (d : Def) → d.own ≡ []
      → bytes (head_records c d) ≡ head_form (kind_of (sort_number c)) d.name.offset (length d.name.bytes)
      (flags d.abstract d.final false d.mandatory) (base_number d.bases)
  pub heads : (d : Def) → d.own ≡ [] → heading c d ≡ head_records c d

class-formed : (k : Bool) → Formed (class_sort k)
class-formed true = record { one = λ d w. rw w; heads = λ d w. rw w }
class-formed false = record { one = λ d w. rw w; heads = λ d w. rw w }

unit-formed : Formed D.unit
unit-formed = record { one = λ d w. refl; heads = λ d w. refl }

-- the base of a class has few attributes
few-base : (t b : List ℕ) (ks : List Def) (ms : List Attribute) (x : List ℕ) (count : ℕ) (y : List ℕ) (total : ℕ) → Held
    t b ks ms x count y total → (p : ℕ) (o : Option Def) → entry ks p ≡ o
    → name_count (attributes_of (or_no_def o)) ≤ most
few-base t b ks ms x count y total h p none e = omega arith
few-base t b ks ms x count y total h p (some d) e = (h.def_rows p d e).owns.few

module _ (t : List ℕ) (s : State) (st : code.State) (o x z y hs : List ℕ) (K : Keeps t s st o x z y hs)
    (c : Sort) (form : Formed c) (n : R.Name) (p : List (List ℕ)) (b : Option G.Reference) (h : Head)
    (eh : h ≡ head_of c n p b) (it : InText t n) (base : ℕ) (wb : base ≤ st.listing.count)
    (eb : entry (known s.decls) base ≡ resolved s b) where
  abbrev new : Def
  new = new_class s c n p (resolved s b)

  flags-are : flags h.properties.is_abstract h.properties.is_final false false
      ≡ flags (has_abstract p) (has_final p) false false
  flags-are = ap (λ (u : Head). flags u.properties.is_abstract u.properties.is_final false false) eh

  tells : Tells t (known s.decls) (attributes_in s) (st.listing.count + 1) new (head_definition st h base)
  unfolding new_class
  tells = record {
    in_text = it;
    named = ap (λ (u : Head). u.name) eh;
    home = home-number t s st o x z y hs K;
    number = K.numbered;
    sort = ap (λ (u : Head). u.sort) eh;
    flagged = flags-are;
    before = omega arith;
    bases = ap bases_of eb;
    inherits = ap (λ (u : Option Def). attributes_of (or_no_def u)) eb;
    first = K.held.all_attributes;
    own = refl;
    few = few-base t (book s) (known s.decls) (attributes_in s) x st.listing.count y st.listing.total
        K.held base (resolved s b) eb;
  }

  class-bytes : head_bytes h (entry (known s.decls) base) ≡ bytes (head_records c new)
  unfolding new_class
  class-bytes =
      ap (head_bytes h) eb ∙ ap (λ (u : Head). head_bytes u (resolved s b)) eh ∙ sym (form.one new refl)

  -- what is written
  module _ (o' : List ℕ) (eo : o' ≡ splice o st.extent.used (head_bytes h (entry (known s.decls) base)))
      (w : st.extent.used + head_size ≤ length o) (x' : List ℕ)
      (ex : x' ≡ splice x ((st.listing.count + 1) * definition_width) (definition_row (head_definition st h base)))
      (wx : Rows x (st.listing.count + 2)) where
    book-is : Written (book s) (bytes (head_records c new)) o'
    book-is =
        subst (λ (a : List ℕ). Written (book s) a o') class-bytes (rw eo (written-splice (book s)
        (head_bytes h (entry (known s.decls) base)) o st.extent.used K.used K.written w))

    row_is : row definition_width x' (st.listing.count + 1) ≡ definition_row (head_definition st h base)
    row_is = rw ex (row_written definition_width x (definition_row (head_definition st h base))
        (st.listing.count + 1) refl (omega arith))

    rows_agree : Agree definition_width x x' st.listing.count
    rows_agree = rw ex (agree-def x (definition_row (head_definition st h base)) st.listing.count (omega arith))

  stands-as : (b' : List ℕ) → b' ≡ book s ++ bytes (head_records c new)
      → Stands b' st.extent.used (heading c new)
  unfolding new_class
  stands-as b' e =
      rw (form.heads new refl, e, K.used, ← append-nil (bytes (head_records c new)))
      (stands-new (book s) (head_records c new) [] refl)

module _ (t : List ℕ) (s : State) (st : code.State) (o x z y hs : List ℕ) (K : Keeps t s st o x z y hs) (n : R.Name)
    (p : List (List ℕ)) (b : Option G.Reference) (h : Head) (it : InText t n) (c : s.open_class ≡ none)
    (base : ℕ) (wb : base ≤ st.listing.count) (eb : entry (known s.decls) base ≡ resolved s b)
    (o' : List ℕ) (eo : o' ≡ splice o st.extent.used (head_bytes h (entry (known s.decls) base)))
    (w : st.extent.used + head_size ≤ length o) (x' : List ℕ)
    (ex : x' ≡ splice x ((st.listing.count + 1) * definition_width) (definition_row (head_definition st h base)))
    (wx : Rows x (st.listing.count + 2)) (y' : List ℕ) (ey : y' ≡ y) where
  pub class-opened : (k : Bool) → h ≡ head_of (class_sort k) n p b → (i : ℕ) (st' : code.State) → st' ≡ opened_by st i
      → i ≤ most → (hs' : List ℕ)
      → ((d : Def) → d.own ≡ [] → d.inherited ≡ attributes_of (or_no_def (entry (known s.decls) base))
      → Opened (attributes_in s) hs' i d)
      → (z' : List ℕ) → z' ≡ z → FairState t (opened s (new_class s (class_sort k) n p (resolved s b)))
      → Keeps t (opened s (new_class s (class_sort k) n p (resolved s b))) (opened_by st st'.context.in_hand)
      o' x' z' y' hs'
  unfolding new_class
  class-opened k eh i st' es wi hs' op z' ez fair =
      let d : Def = new_class s (class_sort k) n p (resolved s b) in
      let f = class-formed k in
      let dr = open_row t (book (opened s d)) (known s.decls) (attributes_in s) (st.listing.count + 1) d
      (head_definition st h base) (tells t s st o x z y hs K (class_sort k) f n p b h eh it base wb eb)
      (stands-as t s st o x z y hs K (class_sort k) f n p b h eh it base wb eb (book (opened s d))
      (book-opened s d c)) in
      rw (es, ey, ez) (keeps-opened t s st o x z y hs K d k o' x' hs' i c refl refl
      (book-is t s st o x z y hs K (class_sort k) f n p b h eh it base wb eb o' eo w x' ex wx)
      (rows_agree t s st o x z y hs K (class_sort k) f n p b h eh it base wb eb o' eo w x' ex wx)
      (rw (row_is t s st o x z y hs K (class_sort k) f n p b h eh it base wb eb o' eo w x' ex wx) dr) wi
      (op d refl (ap (λ (u : Option Def). attributes_of (or_no_def u)) (sym eb))) fair)

  pub unit-declared : h ≡ head_of D.unit n p b → (z' : List ℕ)
      → ((d : Def) → bytes_of t h.name ≡ d.name.bytes → Chains (known s.decls ++ (d ∷ [])) z')
      → FairState t (declare s (def (new_class s D.unit n p (resolved s b))))
      → Keeps t (declare s (def (new_class s D.unit n p (resolved s b)))) (declared_by st head_size 1 0) o' x' z' y' hs
  unfolding new_class
  unit-declared eh z' ch fair =
      let d : Def = new_class s D.unit n p (resolved s b) in
      let f = unit-formed in
      let dr = def_row t (book (declare s (def d))) (known s.decls) (attributes_in s) (st.listing.count + 1) d
      (head_definition st h base) (tells t s st o x z y hs K D.unit f n p b h eh it base wb eb)
      (stands-as t s st o x z y hs K D.unit f n p b h eh it base wb eb (book (declare s (def d)))
      (book-declared s (declare s (def d)) (def d) c refl refl)) in
      let named : bytes_of t h.name ≡ n.bytes = ap (λ (u : Head). bytes_of t u.name) eh ∙ it.there in
      rw ey (keeps-declared t s st o x z y hs K d o' x' z' head_size 1 0 c refl refl refl refl
      (book-is t s st o x z y hs K D.unit f n p b h eh it base wb eb o' eo w x' ex wx)
      (rows_agree t s st o x z y hs K D.unit f n p b h eh it base wb eb o' eo w x' ex wx)
      (rw (row_is t s st o x z y hs K D.unit f n p b h eh it base wb eb o' eo w x' ex wx) dr) (ch d named) fair)

pub in-hand : (t : List ℕ) (s : State) (st : code.State) (o x z y hs : List ℕ) → Keeps t s st o x z y hs → s.open_class
    ≡ none → InHand (attributes_in s) hs st.context.in_hand (entry (known s.decls) st.context.held)
in-hand t s st o x z y hs K c = let i : OpenIs t s st x hs none = subst (OpenIs t s st x hs) c K.opened in i.3

pub opened-self : (st st' : code.State) (i : ℕ) → st' ≡ opened_by st i → st' ≡ opened_by st st'.context.in_hand
opened-self st st' i e = e ∙ ap (opened_by st) (sym (ap (λ (u : code.State). u.context.in_hand) e))

-- ---- 9 to 13 and 19
module _ (s : State) (c : Sort) (n : R.Name) (p : List (List ℕ)) (b : Option G.Reference) (v : U.Unit)
    (H : Heads s c n p b v) (o : List ℕ) where
  judged-as : (r : Result ⊤ Ruling) → ruling_of (class_rules s c n p b (resolved s b)) ≡ r
      → judge s v ≡ judged_by r (ok (next_state s v))
  unfolding judge
  judged-as r e = let l = class_rules s c n p b (resolved s b) in
      ap (λ (l : List Rule). first_broken_or l (next_state s v)) H.rules
      ∙ ap (λ (m : List Rule). first_broken_or m (next_state s v)) (sym (append-nil l))
      ∙ first-broken-by l [] (next_state s v) ∙ ap (λ (q : Result ⊤ Ruling). judged_by q (ok (next_state s v))) e

  pub head-broken : (r : Ruling) → RuledTo13 s c n p b (Err r) → HeadRuled s b v o (Err r)
  head-broken r u = ap (room (lent (length o)) (unit_place v)) (judged-as (Err r) u)

  module _ (m : length o ≤ 65535) (used : ℕ) (eu : used ≡ length (book s)) (q : ℕ) (u : RuledTo13 s c n p b (Ok q))
    where
      none-broken : judge s v ≡ ok (next_state s v)
      none-broken = judged-as (Ok tt) u.0

      pub head-over : length o < used + head_size → (k : ℕ) → k ≡ n.offset
          → HeadRuled s b v o (Err (record { number = 19; place = k }))
      head-over w k ek =
          let g = H.grows in
          ap (room (lent (length o)) (unit_place v)) none-broken
          ∙ room-over (length o) (unit_place v) (next_state s v) m (omega arith)
          ∙ rw ek (ap (refused 19) H.place)

      pub head-fine : used + head_size ≤ length o → HeadRuled s b v o (Ok q)
      head-fine w =
          let g = H.grows in
          record {
            fits =
                ap (room (lent (length o)) (unit_place v)) none-broken
                ∙ room_within (length o) (unit_place v) (next_state s v) m (omega arith);
            fine = none-broken;
            base = u.1;
          }

-- ---- the units
module _ (s : State) (n : R.Name) (p : List (List ℕ)) (b : Option G.Reference) (c : s.open_class ≡ none) where
  pub class-heads : (k : Bool) → Heads s (class_sort k) n p b (U.class (class_sort k) n p b)
  unfolding new_class
  class-heads k =
      let d : Def = new_class s (class_sort k) n p (resolved s b) in
      record {
        rules = refl;
        place = refl;
        grows =
            book-grown s (opened s d) (head_records (class_sort k) d) (records-opened s d c)
            ∙ ap (λ (i : List ℕ). length (book s) + length i) ((class-formed k).one d refl);
      }

  pub unit-heads : Heads s D.unit n p b (U.unit n p b)
  unfolding new_class
  unit-heads =
      let d : Def = new_class s D.unit n p (resolved s b) in
      record {
        rules = refl;
        place = refl;
        grows = book-grown s (declare s (def d)) (decl_records (def d)) (records-declared s (def d) c);
      }

module _ (t : List ℕ) (s : State) (n : R.Name) (p : List (List ℕ)) (b : Option G.Reference) (head : Head)
    (rs : List ℕ) where
  pub class-is : (k : Bool) → Comes t s (U.class (class_sort k) n p b) (Class head) rs
      → head ≡ head_of (class_sort k) n p b
  class-is k c = let (j, e, f) = c.is in cc

  pub unit-is : Comes t s (U.unit n p b) (Measure head) rs → head ≡ head_of D.unit n p b
  unit-is c = let e = c.is in cc

-- ---- the answer
pub answer-fair : (t : List ℕ) (s : State) (b : Option G.Reference) (v : U.Unit) (o : List ℕ) (q : ℕ)
    → HeadRuled s b v o (Ok q) → FairUnit t v → MayStand s v → FairState t s → FairState t (next_state s v)
answer-fair t s b v o q u f m k = judge-fair t s (next_state s v) v f m k u.fine

module _ (t : List ℕ) (s : State) (b : Option G.Reference) (v : U.Unit) (o : List ℕ)
    (o' x' z' y' hs' : List ℕ) where
  answer : (a : Result code.State Ruling) (j : J.Judged) → verdict s v o ≡ j → JudgedAs t j a o' x' z' y' hs'
      → JudgedAs t (verdict s v o) a o' x' z' y' hs'
  answer a j e h = subst (λ (i : J.Judged). JudgedAs t i a o' x' z' y' hs') (sym e) h

  pub answer-broken : (r : Ruling) → HeadRuled s b v o (Err r) → JudgedAs t (verdict s v o) (Err r) o' x' z' y' hs'
  answer-broken r u = answer (Err r) (refused r.number r.place) u refl

  pub answer-fine : (q : ℕ) → HeadRuled s b v o (Ok q) → (st₁ st₂ : code.State) → st₁ ≡ st₂
      → Keeps t (next_state s v) st₂ o' x' z' y' hs' → JudgedAs t (verdict s v o) (Ok st₁) o' x' z' y' hs'
  answer-fine q u st₁ st₂ es k = answer (Ok st₁) (ok (next_state s v)) u.fits (st₂, ap Ok es, k)
