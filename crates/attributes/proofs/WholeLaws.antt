-- Judging an attribute as a whole: what each stage hands to the next, and what the answer is.
use mathlib.Core.Path.{◌≡◌, refl, sym, ap, ◌∙◌, subst}
use mathlib.Core.Bool.{Bool, true, false, not, ◌&&◌}
use mathlib.Core.Option.{Option, none, some}
use mathlib.Core.List.{List, [], ◌∷◌}
use Prim.Native.Nat.{ℕ, ◌+◌, ◌≤◌}
use native.Mathlib.Omega.{arith}
use lib.ListN.{length, take}
use Rattle.rules.specs.Names as R
use Rattle.rules.specs.Grammar as G
use Rattle.rules.specs.Units as U
use Rattle.rules.specs.Declarations.{ty_of, Attribute, Def, attribute_at, is_found, State, known}
use Rattle.rules.specs.Book.{Record, bytes, use_records}
use Rattle.rules.specs.Judge.{attribute_use, Judged, ok, refused, judge, or_no_attribute, has_extended, has_twice}
use Rattle.rules.specs.Judge.{element_rule, reference_in, resolved}
use Rattle.rules.specs.Check.{lent, room}
use Rattle.ground.specs.Parts.{splice}
use Rattle.book.specs.Sizes.{head_size}
use Rattle.enumerations.specs.Records.{size_of}
use Rattle.enumerations.specs.declared.Size.{Size}
use Rattle.names.specs.Index.{entry}
use Rattle.members.specs.Held.{attributes_in, use_for}
use Rattle.rules.specs.All.{AnyIs}
use Rattle.wellformed.specs.Fairness.{Begins, FairType}
use Rattle.parts.specs.Forms.{any_of}
use Rattle.rules.specs.Grammar.{WrittenType}
use Rattle.wellformed.proofs.KeepLaws.{judge-fair, found-there}
use Rattle.ground.specs.Rulings.{ruling_of, judged_by}
use Rattle.ground.specs.declared.Ruling.{Ruling}
use Rattle.types.proofs.TypeLaws.{once-of}
use Rattle.units.specs.declared.AttributeUnit.{AttributeUnit}
use Rattle.units.specs.declared.Unit.TheVariants.{Attribute as V-as-Attribute}
use Rattle.state.specs.declared.State as code
use Rattle.std.specs.Prelude.{⊤, Result, Ok, Err}
use Rattle.state.specs.Keeping.{Keeps, Comes, JudgedAs, verdict}
use Rattle.state.proofs.KeepLaws.{plain-use}
use Rattle.state.proofs.JudgeLaws.{judged-refused}
use Rattle.written.specs.Written.{LaidWhen}
use Rattle.attribute_names.specs.Stages.{name_rules, reference_rules}
use Rattle.attribute_names.specs.Facts.{Given, Refers, BondsAre}
use Rattle.attribute_names.specs.declared.Bonds.{Bonds}
use Rattle.attribute_names.proofs.GivenLaws.{given, class-there, at_name, is-twice, at-type, is-meant}
use Rattle.attribute_names.proofs.BondLaws.{to-11-off, refers-is}
use Rattle.attribute_types.specs.Stages.{head_rules}
use Rattle.attribute_types.specs.Facts.{Ready, Binds, TypingsAre}
use Rattle.attribute_types.specs.declared.Uses.{Uses}
use Rattle.attribute_types.proofs.UseLaws.{ready}
use Rattle.attribute_records.specs.Facts.{Lays, LaidAs}
use Rattle.attributes.specs.Facts.{Passes, use_in, after_attribute}
use Rattle.attributes.proofs.StageLaws.{to-11, to-13, to-22, judged-in-stages}

laid-refused : (q : Result ⊤ Ruling) (l : List Record) (i : ℕ) (o o₁ : List ℕ) (r : Ruling)
    → LaidWhen q l i o o₁ (Err r) → q ≡ Err r
laid-refused (Err q) l i o o₁ r h = let e : r ≡ q = cc in rw e
laid-refused (Ok u) l i o o₁ r h = let e = h.0 in cc

laid-accepted : (q : Result ⊤ Ruling) (l : List Record) (i : ℕ) (o o₁ : List ℕ) (s : Size) → LaidWhen q l i o o₁ (Ok s)
    → (q ≡ Ok tt) × (s ≡ size_of l) × (i + length (bytes l) ≤ length o → o₁ ≡ splice o i (bytes l))
laid-accepted (Err q) l i o o₁ s h = cc
laid-accepted (Ok u) l i o o₁ s h = let e = h.0 in let k : s ≡ size_of l = cc in (refl, k, h.1)

module _ {t : List ℕ} {s : State} {st : code.State} {o x z y hs : List ℕ} {n : R.Name} {p : List
    (List ℕ)} {w : G.Written} {a : AttributeUnit} {rs : List ℕ} (k : Keeps t s st o x z y hs)
    (m : Comes t s (U.attribute n p w) (V-as-Attribute a) rs) where
  pub unit-is : Given t n p w rs a
  unit-is = given t s n p w a rs m

  pub class-is : (c : Def) × (s.open_class ≡ some c)
  class-is = class-there s m.stands

  abbrev c· : Def
  c· = class-is.0

  abbrev base· : Option Attribute
  base· = attribute_at n.bytes c·.inherited

  abbrev target· : Option Def
  target· = resolved s (reference_in w.type)

  stages : judge s (U.attribute n p w) ≡ judged_by (ruling_of (to-11 s c· n p w))
      (judged_by (ruling_of (to-13 s c· n p w))
      (judged_by (ruling_of (to-22 s c· n p w)) (ok (after_attribute s c· n p w))))
  stages = judged-in-stages s c· n p w class-is.1

  -- a rule is broken
  pub answers : (o' x' z' y' hs' : List ℕ) (q : Ruling) → judge s (U.attribute n p w) ≡ refused q.number q.place
      → JudgedAs t (verdict s (U.attribute n p w) o) (Err q) o' x' z' y' hs'
  answers o' x' z' y' hs' q h =
      judged-refused t s (U.attribute n p w) o (Err q) o' x' z' y' hs' q.number q.place h refl

  abbrev after-11 : Judged
  after-11 = judged_by (ruling_of (to-13 s c· n p w))
      (judged_by (ruling_of (to-22 s c· n p w)) (ok (after_attribute s c· n p w)))

  pub judged-first : (q : Ruling) → BondsAre s class-is.0 n (has_extended p) w.type hs st.context.in_hand (Err q)
      → judge s (U.attribute n p w) ≡ refused q.number q.place
  judged-first q h = stages ∙ ap (λ (r : Result ⊤ Ruling). judged_by r after-11) h

  module _ {e : Bonds} (ei : BondsAre s class-is.0 n (has_extended p) w.type hs st.context.in_hand (Ok e)) where
    past_first : judge s (U.attribute n p w) ≡ after-11
    past_first = stages ∙ ap (λ (r : Result ⊤ Ruling). judged_by r after-11) ei.0

    base-is : entry (attributes_in s) e.base ≡ base·
    base-is = ei.1.reaches.base

    target_is : entry (known s.decls) e.target ≡ target·
    target_is = ei.1.reaches.target

    offs : (ruling_of (name_rules c· n (has_extended p)) ≡ Ok tt)
        × (ruling_of (element_rule w.type ∷ []) ≡ Ok tt)
        × (ruling_of (reference_rules n.offset (has_extended p) (is_found base·) w.type target·) ≡ Ok tt)
    offs = to-11-off c· n (has_extended p) (is_found base·) w.type target· ei.0

    refer : Refers w.type target· × ((has_extended p && not (is_found base·)) ≡ false)
    refer = refers-is n.offset (has_extended p) (is_found base·) w.type target· (λ q. ap (resolved s) q) offs.2

    pub refers_to : Refers w.type (entry (known s.decls) e.target)
    refers_to = subst (Refers w.type) (sym target_is) refer.0

    alone : w.type ≡ none → is_found (entry (attributes_in s) e.base) ≡ true
    alone q = ap is_found base-is ∙ found-there (has_extended p) (is_found base·) (unit-is.fair.alone q) refer.1

    abbrev Typings : Result Uses Ruling → Type 0
    Typings = TypingsAre t (take st.extent.used o) (known s.decls) a.name.offset a.properties.twice w.type e.target
        (entry (attributes_in s) e.base)

    -- what judging the types says
    pub typings : length o ≤ 65535 → (r : Result Uses Ruling)
        → ((i : List ℕ) (ks : List Def) (ms : List Attribute) (v : Option WrittenType)
        → Ready i (take st.extent.used o) ks ms x st.listing.count y st.listing.total
        → a.written.meant ≡ any_of v → AnyIs (FairType i) v → Refers v (entry ks e.target)
        → TypingsAre i (take st.extent.used o) ks a.name.offset a.properties.twice v e.target (entry ms e.base) r)
        → Typings r
    typings hn r h = h t (known s.decls) (attributes_in s) w.type (ready t s st o x z y hs hn k)
        (is-meant t n p w rs a unit-is) unit-is.fair.type refers_to

    to-13-are : ruling_of (head_rules a.name.offset (or_no_attribute (entry (attributes_in s) e.base)).final
        a.properties.twice (attribute_use w.type (entry (known s.decls) e.target)
        (or_no_attribute (entry (attributes_in s) e.base)).use_of) (entry (known s.decls) e.target))
        ≡ ruling_of (to-13 s c· n p w)
    to-13-are =
        ap (λ (i : ℕ). ruling_of (head_rules i (or_no_attribute (entry (attributes_in s) e.base)).final
        a.properties.twice (attribute_use w.type (entry (known s.decls) e.target)
        (or_no_attribute (entry (attributes_in s) e.base)).use_of) (entry (known s.decls) e.target)))
        (at_name t n p w rs a unit-is)
        ∙ ap (λ (b : Bool). ruling_of (head_rules n.offset (or_no_attribute
        (entry (attributes_in s) e.base)).final b (attribute_use w.type (entry (known s.decls) e.target)
        (or_no_attribute (entry (attributes_in s) e.base)).use_of) (entry (known s.decls) e.target)))
        (is-twice t n p w rs a unit-is)
        ∙ ap (λ (i : Option Attribute). ruling_of (head_rules n.offset (or_no_attribute i).final (has_twice p)
        (attribute_use w.type (entry (known s.decls) e.target) (or_no_attribute i).use_of)
        (entry (known s.decls) e.target))) base-is
        ∙ ap (λ (d : Option Def). ruling_of (head_rules n.offset (or_no_attribute base·).final (has_twice p)
        (attribute_use w.type d (or_no_attribute base·).use_of) d)) target_is

    abbrev after-13 : Judged
    after-13 = judged_by (ruling_of (to-22 s c· n p w)) (ok (after_attribute s c· n p w))

    pub judged-second : (q : Ruling) → Typings (Err q) → judge s (U.attribute n p w) ≡ refused q.number q.place
    judged-second q h = past_first ∙ ap (λ (r : Result ⊤ Ruling). judged_by r after-13) (sym to-13-are ∙ h)

    module _ {u : Uses} (bi : Binds e st.listing.count u) (ri : Typings (Ok u)) where
      past-second : judge s (U.attribute n p w) ≡ after-13
      past-second = past_first ∙ ap (λ (r : Result ⊤ Ruling). judged_by r after-13) (sym to-13-are ∙ ri.0)

      lays : e.base ≤ st.listing.total → length o ≤ 65535 → Lays t (take st.extent.used o)
          (known s.decls) (attributes_in s) x st.listing.count y st.listing.total rs a.written
          u.base e.target u.named u.kept u.over w.type
      lays hb hn = rw bi.base (record {
        ready = ready t s st o x z y hs hn k;
        within = hb;
        based = bi.based;
        meant = is-meant t n p w rs a unit-is;
        begins = subst (λ (i : ℕ). AnyIs (Begins i) w.type)
            (sym (at-type t n p w rs a unit-is)) unit-is.fair.begins;
        scratched = unit-is.scratched;
        once = once-of w.type tt offs.1;
        refers = refers_to;
        names = ri.1.named;
        alone = alone;
        used = ri.1.kept;
        typed = ri.1.base;
        valued = ri.1.own;
        typed_named = ri.1.typed_named;
        keeps = ri.1.keeps;
      })

      module _ (o₁ : List ℕ) where
        abbrev Laid : Result Size Ruling → Type 0
        Laid = LaidAs a.written.place w.type (entry (known s.decls) e.target) (entry (attributes_in s) u.base)
            (st.extent.used + head_size) o o₁

        -- what laying says
        pub laid-by : e.base ≤ st.listing.total → length o ≤ 65535 → (l : Result Size Ruling)
            → ((ks : List Def) (ms : List Attribute) (y : List ℕ) (total target : ℕ) (v : Option WrittenType)
            → Lays t (take st.extent.used o) ks ms x st.listing.count y total rs a.written u.base target
            u.named u.kept u.over v
            → LaidAs a.written.place v (entry ks target) (entry ms u.base) (st.extent.used + head_size) o o₁ l) → Laid l
        laid-by hb hn l h = h (known s.decls) (attributes_in s) y st.listing.total e.target w.type (lays hb hn)

        laid : (l : Result Size Ruling) → Laid l
            → LaidWhen (ruling_of (to-22 s c· n p w)) (use_records (use_in s c· n w))
            (st.extent.used + head_size) o o₁ l
        laid l li =
            subst (λ (d : Option Def). LaidAs w.place w.type d base· (st.extent.used + head_size) o o₁ l)
            target_is
            (subst (λ (i : Option Attribute). LaidAs w.place w.type
            (entry (known s.decls) e.target) i (st.extent.used + head_size) o o₁ l)
            (ap (entry (attributes_in s)) bi.base ∙ base-is)
            (subst (λ (i : ℕ). LaidAs i w.type (entry (known s.decls) e.target)
            (entry (attributes_in s) u.base) (st.extent.used + head_size) o o₁ l)
            (at-type t n p w rs a unit-is) li))

        pub judged-third : (q : Ruling) → Laid (Err q) → judge s (U.attribute n p w) ≡ refused q.number q.place
        judged-third q li =
            past-second ∙ ap (λ (r : Result ⊤ Ruling). judged_by r (ok (after_attribute s c· n p w)))
            (laid-refused (ruling_of (to-22 s c· n p w)) (use_records (use_in s c· n w)) (st.extent.used + head_size)
            o o₁ q (laid (Err q) li))

        module _ (size : Size) (li : Laid (Ok size)) where
          accepted : (ruling_of (to-22 s c· n p w) ≡ Ok tt) × (size ≡ size_of (use_records (use_in s c· n w)))
              × (st.extent.used + head_size + length (bytes (use_records (use_in s c· n w))) ≤ length o
              → o₁ ≡ splice o (st.extent.used + head_size) (bytes (use_records (use_in s c· n w))))
          accepted = laid-accepted (ruling_of (to-22 s c· n p w)) (use_records (use_in s c· n w))
              (st.extent.used + head_size) o o₁ size (laid (Ok size) li)

          pub judged-all : judge s (U.attribute n p w) ≡ ok (after_attribute s c· n p w)
          judged-all =
              past-second ∙ ap (λ (r : Result ⊤ Ruling). judged_by r (ok (after_attribute s c· n p w))) accepted.0

          pub size-solid : size.records ≤ size.bytes
          size-solid =
              let i = ap (λ (j : Size). j.records) accepted.1 in
              let j = ap (λ (j : Size). j.bytes) accepted.1 in
              let q = (plain-use (use_in s c· n w)).solid in omega arith

          pub passes : (d : ℕ) → use_for (entry (known s.decls) d) (ty_of (attribute_use w.type
              (entry (known s.decls) e.target) (or_no_attribute (entry (attributes_in s) e.base)).use_of))
              ≡ attribute_use w.type (entry (known s.decls) e.target)
              (or_no_attribute (entry (attributes_in s) e.base)).use_of
              → Passes t s st o o₁ x z y hs rs c· n p w a e d size
          passes d eu = record {
            keeps = k;
            open_is = class-is.1;
            given = unit-is;
            new = offs.0;
            at_slot = ei.1.slot;
            reaches = ei.1.reaches;
            uses = rw (target_is, base-is) at eu;
            sized = accepted.1;
            laid = accepted.2;
            fair = judge-fair t s (after_attribute s c· n p w) (U.attribute n p w) m.fair
                m.stands k.fair judged-all;
          }

          -- the end's answer is the whole answer
          pub judged-end : (j : Result code.State Ruling) (o₂ x' z' y' hs' : List ℕ) → JudgedAs t
              (room (lent (length o)) n.offset (ok (after_attribute s c· n p w))) j o₂ x' z' y' hs'
              → JudgedAs t (verdict s (U.attribute n p w) o) j o₂ x' z' y' hs'
          judged-end j o₂ x' z' y' hs' q =
              subst (λ (i : Judged). JudgedAs t (room (lent (length o)) n.offset i) j o₂ x' z' y' hs')
              (sym judged-all) q
