-- After each unit the code keeps the new state: one law for each kind of declaration.
use mathlib.Core.Path.{◌≡◌, refl, sym, ap, ◌∙◌, subst}
use mathlib.Core.Bool.{Bool, true, false, cond, not, ◌&&◌}
use mathlib.Core.Option.{Option, none, some}
use mathlib.Core.List.{List, [], ◌∷◌, ◌++◌, append_assoc, append-nil}
use Prim.Native.Nat.{ℕ, zero, suc, ◌+◌, ◌*◌, ◌≤◌}
use native.Mathlib.Omega.{arith}
use lib.ListN.{length, length-append, take, drop, set, replicate}
use lib.Seq.{take_at}
use lib.Dec.{leb}
use Rattle.rules.specs.Names as R
use Rattle.rules.specs.Enumerations.{Enum, end, elem}
use Rattle.rules.specs.Types.{Measure, Ty, text, numeric, structure, enum}
use Rattle.rules.specs.Declarations as D
use Rattle.rules.specs.Declarations.{Use, inline, of_domain, of_structure, Attribute, Sort, Def, attribute_at}
use Rattle.rules.specs.Declarations.{attributes_of, is_found, name_count, Decl, def, end_topic, State, known}
use Rattle.rules.specs.Book.{Record, bytes, name_record, inner_records, element_records, unit_records, type_records}
use Rattle.rules.specs.Book.{use_records}
use Rattle.rules.specs.Book.{head_records, end_records, decl_records, decls_records, attribute_records}
use Rattle.rules.specs.Book.{attributes_records}
use Rattle.rules.specs.Book.{records, book, is_definition, definitions}
use Rattle.rules.specs.Units.{Strings, class_sort}
use Rattle.rules.specs.Judge.{declare, opened, in_topic, begun, with_attribute}
use Rattle.rules.specs.Check.{nothing}
use Rattle.ground.specs.Parts.{splice}
use Rattle.ground.specs.declared.Name.{Name}
use Rattle.names.specs.Index.{nth, entry, row, definition_width}
use Rattle.names.specs.Chains.{Chains}
use Rattle.names.proofs.IndexLaws.{entry-keep}
use Rattle.names.proofs.KnownLaws.{chains-none}
use Rattle.members.specs.Held.{DefRow, AttributeRow, OpenRow, Opened, owns_of, attributes_in}
use Rattle.members.proofs.HeldLaws.{Agree}
use Rattle.rules.proofs.GrowLaws.{known-append, bytes-append, decls-append}
use Rattle.members.proofs.StateLaws.{nowhere, owns-append, head_more, end_is, book-attribute, held-declared}
use Rattle.members.proofs.StateLaws.{held-opened, held-member, held-closed, held-ended, open-row-more}
use Rattle.members.proofs.StateLaws.{attribute-no-unit}
use Rattle.wellformed.specs.Fairness.{FairOpen, FairState, Undeclared}
use Rattle.rules.proofs.Tests.{never}
use Rattle.rules.proofs.AllLaws.{any-is}
use Rattle.wellformed.proofs.UseLaws.{fair-nothing}
use Rattle.state.specs.declared.State as code
use Rattle.state.specs.Keeping.{Calls, TopicIs, OpenIs, Keeps}
use Rattle.state.specs.Next.{grown_by, begun_by, declared_by, in_topic_by, opened_by, member_by, closed_by}
use Rattle.members.specs.Members.{attribute_width}

-- ---- lists of records
pub definitions-append : (l m : List Record) → definitions (l ++ m) ≡ definitions l + definitions m
definitions-append [] m = omega arith
definitions-append (r ∷ l) m = go (is_definition r) (definitions-append l m)
  where
    go : (b : Bool) → definitions (l ++ m) ≡ definitions l + definitions m → cond b (suc (definitions (l ++ m)))
        (definitions (l ++ m)) ≡ cond b (suc (definitions l)) (definitions l) + definitions m
    go true h = omega arith
    go false h = h

pub definitions-few : (l : List Record) → definitions l ≤ length l
definitions-few [] = omega arith
definitions-few (r ∷ l) = go (is_definition r) (definitions-few l)
  where
    go : (b : Bool) → definitions l ≤ length l → cond b (suc (definitions l)) (definitions l) ≤ suc (length l)
    go true h = omega arith
    go false h = omega arith

length-bytes : (l m : List Record) → length (bytes (l ++ m)) ≡ length (bytes l) + length (bytes m)
length-bytes l m = ap length (bytes-append l m) ∙ length-append (bytes l) (bytes m)

-- every record has a byte
abbrev pub Solid : List Record → Type 0
Solid l = length l ≤ length (bytes l)

solid-append : (l m : List Record) → Solid l → Solid m → Solid (l ++ m)
solid-append l m a b = let p = length-bytes l m in let q = length-append l m in omega arith

solid-one : (b : ℕ) (r : List ℕ) (l : List Record) → Solid l → Solid ((b ∷ r) ∷ l)
solid-one b r l h = let p = length-append r (bytes l) in omega arith

-- and none is a definition's
pub record Plain (l : List Record) : Type 0 where
  pub solid : Solid l
  pub undefined : definitions l ≡ 0

plain-none : Plain []
plain-none = record { solid = omega arith; undefined = refl }

plain-one : (b : ℕ) (r : List ℕ) (l : List Record) → is_definition (b ∷ r) ≡ false → Plain l → Plain ((b ∷ r) ∷ l)
plain-one b r l e h = record { solid = solid-one b r l h.solid; undefined = rw e h.undefined }

plain-append : (l m : List Record) → Plain l → Plain m → Plain (l ++ m)
plain-append l m a b = record {
  solid = solid-append l m a.solid b.solid;
  undefined = let p = definitions-append l m in let v = a.undefined in let w = b.undefined in omega arith;
}

plain-inner : (i : Enum) (l : List Record) → Plain l → Plain (inner_records i l)
plain-inner (end false) l h = plain-none
plain-inner (end true) l h = h
plain-inner (elem n i r) l h = h

plain-elements : (e : Enum) → Plain (element_records e)
plain-elements (end f) = plain-one 15 [] [] refl plain-none
plain-elements (elem n i r) =
    plain-one 14 _ _ refl
    (plain-append _ _ (plain-inner i _ (plain-one 13 _ _ refl (plain-elements i))) (plain-elements r))

plain-unit : (u : Option Measure) → Plain (unit_records u)
plain-unit none = plain-none
plain-unit (some u) = plain-one 19 _ [] refl plain-none

pub plain_type : (x : Ty) → Plain (type_records x)
plain_type (text true n) = plain-one 9 _ [] refl plain-none
plain_type (text false n) = plain-one 8 _ [] refl plain-none
plain_type (numeric none u) = plain-one 11 [] _ refl (plain-unit u)
plain_type (numeric (some r) u) = plain-one 10 _ _ refl (plain-unit u)
plain_type structure = plain-none
plain_type (enum e) = plain-one 13 _ _ refl (plain-elements e)

pub plain-use : (u : Use) → Plain (use_records u)
plain-use (inline x) = plain_type x
plain-use (of_domain l bs) = plain-one 17 _ [] refl plain-none
plain-use (of_structure l bs) = plain-one 12 _ [] refl plain-none

-- ---- the records of a declaration
pub attribute-solid : (a : Attribute) → Solid (attribute_records a)
attribute-solid a = let h = (plain-use a.use_of).solid in omega arith

solid-attributes : (l : List Attribute) → Solid (attributes_records l)
solid-attributes [] = omega arith
solid-attributes (a ∷ l) =
    solid-append (attribute_records a) (attributes_records l) (attribute-solid a) (solid-attributes l)

-- at least six bytes
pub record Heads (l : List Record) : Type 0 where
  pub solid : Solid l
  pub six : 6 ≤ length (bytes l)

heads-append : (l m : List Record) → Heads l → Solid m → Heads (l ++ m)
heads-append l m a b = record {
  solid = solid-append l m a.solid b;
  six = let p = length-bytes l m in let v = a.six in omega arith;
}

head-solid : (x : Sort) (d : Def) → Heads (head_records x d)
head-solid D.topic d = record { solid = omega arith; six = omega arith }
head-solid D.class d = record { solid = let h = solid-attributes d.own in omega arith; six = omega arith }
head-solid D.struct d = record { solid = let h = solid-attributes d.own in omega arith; six = omega arith }
head-solid D.domain d = record { solid = let h = (plain_type d.type).solid in omega arith; six = omega arith }
head-solid D.unit d = record { solid = omega arith; six = omega arith }

end-solid : (x : Sort) → Solid (end_records x)
end-solid D.topic = omega arith
end-solid D.class = omega arith
end-solid D.struct = omega arith
end-solid D.domain = omega arith
end-solid D.unit = omega arith

decl-solid : (d : Def) → Heads (decl_records (def d))
decl-solid d =
    heads-append (head_records d.sort d) (end_records d.sort) (head-solid d.sort d) (end-solid d.sort)

-- of a domain and of an attribute there is one definition, of a unit none
pub domain-defined : (d : Def) → d.sort ≡ D.domain → definitions (decl_records (def d)) ≡ 1
domain-defined d e = rw (e, append-nil (type_records d.type)) (ap suc (plain_type d.type).undefined)

pub attribute-defined : (a : Attribute) → definitions (attribute_records a) ≡ 1
attribute-defined a = ap suc (plain-use a.use_of).undefined

-- ---- no class is open
pub none_open : (s : State) → is_found s.open_class ≡ false → s.open_class ≡ none
none_open s e = go s.open_class e
  where
    go : (c : Option Def) → is_found c ≡ false → c ≡ none
    go none e = refl
    go (some c) e = never (sym e)

-- ---- the records of a state that grow
pub records-declared : (s : State) (e : Decl) → s.open_class ≡ none
    → records (declare s e) ≡ records s ++ decl_records e
records-declared s e o = rw (o, append-nil (decls_records s.decls), append-nil (decls_records (s.decls ++ (e ∷ []))))
    (decls-append s.decls e)

pub records-opened : (s : State) (c : Def) → s.open_class ≡ none
    → records (opened s c) ≡ records s ++ head_records c.sort c
records-opened s c o = rw (o, append-nil (decls_records s.decls))

-- of a class or structure
-- a class's head without attributes
class-head : (x : Sort) (k : Bool) (c : Def) → x ≡ class_sort k → c.own ≡ []
    → (length (head_records x c) ≡ 1) × (length (bytes (head_records x c)) ≡ 11) × (definitions (head_records x c) ≡ 1)
class-head x true c e w = rw (e, w) (refl, refl, refl)
class-head x false c e w = rw (e, w) (refl, refl, refl)

module _ (s : State) (c : Def) (k : Bool) (o : s.open_class ≡ some c) (e : c.sort ≡ class_sort k) where
  pub records-member : (a : Attribute) → records (opened s (with_attribute c a)) ≡ records s ++ attribute_records a
  unfolding with_attribute
  records-member a = rw (o, head_more c.sort k c a e)
      (sym (append_assoc (decls_records s.decls) (head_records c.sort c) (attribute_records a)))

  pub records-closed : records (declare s (def c)) ≡ records s ++ ((16 ∷ []) ∷ [])
  records-closed =
      rw
      (o, append-nil (decls_records (s.decls ++ (def c ∷ []))), decls-append s.decls (def c), end_is c.sort k e)
      (sym (append_assoc (decls_records s.decls) (head_records c.sort c) ((16 ∷ []) ∷ [])))

-- ---- the book in its buffer, with v behind it
pub record Written (b v o : List ℕ) : Type 0 where
  pub within : length b + length v ≤ length o
  pub whole : take (length b + length v) o ≡ b ++ v

pub written-splice : (b v o : List ℕ) (u : ℕ) → u ≡ length b → take u o ≡ b
    → u + length v ≤ length o → Written b v (splice o u v)
written-splice b v o u e w h =
    let l : length (take u o ++ v)
    ≡ length b + length v = let p = length-append (take u o) v in let q = ap length w in omega arith in
    record {
      within = let p = length-append (take u o ++ v) (drop (u + length v) o) in omega arith;
      whole = take_at (take u o ++ v) (drop (u + length v) o) (length b + length v) l ∙ ap (λ (x : List ℕ). x ++ v) w;
    }

-- how long a book with more records is
pub book-grown : (s s' : State) (l : List Record) → records s' ≡ records s ++ l
    → length (book s') ≡ length (book s) + length (bytes l)
book-grown s s' l e = ap (λ (m : List Record). length (bytes m)) e ∙ length-bytes (records s) l

-- what Keeps says of the book, and of what is counted in it
pub record Booked (s : State) (st : code.State) (o : List ℕ) : Type 0 where
  pub used : st.extent.used ≡ length (book s)
  pub within : st.extent.used ≤ length o
  pub written : take st.extent.used o ≡ book s
  pub numbered : st.extent.records ≡ length (records s)
  pub fewer : st.extent.records ≤ st.extent.used
  pub defined : st.extent.definitions ≡ definitions (records s)

pub booked : {t : List ℕ} {s : State} {st : code.State} {o x z y hs : List ℕ} → Keeps t s st o x z y hs → Booked s st o
booked k = record {
  used = k.used;
  within = k.within;
  written = k.written;
  numbered = k.numbered;
  fewer = k.fewer;
  defined = k.defined;
}

-- the records l more
grown : (s s' : State) (st : code.State) (o o' : List ℕ) (l : List Record) (b r d : ℕ) → Booked s st o
    → records s' ≡ records s ++ l → Solid l → Written (book s) (bytes l) o'
    → b ≡ length (bytes l) → r ≡ length l → d ≡ definitions l → Booked s' (grown_by st b r d) o'
grown s s' st o o' l b r d k e f w eb er ed =
    let v : book s' ≡ book s ++ bytes l = ap bytes e ∙ bytes-append (records s) l in
    let m : st.extent.used + b ≡ length (book s) + length (bytes l) = let u = k.used in omega arith in
    record {
      used = m ∙ sym (ap length v ∙ length-append (book s) (bytes l));
      within = let h = w.within in omega arith;
      written = ap (λ (i : ℕ). take i o') m ∙ w.whole ∙ sym v;
      numbered = let p = ap length e in let q = length-append (records s) l in let h = k.numbered in omega arith;
      fewer = let h = k.fewer in omega arith;
      defined =
          let p = ap definitions e in
          let q = definitions-append (records s) l in
          let h = k.defined in omega arith;
    }

-- ---- the states that the code goes through
attributes-declared : (s : State) (d : Def) → s.open_class ≡ none → d.own ≡ []
    → attributes_in (declare s (def d)) ≡ attributes_in s
attributes-declared s d o w = rw (
  known-append s.decls (def d),
  o,
  owns-append (known s.decls) d,
  w,
  append-nil (owns_of (known s.decls)),
  append-nil (owns_of (known s.decls)),
)

entry-last : (ks : List Def) (c : Def) (p : ℕ) → p ≡ length ks + 1 → entry (ks ++ (c ∷ [])) p ≡ some c
entry-last ks c zero e = absurd (omega arith)
entry-last ks c (suc i) e = go ks i (omega arith)
  where
    go : (l : List Def) (i : ℕ) → i ≡ length l → nth (l ++ (c ∷ [])) i ≡ some c
    go [] zero e = refl
    go [] (suc i) e = absurd (omega arith)
    go (d ∷ l) zero e = absurd (omega arith)
    go (d ∷ l) (suc i) e = go l i (omega arith)

-- a topic, a domain or a unit d, declared whole, with its row behind the last
module _ (t : List ℕ) (s : State) (st : code.State) (o x z y hs : List ℕ) (k : Keeps t s st o x z y hs) where
  no-class : s.open_class ≡ none → OpenIs t s st x hs none
  no-class e = subst (OpenIs t s st x hs) e k.opened

  a-class : (c : Def) → s.open_class ≡ some c → OpenIs t s st x hs (some c)
  a-class c e = subst (OpenIs t s st x hs) e k.opened

  topic-kept : (st' : code.State) → st'.context.home ≡ st.context.home → st'.context.topic ≡ st.context.topic
      → st.extent.records ≤ st'.extent.records → TopicIs t s.topic st'
  topic-kept st' eh et w = go s.topic k.topic
    where
      go : (d : Option Def) → TopicIs t d st → TopicIs t d st'
      go none h = eh ∙ h
      go (some d) h =
          (eh ∙ h.0, subst (λ (n : Name). Calls t n d.name) (sym et) h.1, let v = h.2 in omega arith)

  pub keeps-declared : (d : Def) (o' x' z' : List ℕ) (b r e : ℕ) → s.open_class ≡ none → d.own ≡ []
      → b ≡ length (bytes (decl_records (def d))) → r ≡ length (decl_records (def d))
      → e ≡ definitions (decl_records (def d)) → Written (book s) (bytes (decl_records (def d))) o'
      → Agree definition_width x x' st.listing.count → DefRow t (book (declare s (def d))) (known s.decls)
      (attributes_in s) (st.listing.count + 1) d (row definition_width x' (st.listing.count + 1))
      → Chains (known s.decls ++ (d ∷ [])) z' → FairState t (declare s (def d))
      → Keeps t (declare s (def d)) (declared_by st b r e) o' x' z' y hs
  keeps-declared d o' x' z' b r e c w eb er ee wr ax row' ch f =
      let g = grown s (declare s (def d)) st o o' (decl_records (def d)) b r e (booked k) (records-declared s (def d) c)
      (decl-solid d).solid wr eb er ee in
      let (op, hl, sz, hd) = no-class c in
      let n : known (s.decls ++ (def d ∷ [])) ≡ known s.decls ++ (d ∷ []) = known-append s.decls (def d) in
      let a : attributes_in (declare s (def d)) ≡ attributes_in s = attributes-declared s d c w in
      let l = k.held.all_defs in
      record {
        used = g.used;
        within = g.within;
        written = g.written;
        numbered = g.numbered;
        fewer = g.fewer;
        defined = g.defined;
        model = k.model;
        topic = topic-kept (declared_by st b r e) refl refl (omega arith);
        held = held-declared t s (declare s (def d)) d x st.listing.count y st.listing.total
            k.held c refl refl w x' ax row';
        chained = rw n ch;
        fair = f;
        hand = k.hand;
        opened = (
          op,
          omega arith,
          let v = (decl-solid d).six in
              omega arith,
          rw (a, n, entry-keep (known s.decls) (d ∷ []) st.context.held (omega arith)) hd,
        );
      }

  -- in a topic, or out of one
  pub keeps-in : (d : Option Def) (n : Name) (h : ℕ) → s.open_class ≡ none → TopicIs t d (in_topic_by st n h)
      → FairState t (in_topic s d) → Keeps t (in_topic s d) (in_topic_by st n h) o x z y hs
  keeps-in d n h c q f =
      let e : records (in_topic s d) ≡ records s = rw c in
      let a : attributes_in (in_topic s d) ≡ attributes_in s = rw c in
      record {
        used = rw e k.used;
        within = k.within;
        written = rw e k.written;
        numbered = rw e k.numbered;
        fewer = k.fewer;
        defined = rw e k.defined;
        model = k.model;
        topic = q;
        held = rw (e, a) k.held;
        chained = k.chained;
        fair = f;
        hand = k.hand;
        opened = rw a (no-class c);
      }

  -- the END of a topic
  pub keeps-ended : (m : R.Name) (o' : List ℕ) → s.open_class ≡ none → Written (book s) (3 ∷ []) o' → FairState t
      (in_topic (declare s (end_topic m)) none) → Keeps t (declare s (end_topic m)) (grown_by st 1 1 0) o' x z y hs
  keeps-ended m o' c wr f =
      let g = grown s (declare s (end_topic m)) st o o' ((3 ∷ []) ∷ []) 1 1 0 (booked k)
      (records-declared s (end_topic m) c) (omega arith) wr refl refl refl in
      let (op, hl, sz, hd) = no-class c in
      let n : known (s.decls ++ (end_topic m ∷ []))
      ≡ known s.decls = known-append s.decls (end_topic m) ∙ append-nil (known s.decls) in
      let a : attributes_in (declare s (end_topic m)) ≡ attributes_in s = rw (n, c) in
      let h = held-ended t s x st.listing.count y st.listing.total m k.held c in
      record {
        used = g.used;
        within = g.within;
        written = g.written;
        numbered = g.numbered;
        fewer = g.fewer;
        defined = g.defined;
        model = k.model;
        topic = topic-kept (grown_by st 1 1 0) refl refl (omega arith);
        held = h;
        chained = rw n k.chained;
        fair = record {
          defs = f.defs;
          open_class = tt;
          names = f.names;
          open_names = tt;
          decls = f.decls;
          topic = k.fair.topic;
          rising = f.rising;
          open_behind = tt;
        };
        hand = k.hand;
        opened = (op, hl, omega arith, rw (a, n) hd);
      }

  -- the head of a class c over what it inherits: its row is the one behind the last, and is not counted
  pub keeps-opened : (c : Def) (q : Bool) (o' x' hs' : List ℕ) (n : ℕ) → s.open_class ≡ none → c.own ≡ []
      → c.sort ≡ class_sort q → Written (book s) (bytes (head_records c.sort c)) o'
      → Agree definition_width x x' st.listing.count → OpenRow t (book (opened s c)) (known s.decls)
      (attributes_in s) (st.listing.count + 1) c (row definition_width x' (st.listing.count + 1))
      → n ≤ 256 → Opened (attributes_in s) hs' n c → FairState t (opened s c)
      → Keeps t (opened s c) (opened_by st n) o' x' z y hs'
  keeps-opened c q o' x' hs' n e w eq wr ax row' hn op f =
      let (er, eb, ed) = class-head c.sort q c eq w in
      let g = grown s (opened s c) st o o' (head_records c.sort c) 11 1 1 (booked k) (records-opened s c e)
      (head-solid c.sort c).solid wr (sym eb) (sym er) (sym ed) in
      let (cl, hl, sz, hd) = no-class e in
      let a : attributes_in (opened s c) ≡ attributes_in s = rw (e, w) in
      record {
        used = g.used;
        within = g.within;
        written = g.written;
        numbered = g.numbered;
        fewer = g.fewer;
        defined = g.defined;
        model = k.model;
        topic = topic-kept (opened_by st n) refl refl (omega arith);
        held = held-opened t s c x st.listing.count y st.listing.total k.held e w x' ax;
        chained = k.chained;
        fair = f;
        hand = hn;
        opened = (refl, omega arith, rw a op, rw a row');
      }

  module _ (c : Def) (e : s.open_class ≡ some c) where
    -- what is known of the open class
    pub open-fair : FairOpen t (length (records s)) c
    open-fair = any-is (FairOpen t (length (records s))) s.open_class c k.fair.open_class e

    -- an attribute a of the open class, which no own one has the name of
    pub keeps-member : (a : Attribute) (o' y' hs' : List ℕ) (b r n : ℕ) → b ≡ length (bytes (attribute_records a))
        → r ≡ length (attribute_records a) → Written (book s) (bytes (attribute_records a)) o'
        → Agree attribute_width y y' st.listing.total → AttributeRow t (book (opened s (with_attribute c a)))
        (known s.decls) a (row attribute_width y' (st.listing.total + 1))
        → is_found (attribute_at a.name.bytes c.own) ≡ false
        → (not (is_found (attribute_at a.name.bytes (attributes_of c))) && leb 256 (name_count (attributes_of c)))
        ≡ false
        → n ≤ 256 → Opened (attributes_in s ++ (a ∷ [])) hs' n (with_attribute c a) → FairState t
        (opened s (with_attribute c a)) → Keeps t (opened s (with_attribute c a)) (member_by st b r n) o' x z y' hs'
    unfolding with_attribute
    keeps-member a o' y' hs' b r n eb er wr ay row' u few hn op f =
        let q = open-fair.structure in
        let eq = open-fair.sort in
        let g = grown s (opened s (with_attribute c a)) st o o' (attribute_records a) b r 1 (booked k)
        (records-member s c q e eq a) (attribute-solid a) wr eb er (sym (attribute-defined a)) in
        let (cl, sz, was, old) = a-class c e in
        let m : attributes_in (opened s (with_attribute c a))
        ≡ attributes_in s ++ (a ∷ []) = rw e (sym (append_assoc (owns_of (known s.decls)) c.own (a ∷ []))) in
        let v : book (opened s (with_attribute c a))
        ≡ book s ++ bytes (attribute_records a) = book-attribute s c q e eq a in
        record {
          used = g.used;
          within = g.within;
          written = g.written;
          numbered = g.numbered;
          fewer = g.fewer;
          defined = g.defined;
          model = k.model;
          topic = topic-kept (member_by st b r n) refl refl (omega arith);
          held = held-member t s c q a x st.listing.count y st.listing.total k.held e eq y' ay row';
          chained = k.chained;
          fair = f;
          hand = hn;
          opened = (
            cl,
            omega arith,
            rw m op,
            rw (v, m) (open-row-more t (book s) (bytes (attribute_records a)) (known s.decls) (attributes_in s)
                (st.listing.count + 1) c (row definition_width x (st.listing.count + 1)) a
                (attribute-no-unit a) old u few),
          );
        }

    -- the END of the class: its row is counted, and tells where its own attributes end
    pub keeps-closed : (o' z' : List ℕ) → st.listing.count * definition_width + 20 ≤ length x
        → Written (book s) (16 ∷ []) o' → Chains (known s.decls ++ (c ∷ [])) z' → FairState t (declare s (def c))
        → Keeps t (declare s (def c)) (closed_by st) o'
        (set x ((st.listing.count + 1) * definition_width + 9) st.listing.total) z' y hs
    keeps-closed o' z' w wr ch f =
        let q = open-fair.structure in
        let eq = open-fair.sort in
        let g = grown s (declare s (def c)) st o o' ((16 ∷ []) ∷ []) 1 1 0 (booked k) (records-closed s c q e eq)
        (omega arith) wr refl refl refl in
        let (cl, sz, was, old) = a-class c e in
        let n : known (s.decls ++ (def c ∷ [])) ≡ known s.decls ++ (c ∷ []) = known-append s.decls (def c) in
        let a : attributes_in (declare s (def c)) ≡ attributes_in s =
        rw (n, e, owns-append (known s.decls) c, append-nil (owns_of (known s.decls) ++ c.own)) in
        let l = k.held.all_defs in
        record {
          used = g.used;
          within = g.within;
          written = g.written;
          numbered = g.numbered;
          fewer = g.fewer;
          defined = let h = g.defined in omega arith;
          model = k.model;
          topic = topic-kept (closed_by st) refl refl (omega arith);
          held = held-closed t s c q x st.listing.count y st.listing.total k.held e eq w old;
          chained = rw n ch;
          fair = f;
          hand = k.hand;
          opened = (
            refl,
            omega arith,
            omega arith,
            rw (a, n, entry-last (known s.decls) c (st.listing.count + 1) (omega arith)) was,
          );
        }

-- the model, where nothing is declared
abbrev blank : R.Name → Strings → State
blank n q = record { model = n; strings = q; decls = []; topic = none; open_class = none }

is-blank : (s : State) → Undeclared s → s ≡ blank s.model s.strings
is-blank s u = λ i. record {
  model = s.model;
  strings = s.strings;
  decls = u.decls i;
  topic = u.topic i;
  open_class = u.open_class i;
}

pub keeps-begun : (t : List ℕ) (s : State) (st : code.State) (o x z y hs : List ℕ) → Keeps t s st o x z y hs
    → Undeclared s → (n : R.Name) (q : Strings) (m : Name) (o' : List ℕ) → Calls t m n
    → Written [] (name_record 1 n) o' → FairState t (begun n q) → Keeps t (begun n q) (begun_by st m) o' x z y hs
keeps-begun t s st o x z y hs k u n q m o' c wr f =
    let b : Keeps t (blank s.model s.strings) st o x z y hs =
    subst (λ (r : State). Keeps t r st o x z y hs) (is-blank s u) k in
    let w : Written [] (bytes (name_record 1 n ∷ [])) o' = wr in
    let g = grown (blank s.model s.strings) (begun n q) st o o' (name_record 1 n ∷ []) 6 1 0 (booked b) refl
    (omega arith) w refl refl refl in
    let (op, hl, sz, hd) = b.opened in
    record {
      used = g.used;
      within = g.within;
      written = g.written;
      numbered = g.numbered;
      fewer = g.fewer;
      defined = let h = g.defined in omega arith;
      model = c;
      topic = b.topic;
      held = record {
        all_defs = b.held.all_defs;
        all_attributes = b.held.all_attributes;
        def_rows = λ p d e. absurd (nowhere p e);
        attribute_rows = λ q a e. absurd (nowhere q e);
      };
      chained = b.chained;
      fair = f;
      hand = b.hand;
      opened = (op, hl, omega arith, hd);
    }
