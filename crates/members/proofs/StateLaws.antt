-- After each unit the code holds the new state: one law for each kind of declaration.
use mathlib.Core.Path.{◌≡◌, refl, sym, ap, ◌∙◌}
use mathlib.Core.Bool.{Bool, true, false, cond, not, ◌&&◌}
use mathlib.Core.Option.{none, some}
use mathlib.Core.List.{List, [], ◌∷◌, ◌++◌, append_assoc, append-nil}
use Prim.Native.Nat.{ℕ, zero, suc, ◌+◌, ◌*◌, ◌≤◌, ◌<◌}
use native.Mathlib.Omega.{arith}
use lib.ListN.{length, length-append, length-drop, get_or, set}
use lib.Seq.{drop-append-le, get_or-set_same, get_or-set_other}
use lib.Dec.{leb}
use borrow.Author.Tests.{leb-false}
use Rattle.rules.proofs.ByteLaws.{same-sym}
use Rattle.rules.specs.Bytes.{same}
use Rattle.rules.specs.Names.{Name}
use Rattle.rules.specs.Units.{class_sort}
use Rattle.rules.specs.Declarations as D
use Rattle.rules.specs.Declarations.{Attribute, Sort, Def, attribute_at, is_found, Decl, model, def, end_topic, State}
use Rattle.rules.specs.Declarations.{known}
use Rattle.rules.specs.Declarations.{attributes_of, name_count}
use Rattle.rules.specs.Book.{Record, bytes, def_record, head_records, end_records, decl_records, decls_records}
use Rattle.rules.specs.Book.{attribute_records, book}
use Rattle.rules.specs.Judge.{declare, opened, in_topic, with_attribute}
use Rattle.rules.proofs.Tests.{not-both}
use Rattle.rules.proofs.GrowLaws.{known-append, bytes-append, decls-append, attributes-append}
use Rattle.rules.proofs.PartLaws.{length_part}
use Rattle.names.specs.Index.{entry, row, definition_width}
use Rattle.members.specs.Members.{Unlike, attribute_width}
use Rattle.members.specs.Held.{heading, DefRow, AttributeRow, OpenRow, owns_of, attributes_in, HeldIn}
use Rattle.members.proofs.NearLaws.{passed, count-more}
use Rattle.members.proofs.HeldLaws.{Agree, agree-last, agree-all, row_last, held_on, held-def, held-attribute}
use Rattle.book.specs.Places.{NoUnit}
use Rattle.book.proofs.StandLaws.{stands-more}

-- ---- lists of declarations that grow
pub owns-append : (ks : List Def) (d : Def) → owns_of (ks ++ (d ∷ [])) ≡ owns_of ks ++ d.own
owns-append [] d = append-nil d.own
owns-append (k ∷ ks) d =
    ap (λ (x : List Attribute). k.own ++ x) (owns-append ks d) ∙ sym (append_assoc k.own (owns_of ks) d.own)

-- ---- the book that grows
-- what a book grows by begins with no record 19: the records of a declaration, of an attribute, of the head of a class
pub decl-no-unit : (e : Decl) → NoUnit (bytes (decl_records e))
decl-no-unit (model n) = refl
decl-no-unit (def d) = sorted d.sort
  where
    sorted : (x : Sort) → NoUnit (bytes (head_records x d ++ end_records x))
    sorted D.topic = refl
    sorted D.class = refl
    sorted D.struct = refl
    sorted D.domain = refl
    sorted D.unit = refl
decl-no-unit (end_topic n) = refl

pub attribute-no-unit : (a : Attribute) → NoUnit (bytes (attribute_records a))
attribute-no-unit a = refl

pub head-no-unit : (x : Sort) (d : Def) → NoUnit (bytes (head_records x d))
head-no-unit D.topic d = refl
head-no-unit D.class d = refl
head-no-unit D.struct d = refl
head-no-unit D.domain d = refl
head-no-unit D.unit d = refl

pub book-declared : (s s' : State) (e : Decl) → s.open_class ≡ none → s'.open_class ≡ none
    → s'.decls ≡ s.decls ++ (e ∷ []) → book s' ≡ book s ++ bytes (decl_records e)
book-declared s s' e o o' q =
    rw (
      o,
      o',
      q,
      append-nil (decls_records s.decls),
      append-nil (decls_records (s.decls ++ (e ∷ []))),
      decls-append s.decls e,
    ) (bytes-append (decls_records s.decls) (decl_records e))

pub book-opened : (s : State) (c : Def) → s.open_class ≡ none
    → book (opened s c) ≡ book s ++ bytes (head_records c.sort c)
book-opened s c o =
    rw (o, append-nil (decls_records s.decls)) (bytes-append (decls_records s.decls) (head_records c.sort c))

-- of a class or structure
pub head_more : (x : Sort) (st : Bool) (c : Def) (a : Attribute) → x ≡ class_sort st
    → head_records x (with_attribute c a) ≡ head_records x c ++ attribute_records a
unfolding with_attribute
head_more x true c a e = rw e (ap (λ (l : List Record). def_record 5 c ∷ l) (attributes-append c.own a))
head_more x false c a e = rw e (ap (λ (l : List Record). def_record 4 c ∷ l) (attributes-append c.own a))

pub end_is : (x : Sort) (st : Bool) → x ≡ class_sort st → end_records x ≡ (16 ∷ []) ∷ []
end_is x true e = rw e
end_is x false e = rw e

module _ (s : State) (c : Def) (st : Bool) (o : s.open_class ≡ some c) (e : c.sort ≡ class_sort st) where
  pub book-attribute : (a : Attribute) → book (opened s (with_attribute c a)) ≡ book s ++ bytes (attribute_records a)
  unfolding with_attribute
  book-attribute a =
      rw (
        o,
        head_more c.sort st c a e,
        ← append_assoc (decls_records s.decls) (head_records c.sort c) (attribute_records a),
      )
      (bytes-append (decls_records s.decls ++ head_records c.sort c) (attribute_records a))

  pub book-closed : book (declare s (def c)) ≡ book s ++ (16 ∷ [])
  book-closed =
      let r : decls_records (s.decls ++ (def c ∷ [])) ++ []
      ≡ (decls_records s.decls ++ head_records c.sort c) ++ ((16 ∷ []) ∷ []) =
      append-nil _ ∙ decls-append s.decls (def c)
      ∙ ap (λ (x : List Record). decls_records s.decls ++ (head_records c.sort c ++ x)) (end_is c.sort st e)
      ∙ sym (append_assoc (decls_records s.decls) (head_records c.sort c) ((16 ∷ []) ∷ [])) in
      rw (o, r) (bytes-append (decls_records s.decls ++ head_records c.sort c) ((16 ∷ []) ∷ []))

-- ---- what is held after a unit
pub nowhere : {A : Type 0} {a : A} (p : ℕ) → ¬ (entry [] p ≡ some a)
nowhere zero e = let z : ◌≡◌ {A = ℕ} 0 1 = cc in omega arith
nowhere (suc i) e = let z : ◌≡◌ {A = ℕ} 0 1 = cc in omega arith

-- a topic, a domain or a unit, whose row is the one behind the last
pub held-declared : (t : List ℕ) (s s' : State) (d : Def) (x : List ℕ) (count : ℕ) (y : List ℕ) (total : ℕ)
    → HeldIn t s x count y total
    → s.open_class ≡ none → s'.open_class ≡ none → s'.decls ≡ s.decls ++ (def d ∷ []) → d.own ≡ []
    → (x' : List ℕ) → Agree definition_width x x' count → DefRow t (book s') (known s.decls) (attributes_in s)
    (count + 1) d (row definition_width x' (count + 1)) → HeldIn t s' x' (count + 1) y total
held-declared t s s' d x count y total h o o' q w x' ax r =
    let b = book-declared s s' (def d) o o' q in
    let k : known s'.decls ≡ known s.decls ++ (d ∷ []) = rw q (known-append s.decls (def d)) in
    let m : attributes_in s' ≡ attributes_in s = rw (
      k,
      o,
      o',
      owns-append (known s.decls) d,
      w,
      append-nil (owns_of (known s.decls)),
      append-nil (owns_of (known s.decls)),
    ) in
    let g = held-def t (book s) (bytes (decl_records (def d))) (decl-no-unit (def d)) (known s.decls)
    (attributes_in s) x count y total h x' ax d (rw b at r) in
    rw (b, m, k) g

-- the head of a class: its row is not counted yet
pub held-opened : (t : List ℕ) (s : State) (c : Def) (x : List ℕ) (count : ℕ) (y : List ℕ) (total : ℕ)
    → HeldIn t s x count y total
    → s.open_class ≡ none → c.own ≡ [] → (x' : List ℕ) → Agree definition_width x x' count
    → HeldIn t (opened s c) x' count y total
held-opened t s c x count y total h o w x' ax =
    let b = book-opened s c o in
    let m : attributes_in (opened s c) ≡ attributes_in s = rw (o, w) in
    rw (b, m)
    (held_on t (book s) (bytes (head_records c.sort c)) (head-no-unit c.sort c) (known s.decls)
    (attributes_in s) x count y total h x' ax)

-- an attribute of the open class
pub held-member : (t : List ℕ) (s : State) (c : Def) (st : Bool) (a : Attribute) (x : List ℕ) (count : ℕ) (y : List ℕ)
    (total : ℕ) → HeldIn t s x count y total
    → s.open_class ≡ some c → c.sort ≡ class_sort st → (y' : List ℕ) → Agree attribute_width y y' total
    → AttributeRow t (book (opened s (with_attribute c a))) (known s.decls) a (row attribute_width y' (total + 1))
    → HeldIn t (opened s (with_attribute c a)) x count y' (total + 1)
unfolding with_attribute
held-member t s c st a x count y total h o e y' ay r =
    let b = book-attribute s c st o e a in
    let m : attributes_in (opened s (with_attribute c a))
    ≡ attributes_in s ++ (a ∷ []) = rw o (sym (append_assoc (owns_of (known s.decls)) c.own (a ∷ []))) in
    rw (b, m) (held-attribute t (book s) (bytes (attribute_records a)) (attribute-no-unit a) (known s.decls)
    (attributes_in s) x count y total h y' ay a (rw b at r))

-- the END of a topic
pub held-ended : (t : List ℕ) (s : State) (x : List ℕ) (count : ℕ) (y : List ℕ) (total : ℕ) → (n : Name) → HeldIn t s x
    count y total → s.open_class ≡ none → HeldIn t (in_topic (declare s (end_topic n)) none) x count y total
held-ended t s x count y total n h o =
    let b = book-declared s (in_topic (declare s (end_topic n)) none) (end_topic n) o refl refl in
    let k : known (s.decls ++ (end_topic n ∷ []))
    ≡ known s.decls = known-append s.decls (end_topic n) ∙ append-nil (known s.decls) in
    let m : attributes_in (in_topic (declare s (end_topic n)) none) ≡ attributes_in s = rw (k, o) in
    rw (b, m, k)
    (held_on t (book s) (3 ∷ []) refl (known s.decls) (attributes_in s) x count y total h x (agree-all 10 x count))

-- ---- the END of a class: its row tells where its own attributes end
unlike-more : (l : List Attribute) (a : Attribute) → Unlike l
    → is_found (attribute_at a.name.bytes l) ≡ false → Unlike (l ++ (a ∷ []))
unlike-more [] a u e = (refl, tt)
unlike-more (b ∷ l) a u e = go (same a.name.bytes b.name.bytes) refl e (λ f. unlike-more l a u.1 f)
  where
    go : (v : Bool) → same a.name.bytes b.name.bytes ≡ v
        → is_found (cond v (some b) (attribute_at a.name.bytes l)) ≡ false
        → (is_found (attribute_at a.name.bytes l) ≡ false → Unlike (l ++ (a ∷ []))) → Unlike ((b ∷ l) ++ (a ∷ []))
    go true p f ih = not-both refl f
    go false p f ih =
        let q : same b.name.bytes a.name.bytes ≡ false = same-sym b.name.bytes a.name.bytes ∙ p in
        (passed b.name.bytes l a [] q ∙ ap (attribute_at b.name.bytes) (append-nil l) ∙ u.0, ih f)

-- by 4 a class has no more names
few-more : (c : Def) (a : Attribute)
    → (not (is_found (attribute_at a.name.bytes (attributes_of c))) && leb 256 (name_count (attributes_of c))) ≡ false
    → name_count (attributes_of c) ≤ 256
    → name_count (attributes_of (with_attribute c a)) ≤ 256
unfolding with_attribute
few-more c a f h = rw (append_assoc c.own (a ∷ []) c.inherited, count-more c.own a c.inherited)
    (go (is_found (attribute_at a.name.bytes (attributes_of c))) f)
  where
    go : (t : Bool) → (not t && leb 256 (name_count (attributes_of c))) ≡ false
        → cond t (name_count (attributes_of c)) (suc (name_count (attributes_of c))) ≤ 256
    go true p = h
    go false p = let q = leb-false 256 (name_count (attributes_of c)) p in omega arith

heading-same : (x : Sort) (c : Def) (a : Attribute) → heading x (with_attribute c a) ≡ heading x c
unfolding with_attribute
heading-same D.topic c a = refl
heading-same D.class c a = refl
heading-same D.struct c a = refl
heading-same D.domain c a = refl
heading-same D.unit c a = refl

pub open-row-more : (t b v : List ℕ) (ks : List Def) (ms : List Attribute) (p : ℕ) (c : Def) (r : List ℕ)
    (a : Attribute) → NoUnit v → OpenRow t b ks ms p c r → is_found (attribute_at a.name.bytes c.own) ≡ false
    → (not (is_found (attribute_at a.name.bytes (attributes_of c))) && leb 256 (name_count (attributes_of c))) ≡ false
    → OpenRow t (b ++ v) ks (ms ++ (a ∷ [])) p (with_attribute c a) r
unfolding with_attribute
open-row-more t b v ks ms p c r a nu h u f = record {
  says = record {
    named = h.says.named;
    offset = h.says.offset;
    size = h.says.size;
    home = h.says.home;
    number = h.says.number;
    sort = h.says.sort;
    flagged = h.says.flagged;
  };
  based = record { before = h.based.before; bases = h.based.bases; inherits = h.based.inherits };
  within = let l = length-append ms (a ∷ []) in let w = h.within in omega arith;
  own = drop-append-le (get_or r 8 0) ms (a ∷ []) h.within ∙ ap (λ (l : List Attribute). l ++ (a ∷ [])) h.own;
  unlike = unlike-more c.own a h.unlike u;
  few = few-more c a f h.few;
  stands = rw (heading-same c.sort c a) (stands-more b v _ _ nu h.stands);
}

module _ (r : List ℕ) (v : ℕ) where
  kept : (f : ℕ) → f < 9 → get_or (set r 9 v) f 0 ≡ get_or r f 0
  kept f h = get_or-set_other r 9 f v 0 (λ e. absurd (omega arith))

  pub closed-row : (t b w : List ℕ) (ks : List Def) (ms : List Attribute) (p : ℕ) (c : Def) → length r ≡ 10
      → v ≡ length ms → NoUnit w → OpenRow t b ks ms p c r → DefRow t (b ++ w) ks ms p c (set r 9 v)
  closed-row t b w ks ms p c l e nu h = record {
    says = record {
      named = h.says.named;
      offset = kept 0 (omega arith) ∙ h.says.offset;
      size = kept 1 (omega arith) ∙ h.says.size;
      home = kept 2 (omega arith) ∙ h.says.home;
      number = kept 3 (omega arith) ∙ h.says.number;
      sort = kept 4 (omega arith) ∙ h.says.sort;
      flagged = kept 5 (omega arith) ∙ h.says.flagged;
    };
    based = record {
      before = rw (kept 7 (omega arith)) h.based.before;
      bases = rw (kept 7 (omega arith)) h.based.bases;
      inherits = rw (kept 7 (omega arith)) h.based.inherits;
    };
    owns = record {
      last =
          let a = get_or-set_same r 9 v 0 (omega arith) in
          let k = kept 8 (omega arith) in
          let d = length-drop (get_or r 8 0) ms in
          let f = ap length h.own in
          let g = h.within in omega arith;
      within = let a = get_or-set_same r 9 v 0 (omega arith) in omega arith;
      more = [];
      own = rw (kept 8 (omega arith)) (h.own ∙ sym (append-nil c.own));
      unlike = h.unlike;
      few = h.few;
    };
    stands = rw (kept 6 (omega arith)) (stands-more b w _ _ nu h.stands);
  }

pub held-closed : (t : List ℕ) (s : State) (c : Def) (st : Bool) (x : List ℕ) (count : ℕ) (y : List ℕ) (total : ℕ)
    → HeldIn t s x count y total
    → s.open_class ≡ some c → c.sort ≡ class_sort st → count * definition_width + 20 ≤ length x
    → OpenRow t (book s) (known s.decls) (attributes_in s) (count + 1) c (row definition_width x (count + 1))
    → HeldIn t (declare s (def c)) (set x ((count + 1) * definition_width + 9) total) (count + 1) y total
held-closed t s c st x count y total h o e w r =
    let b = book-closed s c st o e in
    let k = known-append s.decls (def c) in
    let m : attributes_in (declare s (def c)) ≡ attributes_in s =
    rw (k, o, append-nil (owns_of (known s.decls ++ (c ∷ []))), owns-append (known s.decls) c) in
    let l : length (row definition_width x (count + 1))
    ≡ 10 = length_part x ((count + 1) * definition_width) 10 (omega arith) in
    let d = closed-row (row definition_width x (count + 1)) total t (book s) (16 ∷ []) (known s.decls)
    (attributes_in s) (count + 1) c l h.all_attributes refl r in
    rw (b, m, k)
    (held-def t (book s) (16 ∷ []) refl (known s.decls) (attributes_in s) x count y total h
    (set x ((count + 1) * definition_width + 9) total) (agree-last x [] count total w) c
    (rw (row_last x (count + 1) total) d))
