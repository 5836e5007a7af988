-- The header, the model, heads of topics; what the rules answer to each unit.
use mathlib.Core.Path.{◌≡◌, refl, sym, ap, ◌∙◌, subst}
use mathlib.Core.Bool.{Bool, true, false, ◌&&◌}
use mathlib.Core.Option.{none, some}
use mathlib.Core.List.{List, [], ◌∷◌, ◌++◌}
use Prim.Native.Nat.{ℕ, ◌+◌, ◌*◌, ◌≤◌, ◌<◌}
use native.Mathlib.Omega.{arith}
use lib.ListN.{length, get_or}
use lib.Dec.{eqb}
use borrow.Author.Tests.{eq-eqb, ne_eqb, le-ltb}
use Rattle.rules.specs.Bytes.{ascii, same}
use Rattle.std.specs.Prelude.{Result, Ok, Err}
use Rattle.rules.specs.Names as R
use Rattle.rules.specs.Symbols as S
use Rattle.rules.specs.Units as U
use Rattle.rules.specs.Units.{Strings}
use Rattle.rules.specs.Declarations as D
use Rattle.rules.specs.Declarations.{Def, State, is_found, at_hand, known}
use Rattle.rules.specs.Book.{bytes, name_record, decl_records, book}
use Rattle.rules.specs.Judge as J
use Rattle.rules.specs.Judge.{ok, refused, judge, declare, begun, new_topic, after_topic}
use Rattle.rules.specs.Check.{lent, capacity}
use Rattle.rules.proofs.Tests.{is_false}
use Rattle.rules.proofs.ByteLaws.{same-eq}
use Rattle.ground.specs.Parts.{part, splice}
use Rattle.ground.specs.declared.Name.{Name}
use Rattle.ground.specs.declared.Ruling.{Ruling}
use Rattle.rules.proofs.PartLaws.{part-cons, length_part}
use Rattle.book.specs.Forms.{name_form}
use Rattle.book.specs.Sizes.{model_size, topic_size}
use Rattle.enumerations.specs.Standing.{InText}
use Rattle.names.specs.declared.NewDefinition.{NewDefinition}
use Rattle.names.specs.Index.{row, definition_width, Rows}
use Rattle.names.specs.Chains.{Chains}
use Rattle.names.specs.References.{bytes_of, Inside}
use Rattle.names.specs.Rows.{definition_row, Narrow}
use Rattle.members.specs.Held.{attributes_in, DefRow}
use Rattle.members.proofs.HeldLaws.{agree-def, row_written}
use Rattle.members.proofs.StateLaws.{book-declared}
use Rattle.readers.specs.Reads.{name_cut}
use Rattle.units.specs.declared.ModelHead.{ModelHead}
use Rattle.units.specs.declared.Unit.TheVariants.{Header, Model, Topic}
use Rattle.units.specs.Steps.{part_of}
use Rattle.wellformed.specs.Fairness.{FairState}
use Rattle.wellformed.proofs.KeepLaws.{judge-fair}
use Rattle.state.specs.declared.State as code
use Rattle.state.specs.Keeping.{Keeps, JudgedAs, Comes, verdict, Small}
use Rattle.state.specs.Next.{begun_by, declared_by}
use Rattle.state.proofs.KeepLaws.{Written, written-splice, none_open, book-grown, records-declared, keeps-begun}
use Rattle.state.proofs.KeepLaws.{keeps-declared, keeps-in}
use Rattle.state.proofs.JudgeLaws.{calls-cut, judged-refused, judged-over, judged-fine}
use Rattle.state.proofs.RowLaws.{Tells, def_row}
use Rattle.book.proofs.StandLaws.{stands-new}
use Rattle.heads.specs.Topics.{topic_by}

-- ---- the header
module _ (t : List ℕ) (s : State) (v : S.Symbol) (st : code.State) (o x z y hs rs : List ℕ) (name : Name)
    (k : Keeps t s st o x z y hs) (c : Comes t s (U.header v) (Header name) rs) where
  header_is : name ≡ part_of v
  header_is = let e = c.is in cc

  pub header-inside : Inside t name
  header-inside = rw header_is c.fair.fits

  header-bytes : bytes_of t name ≡ v.bytes
  header-bytes = ap (bytes_of t) header_is ∙ c.fair.there

  pub header-fine : (r : Result code.State Ruling) → r ≡ Ok st → true ≡ same (bytes_of t name) (ascii "2.4")
      → JudgedAs t (verdict s (U.header v) o) r o x z y hs
  unfolding judge
  header-fine r er e =
      let q : same v.bytes (ascii "2.4") ≡ true = rw (← header-bytes) (sym e) in
      let b : length (book s) ≡ 0 = rw (c.stands.decls, c.stands.open_class) in
      let g : verdict s (U.header v) o
      ≡ ok s = rw (q, le-ltb (capacity (lent (length o))) (length (book s)) (omega arith)) in
      subst (λ (j : J.Judged). JudgedAs t j r o x z y hs) (sym g)
      (st, er, k)

  pub header-other : (r : Result code.State Ruling) → r ≡ Err (record { number = 7; place = name.offset })
      → false ≡ same (bytes_of t name) (ascii "2.4") → JudgedAs t (verdict s (U.header v) o) r o x z y hs
  unfolding judge
  header-other r er e =
      let q : same v.bytes (ascii "2.4") ≡ false = rw (← header-bytes) (sym e) in
      let j : judge s (U.header v) ≡ refused 7 v.place = rw q in
      judged-refused t s (U.header v) o r o x z y hs 7 v.place j
      (er ∙ ap (λ (n : Name). Err (record { number = 7; place = n.offset })) header_is)

-- ---- the model
module _ (t : List ℕ) (s : State) (n : R.Name) (q : Strings) (st : code.State) (o x z y hs rs : List ℕ)
    (head : ModelHead) (k : Keeps t s st o x z y hs)
    (c : Comes t s (U.model n q) (Model head) rs) (m : length o ≤ 65535) where
  model_is : head.name ≡ name_cut n
  model_is = let (h, e, f, a, v) = c.is in let g : head ≡ h = cc in ap (λ (x : ModelHead). x.name) g ∙ f

  model-judged : judge s (U.model n q) ≡ ok (begun n q)
  unfolding judge
  model-judged = refl

  model-fair : FairState t (begun n q)
  model-fair = judge-fair t s (begun n q) (U.model n q) c.fair c.stands k.fair model-judged

  empty : book s ≡ []
  empty = rw (c.stands.decls, c.stands.open_class)

  pub model-fine : (v o' : List ℕ) (st' : code.State) (r : Result code.State Ruling)
      → st.extent.used + model_size ≤ length o
      → v ≡ name_form 1 head.name.offset head.name.len → o' ≡ splice o st.extent.used v
      → st' ≡ begun_by st head.name → r ≡ Ok st'
      → JudgedAs t (verdict s (U.model n q) o) r o' x z y hs
  model-fine v o' st' r w ev eo es er =
      let a : v ≡ name_record 1 n = ev ∙ ap (λ (q : Name). name_form 1 q.offset q.len) model_is in
      let b : Written [] (name_record 1 n) o' = rw (eo, a)
      (written-splice [] (name_record 1 n) o st.extent.used (k.used ∙ ap length empty) (k.written ∙ empty) w) in
      let g : Keeps t (begun n q) (begun_by st head.name) o' x z y hs = keeps-begun t s st o x z y hs k
      c.stands n q head.name o' (rw model_is (calls-cut t n c.fair.0)) b model-fair in
      judged-fine t s (U.model n q) o r o' x z y hs (begun n q) st' model-judged m (rw es w) er (rw es g)

  pub model-over : (r : Result code.State Ruling) (o' : List ℕ) → length o < st.extent.used + model_size
      → r ≡ Err (record { number = 19; place = head.name.offset })
      → JudgedAs t (verdict s (U.model n q) o) r o' x z y hs
  model-over r o' w er =
      let u = k.used ∙ ap length empty in
      judged-over t s (U.model n q) o r o' x z y hs (begun n q) model-judged m (omega arith)
      (er ∙ ap (λ (q : Name). Err (record { number = 19; place = q.offset })) model_is)

-- ---- heads of topics
-- what is written of a topic
abbrev pub topic_definition : code.State → Name → NewDefinition
topic_definition st m = record {
  name = m;
  home = 0;
  number = st.extent.records;
  sort = 0;
  flags = 0;
  place = st.extent.used;
  base = 0;
  first = st.listing.total;
}

-- its numbers fit their 16 bits
pub topic-narrow : (t : List ℕ) (st : code.State) (m : Name) (n : ℕ) → Inside t m → length t ≤ 65535
    → st.extent.used + topic_size ≤ n → n ≤ 65535 → Small st → Narrow (topic_definition st m)
topic-narrow t st m n i wt w wn a =
    let f = a.fewer in
    let r = a.rows in
    record {
      offset = omega arith;
      size = omega arith;
      home = omega arith;
      number = omega arith;
      sort = omega arith;
      flags = omega arith;
      place = omega arith;
      base = omega arith;
      first = omega arith;
    }

pub topic-declared : (t : List ℕ) (s : State) (st : code.State) (o x z y hs : List ℕ) → Keeps t s st o x z y hs
    → (n : R.Name) (m : Name) → m ≡ name_cut n → InText t n → s.open_class ≡ none
    → (v o' : List ℕ) → v ≡ name_form 2 m.offset m.len → o' ≡ splice o st.extent.used v
    → st.extent.used + topic_size ≤ length o
    → (x' : List ℕ) → x' ≡ splice x ((st.listing.count + 1) * definition_width) (definition_row (topic_definition st m))
    → Rows x (st.listing.count + 2) → (y' : List ℕ) → y' ≡ y → (z' : List ℕ)
    → Chains (known s.decls ++ (new_topic s n ∷ [])) z'
    → FairState t (after_topic s n) → Keeps t (after_topic s n) (topic_by st m) o' x' z' y' hs
unfolding new_topic
topic-declared t s st o x z y hs k n m em h c v o' ev eo w x' ex wx y' ey z' ch f =
    let d : Def = new_topic s n in
    let s' : State = declare s (D.def d) in
    let a : v ≡ name_record 2 n = ev ∙ ap (λ (q : Name). name_form 2 q.offset q.len) em in
    let b : Written (book s) (bytes (decl_records (D.def d))) o' =
    rw (eo, a) (written-splice (book s) (name_record 2 n) o st.extent.used k.used k.written w) in
    let bk : book s' ≡ book s ++ name_record 2 n = book-declared s s' (D.def d) c refl refl in
    let tl : Tells t (known s.decls) (attributes_in s) (st.listing.count + 1) d (topic_definition st m) = record {
      in_text = h;
      named = em;
      home = refl;
      number = k.numbered;
      sort = refl;
      flagged = refl;
      before = omega arith;
      bases = refl;
      inherits = refl;
      first = k.held.all_attributes;
      own = refl;
      few = omega arith;
    } in
    let dr : DefRow t (book s') (known s.decls) (attributes_in s) (st.listing.count + 1) d
    (definition_row (topic_definition st m)) =
    def_row t (book s') (known s.decls) (attributes_in s) (st.listing.count + 1) d (topic_definition st m) tl
    (rw (bk, k.used) (stands-new (book s) (name_record 2 n ∷ []) [] refl)) in
    let rw' : row definition_width x' (st.listing.count + 1)
    ≡ definition_row (topic_definition st m) =
    rw ex (row_written definition_width x (definition_row (topic_definition st m))
    (st.listing.count + 1) refl (omega arith)) in
    let g : Keeps t s' (declared_by st topic_size 1 0) o' x' z' y hs =
    keeps-declared t s st o x z y hs k d o' x' z' topic_size 1 0 c refl refl refl refl b (rw ex
    (agree-def x (definition_row (topic_definition st m)) st.listing.count (omega arith))) (rw rw' dr) ch (record {
      defs = f.defs;
      open_class = tt;
      names = f.names;
      open_names = tt;
      decls = f.decls;
      topic = k.fair.topic;
      rising = f.rising;
      open_behind = tt;
    }) in
    let nu = k.numbered in
    let i = keeps-in t s' (declared_by st topic_size 1 0) o' x' z' y hs g (some d) m (st.extent.records + 1) refl
    (omega arith, rw em (calls-cut t n h), omega arith) f in
    rw ey i

module _ (t : List ℕ) (s : State) (n : R.Name) (st : code.State) (o x z y hs rs : List ℕ) (name : Name)
    (k : Keeps t s st o x z y hs) (c : Comes t s (U.topic n) (Topic name) rs) where
  pub topic-is : name ≡ name_cut n
  topic-is = let e = c.is in cc

  pub topic-bytes : bytes_of t name ≡ n.bytes
  topic-bytes = ap (bytes_of t) topic-is ∙ c.fair.there

  pub topic-open : s.open_class ≡ none
  topic-open = none_open s c.stands

  pub topic-inside : Inside t name
  topic-inside = rw topic-is c.fair.fits

  topic-place : {A : Type 0} (r : A) (f : ℕ → A) → r ≡ f name.offset → r ≡ f n.offset
  topic-place r f e = e ∙ ap (λ (q : Name). f q.offset) topic-is

  pub topic-taken : (r : Result code.State Ruling) (o' x' z' y' : List ℕ)
      → r ≡ Err (record { number = 9; place = name.offset })
      → true ≡ is_found (at_hand s (bytes_of t name)) → JudgedAs t (verdict s (U.topic n) o) r o' x' z' y' hs
  unfolding judge
  topic-taken r o' x' z' y' er e =
      let q : is_found (at_hand s n.bytes) ≡ true = rw (← topic-bytes) (sym e) in
      let j : judge s (U.topic n) ≡ refused 9 n.offset = rw q in
      judged-refused t s (U.topic n) o r o' x' z' y' hs 9 n.offset j
      (topic-place r (λ (i : ℕ). Err (record { number = 9; place = i })) er)

  module _ (m : length o ≤ 65535) (e : false ≡ is_found (at_hand s (bytes_of t name))) where
    topic-judged : judge s (U.topic n) ≡ ok (after_topic s n)
    unfolding judge
    topic-judged = let q : is_found (at_hand s n.bytes) ≡ false = rw (← topic-bytes) (sym e) in rw q

    pub topic-over : (r : Result code.State Ruling) (o' x' z' y' : List ℕ) → length o < st.extent.used + topic_size
        → r ≡ Err (record { number = 19; place = name.offset }) → JudgedAs t (verdict s (U.topic n) o) r o' x' z' y' hs
    unfolding new_topic
    topic-over r o' x' z' y' w er =
        let u = k.used in
        let l : length (book (declare s (D.def (new_topic s n))))
        ≡ length (book s) + topic_size = book-grown s (declare s (D.def (new_topic s n))) (name_record 2 n ∷ [])
        (records-declared s (D.def (new_topic s n)) topic-open) in
        judged-over t s (U.topic n) o r o' x' z' y' hs (after_topic s n) topic-judged m (omega arith)
        (topic-place r (λ (i : ℕ). Err (record { number = 19; place = i })) er)

    pub topic-fine : (r : Result code.State Ruling) (o' x' z' y' : List ℕ) (st' : code.State)
        → st.extent.used + topic_size ≤ length o → r ≡ Ok st' → st' ≡ topic_by st name
        → (FairState t (after_topic s n) → Keeps t (after_topic s n) (topic_by st name) o' x' z' y' hs)
        → JudgedAs t (verdict s (U.topic n) o) r o' x' z' y' hs
    topic-fine r o' x' z' y' st' w er es g =
        let f = judge-fair t s (after_topic s n) (U.topic n) c.fair c.stands k.fair topic-judged in
        judged-fine t s (U.topic n) o r o' x' z' y' hs
        (after_topic s n) st' topic-judged m (rw es w) er (rw es (g f))
