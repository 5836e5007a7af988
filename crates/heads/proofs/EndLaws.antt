-- END of the open class, else of the topic, else of the model.
use mathlib.Core.Path.{◌≡◌, refl, sym, ap, ◌∙◌}
use mathlib.Core.Bool.{Bool, true, false}
use mathlib.Core.Option.{Option, none, some}
use mathlib.Core.List.{List, [], ◌∷◌, ◌++◌}
use Prim.Native.Nat.{ℕ, ◌+◌, ◌*◌, ◌≤◌, ◌<◌}
use native.Mathlib.Omega.{arith}
use lib.ListN.{length, set}
use Rattle.rules.specs.Bytes.{same}
use Rattle.std.specs.Prelude.{Result, Ok, Err}
use Rattle.rules.specs.Names as R
use Rattle.rules.specs.Units as U
use Rattle.rules.specs.Declarations as D
use Rattle.rules.specs.Declarations.{Def, State, known, end_topic}
use Rattle.rules.specs.Book.{book}
use Rattle.rules.specs.Judge as J
use Rattle.rules.specs.Judge.{ok, refused, first_broken_or, judge, declare, in_topic, open_name, end_rules, after_close}
use Rattle.ground.specs.Parts.{splice}
use Rattle.ground.specs.declared.Name.{Name}
use Rattle.ground.specs.declared.Ruling.{Ruling}
use Rattle.book.specs.Sizes.{topic_end_size, class_end_size}
use Rattle.names.specs.Index.{row, Says, definition_width, Rows}
use Rattle.names.specs.Chains.{Chains}
use Rattle.names.specs.References.{bytes_of, Inside}
use Rattle.readers.specs.Reads.{name_cut}
use Rattle.units.specs.declared.Unit.TheVariants.{Close}
use Rattle.wellformed.specs.Fairness.{FairState}
use Rattle.wellformed.proofs.KeepLaws.{judge-fair}
use Rattle.state.specs.declared.State as code
use Rattle.state.specs.Keeping.{Calls, TopicIs, OpenIs, Keeps, JudgedAs, Comes, verdict}
use Rattle.state.specs.Next.{grown_by, in_topic_by, closed_by}
use Rattle.state.proofs.KeepLaws.{Written, written-splice, book-grown, records-declared, records-closed, open-fair}
use Rattle.state.proofs.KeepLaws.{keeps-closed, keeps-ended, keeps-in}
use Rattle.state.proofs.JudgeLaws.{judged-refused, judged-over, judged-fine}

-- ---- what is open
pub own-inside : (t : List ℕ) (d : Def) (r : List ℕ) (m : Name) → m ≡ name_cut d.name → Says t d r → Inside t m
own-inside t d r m e h = rw e h.named.within

pub own-bytes : (t : List ℕ) (d : Def) (r : List ℕ) (m : Name) → m ≡ name_cut d.name → Says t d r
    → bytes_of t m ≡ d.name.bytes
own-bytes t d r m e h = ap (bytes_of t) e ∙ h.named.same_bytes

module _ (t : List ℕ) (s : State) (st : code.State) (o x z y hs : List ℕ) (k : Keeps t s st o x z y hs) where
  pub class-there : 0 < st.context.open
      → (c : Def) × (s.open_class ≡ some c) × Says t c (row definition_width x (st.listing.count + 1))
  class-there e = go s.open_class refl k.opened
    where
      go : (c : Option Def) → s.open_class ≡ c → OpenIs t s st x hs c
          → (c : Def) × (s.open_class ≡ some c) × Says t c (row definition_width x (st.listing.count + 1))
      go none q h = let z = h.0 in absurd (omega arith)
      go (some c) q h = (c, q, h.3.says)

  pub class-none : st.context.open ≡ 0 → s.open_class ≡ none
  class-none e = go s.open_class k.opened
    where
      go : (c : Option Def) → OpenIs t s st x hs c → c ≡ none
      go none h = refl
      go (some c) h = let z = h.0 in absurd (omega arith)

  pub topic-there : 0 < st.context.home → (d : Def) × (s.topic ≡ some d) × Calls t st.context.topic d.name
  topic-there e = go s.topic refl k.topic
    where
      go : (d : Option Def) → s.topic ≡ d → TopicIs t d st
          → (d : Def) × (s.topic ≡ some d) × Calls t st.context.topic d.name
      go none q h = absurd (omega arith)
      go (some d) q h = (d, q, h.1)

  pub topic-none : st.context.home ≡ 0 → s.topic ≡ none
  topic-none e = go s.topic k.topic
    where
      go : (d : Option Def) → TopicIs t d st → d ≡ none
      go none h = refl
      go (some d) h = let q = h.0 in absurd (omega arith)

  -- ---- the END of a class is written
  pub class-ended : (c : Def) → s.open_class ≡ some c → (v o' : List ℕ) → v ≡ 16 ∷ []
      → o' ≡ splice o st.extent.used v → st.extent.used + class_end_size ≤ length o
      → (x' : List ℕ) → x' ≡ set x ((st.listing.count + 1) * definition_width + 9) st.listing.total → Rows x
      (st.listing.count + 2) → (y' : List ℕ) → y' ≡ y → (z' : List ℕ) → Chains (known s.decls ++ (c ∷ [])) z'
      → FairState t (declare s (D.def c)) → Keeps t (declare s (D.def c)) (closed_by st) o' x' z' y' hs
  class-ended c e v o' ev eo w x' ex wx y' ey z' ch f =
      let wr : Written (book s) (16 ∷ []) o' =
      rw (eo, ev) (written-splice (book s) (16 ∷ []) o st.extent.used k.used k.written w) in
      rw (ex, ey) (keeps-closed t s st o x z y hs k c e o' z' (omega arith) wr ch f)

  pub topic-ended : s.open_class ≡ none → (d : R.Name) (m : Name) (st' : code.State)
      → st' ≡ in_topic_by (grown_by st topic_end_size 1 0) m 0 → (v o' : List ℕ) → v ≡ 3 ∷ []
      → o' ≡ splice o st.extent.used v → st.extent.used + topic_end_size ≤ length o
      → FairState t (in_topic (declare s (end_topic d)) none)
      → Keeps t (in_topic (declare s (end_topic d)) none) st' o' x z y hs
  topic-ended e d m st' es v o' ev eo w f =
      let wr : Written (book s) (3 ∷ []) o' =
      rw (eo, ev) (written-splice (book s) (3 ∷ []) o st.extent.used k.used k.written w) in
      let g = keeps-ended t s st o x z y hs k d o' e wr f in
      rw es (keeps-in t (declare s (end_topic d)) (grown_by st topic_end_size 1 0) o' x z y hs g none m 0 refl refl f)

-- ---- the answer
module _ (t : List ℕ) (s : State) (n : R.Name) (st : code.State) (o x z y hs rs : List ℕ) (name : Name)
    (k : Keeps t s st o x z y hs) (c : Comes t s (U.close n) (Close name) rs) (m : length o ≤ 65535) where
  close-is : name ≡ name_cut n
  close-is = let e = c.is in cc

  pub close-inside : Inside t name
  close-inside = rw close-is c.fair.fits

  close-bytes : bytes_of t name ≡ n.bytes
  close-bytes = ap (bytes_of t) close-is ∙ c.fair.there

  close-place : (r : Result code.State Ruling) (i : ℕ) → r ≡ Err (record { number = i; place = name.offset })
      → r ≡ Err (record { number = i; place = n.offset })
  close-place r i e = e ∙ ap (λ (q : Name). Err (record { number = i; place = q.offset })) close-is

  close-fair : (s' : State) → judge s (U.close n) ≡ ok s' → FairState t s'
  close-fair s' e = judge-fair t s s' (U.close n) c.fair c.stands k.fair e

  -- the name of what is open, as the code has it
  module _ (own : Name) (d : R.Name) (eo : bytes_of t own ≡ d.bytes) where
    alike : (v : Bool) → v ≡ same (bytes_of t name) (bytes_of t own) → same n.bytes d.bytes ≡ v
    alike v e = sym (e ∙ rw (close-bytes, eo))

  -- judging it, by what is open
  abbrev judged_with : Option Def → Option Def → J.Judged
  judged_with c t = first_broken_or (end_rules n (open_name s c t)) (after_close s c t)

  unfold-close : judge s (U.close n) ≡ judged_with s.open_class s.topic
  unfolding judge
  unfold-close = refl

  module _ (own : Name) (d : Def) (eo : bytes_of t own ≡ d.name.bytes) (ec : s.open_class ≡ some d) (v : Bool)
      (ev : v ≡ same (bytes_of t name) (bytes_of t own)) where
    class-at : judge s (U.close n) ≡ judged_with (some d) s.topic
    class-at = unfold-close ∙ ap (λ (u : Option Def). judged_with u s.topic) ec

    class-closed : v ≡ true → judge s (U.close n) ≡ ok (declare s (D.def d))
    class-closed e = class-at ∙ rw (alike own d.name eo v ev, e)

    pub close-class-other : (r : Result code.State Ruling) (o' x' z' y' : List ℕ) → v ≡ false
        → r ≡ Err (record { number = 8; place = name.offset })
        → JudgedAs t (verdict s (U.close n) o) r o' x' z' y' hs
    close-class-other r o' x' z' y' e er =
        let j : judge s (U.close n) ≡ refused 8 n.offset = class-at ∙ rw (alike own d.name eo v ev, e) in
        judged-refused t s (U.close n) o r o' x' z' y' hs 8 n.offset j (close-place r 8 er)

    pub close-class-over : (r : Result code.State Ruling) (o' x' z' y' : List ℕ) → v ≡ true → length o < st.extent.used
        + class_end_size → r ≡ Err (record { number = 19; place = name.offset })
        → JudgedAs t (verdict s (U.close n) o) r o' x' z' y' hs
    close-class-over r o' x' z' y' e w er =
        let f = open-fair t s st o x z y hs k d ec in
        let l = book-grown s (declare s (D.def d)) ((16 ∷ []) ∷ []) (records-closed s d f.structure ec f.sort) in
        let u = k.used in
        judged-over t s (U.close n) o r o' x' z' y' hs (declare s (D.def d)) (class-closed e) m
        (omega arith) (close-place r 19 er)

    pub close-class-fine : (r : Result code.State Ruling) (o' x' z' y' : List ℕ) (st' : code.State) → v ≡ true
        → st.extent.used + class_end_size ≤ length o → r ≡ Ok st' → st' ≡ closed_by st
        → (FairState t (declare s (D.def d)) → Keeps t (declare s (D.def d)) (closed_by st) o' x' z' y' hs)
        → JudgedAs t (verdict s (U.close n) o) r o' x' z' y' hs
    close-class-fine r o' x' z' y' st' e w er es g =
        judged-fine t s (U.close n) o r o' x' z' y' hs (declare s (D.def d)) st' (class-closed e) m (rw es w) er
        (rw es (g (close-fair (declare s (D.def d)) (class-closed e))))

  module _ (ec : s.open_class ≡ none) where
    body_at : judge s (U.close n) ≡ judged_with none s.topic
    body_at = unfold-close ∙ ap (λ (u : Option Def). judged_with u s.topic) ec

    module _ (own : Name) (d : Def) (eo : bytes_of t own ≡ d.name.bytes) (et : s.topic ≡ some d) (v : Bool)
        (ev : v ≡ same (bytes_of t name) (bytes_of t own)) where
      topic-at : judge s (U.close n) ≡ judged_with none (some d)
      topic-at = body_at ∙ ap (judged_with none) et

      topic-closed : v ≡ true → judge s (U.close n) ≡ ok (in_topic (declare s (end_topic d.name)) none)
      topic-closed e = topic-at ∙ rw (alike own d.name eo v ev, e)

      pub close-topic-other : (r : Result code.State Ruling) (o' : List ℕ) → v ≡ false
          → r ≡ Err (record { number = 8; place = name.offset })
          → JudgedAs t (verdict s (U.close n) o) r o' x z y hs
      close-topic-other r o' e er =
          let j : judge s (U.close n) ≡ refused 8 n.offset = topic-at ∙ rw (alike own d.name eo v ev, e) in
          judged-refused t s (U.close n) o r o' x z y hs 8 n.offset j (close-place r 8 er)

      pub close-topic-over : (r : Result code.State Ruling) (o' : List ℕ) → v ≡ true → length o < st.extent.used
          + topic_end_size → r ≡ Err (record { number = 19; place = name.offset })
          → JudgedAs t (verdict s (U.close n) o) r o' x z y hs
      close-topic-over r o' e w er =
          let l : length (book (declare s (end_topic d.name))) ≡ length (book s) + topic_end_size =
          book-grown s (declare s (end_topic d.name)) ((3 ∷ []) ∷ []) (records-declared s (end_topic d.name) ec) in
          let u = k.used in
          judged-over t s (U.close n) o r o' x z y hs (in_topic (declare s (end_topic d.name)) none)
          (topic-closed e) m (omega arith) (close-place r 19 er)

      pub close-topic-fine : (r : Result code.State Ruling) (o' : List ℕ) (st' : code.State) → v ≡ true → st.extent.used
          + topic_end_size ≤ length o → r ≡ Ok st'
          → st' ≡ in_topic_by (grown_by st topic_end_size 1 0) own 0 → (w : List ℕ)
          → w ≡ 3 ∷ [] → o' ≡ splice o st.extent.used w
          → JudgedAs t (verdict s (U.close n) o) r o' x z y hs
      close-topic-fine r o' st' e w er es a ea eo' =
          let f = close-fair (in_topic (declare s (end_topic d.name)) none) (topic-closed e) in
          judged-fine t s (U.close n) o r o' x z y hs (in_topic (declare s (end_topic d.name)) none) st'
          (topic-closed e) m (rw es w) er (topic-ended t s st o x z y hs k ec d.name own st' es a o' ea eo' w f)

    module _ (et : s.topic ≡ none) (v : Bool) (ev : v ≡ same (bytes_of t name) (bytes_of t st.context.model)) where
      model-bytes : bytes_of t st.context.model ≡ s.model.bytes
      model-bytes = ap (λ (q : R.Name). q.bytes) k.model.named

      model_at : judge s (U.close n) ≡ judged_with none none
      model_at = body_at ∙ ap (judged_with none) et

      pub close-model-other : (r : Result code.State Ruling) (o' x' z' y' : List ℕ) → v ≡ false
          → r ≡ Err (record { number = 8; place = name.offset })
          → JudgedAs t (verdict s (U.close n) o) r o' x' z' y' hs
      close-model-other r o' x' z' y' e er =
          let j : judge s (U.close n) ≡ refused 8 n.offset =
          model_at ∙ rw (alike st.context.model s.model model-bytes v ev, e) in
          judged-refused t s (U.close n) o r o' x' z' y' hs 8 n.offset j (close-place r 8 er)

      pub close-model-fine : (r : Result code.State Ruling) → v ≡ true → r ≡ Ok st
          → JudgedAs t (verdict s (U.close n) o) r o x z y hs
      close-model-fine r e er =
          let j : judge s (U.close n) ≡ ok s =
          model_at ∙ rw (alike st.context.model s.model model-bytes v ev, e) in
          judged-fine t s (U.close n) o r o x z y hs s st j m k.within er k
