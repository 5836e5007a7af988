-- What is held stays when the book, the definitions, the attributes and the rows behind the last grow.
use mathlib.Core.Path.{◌≡◌, refl, sym, ap, ◌∙◌}
use mathlib.Core.Logic.{◌⊎◌, inl, inr, ⊎_elim}
use mathlib.Core.Bool.{Bool, true, false}
use mathlib.Core.Option.{Option, some}
use mathlib.Core.List.{List, [], ◌∷◌, ◌++◌, append_assoc, append-nil}
use Prim.Native.Nat.{ℕ, zero, suc, ◌+◌, ◌*◌, ◌≤◌, ◌<◌}
use native.Mathlib.Omega.{arith}
use lib.ListN.{length, length-append, length-drop, get_or, set, take, drop, take-append-drop}
use lib.Seq.{drop-append-le, take-append-le, take_at, drop_at, length-take-le, set_split, drop-set-add, take-set-lt}
use lib.Dec.{leb}
use borrow.Author.Tests.{leb-true, leb-false}
use Rattle.rules.specs.Declarations.{Attribute, Def, ty_of}
use Rattle.rules.specs.Judge.{naming}
use Rattle.ground.specs.Parts.{part, splice}
use Rattle.names.specs.Index.{entry, row, Based, definition_width}
use Rattle.members.specs.Members.{Owns, Indexed, attribute_width}
use Rattle.members.specs.Held.{use_for, DefRow, AttributeRow, Held}
use Rattle.names.proofs.IndexLaws.{nth-within, nth_last, entry-keep, entry-within}
use Rattle.names.proofs.BaseLaws.{entry-there}
use Rattle.book.specs.Places.{NoUnit}
use Rattle.book.proofs.StandLaws.{stands-more}

-- ---- what lookups and filling need
pub indexed : {t b : List ℕ} {ks : List Def} {ms : List Attribute} {x : List ℕ} {count : ℕ} {y : List ℕ} {total : ℕ}
    → Held t b ks ms x count y total → Indexed t ks ms x count y total
indexed h = record {
  known = record { all = h.all_defs; says = λ p d e. (h.def_rows p d e).says };
  chained = λ p d e. (h.def_rows p d e).based;
  owned = λ p d e. (h.def_rows p d e).owns;
  members = record { all = h.all_attributes; tells = λ q a e. (h.attribute_rows q a e).tells };
}

-- ---- facts that grow
module _ (ks es : List Def) (ms ns : List Attribute) where
  pub based-more : (p : ℕ) (d : Def) (r : List ℕ) → p ≤ length ks + 1 → Based ks p d r → Based (ks ++ es) p d r
  based-more p d r w h =
      let l = h.before in
      let e = entry-keep ks es (get_or r 7 0) (omega arith) in
      record { before = l; bases = rw e h.bases; inherits = rw e h.inherits }

  pub owns-more : (d : Def) (r : List ℕ) → Owns ms d r → Owns (ms ++ ns) d r
  owns-more d r h =
      let a = h.last in
      let b = h.within in
      record {
        last = a;
        within = let l = length-append ms ns in omega arith;
        more = h.more ++ ns;
        own =
            drop-append-le (get_or r 8 0) ms ns (omega arith) ∙ ap (λ (l : List Attribute). l ++ ns) h.own
            ∙ append_assoc d.own h.more ns;
        unlike = h.unlike;
        few = h.few;
      }

  pub def-row-more : (t b v : List ℕ) (p : ℕ) (d : Def) (r : List ℕ) → NoUnit v → p ≤ length ks + 1
      → DefRow t b ks ms p d r → DefRow t (b ++ v) (ks ++ es) (ms ++ ns) p d r
  def-row-more t b v p d r nu w h = record {
    says = h.says;
    based = based-more p d r w h.based;
    owns = owns-more d r h.owns;
    stands = stands-more b v _ _ nu h.stands;
  }

  pub attribute-row-more : (t b v : List ℕ) (a : Attribute) (r : List ℕ) → NoUnit v → AttributeRow t b ks a r
      → AttributeRow t (b ++ v) (ks ++ es) a r
  attribute-row-more t b v a r nu h = record {
    tells = h.tells;
    stands = stands-more b v _ _ nu h.stands;
    use_known = let l = length-append ks es in let k = h.use_known in omega arith;
    uses = rw (entry-keep ks es (get_or r 5 0) h.use_known) h.uses;
  }

-- ---- rows behind the last are written
abbrev pub Agree : ℕ → List ℕ → List ℕ → ℕ → Type 0
Agree w x x' count = (p : ℕ) → p ≤ count → row w x' p ≡ row w x p

pub agree-all : (w : ℕ) (x : List ℕ) (count : ℕ) → Agree w x x count
agree-all w x count p h = refl

-- what is written at i leaves the parts before
part-keep : (x z : List ℕ) (i j n : ℕ) → j + n ≤ i → i ≤ length x → part (take i x ++ z) j n ≡ part x j n
part-keep x z i j n h w =
    let l : length (take i x) ≡ i = length-take-le i x w in
    let a : j ≤ length (take i x) = omega arith in
    let e : drop j (take i x ++ z) ≡ drop j (take i x) ++ z = drop-append-le j (take i x) z a in
    let k : n ≤ length (drop j (take i x)) = let d = length-drop j (take i x) in omega arith in
    let u : drop j x ≡ drop j (take i x) ++ drop i x =
    ap (drop j) (sym (take-append-drop i x)) ∙ drop-append-le j (take i x) (drop i x) a in
    rw (e, u, take-append-le n (drop j (take i x)) z k, take-append-le n (drop j (take i x)) (drop i x) k)

module _ (x r : List ℕ) (count : ℕ) where
  pub agree-def : count * definition_width + 10 ≤ length x
      → Agree definition_width x (splice x ((count + 1) * definition_width) r) count
  agree-def h p w = rw append_assoc (part-keep x (r ++ drop ((count + 1) * definition_width + length r) x)
      ((count + 1) * definition_width) (p * definition_width) 10 (omega arith) (omega arith))

  pub agree-attribute : count * attribute_width + 6 ≤ length x
      → Agree attribute_width x (splice x ((count + 1) * attribute_width) r) count
  agree-attribute h p w = rw append_assoc (part-keep x (r ++ drop ((count + 1) * attribute_width + length r) x)
      ((count + 1) * attribute_width) (p * attribute_width) 6 (omega arith) (omega arith))

  pub agree-last : (v : ℕ) → count * definition_width + 20 ≤ length x
      → Agree definition_width x (set x ((count + 1) * definition_width + 9) v) count
  agree-last v h p w = rw (set_split x ((count + 1) * definition_width + 9) v (omega arith))
      (part-keep x (v ∷ drop (suc ((count + 1) * definition_width + 9)) x) ((count + 1) * definition_width + 9)
      (p * definition_width) 10 (omega arith) (omega arith))

pub row_written : (w : ℕ) (x r : List ℕ) (p : ℕ) → length r ≡ w → p * w ≤ length x → row w (splice x (p * w) r) p ≡ r
row_written w x r p e h =
    let i : ℕ = p * w in
    let l : length (take i x) ≡ i = length-take-le i x h in
    let z : List ℕ = drop (i + length r) x in
    ap (λ (s : List ℕ). take w (drop i s)) (append_assoc (take i x) r z)
    ∙ ap (take w) (drop_at (take i x) (r ++ z) i l)
    ∙ take_at r z w e

pub row_last : (x : List ℕ) (p v : ℕ)
    → row definition_width (set x (p * definition_width + 9) v) p ≡ set (row definition_width x p) 9 v
row_last x p v =
    ap (take 10) (drop-set-add (p * definition_width) x 9 v)
    ∙ take-set-lt 10 (drop (p * definition_width) x) 9 v (omega arith)

-- the master law: es, ns and v are what is new
pub grow : (t b v : List ℕ) (ks es : List Def) (ms ns : List Attribute) (x x' : List ℕ) (count count' : ℕ)
    (y y' : List ℕ) (total total' : ℕ) → NoUnit v
    → Held t b ks ms x count y total → Agree definition_width x x' count → Agree attribute_width y y' total
    → count' ≡ length (ks ++ es) → total' ≡ length (ms ++ ns)
    → ((p : ℕ) (d : Def) → count < p → entry (ks ++ es) p ≡ some d
    → DefRow t (b ++ v) (ks ++ es) (ms ++ ns) p d (row definition_width x' p))
    → ((q : ℕ) (a : Attribute) → total < q → entry (ms ++ ns) q ≡ some a
    → AttributeRow t (b ++ v) (ks ++ es) a (row attribute_width y' q))
    → Held t (b ++ v) (ks ++ es) (ms ++ ns) x' count' y' total'
grow t b v ks es ms ns x x' count count' y y' total total' nu h ax ay ec et nd na = record {
  all_defs = ec;
  all_attributes = et;
  def_rows = λ p d e. def p d e (side p count);
  attribute_rows = λ q a e. att q a e (side q total);
}
  where
    side : (p c : ℕ) → (p ≤ c) ⊎ (c < p)
    side p c = go (leb p c) refl
      where
        go : (b : Bool) → leb p c ≡ b → (p ≤ c) ⊎ (c < p)
        go true e = inl (leb-true p c e)
        go false e = inr (leb-false p c e)

    def : (p : ℕ) (d : Def) → entry (ks ++ es) p ≡ some d → (p ≤ count) ⊎ (count < p)
        → DefRow t (b ++ v) (ks ++ es) (ms ++ ns) p d (row definition_width x' p)
    def p d e (inl w) =
        let c = h.all_defs in
        let o : entry ks p ≡ some d = sym (entry-keep ks es p (omega arith)) ∙ e in
        rw (ax p w) (def-row-more ks es ms ns t b v p d (row definition_width x p) nu (omega arith) (h.def_rows p d o))
    def p d e (inr w) = nd p d w e

    att : (q : ℕ) (a : Attribute) → entry (ms ++ ns) q ≡ some a → (q ≤ total) ⊎ (total < q)
        → AttributeRow t (b ++ v) (ks ++ es) a (row attribute_width y' q)
    att q a e (inl w) =
        let c = h.all_attributes in
        let o : entry ms q ≡ some a = sym (entry-keep ms ns q (omega arith)) ∙ e in
        rw (ay q w) (attribute-row-more ks es ms ns t b v a (row attribute_width y q) nu (h.attribute_rows q a o))
    att q a e (inr w) = na q a w e

-- ---- one more definition, whose row r stands behind the last
only-last : {A : Type 0} (l : List A) (a : A) (p : ℕ) (b : A) → length l < p → entry (l ++ (a ∷ [])) p ≡ some b
    → (p ≡ length l + 1) × (a ≡ b)
only-last l a zero b w e = absurd (omega arith)
only-last l a (suc i) b w e = ⊎_elim (λ q. let v = nth-within l i b q in absurd (omega arith))
    (λ q. let v = q.0 in (omega arith, q.1)) (nth_last l a i b e)

none-behind : {A : Type 0} (l : List A) (p : ℕ) (b : A) → length l < p → ¬ (entry (l ++ []) p ≡ some b)
none-behind l p b w e =
    let q : entry l p ≡ some b = rw (append-nil l) at e in
    let v = entry-within l p b q in omega arith

module _ (t b v : List ℕ) (nu : NoUnit v) (ks : List Def) (ms : List Attribute) (x : List ℕ) (count : ℕ)
    (y : List ℕ) (total : ℕ) (h : Held t b ks ms x count y total) (x' : List ℕ)
    (ax : Agree definition_width x x' count) where
  -- the book is longer, or rows are written behind the last
  pub held_on : Held t (b ++ v) ks ms x' count y total
  held_on =
      let a = h.all_defs in
      let c = h.all_attributes in
      let g = grow t b v ks [] ms [] x x' count count y y total total nu h ax (agree-all 6 y total)
      (rw (append-nil ks) a) (rw (append-nil ms) c)
      (λ p d w e. absurd (none-behind ks p d (omega arith) e))
      (λ q z w e. absurd (none-behind ms q z (omega arith) e)) in
      rw (append-nil ks, append-nil ms) at g

  pub held-def : (d : Def) → DefRow t (b ++ v) ks ms (count + 1) d (row definition_width x' (count + 1))
      → Held t (b ++ v) (ks ++ (d ∷ [])) ms x' (count + 1) y total
  held-def d r =
      let a = h.all_defs in
      let c = h.all_attributes in
      let l = length-append ks (d ∷ []) in
      let g = grow t b v ks (d ∷ []) ms [] x x' count (count + 1) y y total total nu h ax (agree-all 6 y total)
      (omega arith) (rw (append-nil ms) c)
      (λ p e w u.
      let (i, j) = only-last ks d p e (omega arith) u in
      let i' : p ≡ count + 1 = omega arith in
      rw (i', ← j, ← append-nil (b ++ v))
      (def-row-more ks (d ∷ []) ms [] t (b ++ v) [] (count + 1) d
      (row definition_width x' (count + 1)) refl (omega arith) r))
      (λ q z w e. absurd (none-behind ms q z (omega arith) e)) in
      rw (append-nil ms) at g

-- ---- one more attribute
pub held-attribute : (t b v : List ℕ) → NoUnit v
    → (ks : List Def) (ms : List Attribute) (x : List ℕ) (count : ℕ) (y : List ℕ)
    (total : ℕ) → Held t b ks ms x count y total → (y' : List ℕ) → Agree attribute_width y y' total
    → (a : Attribute) → AttributeRow t (b ++ v) ks a (row attribute_width y' (total + 1))
    → Held t (b ++ v) ks (ms ++ (a ∷ [])) x count y' (total + 1)
held-attribute t b v nu ks ms x count y total h y' ay a r =
    let c = h.all_defs in
    let d = h.all_attributes in
    let l = length-append ms (a ∷ []) in
    let g = grow t b v ks [] ms (a ∷ []) x x count count y y' total (total + 1) nu h (agree-all 10 x count) ay
    (rw (append-nil ks) c) (omega arith)
    (λ p e w u. absurd (none-behind ks p e (omega arith) u))
    (λ q z w u.
    let (i, j) = only-last ms a q z (omega arith) u in
    let i' : q ≡ total + 1 = omega arith in
    rw (i', ← j, append-nil ks) r) in
    rw (append-nil ks) at g

-- ---- where types stand
module _ (t b : List ℕ) (ks : List Def) (a : Attribute) (r : List ℕ) (h : AttributeRow t b ks a r) where
  -- a domain or structure that is named
  pub use-named : 0 < get_or r 5 0 → (d : Def) × (entry ks (get_or r 5 0) ≡ some d) × (naming d ≡ a.use_of)
  use-named z =
      let (d, e) = entry-there ks (get_or r 5 0) z h.use_known in
      (d, e, sym (ap (λ (o : Option Def). use_for o (ty_of a.use_of)) e) ∙ h.uses)
