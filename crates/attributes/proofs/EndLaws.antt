-- The records of an attribute that breaks no rule, its row, its place in the open class, and 19.
use mathlib.Core.Path.{◌≡◌, refl, sym, ap, ◌∙◌, subst}
use mathlib.Core.Bool.{Bool, true, false, cond, not, ◌&&◌}
use mathlib.Core.Option.{Option, some}
use mathlib.Core.List.{List, [], ◌∷◌, ◌++◌, append-nil}
use Prim.Native.Nat.{ℕ, suc, ◌+◌, ◌*◌, ◌≤◌}
use native.Mathlib.Numerals.{add-one}
use native.Mathlib.Omega.{arith}
use lib.ListN.{length, length-append}
use lib.Dec.{leb}
use borrow.Author.Tests.{leb-true, leb-false}
use Rattle.rules.specs.Names as R
use Rattle.rules.specs.Grammar as G
use Rattle.rules.specs.Declarations.{Use, Attribute, Def, attributes_of, attribute_at, is_found, name_count, State}
use Rattle.rules.specs.Declarations.{known}
use Rattle.rules.specs.Book.{bytes, flags, number_or, head_record, use_records, attribute_records, records, book}
use Rattle.rules.specs.Judge.{ok, base_of_attribute, has_extended, reference_in, resolved, new_attribute}
use Rattle.rules.specs.Judge.{with_attribute}
use Rattle.rules.specs.Check.{lent, room}
use Rattle.ground.specs.Parts.{splice}
use Rattle.ground.proofs.BufferLaws.{length-splice}
use Rattle.book.specs.Sizes.{head_size}
use Rattle.enumerations.specs.declared.Size.{Size}
use Rattle.names.specs.Index.{nth, entry, row, Named}
use Rattle.members.specs.Members.{Tells, slot_of, with_nearest, Filled, attribute_width, AttributeRows, most}
use Rattle.members.specs.Held.{Held, AttributeRow, Opened, attributes_in}
use Rattle.members.specs.Rows.{member_row}
use Rattle.members.specs.declared.NewAttribute.{NewAttribute}
use Rattle.members.proofs.HeldLaws.{agree-attribute, row_written}
use Rattle.members.proofs.StateLaws.{book-attribute}
use Rattle.members.proofs.NearLaws.{found_before}
use Rattle.members.proofs.OpenLaws.{filled-grows, opened-more}
use Rattle.wellformed.specs.Fairness.{FairOpen}
use Rattle.types.proofs.TypeLaws.{laid-book}
use Rattle.units.specs.declared.AttributeUnit.{AttributeUnit}
use Rattle.state.specs.declared.State as code
use Rattle.std.specs.Prelude.{Ok, Err}
use Rattle.state.specs.Keeping.{OpenIs, JudgedAs}
use Rattle.state.specs.Next.{member_by}
use Rattle.state.proofs.KeepLaws as keep
use Rattle.state.proofs.KeepLaws.{keeps-member, open-fair, records-member, book-grown}
use Rattle.state.proofs.RowLaws.{in-text-named}
use Rattle.state.proofs.JudgeLaws.{room-over, room_within}
use Rattle.attribute_names.specs.declared.Bonds.{Bonds}
use Rattle.attribute_names.proofs.BondLaws.{few-names, no_own}
use Rattle.attributes.specs.Facts.{Passes, use_in, after_attribute, flags_in}
use Rattle.book.specs.Places.{Stands}
use Rattle.book.proofs.StandLaws.{stands-new}

-- ---- the new attribute
abbrev pub new_of : State → Def → R.Name → List (List ℕ) → G.Written → Attribute
new_of s c n p w = new_attribute s n p w (attribute_at n.bytes c.inherited) (resolved s (reference_in w.type))

module _ (s : State) (c : Def) (n : R.Name) (p : List (List ℕ)) (w : G.Written) where
  pub new-name : (new_of s c n p w).name ≡ n
  unfolding new_attribute
  new-name = refl

  new-number : (new_of s c n p w).number ≡ length (records s)
  unfolding new_attribute
  new-number = refl

  new-use : (new_of s c n p w).use_of ≡ use_in s c n w
  unfolding new_attribute
  new-use = refl

  new-flags : flags false (new_of s c n p w).final (new_of s c n p w).extended (new_of s c n p w).mandatory
      ≡ flags_in p w (resolved s (reference_in w.type)) (attribute_at n.bytes c.inherited)
  unfolding new_attribute
  new-flags = refl

  unfoldable head : List ℕ
  head = head_record 6 n (flags_in p w (resolved s (reference_in w.type)) (attribute_at n.bytes c.inherited))
      (number_or (base_of_attribute (attribute_at n.bytes c.inherited)))

  new-records : attribute_records (new_of s c n p w) ≡ head ∷ use_records (use_in s c n w)
  unfolding new_attribute head
  new-records =
      ap (λ (u : Use). head_record 6 n (flags_in p w (resolved s (reference_in w.type)) (attribute_at n.bytes
      c.inherited)) (number_or (base_of_attribute (attribute_at n.bytes c.inherited))) ∷ use_records u) new-use

  head-length : length head ≡ head_size
  unfolding head
  head-length = refl

  new-bytes : bytes (attribute_records (new_of s c n p w)) ≡ head ++ bytes (use_records (use_in s c n w))
  new-bytes = ap bytes new-records

  new-length : length (bytes (attribute_records (new_of s c n p w)))
      ≡ head_size + length (bytes (use_records (use_in s c n w)))
  new-length =
      ap length new-bytes ∙ length-append head (bytes (use_records (use_in s c n w)))
      ∙ ap (λ (k : ℕ). k + length (bytes (use_records (use_in s c n w)))) head-length

  new-count : length (attribute_records (new_of s c n p w)) ≡ suc (length (use_records (use_in s c n w)))
  new-count = ap length new-records

-- ---- positions and slots
pub last_entry : {A : Type 0} (l : List A) (a : A) → entry (l ++ (a ∷ [])) (length l + 1) ≡ some a
last_entry {A} l a = ap (entry (l ++ (a ∷ []))) (add-one (length l)) ∙ go l
  where
    go : (l : List A) → nth (l ++ (a ∷ [])) (length l) ≡ some a
    go [] = refl
    go (b ∷ l) = go l

same-list : (h k : List Attribute) → length h ≡ length k
    → ((i : ℕ) (a b : Attribute) → nth h i ≡ some a → nth k i ≡ some b → a ≡ b) → h ≡ k
same-list [] [] e f = refl
same-list [] (b ∷ k) e f = absurd (omega arith)
same-list (a ∷ h) [] e f = absurd (omega arith)
same-list (a ∷ h) (b ∷ k) e f =
    let p : a ≡ b = f 0 a b refl refl in
    let q : h ≡ k = same-list h k (omega arith) (λ i c d u v. f (suc i) c d u v) in
    rw (p, q)

same-filled : (ms : List Attribute) (hs : List ℕ) (k : ℕ) (h g : List Attribute)
    → Filled ms hs k h → Filled ms hs k g → h ≡ g
same-filled ms hs k h g f e = same-list h g (sym f.all ∙ e.all)
    (λ i a b u v. let p = f.at_position i a u in let q = e.at_position i b v in some_same a b (sym p ∙ q))
  where
    some_same : (a b : Attribute) → some a ≡ some b → a ≡ b
    some_same a b r = cc

-- ---- the end
module _ {t : List ℕ} {s : State} {st : code.State} {b b₁ x z y hs rs : List ℕ} {c : Def} {n : R.Name} {p : List
    (List ℕ)} {w : G.Written} {a : AttributeUnit} {bs : Bonds} {used : ℕ} {size : Size}
    (h : Passes t s st b b₁ x z y hs rs c n p w a bs used size) (el : length b ≡ length b₁)
    (small : length b₁ ≤ 65535) where
  abbrev new· : Attribute
  new· = new_of s c n p w

  size-bytes : size.bytes ≡ length (bytes (use_records (use_in s c n w)))
  size-bytes = ap (λ (i : Size). i.bytes) h.sized

  size-records : size.records ≡ length (use_records (use_in s c n w))
  size-records = ap (λ (i : Size). i.records) h.sized

  fair-open : FairOpen t (length (records s)) c
  fair-open = open-fair t s st b x z y hs h.keeps c h.open_is

  whole : length (book (after_attribute s c n p w)) ≡ st.extent.used + head_size + size.bytes
  whole =
      let q = book-grown s (after_attribute s c n p w) (attribute_records new·)
      (records-member s c fair-open.structure h.open_is fair-open.sort new·) in
      let i = new-length s c n p w in
      let u = h.keeps.used in
      let v = size-bytes in
      omega arith

  pub was : Opened (attributes_in s) hs st.context.in_hand c
  was = let q = subst (OpenIs t s st x hs) h.open_is h.keeps.opened in q.2

  found-base : attribute_at n.bytes was.hand ≡ attribute_at n.bytes c.inherited
  found-base =
      was.finds n.bytes ∙ found_before n.bytes c.own c.inherited
      ∙ ap (λ (i : Bool). cond i (attribute_at n.bytes c.own) (attribute_at n.bytes c.inherited))
      (no_own c n (has_extended p) h.new)

  -- what the head is read from
  pub held-front : Held t (book s) (known s.decls) (attributes_in s) x st.listing.count y st.listing.total
  held-front = h.keeps.held

  pub end-over : leb (st.extent.used + head_size + size.bytes) (length b₁) ≡ false → (o : ℕ) → o ≡ a.name.offset
      → (o' x' z' y' hs' : List ℕ)
      → JudgedAs t (room (lent (length b)) n.offset (ok (after_attribute s c n p w)))
      (Err (record { number = 19; place = o }))
      o' x' z' y' hs'
  end-over e o eo o' x' z' y' hs' =
      let v = leb-false (st.extent.used + head_size + size.bytes) (length b₁) e in
      let i = whole in
      let k : o ≡ n.offset = eo ∙ ap (λ (u : AttributeUnit). u.name.offset) h.given.is in
      rw (room-over (length b) n.offset (after_attribute s c n p w) (omega arith) (omega arith))
      (ap (λ (i : ℕ). Err (record { number = 19; place = i })) k)

  module _ (e : leb (st.extent.used + head_size + size.bytes) (length b₁) ≡ true) (f : ℕ)
      (ef : f ≡ flags_in p w (entry (known s.decls) bs.target) (entry (attributes_in s) bs.base)) (b₂ : List ℕ)
      (eb : b₂ ≡ splice b₁ st.extent.used
      (head_record 6 n (flags_in p w (entry (known s.decls) bs.target) (entry (attributes_in s) bs.base))
      (number_or (base_of_attribute (attribute_at n.bytes was.hand)))))
      (new : NewAttribute) (en : new
      ≡ record { name = a.name; number = st.extent.records; place = st.extent.used; flags = f; use_of = used })
      (x' z' y' : List ℕ) (ex : x' ≡ x) (ez : z' ≡ z)
      (ey : y' ≡ splice y ((st.listing.total + 1) * attribute_width) (member_row new)) where
    room-is : st.extent.used + head_size + size.bytes ≤ length b₁
    room-is = leb-true (st.extent.used + head_size + size.bytes) (length b₁) e

    head-is : b₂ ≡ splice b₁ st.extent.used (head s c n p w)
    unfolding head
    head-is = rw (h.reaches.target, h.reaches.base, found-base) at eb

    book-is : keep.Written (book s) (bytes (attribute_records new·)) b₂
    book-is =
        let v = size-bytes in
        let u = h.keeps.used in
        let k = room-is in
        let g : st.extent.used + head_size + length (bytes (use_records (use_in s c n w))) ≤ length b = omega arith in
        let q = laid-book b b₁ b₂ (book s) (head s c n p w) (bytes (use_records (use_in s c n w))) st.extent.used
        h.keeps.written u g (head-length s c n p w) (h.laid g) head-is in
        let i = new-length s c n p w in
        let j : length (book s) + length (bytes (attribute_records new·))
        ≡ st.extent.used + head_size + length (bytes (use_records (use_in s c n w))) = omega arith in
        let d = head-length s c n p w in
        let m : length b₂ ≡ length b₁ =
        ap length head-is ∙ length-splice b₁ st.extent.used (head s c n p w) (omega arith) in
        record { within = omega arith; whole = rw (j, new-bytes s c n p w) q }

    told : Tells t new· (member_row new)
    told = record {
      named = subst (λ (i : R.Name). Named t i) (sym (new-name s c n p w)) (in-text-named t n h.given.named);
      offset =
          ap (λ (i : NewAttribute). i.name.offset) en ∙ ap (λ (u : AttributeUnit). u.name.offset) h.given.is
          ∙ ap (λ (i : R.Name). i.offset) (sym (new-name s c n p w));
      size =
          ap (λ (i : NewAttribute). i.name.len) en ∙ ap (λ (u : AttributeUnit). u.name.len) h.given.is
          ∙ ap (λ (i : R.Name). length i.bytes) (sym (new-name s c n p w));
      number = ap (λ (i : NewAttribute). i.number) en ∙ h.keeps.numbered ∙ sym (new-number s c n p w);
      flagged =
          ap (λ (i : NewAttribute). i.flags) en ∙ ef
          ∙ ap (λ (g : Option Def). flags_in p w g (entry (attributes_in s) bs.base)) h.reaches.target
          ∙ ap (flags_in p w (resolved s (reference_in w.type))) h.reaches.base ∙ sym (new-flags s c n p w);
    }

    grown : book (after_attribute s c n p w) ≡ book s ++ bytes (attribute_records new·)
    grown = book-attribute s c fair-open.structure h.open_is fair-open.sort new·

    stands : Stands (book (after_attribute s c n p w)) new.place (attribute_records new·)
    stands =
        let q = stands-new (book s) (attribute_records new·) [] refl in
        let i : new.place ≡ length (book s) = ap (λ (i : NewAttribute). i.place) en ∙ h.keeps.used in
        rw (grown, i) (rw append-nil at q)

    row_is : used ≤ st.listing.count
        → AttributeRow t (book (after_attribute s c n p w)) (known s.decls) new· (member_row new)
    row_is k = record {
      tells = told;
      stands = stands;
      use_known = let d = h.keeps.held.all_defs in let i = ap (λ (i : NewAttribute). i.use_of) en in omega arith;
      uses = rw (new-use s c n p w, ap (λ (i : NewAttribute). i.use_of) en) h.uses;
    }

    module _ (hs' : List ℕ) (k : ℕ) (hk : k ≤ most)
        (held : (ms g : List Attribute) (i : Attribute) → entry ms (st.listing.total + 1) ≡ some i
        → st.extent.records ≡ i.number → bs.slot ≡ slot_of i.name.bytes g
        → Filled ms hs st.context.in_hand g → Filled ms hs' k (with_nearest g i)) where
      slots : (g : List Attribute) → Filled (attributes_in s ++ (new· ∷ [])) hs st.context.in_hand g
          → bs.slot ≡ slot_of new·.name.bytes g
      slots g q =
          let i : was.hand ≡ g = same-filled (attributes_in s ++ (new· ∷ [])) hs st.context.in_hand was.hand g
          (filled-grows (attributes_in s) (new· ∷ []) hs st.context.in_hand was.hand was.filled) q in
          h.at_slot was ∙ ap (slot_of n.bytes) i
          ∙ ap (λ (j : R.Name). slot_of j.bytes g) (sym (new-name s c n p w))

      own-off : is_found (attribute_at new·.name.bytes c.own) ≡ false
      own-off =
          ap (λ (j : R.Name). is_found (attribute_at j.bytes c.own)) (new-name s c n p w)
          ∙ no_own c n (has_extended p) h.new

      few-off : (not (is_found (attribute_at new·.name.bytes (attributes_of c)))
          && leb most (name_count (attributes_of c))) ≡ false
      few-off =
          ap (λ (j : R.Name). not (is_found (attribute_at j.bytes (attributes_of c)))
          && leb most (name_count (attributes_of c))) (new-name s c n p w) ∙ few-names c n (has_extended p) h.new

      opens : Opened (attributes_in s ++ (new· ∷ [])) hs' k (with_attribute c new·)
      opens =
          let d : st.listing.total ≡ length (attributes_in s) = h.keeps.held.all_attributes in
          let v : entry (attributes_in s ++ (new· ∷ [])) (st.listing.total + 1) ≡ some new· =
          ap (λ (i : ℕ). entry (attributes_in s ++ (new· ∷ [])) (i + 1)) d ∙ last_entry (attributes_in s) new· in
          opened-more (attributes_in s) hs st.context.in_hand c was new· own-off hs' k
          (λ g q u.
          held (attributes_in s ++ (new· ∷ [])) g new· v (h.keeps.numbered ∙ sym (new-number s c n p w)) (slots g q) q)

      pub end-fine : used ≤ st.listing.count → AttributeRows y (st.listing.total + 1) → (r : code.State)
          → r ≡ member_by st (head_size + size.bytes) (1 + size.records) k
          → JudgedAs t (room (lent (length b)) n.offset (ok (after_attribute s c n p w))) (Ok r) b₂ x' z' y' hs'
      end-fine hu hy r er =
          let i = whole in
          let d = room-is in
          let u = size-bytes in
          let v = size-records in
          let g = new-length s c n p w in
          let q = new-count s c n p w in
          let j : row attribute_width y' (st.listing.total + 1)
          ≡ member_row new = ap (λ (o : List ℕ). row attribute_width o (st.listing.total + 1)) ey
          ∙ row_written attribute_width y (member_row new) (st.listing.total + 1) refl (omega arith) in
          let m = keeps-member t s st b x z y hs h.keeps c h.open_is new· b₂ y' hs' (head_size + size.bytes)
          (1 + size.records) k (omega arith) (omega arith) book-is
          (rw ey (agree-attribute y (member_row new) st.listing.total (omega arith)))
          (rw j (row_is hu)) own-off few-off hk opens h.fair in
          rw (room_within (length b) n.offset (after_attribute s c n p w) (omega arith) (omega arith), ex, ez) (
            member_by st (head_size + size.bytes) (1 + size.records) k,
            ap Ok er,
            m,
          )
