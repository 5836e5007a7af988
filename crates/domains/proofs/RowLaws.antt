-- The row of a new domain, its records in the book, and what is then kept.
use mathlib.Core.Path.{◌≡◌, refl, sym, ap, ◌∙◌, subst}
use mathlib.Core.Bool.{Bool, true, false, ◌||◌}
use mathlib.Core.Option.{Option, none}
use mathlib.Core.List.{List, [], ◌∷◌, ◌++◌, append-nil}
use Prim.Native.Nat.{ℕ, ◌+◌, ◌*◌, ◌≤◌, ◌<◌}
use native.Mathlib.Omega.{arith}
use lib.ListN.{length, length-append}
use lib.Dec.{leb}
use borrow.Author.Tests.{leb-true, leb-false}
use Rattle.rules.specs.Names.{Name}
use Rattle.rules.specs.Grammar.{Reference, Written}
use Rattle.rules.specs.Types.{Ty}
use Rattle.rules.specs.Declarations.{domain, Def, State, attributes_of, known, def}
use Rattle.rules.specs.Book.{Record, bytes, type_records, decl_records, book, flags, base_number}
use Rattle.rules.specs.Judge.{ok, or_no_def, resolved, target_in, bases_of, has_abstract, has_final, domain_type}
use Rattle.rules.specs.Judge.{new_domain}
use Rattle.rules.specs.Judge.{declare}
use Rattle.rules.specs.Check as Check
use Rattle.ground.specs.Parts.{splice}
use Rattle.book.specs.Forms.{head_form}
use Rattle.names.specs.Index.{entry, row, definition_width, Rows}
use Rattle.names.specs.Chains.{Chains}
use Rattle.names.specs.References.{bytes_of, Inside}
use Rattle.names.specs.declared.NewDefinition.{NewDefinition}
use Rattle.names.specs.Rows.{definition_row}
use Rattle.members.specs.Held.{DefRow, heading, attributes_in}
use Rattle.members.proofs.HeldLaws.{agree-def, row_written}
use Rattle.members.proofs.StateLaws.{book-declared}
use Rattle.enumerations.specs.declared.Size.{Size}
use Rattle.enumerations.specs.Records.{size_of}
use Rattle.units.specs.declared.DomainUnit.{DomainUnit}
use Rattle.wellformed.specs.Fairness.{FairState}
use Rattle.types.proofs.TypeLaws.{laid-book}
use Rattle.state.specs.declared.State as code
use Rattle.std.specs.Prelude.{Result, Ok, Err}
use Rattle.ground.specs.declared.Ruling.{Ruling}
use Rattle.state.specs.Keeping.{JudgedAs}
use Rattle.state.specs.Next.{declared_by}
use Rattle.state.proofs.KeepLaws as keep
use Rattle.state.proofs.KeepLaws.{keeps-declared, plain_type, domain-defined}
use Rattle.state.proofs.RowLaws.{Tells, def_row}
use Rattle.state.proofs.JudgeLaws.{small, home-number, room-over, room_within}
use Rattle.domains.specs.Stages.{Extending, domain_definition}
use Rattle.domains.specs.declared.Reached.{Reached}
use Rattle.domains.proofs.StageLaws.{domain_of, unit-inside, is-unit, a-base, no-class}
use Rattle.book.specs.Places.{Stands}
use Rattle.book.proofs.StandLaws.{stands-new}
use Rattle.book.specs.Sizes.{head_size}

-- ---- the new definition
module _ (s : State) (n : Name) (p : List (List ℕ)) (w : Written) (o target : Option Def) where
  abbrev new : Def
  new = new_domain s n p w o target

  new-sort : new.sort ≡ domain
  unfolding new_domain
  new-sort = refl

  new-own : new.own ≡ []
  unfolding new_domain
  new-own = refl

  -- its records
  abbrev type : Ty
  type = domain_type w.type target (or_no_def o).type

  head : List ℕ
  head = head_form 7 n.offset (length n.bytes)
      (flags (has_abstract p) (has_final p) false (w.mandatory || (or_no_def o).mandatory)) (base_number (bases_of o))

  new-records : decl_records (def new) ≡ head ∷ type_records type
  unfolding new_domain head
  new-records = ap (λ (l : List Record). head ∷ l) (append-nil (type_records type))

  head-length : length head ≡ head_size
  unfolding head
  head-length = refl

  new-length : length (bytes (decl_records (def new))) ≡ head_size + length (bytes (type_records type))
  new-length =
      ap (λ (l : List Record). length (bytes l)) new-records ∙ length-append head (bytes (type_records type))
      ∙ ap (λ (i : ℕ). i + length (bytes (type_records type))) head-length

  new-heading : heading new.sort new ≡ head ∷ type_records type
  unfolding new_domain head
  new-heading = refl

  new-book : s.open_class ≡ none → book (declare s (def new)) ≡ book s ++ (bytes (heading new.sort new) ++ [])
  new-book c =
      book-declared s (declare s (def new)) (def new) c refl refl
      ∙ ap (λ (l : List ℕ). book s ++ l)
      (ap bytes (new-records ∙ sym new-heading) ∙ sym (append-nil (bytes (heading new.sort new))))

  length-book : s.open_class ≡ none
      → length (book (declare s (def new))) ≡ length (book s) + (head_size + length (bytes (type_records type)))
  length-book c =
      ap length (book-declared s (declare s (def new)) (def new) c refl refl)
      ∙ length-append (book s) (bytes (decl_records (def new))) ∙ ap (λ (i : ℕ). length (book s) + i) new-length

  stands-next : (u : ℕ) → u ≡ length (book s) → s.open_class ≡ none
      → Stands (book (declare s (def new))) u (heading new.sort new)
  stands-next u e c = rw (e, new-book c) (stands-new (book s) (heading new.sort new) [] refl)

-- ---- what is small enough
pub record Numbers (t : List ℕ) (st : code.State) (d : DomainUnit) (size : Size) : Type 0 where
  pub inside : Inside t d.name
  pub home : st.context.home ≤ 65535
  pub numbered : st.extent.records ≤ 65535
  pub place : st.extent.used ≤ 65535
  pub count : st.listing.count < 65535
  pub total : st.listing.total ≤ 65535
  pub bytes : head_size + size.bytes ≤ 65535
  pub records : 1 + size.records ≤ 65535
  pub used : st.extent.used + (head_size + size.bytes) ≤ 65535
  pub recorded : st.extent.records + (1 + size.records) ≤ 65535
  pub defined : st.extent.definitions + 1 ≤ 65535

module _ {t : List ℕ} {s : State} {st : code.State} {n : Name} {p : List (List ℕ)} {b : Option Reference} {w :
    Written} {o x z y hs rs : List ℕ} {d : DomainUnit} {e : Reached} (h : Extending t s st n p b w o x z y hs rs d e)
    (o₁ : List ℕ) (len : length o ≡ length o₁) (short : length o₁ ≤ 65535)
    (size : Size)
    (counted : size ≡ size_of (type_records (domain_type w.type (target_in s w) (or_no_def (resolved s b)).type))) where
  abbrev l : List ℕ
  l = bytes (type_records (domain_type w.type (target_in s w) (or_no_def (resolved s b)).type))

  size-bytes : size.bytes ≡ length l
  size-bytes = ap (λ (i : Size). i.bytes) counted

  long : length (book (declare s (def (new_domain s n p w (resolved s b) (target_in s w)))))
      ≡ st.extent.used + head_size + size.bytes
  long =
      let e = length-book s n p w (resolved s b) (target_in s w) (no-class h) in
      let u = h.keeps.used in
      let v = size-bytes in omega arith

  pub numbers : leb (st.extent.used + head_size + size.bytes) (length o₁) ≡ true → Numbers t st d size
  numbers e =
      let f = leb-true (st.extent.used + head_size + size.bytes) (length o₁) e in
      let g = small t s st o x z y hs h.keeps in
      let g0 = g.fewer in let g1 = g.defined in let g2 = g.home in let g3 = g.rows in
      let v = size-bytes in
      let r = ap (λ (i : Size). i.records) counted in
      let k = (plain_type (domain_type w.type (target_in s w) (or_no_def (resolved s b)).type)).solid in
      record {
        inside = unit-inside h.comes;
        home = omega arith;
        numbered = omega arith;
        place = omega arith;
        count = omega arith;
        total = omega arith;
        bytes = omega arith;
        records = omega arith;
        used = omega arith;
        recorded = omega arith;
        defined = omega arith;
      }

  pub refused-room : leb (st.extent.used + head_size + size.bytes) (length o₁) ≡ false → (r : Result code.State Ruling)
      → r ≡ Err (record { number = 19; place = d.name.offset }) → (o₂ x₂ z₂ : List ℕ)
      → JudgedAs t (Check.room (Check.lent (length o)) n.offset
      (ok (declare s (def (new_domain s n p w (resolved s b) (target_in s w)))))) r o₂ x₂ z₂ y hs
  refused-room e r g o₂ x₂ z₂ =
      let f = leb-false (st.extent.used + head_size + size.bytes) (length o₁) e in
      let v = long in
      rw (room-over (length o) n.offset
      (declare s (def (new_domain s n p w (resolved s b) (target_in s w)))) (omega arith) (omega arith))
      (g ∙ ap (λ (u : DomainUnit). Err (record { number = 19; place = u.name.offset })) (is-unit h))

  -- the head is written behind the book, the row behind the last
  module _ (room : leb (st.extent.used + head_size + size.bytes) (length o₁) ≡ true)
      (there : st.extent.used + head_size + length l ≤ length o → o₁ ≡ splice o (st.extent.used + head_size) l)
      (mandatory : Bool)
      (em : mandatory ≡ (d.written.mandatory || (or_no_def (entry (known s.decls) e.base)).mandatory))
      (f : ℕ) (ef : f ≡ flags d.properties.is_abstract d.properties.is_final false mandatory)
      (c : ℕ) (ec : c ≡ base_number (bases_of (entry (known s.decls) e.base)))
      (hd o₂ x₂ z₂ : List ℕ) (eh : hd ≡ head_form 7 d.name.offset d.name.len f c)
      (eo : o₂ ≡ splice o₁ st.extent.used hd) (len₂ : length o₂ ≡ length o₁)
      (ex : x₂ ≡ splice x ((st.listing.count + 1) * definition_width)
      (definition_row (domain_definition st d.name f e.base)))
      (ez : (ks : List Def) (e : Def) → Chains ks z → st.listing.count ≡ length ks
      → bytes_of t d.name ≡ e.name.bytes → Chains (ks ++ (e ∷ [])) z₂)
      (wide : Rows x (st.listing.count + 2)) (low : e.base ≤ st.listing.count) where
    abbrev unit : d ≡ domain_of n p b w
    unit = is-unit h

    abbrev none_open : s.open_class ≡ none
    none_open = no-class h

    abbrev entered : NewDefinition
    entered = domain_definition st d.name f e.base

    abbrev new· : Def
    new· = new_domain s n p w (resolved s b) (target_in s w)

    flags-are : f ≡ flags (has_abstract p) (has_final p) false (w.mandatory || (or_no_def (resolved s b)).mandatory)
    flags-are = ef ∙ rw (em, h.leads.base, unit)

    head-is : hd ≡ head s n p w (resolved s b) (target_in s w)
    unfolding head
    head-is = eh ∙ rw (flags-are, ec, h.leads.base, unit)

    book-is : keep.Written (book s) (bytes (decl_records (def new·))) o₂
    book-is =
        let e = leb-true (st.extent.used + head_size + size.bytes) (length o₁) room in
        let v = size-bytes in
        let u = h.keeps.used in
        let g : st.extent.used + head_size + length l ≤ length o = omega arith in
        let k = laid-book o o₁ o₂ (book s) (head s n p w (resolved s b) (target_in s w)) l
        st.extent.used h.keeps.written u g
        (head-length s n p w (resolved s b) (target_in s w)) (there g) (rw head-is at eo) in
        let r : bytes (decl_records (def new·))
        ≡ head s n p w (resolved s b) (target_in s w) ++ l =
        ap bytes (new-records s n p w (resolved s b) (target_in s w)) in
        let i = new-length s n p w (resolved s b) (target_in s w) in
        let j : length (book s) + length (bytes (decl_records (def new·)))
        ≡ st.extent.used + head_size + length l = omega arith in
        record { within = omega arith; whole = rw (j, r) k }

    tells : Tells t (known s.decls) (attributes_in s) (st.listing.count + 1) new· entered
    unfolding new_domain
    tells = record {
      in_text = h.comes.fair.0;
      named = ap (λ (u : DomainUnit). u.name) unit;
      home = home-number t s st o x z y hs h.keeps;
      number = h.keeps.numbered;
      sort = refl;
      flagged = flags-are;
      before = omega arith;
      bases = ap bases_of h.leads.base;
      inherits = ap (λ (c : Option Def). attributes_of (or_no_def c)) h.leads.base ∙ (a-base h).bare;
      first = h.keeps.held.all_attributes;
      own = refl;
      few = omega arith;
    }

    row_is : DefRow t (book (declare s (def new·))) (known s.decls) (attributes_in s) (st.listing.count + 1) new·
        (row definition_width x₂ (st.listing.count + 1))
    row_is =
        let e : row definition_width x₂ (st.listing.count + 1)
        ≡ definition_row entered = ap (λ (i : List ℕ). row definition_width i (st.listing.count + 1)) ex
        ∙ row_written definition_width x (definition_row entered) (st.listing.count + 1) refl (omega arith) in
        rw e (def_row t (book (declare s (def new·))) (known s.decls) (attributes_in s) (st.listing.count + 1) new·
        entered tells (stands-next s n p w (resolved s b) (target_in s w) st.extent.used h.keeps.used none_open))

    chains-are : Chains (known s.decls ++ (new· ∷ [])) z₂
    unfolding new_domain
    chains-are =
        ez (known s.decls) new· h.keeps.chained h.keeps.held.all_defs (rw unit h.comes.fair.0.there)

    pub kept-domain : FairState t (declare s (def new·)) → (st' : code.State)
        → st' ≡ declared_by st (head_size + size.bytes) (1 + size.records) 1
        → (r : Result code.State Ruling) → r ≡ Ok st'
        → (y₂ : List ℕ) → y₂ ≡ y
        → JudgedAs t (Check.room (Check.lent (length o)) n.offset (ok (declare s (def new·)))) r o₂ x₂ z₂ y₂ hs
    kept-domain fair st' es r er y₂ ey =
        let e = leb-true (st.extent.used + head_size + size.bytes) (length o₁) room in
        let v = size-bytes in
        let q = ap (λ (i : Size). i.records) counted in
        let g = long in
        let i = new-length s n p w (resolved s b) (target_in s w) in
        let j = ap length (new-records s n p w (resolved s b) (target_in s w)) in
        let k = keeps-declared t s st o x z y hs h.keeps new· o₂ x₂ z₂ (head_size + size.bytes)
        (1 + size.records) 1 none_open (new-own s n p w (resolved s b) (target_in s w)) (omega arith) (omega arith)
        (sym (domain-defined new· (new-sort s n p w (resolved s b) (target_in s w)))) book-is
        (rw ex (agree-def x _ st.listing.count (omega arith))) row_is chains-are fair in
        subst (λ (i : List ℕ). JudgedAs t
        (Check.room (Check.lent (length o)) n.offset (ok (declare s (def new·)))) r o₂ x₂ z₂ i hs) (sym ey)
        (rw (room_within (length o) n.offset (declare s (def new·)) (omega arith) (omega arith))
        (st', er, rw es k))

-- the head is as long
pub head-fits : (hd : List ℕ) (k i n f c u b m : ℕ) → hd ≡ head_form k i n f c
    → leb (u + head_size + b) m ≡ true → u + length hd ≤ m
head-fits hd k i n f c u b m e h =
    let l : length hd ≡ head_size = ap length e in
    let g = leb-true (u + head_size + b) m h in omega arith
