-- Doubled elements are found while the elements are entered.
use mathlib.Core.Path.{◌≡◌, refl, sym, ap, ◌∙◌}
use mathlib.Core.Bool.{Bool, true, false, true≢false}
use mathlib.Core.Option.{Option, none, some}
use mathlib.Core.List.{List, [], ◌∷◌}
use Prim.Native.Nat.{ℕ, ◌+◌, ◌-◌, ◌*◌, ◌≤◌, ◌<◌}
use native.Mathlib.Omega.{arith}
use lib.ListN.{length, get_or}
use Rattle.rules.specs.Enumerations.{Enum, twice}
use Rattle.ground.specs.declared.Name as code
use Rattle.std.specs.Prelude.{Some, None, Result, Ok, Err, option_map, is_some}
use Rattle.std.specs.Result.{result_err}
use Rattle.std.specs.Prelude.{Option as code·Option}
use Rattle.enumerations.specs.Lists.{is_element, is_opening, written, find_from}
use Rattle.enumerations.specs.Standing.{Deep, Stands, end_of, ListAt}
use Rattle.tables.specs.Doubling.{checked_of, found_of}
use Rattle.tables.specs.Tables.{Entry, seek_in, Sized, Next, Filled, Clash, Gathered, Grown, InGrid, GridFor}
use Rattle.tables.specs.declared.Grid.{Grid}
use Rattle.tables.specs.declared.twice.Repeated.{Repeated}
use Rattle.enumerations.proofs.WrittenLaws.{stands-whole}
use Rattle.tables.proofs.TwiceLaws.{Walked, walked_start, walked_end, walked_at, Here, here, doubled-here}
use Rattle.tables.proofs.TwiceLaws.{passed-plain, Inner, inner-list, twice_of, past_of, twice-is, found-twice}
use Rattle.tables.proofs.TwiceLaws.{found_none}
use Rattle.tables.proofs.TableLaws.{none_filled}
use Rattle.tables.proofs.GatherLaws.{Sofar, sofar-start, sofar-end, sofar-plain, sofar-inner, was-entered}
use Rattle.tables.proofs.GatherLaws.{not_entered, filled-up, grown-whole}
use Rattle.book.specs.Sizes.{element_size, list_size}

pub none_is : {A : Type 0} (o : code·Option A) → is_some o ≡ false → o ≡ None
none_is None h = refl
none_is (Some x) h = absurd (true≢false h)

none-some : {A : Type 0} {B : Type 0} (x : Option A) (a : A) → x ≡ some a → x ≡ none → B
none-some x a p q = let z : ◌≡◌ {A = ℕ} 0 1 = cc in absurd (omega arith)

-- of the list e at l the elements before q are passed and entered, and none is doubled
pub record Going (t s : List ℕ) (g : Grid) (k : ℕ) (e : Enum) (es : List Entry) (l : ℕ)
    (z : List ℕ) (q : ℕ) : Type 0 where
  pub walked : Walked t s k e l q
  pub sofar : Sofar t s g es l z q

-- the answer c, and the numbers z
abbrev pub Answers : List ℕ → List ℕ → Grid → Enum → List Entry → ℕ → List ℕ → Result ℕ Repeated → Type 0
Answers t s g e es l z c =
    (c ≡ checked_of (twice e []) (end_of e l)) × (twice e [] ≡ none → Grown t s g es z l (end_of e l))

module _ (t s : List ℕ) (g : Grid) (k : ℕ) (e : Enum) (es : List Entry) (l : ℕ)
    (L : ListAt t s e l) (v : InGrid g e l) where
  answers-twice : (z : List ℕ) (d : Repeated) → Err d ≡ checked_of (twice e []) (end_of e l)
      → Answers t s g e es l z (Err d)
  answers-twice z d h = (h, λ y. none-some (twice e []) d.place (twice_of (twice e []) (end_of e l) d h) y)

  pub going_start : (z : List ℕ) → Deep k e → Filled t s g z es l → Going t s g k e es l z l
  going_start z d F = record { walked = walked_start t s k e l L d; sofar = sofar-start t s g es l z F }

  pub going_end : (z : List ℕ) (q : ℕ) → Going t s g k e es l z q → is_element s q ≡ false
      → (q < length s) × Answers t s g e es l z (Ok (q + 1))
  going_end z q G h =
      let w = walked_end t s k e l q G.walked h in
      let p = past_of (twice e []) (end_of e l) (q + 1) w.1 in
      (w.0, (w.1, λ y. sofar-end t s g es l z q (end_of e l) G.sofar h (omega (arith, p.1))))

  module _ (z : List ℕ) (q : ℕ) (G : Going t s g k e es l z q) (u : l ≤ q) (h : is_element s q ≡ true) where
    H : Here t s k e l q
    H = here t s k e l q G.walked L h

    next : Next s g l q
    next = record { first = v.0; behind = u; element = h; room = omega (arith, H.within, v.1) }

    module _ (z₁ : List ℕ) (r : Bool)
        (C : (es : List Entry) → Filled t s g z es q → Next s g l q → Clash t s g es l q z₁ r) where
      D : Clash t s g G.sofar.entries l q z₁ r
      D = C G.sofar.entries G.sofar.filled next

      pub clash-twice : r ≡ true → (m : code.Name) → m ≡ written s q
          → Answers t s g e es l z₁ (Err (record { place = m.offset }))
      clash-twice a m em =
          answers-twice z₁ (record { place = m.offset })
          (doubled-here t s k e l q H (find_from (length s + 1) t s l (written s q)) refl
          (was-entered t s g es l z q G.sofar h (sym D.says ∙ a)) m em)

      module _ (a : r ≡ false) where
        new : seek_in t s l (written s q) G.sofar.entries ≡ None
        new = none_is _ (sym D.says ∙ a)

        first-here : find_from (length s + 1) t s l (written s q) ≡ Some (q + element_size)
        first-here = not_entered t s g es l z q G.sofar h new H.own_name

        pub going-plain : is_opening s (q + element_size) ≡ false → Going t s g k e es l z₁ (q + element_size)
        going-plain o =
            record {
              walked = passed-plain t s k e l q H (find_from (length s + 1) t s l (written s q)) refl first-here o;
              sofar = sofar-plain t s g es l z q G.sofar h new z₁ (D.more a) o;
            }

        module _ (o : is_opening s (q + element_size) ≡ true) where
          I : Inner t s k e l q H (find_from (length s + 1) t s l (written s q)) refl first-here
          I = inner-list t s k e l q H (find_from (length s + 1) t s l (written s q)) refl first-here o

          pub has_room : 0 < k
          has_room = I.room

          module _ (z₂ : List ℕ) (c : Result ℕ Repeated)
              (A : (i : Enum) (ds : List Entry) → ListAt t s i (q + element_size + list_size) → Deep (k - 1) i
              → InGrid g i (q + element_size + list_size) → Filled t s g z₁ ds (q + element_size + list_size)
              → Answers t s g i ds (q + element_size + list_size) z₂ c) where
            B : Answers t s g I.i (record { list = l; at = q } ∷ G.sofar.entries) (q + element_size + list_size) z₂ c
            B = A I.i _ I.list I.deep (omega (arith, v.0), omega (arith, v.1, I.within))
                (filled-up t s g z₁ _ (q + element_size) (q + element_size + list_size) (D.more a) (omega arith))

            pub inner-twice : (d : Repeated) → c ≡ Err d → Answers t s g e es l z₂ (Err d)
            inner-twice d ec = answers-twice z₂ d (twice-is (twice e []) (end_of e l) d (I.doubled d.place
                (twice_of (twice I.i []) (end_of I.i (q + element_size + list_size)) d (sym ec ∙ B.0))))

            pub inner-past : (p : ℕ) → c ≡ Ok p → Going t s g k e es l z₂ p
            inner-past p ec =
                let y = past_of (twice I.i []) (end_of I.i (q + element_size + list_size)) p (sym ec ∙ B.0) in
                record {
                  walked = walked_at t s k e l y.1 (I.goes y.0);
                  sofar = sofar-inner t s g es l z q G.sofar h new z₂ p u
                      (rw y.1 (B.1 y.0)) (y.1 ∙ I.past);
                }

-- ---- of the whole enumeration
abbrev pub repeated : Result ℕ Repeated → code·Option ℕ
repeated c = option_map (λ (d : Repeated). d.place) (result_err c)

module _ (t s : List ℕ) (g : Grid) (z z₁ : List ℕ) (p : ℕ) (S : Sized g z)
    (F : GridFor s p g) (o : (i : ℕ) → i < 3 * g.keys → get_or z i 0 ≡ 0) (c : Result ℕ Repeated)
    (A : (e : Enum) (es : List Entry) → ListAt t s e (p + list_size) → Deep 7 e → InGrid g e (p + list_size)
    → Filled t s g z es (p + list_size) → Answers t s g e es (p + list_size) z₁ c) where
  answered : (e : Enum) → Stands t s e p → Answers t s g e [] (p + list_size) z₁ c
  answered e u = A e [] (stands-whole t s e p u).list u.deep (F.room t e u)
      (none_filled t s g z (p + list_size) S (λ i h. o i (omega arith)))

  -- the answer as a place
  pub whole : (r : code·Option ℕ) → r ≡ repeated c → (e : Enum) → Stands t s e p
      → (r ≡ found_of (twice e [])) × (r ≡ None → Gathered t s g z₁)
  whole r er e u = go c refl
    where
      go : (d : Result ℕ Repeated) → c ≡ d → (r ≡ found_of (twice e [])) × (r ≡ None → Gathered t s g z₁)
      go (Err d) ec = (
        er ∙ ap repeated ec ∙ found-twice (twice e []) (end_of e (p + list_size)) d (sym ec ∙ (answered e u).0),
        λ y. let x : Some d.place ≡ None = sym (er ∙ ap repeated ec) ∙ y in absurd cc,
      )
      go (Ok q) ec =
          let B = answered e u in (
            er ∙ ap repeated ec ∙ found_none (twice e []) (end_of e (p + list_size)) q (sym ec ∙ B.0),
            λ y. grown-whole t s g z₁ (p + list_size)
                (end_of e (p + list_size)) (B.1 (past_of (twice e []) (end_of e (p + list_size)) q (sym ec ∙ B.0)).0),
          )
