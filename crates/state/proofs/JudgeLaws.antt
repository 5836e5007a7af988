-- What Keeps says of numbers, and 19.
use mathlib.Core.Path.{◌≡◌, sym, ap, ◌∙◌, subst}
use mathlib.Core.Option.{Option, none, some}
use mathlib.Core.List.{List}
use Prim.Native.Nat.{ℕ, ◌+◌, ◌*◌, ◌≤◌, ◌<◌}
use native.Mathlib.Nat.{min-eq_left}
use native.Mathlib.Omega.{arith}
use lib.ListN.{length}
use borrow.Author.Tests.{lt-ltb, le-ltb}
use Rattle.rules.specs.Names as R
use Rattle.rules.specs.Declarations.{Def, State, number_in}
use Rattle.rules.specs.Book.{records, book}
use Rattle.rules.specs.Units as U
use Rattle.rules.specs.Judge.{Judged, ok, refused, judge}
use Rattle.rules.specs.Check.{unit_place, lent, capacity, room}
use Rattle.enumerations.specs.Standing.{InText}
use Rattle.names.specs.Index.{home_number}
use Rattle.readers.specs.Reads.{name_cut}
use Rattle.state.specs.declared.State as code
use Rattle.std.specs.Prelude.{Result, Ok, Err}
use Rattle.ground.specs.declared.Ruling.{Ruling}
use Rattle.state.specs.Keeping.{Calls, TopicIs, OpenIs, Keeps, JudgedAs, verdict}
pub use Rattle.state.specs.Keeping.{Small}
use Rattle.state.proofs.KeepLaws.{definitions-few}

-- ---- names
pub calls-cut : (t : List ℕ) (n : R.Name) → InText t n → Calls t (name_cut n) n
calls-cut t n h = record {
  inside = h.fits;
  named = ap (λ (b : List ℕ). record { offset = n.offset; bytes = b }) h.there;
}

-- ---- numbers
module _ (t : List ℕ) (s : State) (st : code.State) (o x z y hs : List ℕ) (k : Keeps t s st o x z y hs) where
  pub home-number : st.context.home ≡ home_number (number_in s.topic)
  home-number = go s.topic k.topic
    where
      go : (d : Option Def) → TopicIs t d st → st.context.home ≡ home_number (number_in d)
      go none h = h
      go (some d) h = h.0

  pub small : Small st
  small = record {
    fewer = k.fewer;
    defined = let h = definitions-few (records s) in let a = k.numbered in let b = k.defined in omega arith;
    home = home s.topic k.topic;
    rows = rows s.open_class k.opened;
  }
    where
      home : (d : Option Def) → TopicIs t d st → st.context.home ≤ st.extent.records
      home none h = omega arith
      home (some d) h = h.2

      rows : (c : Option Def) → OpenIs t s st x hs c
          → 6 * st.listing.count + 11 * st.listing.total ≤ st.extent.used
      rows none h = h.2
      rows (some c) h = let w = h.1 in omega arith

-- ---- 19
module _ (m p : ℕ) (s : State) (h : m ≤ 65535) where
  whole : capacity (lent m) ≡ m
  whole = min-eq_left h

  pub room-over : m < length (book s) → room (lent m) p (ok s) ≡ refused 19 p
  room-over w = rw (whole, lt-ltb m (length (book s)) w)

  pub room_within : length (book s) ≤ m → room (lent m) p (ok s) ≡ ok s
  room_within w = rw (whole, le-ltb m (length (book s)) w)

-- ---- the answer: a rule of 4, 7 to 18 and 22, then 19, or the next state
module _ (t : List ℕ) (s : State) (v : U.Unit) (o : List ℕ)
    (r : Result code.State Ruling) (o' x z y hs : List ℕ) where
  answer : (j : Judged) → verdict s v o ≡ j → JudgedAs t j r o' x z y hs → JudgedAs t (verdict s v o) r o' x z y hs
  answer j e h = subst (λ (i : Judged). JudgedAs t i r o' x z y hs) (sym e) h

  pub judged-refused : (n p : ℕ) → judge s v ≡ refused n p → r ≡ Err (record { number = n; place = p })
      → JudgedAs t (verdict s v o) r o' x z y hs
  judged-refused n p e h = answer (refused n p) (ap (room (lent (length o)) (unit_place v)) e) h

  pub judged-over : (s' : State) → judge s v ≡ ok s' → length o ≤ 65535 → length o < length (book s')
      → r ≡ Err (record { number = 19; place = unit_place v }) → JudgedAs t (verdict s v o) r o' x z y hs
  judged-over s' e m w h = answer (refused 19 (unit_place v))
      (ap (room (lent (length o)) (unit_place v)) e ∙ room-over (length o) (unit_place v) s' m w) h

  pub judged-fine : (s' : State) (st' : code.State) → judge s v ≡ ok s' → length o ≤ 65535 → st'.extent.used ≤ length
      o → r ≡ Ok st' → Keeps t s' st' o' x z y hs → JudgedAs t (verdict s v o) r o' x z y hs
  judged-fine s' st' e m w h k =
      let u = k.used in
      answer (ok s') (ap (room (lent (length o)) (unit_place v)) e
      ∙ room_within (length o) (unit_place v) s' m (omega arith)) (st', h, k)
