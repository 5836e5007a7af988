-- What is known of the symbols of a text: a name is a part of it, a number is within the limits.
use mathlib.Core.Path.{◌≡◌, refl, sym}
use mathlib.Core.Bool.{true}
use mathlib.Core.List.{List}
use Prim.Native.Nat.{ℕ, ◌+◌, ◌≤◌, ◌<◌}
use native.Mathlib.Omega.{arith}
use lib.ListN.{length}
use lib.Dec.{eqb}
use borrow.Author.Tests.{eqb-true}
use Rattle.rules.specs.Names.{name_of}
use Rattle.rules.specs.Symbols.{Kind, word, name, number, quoted, dots, stop, mark, fault, Symbol, end_of, symbol_at}
use Rattle.rules.specs.Symbols.{tag}
use Rattle.rules.specs.Symbols.{is_kind, is_name_text}
use Rattle.rules.proofs.Tests.{never}
use Rattle.numbers.proofs.SymbolLaws.{Sized, number-sized}
use Rattle.numbers.proofs.WrittenLaws.{value-small}
use Rattle.symbols.specs.Cut.{Sound}
use Rattle.readers.specs.Reads.{Stands}
use Rattle.readers.proofs.StandLaws.{at-stands}
use Rattle.enumerations.specs.Standing.{InText}
use Rattle.wellformed.specs.Fairness.{FairNumber, FairSymbol}

-- it stands in the text, and a number is sized
pub record Whole (t : List ℕ) (y : Symbol) : Type 0 where
  pub stands : Stands t y
  pub sized : y.kind ≡ number → Sized y.bytes

pub next-whole : (t : List ℕ) (y : Symbol) → Whole t y → Whole t (symbol_at t (end_of y))
next-whole t y h = record { stands = at-stands t (end_of y) h.stands.ends; sized = number-sized t (end_of y) }

sound-name : (k : Kind) (b : List ℕ) → eqb (tag k) 1 ≡ true → Sound k b → (length b ≤ 255) × (is_name_text b ≡ true)
sound-name name b e h = h
sound-name word b e h = never e
sound-name number b e h = never e
sound-name quoted b e h = never e
sound-name dots b e h = never e
sound-name stop b e h = never e
sound-name (fault f) b e h = never e
sound-name (mark m) b e h = absurd (let q = eqb-true (7 + m) 1 e in omega arith)

kind-number : (k : Kind) → eqb (tag k) 2 ≡ true → k ≡ number
kind-number name e = never e
kind-number word e = never e
kind-number number e = refl
kind-number quoted e = never e
kind-number dots e = never e
kind-number stop e = never e
kind-number (fault f) e = never e
kind-number (mark m) e = absurd (let q = eqb-true (7 + m) 2 e in omega arith)

module _ (t : List ℕ) (y : Symbol) (h : Whole t y) where
  pub in_text : length t < 4294967296 → is_kind name y ≡ true → InText t (name_of y)
  in_text l e =
      let b = h.stands.ends in
      let s = sound-name y.kind y.bytes e h.stands.coded in
      record {
        fits = b;
        there = sym h.stands.written;
        low = omega arith;
        short = let q = s.0 in omega arith;
        text = s.1;
      }

  pub symbol-in-text : FairSymbol t y
  symbol-in-text = record { fits = h.stands.ends; there = sym h.stands.written }

  pub fair-number : is_kind number y ≡ true → FairNumber y
  fair-number e = let s = h.sized (kind-number y.kind e) in (s.decimals, value-small y.bytes s.digits)
