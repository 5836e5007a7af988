-- Every symbol that is cut from a text stands in it: its bytes are the text's, and its kind has a code of its own.
use mathlib.Core.Path.{refl, ap}
use mathlib.Core.List.{List}
use Prim.Native.Nat.{ℕ, ◌≤◌}
use native.Mathlib.Nat.{add-zero}
use native.Mathlib.Omega.{arith}
use lib.ListN.{length}
use Rattle.rules.specs.Symbols as rules
use Rattle.rules.specs.Symbols.{Fault, symbol_at}
use Rattle.rules.proofs.SymbolLaws.{Lies, next-lies}
use Rattle.places.specs.Standing.{line_at}
use Rattle.symbols.proofs.CutLaws.{cut_at, same_line}
use Rattle.readers.specs.Reads.{fault_at, Stands}

pub at-stands : (t : List ℕ) (i : ℕ) → i ≤ length t → Stands t (symbol_at t i)
at-stands t i h =
    let l = next-lies t i h in
    let c = cut_at t i in
    record {
      coded = c.sound;
      ends = l.ends;
      solid = l.solid;
      written = c.stands;
      level = same_line t (symbol_at t i) c;
    }

pub fault-stands : (t : List ℕ) (f : Fault) (p : ℕ) → p ≤ length t → Stands t (fault_at f p)
fault-stands t f p h = record {
  coded = tt;
  ends = omega arith;
  solid = λ r. absurd (r.1 refl);
  written = refl;
  level = ap (line_at t) (add-zero p);
}

pub stands-lies : {t : List ℕ} {z : rules.Symbol} → Stands t z → Lies 0 (length t) z
stands-lies s = record { starts = omega arith; ends = s.ends; solid = s.solid }
