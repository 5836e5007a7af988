-- A record that is found and a name that is shown, each in one number. A part is cut to its bits, so that no sum wraps.
use Rattle.std.specs.Prelude.{cond, ℕ, ◌+◌, ◌-◌, ◌*◌, ◌^◌, ◌/◌, ◌%◌, eqb}
use Rattle.std.proofs.Math.Option.{Option, none, some}
use Rattle.rules.specs.Show.{Part}

-- where a record begins; for none the greatest number of 64 bits, at which no book has a byte
abbrev pub packed_found : Option ℕ → ℕ
packed_found none = 2 ^ 64 - 1
packed_found (some i) = i

-- where a name begins, times 2^8, and its length
abbrev pub packed_part : Part → ℕ
packed_part p = p.start % 4294967296 * 256 + p.length % 256

-- ---- taken out again
abbrev pub unpacked_found : ℕ → Option ℕ
unpacked_found w = cond (eqb w (2 ^ 64 - 1)) none (some w)

abbrev pub unpacked_part : ℕ → Part
unpacked_part w = record { start = w / 256; length = w % 256 }
