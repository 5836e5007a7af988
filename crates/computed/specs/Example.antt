-- Document 01, "Examples on both sides": the text of 63 bytes and its book; readings of numbers; records found in
-- it and names shown from it.
use Rattle.std.specs.Prelude.{◌≡◌, List, [], ◌∷◌, ℕ, ◌-◌, ◌^◌, length, pos, negsuc}
use Rattle.std.proofs.Math.Option.{none, some}
use Rattle.rules.specs.Bytes.{ascii}
use Rattle.rules.specs.Numbers.{reads, not_read, read_number, read_value}
use Rattle.rules.specs.Check.{lent, accepting, refusal_of, check}
use Rattle.rules.specs.Book.{padded}
use Rattle.rules.specs.Show.{Part, find_record, show_name}

abbrev pub text : List ℕ
text = ascii "INTERLIS 2.4;MODEL M AT \"u\" VERSION \"1\"=DOMAIN T=-10..40;END M."

-- the model M; the domain T; its range
abbrev pub book : List ℕ
book =
    0x01 ∷ 0x13 ∷ 0 ∷ 0 ∷ 0 ∷ 0x01
    ∷ 0x07 ∷ 0x2F ∷ 0 ∷ 0 ∷ 0 ∷ 0x01 ∷ 0x00 ∷ 0xFF ∷ 0xFF ∷ 0xFF ∷ 0xFF
    ∷ 0x0A ∷ 0x00 ∷ 0xF6 ∷ 0xFF ∷ 0xFF ∷ 0xFF ∷ 0xFF ∷ 0xFF ∷ 0xFF ∷ 0xFF ∷ 0x28 ∷ 0 ∷ 0 ∷ 0 ∷ 0 ∷ 0 ∷ 0 ∷ 0
    ∷ []

-- with a buffer of 35 bytes, with a longer one, with one of 34, and without any; no text, and another version
pub record Checks : Type 0 where
  pub size : length text ≡ 63
  pub exact : check text (lent 35) ≡ record { answer = accepting 35 1; buffer = book }
  pub longer : check text (lent 40) ≡ record { answer = accepting 35 1; buffer = padded book 40 }
  pub short : check text (lent 34) ≡ record { answer = refusal_of 19 47 1 48; buffer = padded [] 34 }
  pub empty : check text (lent 0) ≡ record { answer = refusal_of 19 19 1 20; buffer = [] }
  pub no_text : check [] (lent 3) ≡ record { answer = refusal_of 5 0 1 1; buffer = 0 ∷ 0 ∷ 0 ∷ [] }
  pub version : check (ascii "INTERLIS 2.40;") (lent 0) ≡ record { answer = refusal_of 7 9 1 10; buffer = [] }

-- 10^17 and one less at one decimal more; halves on both sides of zero; both sides of what may be given
pub record Reads : Type 0 where
  pub is_too_great : read_number (pos (10 ^ 17)) 0 1 ≡ not_read 21
  pub greatest : read_number (pos (10 ^ 17 - 1)) 0 1 ≡ reads (pos (10 ^ 18 - 10))
  pub half : read_number (pos 5) 1 0 ≡ reads (pos 1)
  pub half_below : read_number (negsuc 4) 1 0 ≡ reads (pos 0)
  pub below_half : read_number (negsuc 5) 1 0 ≡ reads (negsuc 0)
  pub decimals_at_most : read_number (pos 1) 17 17 ≡ reads (pos 1)
  pub decimals : read_number (pos 1) 18 0 ≡ not_read 20
  pub base_decimals : read_number (pos 1) 0 18 ≡ not_read 20
  pub most_magnitude : read_number (negsuc (10 ^ 18 - 2)) 0 0 ≡ reads (negsuc (10 ^ 18 - 2))
  pub magnitude : read_number (negsuc (10 ^ 18 - 1)) 0 0 ≡ not_read 20
  pub nothing : read_value (not_read 21) ≡ pos 0

abbrev part : ℕ → ℕ → Part
part s l = record { start = s; length = l }

-- the three records; the fourth is not there; no book; one cut off; behind 20, the first kind that is none, and behind
-- 0, which ends the book; a broken record behind the one that is asked for is not looked at
pub record Finds : Type 0 where
  pub model : find_record book 0 ≡ some 0
  pub domain : find_record book 1 ≡ some 6
  pub range : find_record book 2 ≡ some 17
  pub fourth : find_record book 3 ≡ none
  pub empty : find_record [] 0 ≡ none
  pub cut : find_record (0x01 ∷ 0x13 ∷ 0 ∷ 0 ∷ 0 ∷ []) 0 ≡ none
  pub unknown : find_record (0x14 ∷ 0x01 ∷ 0x13 ∷ 0 ∷ 0 ∷ 0 ∷ 0x01 ∷ []) 1 ≡ none
  pub ended : find_record (0 ∷ 0x01 ∷ 0x13 ∷ 0 ∷ 0 ∷ 0 ∷ 0x01 ∷ []) 1 ≡ none
  pub before_cut : find_record (0x03 ∷ 0x10 ∷ 0x01 ∷ 0x13 ∷ []) 1 ≡ some 1
  pub before_unknown : find_record (0x03 ∷ 0x10 ∷ 0x14 ∷ []) 1 ≡ some 1

-- both names; the range has none; the book's end and behind it; a TEXT; from the middle of a record a model whose name
-- passes the text's end, and of another a topic; a book cut off; 20; names that end with the text and that pass its
-- end; of length 0 a name inside the text, at its end and past it
pub record Shows : Type 0 where
  pub model : show_name text book 0 ≡ part 19 1
  pub domain : show_name text book 6 ≡ part 47 1
  pub range : show_name text book 17 ≡ part 0 0
  pub end : show_name text book 35 ≡ part 0 0
  pub behind : show_name text book 36 ≡ part 0 0
  pub nameless : show_name text (0x08 ∷ 3 ∷ 0 ∷ 0 ∷ 0 ∷ []) 0 ≡ part 0 0
  pub middle_past : show_name text book 11 ≡ part 0 0
  pub middle : show_name text (0x13 ∷ 0x02 ∷ 3 ∷ 0 ∷ 0 ∷ 0 ∷ 4 ∷ []) 1 ≡ part 3 4
  pub cut : show_name text (0x01 ∷ 0x13 ∷ 0 ∷ 0 ∷ 0 ∷ []) 0 ≡ part 0 0
  pub unknown : show_name text (0x14 ∷ 0x13 ∷ 0 ∷ 0 ∷ 0 ∷ 0x01 ∷ []) 0 ≡ part 0 0
  pub last : show_name text (0x01 ∷ 62 ∷ 0 ∷ 0 ∷ 0 ∷ 0x01 ∷ []) 0 ≡ part 62 1
  pub past : show_name text (0x01 ∷ 62 ∷ 0 ∷ 0 ∷ 0 ∷ 0x02 ∷ []) 0 ≡ part 0 0
  pub bare : show_name text (0x01 ∷ 9 ∷ 0 ∷ 0 ∷ 0 ∷ 0x00 ∷ []) 0 ≡ part 9 0
  pub bare_end : show_name text (0x01 ∷ 63 ∷ 0 ∷ 0 ∷ 0 ∷ 0x00 ∷ []) 0 ≡ part 63 0
  pub bare_past : show_name text (0x01 ∷ 64 ∷ 0 ∷ 0 ∷ 0 ∷ 0x00 ∷ []) 0 ≡ part 0 0
