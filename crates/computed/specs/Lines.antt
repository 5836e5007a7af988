-- Document 02, No. 6: the line and the column of every place of small texts, and of refusals on later lines.
use Rattle.std.specs.Prelude.{◌≡◌, List, [], ◌∷◌, ℕ, zero, suc, length}
use Prim.Native.String.{String}
use Rattle.rules.specs.Bytes.{ascii}
use Rattle.rules.specs.Lines.{Position, position, position_of}
use Rattle.rules.specs.Check.{lent, refusal_of, answer_of, run}
use Rattle.computed.specs.Cases.{model_of}

-- ---- places
-- the positions of n places, from the place p on
abbrev following : List ℕ → ℕ → ℕ → List Position
following t p zero = []
following t p (suc n) = position_of t p ∷ following t (suc p) n

-- those of all places of a text, the last one behind its bytes
abbrev pub places : List ℕ → List Position
places t = following t 0 (suc (length t))

pub record Places : Type 0 where
  pub empty : places [] ≡ position 1 1 ∷ []
  pub one_line : places (ascii "ab") ≡ position 1 1 ∷ position 1 2 ∷ position 1 3 ∷ []
  -- each line end between two bytes; that byte itself is on the line that it ends
  pub lf : places (ascii "a\nb") ≡ position 1 1 ∷ position 1 2 ∷ position 2 1 ∷ position 2 2 ∷ []
  pub cr : places (ascii "a\rb") ≡ position 1 1 ∷ position 1 2 ∷ position 2 1 ∷ position 2 2 ∷ []
  pub cr_lf : places (ascii "a\r\nb")
      ≡ position 1 1 ∷ position 1 2 ∷ position 1 3 ∷ position 2 1 ∷ position 2 2 ∷ []
  pub lf_cr : places (ascii "a\n\rb")
      ≡ position 1 1 ∷ position 1 2 ∷ position 2 1 ∷ position 3 1 ∷ position 3 2 ∷ []
  pub cr_cr : places (ascii "\r\rb") ≡ position 1 1 ∷ position 2 1 ∷ position 3 1 ∷ position 3 2 ∷ []
  pub lf_lf : places (ascii "\n\nb") ≡ position 1 1 ∷ position 2 1 ∷ position 3 1 ∷ position 3 2 ∷ []
  -- three of them: one and CR LF, CR LF and one
  pub cr_cr_lf : places (ascii "\r\r\n") ≡ position 1 1 ∷ position 2 1 ∷ position 2 2 ∷ position 3 1 ∷ []
  pub lf_cr_lf : places (ascii "\n\r\n") ≡ position 1 1 ∷ position 2 1 ∷ position 2 2 ∷ position 3 1 ∷ []
  pub cr_lf_cr : places (ascii "\r\n\r") ≡ position 1 1 ∷ position 1 2 ∷ position 2 1 ∷ position 3 1 ∷ []
  pub cr_lf_lf : places (ascii "\r\n\n") ≡ position 1 1 ∷ position 1 2 ∷ position 2 1 ∷ position 3 1 ∷ []
  -- the last byte of a text
  pub last_lf : places (ascii "\n") ≡ position 1 1 ∷ position 2 1 ∷ []
  pub last_cr : places (ascii "\r") ≡ position 1 1 ∷ position 2 1 ∷ []
  -- tab and what stands around LF and CR end no line, and bytes above 127 count one by one
  pub near : places (9 ∷ 11 ∷ 12 ∷ 14 ∷ 0 ∷ [])
      ≡ position 1 1 ∷ position 1 2 ∷ position 1 3 ∷ position 1 4 ∷ position 1 5 ∷ position 1 6 ∷ []
  pub above : places (195 ∷ 169 ∷ 10 ∷ 133 ∷ 255 ∷ [])
      ≡ position 1 1 ∷ position 1 2 ∷ position 1 3 ∷ position 2 1 ∷ position 2 2 ∷ position 2 3 ∷ []
  pub beyond : position_of (ascii "a\n") 9 ≡ position 2 1

-- ---- whole texts: where m bytes are lent, t is refused with a number, a place, a line and a column
abbrev pub RefusedIn : ℕ → List ℕ → ℕ → ℕ → ℕ → ℕ → Type 0
RefusedIn m t n p l c = answer_of t (run t (lent m)) ≡ refusal_of n p l c

abbrev pub Refused : List ℕ → ℕ → ℕ → ℕ → ℕ → Type 0
Refused = RefusedIn 65535

-- the model of Cases, whose first 40 bytes are one line
abbrev pub InModel : String → ℕ → ℕ → ℕ → ℕ → Type 0
InModel u = Refused (model_of u)

pub record Refusals : Type 0 where
  pub no_text : Refused [] 5 0 1 1
  pub starts_first_line : InModel "DOMAIN B=A;" 5 49 1 50
  -- line ends between symbols and in comments
  pub separators : InModel "\nDOMAIN\r\nB=A;" 5 51 3 3
  pub line_comments : InModel "!! x\nDOMAIN!!y\r\n!!z\rB=A;" 5 62 4 3
  pub comment : InModel "/*a\r\nb\r*/DOMAIN B=A;" 5 58 3 12
  -- 2 at a CR or an LF in a string, on the line that it ends; 3 where a comment opens
  pub cr_in_string : InModel "\n\"a\rb\"" 2 43 2 3
  pub lf_in_string : InModel "\r\n\"a\nb\"" 2 44 2 3
  pub never_closed : InModel "\r\n /*\n\n" 3 43 2 2
  pub before_all : Refused (ascii "\n\r\n#") 2 3 3 1
  -- the end of the text comes too early, behind a line end or on its last line
  pub end_cr_lf : Refused (ascii "INTERLIS 2.4;\r\n") 5 15 2 1
  pub end_cr : Refused (ascii "INTERLIS 2.4;\r") 5 14 2 1
  pub end_lf_cr : Refused (ascii "INTERLIS 2.4;\n\r") 5 15 3 1
  pub end_comment : Refused (ascii "INTERLIS 2.4;!! \n") 5 17 2 1
  pub end_line : Refused (ascii "INTERLIS\n2.4; ") 5 14 2 6
  -- rules: 7, 8, 9 of an element, 17, and 19
  pub version : Refused (ascii "INTERLIS\r\n2.5;") 7 10 2 1
  pub other_end : InModel "\r\rEND N." 8 46 3 5
  pub doubled : InModel "DOMAIN B=(\na,\r\nb,\n\ra);" 9 59 5 1
  pub misfit : InModel "DOMAIN B=1..2;\nE EXTENDS B=\r 1..3;" 17 69 3 2
  pub room : RefusedIn 12 (model_of "\nTOPIC T=\r\nEND T;") 19 55 3 5
