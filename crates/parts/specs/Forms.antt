-- The parts of units as the code hands them on.
use Rattle.std.specs.Prelude.{◌≡◌, Bool, true, cond, ◌&&◌, ◌||◌, List, [], ◌∷◌, ℕ, length, get_or, eqb}
use Rattle.std.specs.Prelude.{Option as code·Option, Some, None, is_some}
use Rattle.std.proofs.Math.Option.{Option, none, some}
use Rattle.rules.specs.Bytes.{ascii, is_one_of, is_digit}
use Rattle.rules.specs.Symbols as rules
use Rattle.rules.specs.Numbers.{digits, value_of, decimals_of}
use Rattle.rules.specs.Grammar as G
use Rattle.rules.specs.Grammar.{WrittenType, text, numeric, enum, named, type_of, type_or_reference}
use Rattle.rules.specs.Symbols.{is_mark}
use Rattle.rules.specs.Readers.{Reader, ◌>>=◌, ret, if_next}
use Rattle.rules.specs.Judge.{has_twice, reference_in}
use Rattle.ground.specs.Parts.{part, splice}
use Rattle.book.specs.Forms.{text_kind}
use Rattle.numbers.specs.declared.Number.{Number}
use Rattle.symbols.specs.declared.Symbol.{Symbol}
use Rattle.symbols.specs.Cut.{length_at}
use Rattle.readers.specs.declared.Read.{Read}
use Rattle.readers.specs.Reads.{name_cut}
use Rattle.elements.specs.Noted.{list_bytes}
use Rattle.parts.specs.declared.Owner.{Owner}
use Rattle.parts.specs.declared.Owner.TheVariants.{Attribute, Definition, Measure}
use Rattle.parts.specs.declared.Properties.{Properties}
use Rattle.ground.specs.declared.Reference.{Reference}
use Rattle.ground.specs.declared.Reference.TheVariants.{Bare, InModel, InTopic}
use Rattle.parts.specs.declared.types.Meant.{Meant}
use Rattle.parts.specs.declared.types.Meant.TheVariants.{Alone, Text, Limited, Range, Numeric, Enumeration}
use Rattle.parts.specs.declared.types.Meant.TheVariants.{Named}
use Rattle.parts.specs.declared.types.Meaning.{Meaning}
use Rattle.parts.specs.declared.types.Written.{Written}

-- ---- properties
abbrev pub words_of : Owner → List (List ℕ)
words_of Attribute = ascii "EXTENDED" ∷ ascii "FINAL" ∷ []
words_of Definition = ascii "ABSTRACT" ∷ ascii "FINAL" ∷ []
words_of Measure = ascii "ABSTRACT" ∷ []

-- their codes
abbrev pub is_property : Owner → ℕ → Bool
is_property Attribute k = eqb k 76 || eqb k 72
is_property Definition k = eqb k 71 || eqb k 72
is_property Measure k = eqb k 71

abbrev pub flags_of : List (List ℕ) → Properties
flags_of p = record {
  is_abstract = is_one_of (ascii "ABSTRACT") p;
  is_final = is_one_of (ascii "FINAL") p;
  extended = is_one_of (ascii "EXTENDED") p;
  twice = has_twice p;
}

-- the properties p and one more, by its code
abbrev pub with_word : Properties → ℕ → Properties
with_word p k =
    cond (eqb k 72) (record {
      is_abstract = p.is_abstract;
      is_final = true;
      extended = p.extended;
      twice = p.twice || p.is_final;
    })
    (cond (eqb k 71) (record {
      is_abstract = true;
      is_final = p.is_final;
      extended = p.extended;
      twice = p.twice || p.is_abstract;
    })
    (record {
      is_abstract = p.is_abstract;
      is_final = p.is_final;
      extended = true;
      twice = p.twice || p.extended;
    }))

-- ---- references
abbrev pub reference_of : G.Reference → Reference
reference_of (G.bare a) = Bare (name_cut a)
reference_of (G.in_model a b) = InModel (name_cut a) (name_cut b)
reference_of (G.in_topic a b c) = InTopic (name_cut a) (name_cut b) (name_cut c)

abbrev pub optional_of : Option G.Reference → code·Option Reference
optional_of none = None
optional_of (some r) = Some (reference_of r)

abbrev pub given_of : code·Option Reference → Bool
given_of r = is_some r

-- ---- types
abbrev pub number_of : List ℕ → Number
number_of b = record { value = value_of b; decimals = decimals_of b }

-- an unsigned whole number; the one that a symbol of the text writes
abbrev pub whole_of : List ℕ → code·Option ℕ
whole_of b = cond (is_digit (get_or b 0 0) && eqb (decimals_of b) 0) (Some (digits b 0)) None

abbrev pub whole_at : List ℕ → Symbol → code·Option ℕ
whole_at t y = cond (eqb y.code 2) (whole_of (part t y.place (length_at y))) None

abbrev pub text_code : Bool → ℕ
text_code m = cond m 80 79

abbrev pub limit_of : Bool → Option rules.Symbol → Meant
limit_of m none = Text (text_kind m)
limit_of m (some y) = Limited (text_kind m) (digits y.bytes 0) y.place

abbrev pub meant_of : WrittenType → Meant
meant_of (text m n) = limit_of m n
meant_of (numeric none u) = Numeric
meant_of (numeric (some q) u) = Range (number_of q.first.bytes) (number_of q.second.bytes)
meant_of (enum e) = Enumeration (length (list_bytes e))
meant_of (named r) = Named

abbrev pub any_of : Option WrittenType → Meant
any_of none = Alone
any_of (some x) = meant_of x

abbrev pub written_of : G.Written → Written
written_of w = record {
  mandatory = w.mandatory;
  place = w.place;
  meant = any_of w.type;
  reference = optional_of (reference_in w.type);
}

-- the scratch o has become p: the records of an enumeration stand at its start
abbrev pub Scratch : List ℕ → List ℕ → WrittenType → Type 0
Scratch o p (text m n) = Unit {0}
Scratch o p (numeric q u) = Unit {0}
Scratch o p (enum e) = p ≡ splice o 0 (list_bytes e)
Scratch o p (named r) = Unit {0}

abbrev pub Scratches : List ℕ → List ℕ → Option WrittenType → Type 0
Scratches o p none = Unit {0}
Scratches o p (some x) = Scratch o p x

-- m is what x means, with its reference, and x is no enumeration
abbrev pub Plainly : Meaning → WrittenType → Type 0
Plainly m x =
    (m.meant ≡ meant_of x) × (m.reference ≡ optional_of (reference_in (some x))) × ((o p : List ℕ) → Scratch o p x)

-- m is what the type x means, with its reference
abbrev pub Means : List ℕ → List ℕ → Meaning → WrittenType → Type 0
Means o p m x = (m.meant ≡ meant_of x) × (m.reference ≡ optional_of (reference_in (some x))) × Scratch o p x

abbrev pub MeansAny : List ℕ → List ℕ → Meaning → Option WrittenType → Type 0
MeansAny o p m x = (m.meant ≡ any_of x) × (m.reference ≡ optional_of (reference_in x)) × Scratches o p x

abbrev pub MeansAll : List ℕ → List ℕ → Written → G.Written → Type 0
MeansAll o p v w = (v ≡ written_of w) × Scratches o p w.type

abbrev pub read_at : Bool → ℕ → Read Meaning → Read Written
read_at k p m = record {
  value = record { mandatory = k; place = p; meant = m.value.meant; reference = m.value.reference };
  next = m.next;
}

-- a type, or a reference where that is allowed
abbrev pub type_by : Bool → Reader WrittenType
type_by or-reference = cond or-reference type_or_reference type_of

-- behind MANDATORY
abbrev pub mandatory_by : Bool → Reader WrittenType → Reader (Option WrittenType)
mandatory_by based q = if_next (λ y. based && is_mark ";" y) (ret none) (q >>= λ x. ret (some x))
