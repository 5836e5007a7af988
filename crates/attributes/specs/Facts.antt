-- An attribute that breaks no rule, and the state after it.
use Rattle.std.specs.Prelude.{◌≡◌, false, ◌||◌, List, ℕ, ◌+◌, ◌≤◌, length, Ok}
use Rattle.std.proofs.Math.Option.{Option, some}
use Rattle.rules.specs.Names as R
use Rattle.rules.specs.Grammar as G
use Rattle.rules.specs.Declarations.{Use, ty_of, Attribute, Def, attribute_at, State, known}
use Rattle.rules.specs.Book.{bytes, flags, use_records}
use Rattle.rules.specs.Judge.{attribute_use, has_final, has_extended, or_no_def, or_no_attribute, reference_in}
use Rattle.rules.specs.Judge.{resolved}
use Rattle.rules.specs.Judge.{new_attribute, with_attribute, opened}
use Rattle.ground.specs.Parts.{splice}
use Rattle.book.specs.Sizes.{head_size}
use Rattle.names.specs.Index.{entry}
use Rattle.members.specs.Members.{slot_of}
use Rattle.members.specs.Held.{Opened, attributes_in, use_for}
use Rattle.enumerations.specs.Records.{size_of}
use Rattle.enumerations.specs.declared.Size.{Size}
use Rattle.wellformed.specs.Fairness.{FairState}
use Rattle.ground.specs.Rulings.{ruling_of}
use Rattle.units.specs.declared.AttributeUnit.{AttributeUnit}
use Rattle.state.specs.declared.State as code
use Rattle.state.specs.Keeping.{Keeps}
use Rattle.state.specs.declared.desk.Desk.{Desk}
use Rattle.attribute_names.specs.Stages.{name_rules}
use Rattle.attribute_names.specs.Facts.{Given, Reaches}
use Rattle.attribute_names.specs.declared.Bonds.{Bonds}

-- what types the attribute, and the state after it
abbrev pub use_in : State → Def → R.Name → G.Written → Use
use_in s c n w =
    attribute_use w.type (resolved s (reference_in w.type))
    (or_no_attribute (attribute_at n.bytes c.inherited)).use_of

abbrev pub after_attribute : State → Def → R.Name → List (List ℕ) → G.Written → State
after_attribute s c n p w = opened s (with_attribute c
    (new_attribute s n p w (attribute_at n.bytes c.inherited) (resolved s (reference_in w.type))))

-- its flags in the book
abbrev pub flags_in : List (List ℕ) → G.Written → Option Def → Option Attribute → ℕ
flags_in p w g o =
    flags false (has_final p) (has_extended p)
    (w.mandatory || ((or_no_def g).mandatory || (or_no_attribute o).mandatory))

-- an attribute that breaks none of 4 to 18 and 22, whose records but the head stand in the buffer b₁, which was b, if
-- they fit it; used is the position of the definition that it then names
pub record Passes (t : List ℕ) (s : State) (st : code.State) (b b₁ x z y hs rs : List ℕ) (c : Def) (n : R.Name)
    (p : List (List ℕ)) (w : G.Written) (a : AttributeUnit) (e : Bonds) (used : ℕ) (size : Size) : Type 0 where
  pub keeps : Keeps t s st b x z y hs
  pub open_is : s.open_class ≡ some c
  pub given : Given t n p w rs a
  pub new : ruling_of (name_rules c n (has_extended p)) ≡ Ok tt
  pub at_slot : (o : Opened (attributes_in s) hs st.context.in_hand c) → e.slot ≡ slot_of n.bytes o.hand
  pub reaches : Reaches s c n w.type e
  pub uses : use_for (entry (known s.decls) used) (ty_of (use_in s c n w)) ≡ use_in s c n w
  pub sized : size ≡ size_of (use_records (use_in s c n w))
  pub laid : st.extent.used + head_size + length (bytes (use_records (use_in s c n w))) ≤ length b
      → b₁ ≡ splice b (st.extent.used + head_size) (bytes (use_records (use_in s c n w)))
  pub fair : FairState t (after_attribute s c n p w)

-- of a desk, whose buffer was b, and whose scratch may have other records rs
abbrev pub PassesIn : Desk → State → code.State → List ℕ → List ℕ → Def → R.Name → List (List ℕ) → G.Written
    → AttributeUnit → Bonds → ℕ → Size → Type 0
PassesIn d s st b rs c n p w a e used size =
    Passes d.text.now s st b d.book.now d.index.now d.chains.now d.rows.now d.hand.now rs c n p w a e used size
