-- What judging an attribute's name and reference hands on.
use Rattle.std.specs.Prelude.{◌≡◌, Bool, true, List, ℕ, ◌≤◌, ◌<◌}
use Rattle.std.specs.declared.result.Result.{Result}
use Rattle.std.proofs.Math.Option.{Option, none, some}
use Rattle.rules.specs.Names as R
use Rattle.rules.specs.Grammar as G
use Rattle.rules.specs.Grammar.{Reference, WrittenType}
use Rattle.rules.specs.Declarations.{Sort, Def, attribute_at, is_found, State, known}
use Rattle.rules.specs.Judge.{Rule, has_extended, may_stand_in, reference_in, resolved}
use Rattle.names.specs.Index.{entry}
use Rattle.members.specs.Members.{slot_of, most}
use Rattle.members.specs.Held.{Opened, attributes_in}
use Rattle.enumerations.specs.Standing.{InText}
use Rattle.readers.specs.Reads.{name_cut}
use Rattle.parts.specs.Forms.{flags_of, written_of}
use Rattle.wellformed.specs.Fairness.{FairWritten}
use Rattle.ground.specs.declared.Ruling.{Ruling}
use Rattle.types.specs.Writing.{Scratched}
use Rattle.units.specs.declared.AttributeUnit.{AttributeUnit}
use Rattle.state.specs.declared.State as code
use Rattle.state.specs.Targets.{Ruled}
use Rattle.attribute_names.specs.Stages.{name_rules, reference_rules, rules_to_11}
use Rattle.attribute_names.specs.declared.Bonds.{Bonds}

-- the unit a as it is read, with an enumeration's records in the scratch rs
pub record Given (t : List ℕ) (n : R.Name) (p : List (List ℕ)) (w : G.Written) (rs : List ℕ)
    (a : AttributeUnit) : Type 0 where
  pub is : a ≡ record { name = name_cut n; properties = flags_of p; written = written_of w }
  pub named : InText t n
  pub fair : FairWritten t (has_extended p) w
  pub scratched : Scratched t rs w.type

-- a reference, if there is one, points to a definition of the sorts p
abbrev pub PointsTo : (Sort → Bool) → Option Reference → Option Def → Type 0
PointsTo p none g = g ≡ none
PointsTo p (some r) g = (d : Def) × (g ≡ some d) × (p d.sort ≡ true)

-- what the reference in a type leads to if it breaks neither 10 nor 11: a domain or structure that is named, or a unit
abbrev pub Refers : Option WrittenType → Option Def → Type 0
Refers w g = PointsTo (may_stand_in w) (reference_in w) g

-- a slot of the hand; a name that is new has none, and breaks 4 where the open class is full
pub record Slots (hand slot : ℕ) : Type 0 where
  pub within : slot ≤ hand
  pub few : slot ≡ 0 → hand < most

-- 4 and 9 of the name; where none is broken its slot in the open class c
abbrev pub SlotIs : State → Def → R.Name → Bool → List ℕ → ℕ → Result ℕ Ruling → Type 0
SlotIs s c n extended hs hand r =
    Ruled r (name_rules c n extended)
    (λ slot. (o : Opened (attributes_in s) hs hand c) → slot ≡ slot_of n.bytes o.hand)

-- the position of the nearest inherited attribute of the name, and of what the type's reference leads to
pub record Reaches (s : State) (c : Def) (n : R.Name) (w : Option WrittenType) (e : Bonds) : Type 0 where
  pub base : entry (attributes_in s) e.base ≡ attribute_at n.bytes c.inherited
  pub target : entry (known s.decls) e.target ≡ resolved s (reference_in w)

-- 10 and 11
abbrev pub references_in : State → Def → R.Name → Bool → Option WrittenType → List Rule
references_in s c n extended w =
    reference_rules n.offset extended (is_found (attribute_at n.bytes c.inherited)) w
    (resolved s (reference_in w))

-- the bonds of an attribute are slots and positions that there are
pub record Within (st : code.State) (e : Bonds) : Type 0 where
  pub slot : Slots st.context.in_hand e.slot
  pub base : e.base ≤ st.listing.total
  pub target : e.target ≤ st.listing.count

-- the slot of the name in the open class c, the position of the nearest inherited one, and of what the type's reference
-- leads to
pub record Bound (s : State) (c : Def) (n : R.Name) (w : Option WrittenType) (hs : List ℕ) (hand : ℕ)
    (e : Bonds) : Type 0 where
  pub slot : (o : Opened (attributes_in s) hs hand c) → e.slot ≡ slot_of n.bytes o.hand
  pub reaches : Reaches s c n w e

-- 4 to 11; behind them what the attribute is bound to
abbrev pub BondsAre : State → Def → R.Name → Bool → Option WrittenType → List ℕ → ℕ → Result Bonds Ruling → Type 0
BondsAre s c n extended w hs hand r =
    Ruled r (rules_to_11 c n extended (is_found (attribute_at n.bytes c.inherited)) w (resolved s (reference_in w)))
    (Bound s c n w hs hand)
