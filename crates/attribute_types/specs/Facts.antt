-- What judging an attribute's type hands on.
use Rattle.std.specs.Prelude.{◌≡◌, Bool, false, cond, List, ℕ, ◌≤◌, ◌<◌, ltb}
use Rattle.std.specs.declared.result.Result.{Result}
use Rattle.std.proofs.Math.Option.{Option, some}
use Rattle.rules.specs.Grammar.{WrittenType}
use Rattle.rules.specs.Types.{Ty, keeps_unit}
use Rattle.rules.specs.Declarations.{ty_of, Attribute, Def, domain}
use Rattle.rules.specs.Judge.{attribute_use, is_naming, or_no_attribute}
use Rattle.names.specs.Index.{entry}
use Rattle.members.specs.Held.{Held, use_for}
use Rattle.wellformed.specs.Fairness.{Fair, FairUse, UnitIn, Rising}
use Rattle.ground.specs.declared.Ruling.{Ruling}
use Rattle.fitting.specs.Values.{Valued, Typed, Sized, UnitNumbered}
use Rattle.state.specs.Targets.{Ruled}
use Rattle.attribute_names.specs.declared.Bonds.{Bonds}
use Rattle.attribute_types.specs.Stages.{head_rules}
use Rattle.attribute_types.specs.declared.Uses.{Uses}

-- rows whose definitions and attributes have types that are fair, of units that are declared, each with a number of its
-- own that takes four bytes
pub record Ready (t b : List ℕ) (ks : List Def) (ms : List Attribute) (x : List ℕ) (count : ℕ)
    (y : List ℕ) (total : ℕ) : Type 0 where
  pub held : Held t b ks ms x count y total
  pub types : (p : ℕ) (d : Def) → entry ks p ≡ some d → d.sort ≡ domain → Fair t d.type
  pub uses : (q : ℕ) (a : Attribute) → entry ms q ≡ some a → FairUse t a.use_of
  pub type_units : (p : ℕ) (d : Def) → entry ks p ≡ some d → UnitIn ks d.type
  pub use_units : (q : ℕ) (a : Attribute) → entry ms q ≡ some a → UnitIn ks (ty_of a.use_of)
  pub numbered : (x : Ty) → UnitIn ks x → UnitNumbered x
  pub rising : Rising ks

-- what types an attribute of the bonds b, where there are so many definitions
pub record Binds (b : Bonds) (count : ℕ) (u : Uses) : Type 0 where
  pub base : u.base ≡ b.base
  pub named : u.named ≤ b.target
  pub kept : u.kept ≤ count
  pub based : u.over.based ≡ ltb 0 b.base

-- the types of the attribute and of its base, o, where b is the book and the type's reference leads to the
-- definition at a position
pub record UsesAre (t b : List ℕ) (ks : List Def) (w : Option WrittenType) (target : ℕ) (o : Option Attribute)
    (u : Uses) : Type 0 where
  pub named : u.named ≡ cond (is_naming w) target 0
  pub kept : use_for (entry ks u.kept) (ty_of (or_no_attribute o).use_of) ≡ (or_no_attribute o).use_of
  pub base : Typed t b (ty_of (or_no_attribute o).use_of) u.over.base
  pub own : Valued (ty_of (attribute_use w (entry ks target) (or_no_attribute o).use_of)) u.over.own
  pub typed_named : 0 < u.named
      → Typed t b (ty_of (attribute_use w (entry ks target) (or_no_attribute o).use_of)) u.over.own
  pub keeps : is_naming w ≡ false → u.over.keeps
      ≡ keeps_unit (ty_of (attribute_use w (entry ks target) (or_no_attribute o).use_of))
      (ty_of (or_no_attribute o).use_of)
  pub sized_own : Sized u.over.own
  pub sized_base : Sized u.over.base

-- 12 and 13; behind them the types
abbrev pub TypingsAre : List ℕ → List ℕ → List Def → ℕ → Bool → Option WrittenType → ℕ → Option Attribute
    → Result Uses Ruling → Type 0
TypingsAre t b ks p twice w target o r =
    Ruled r
    (head_rules p (or_no_attribute o).final twice (attribute_use w (entry ks target) (or_no_attribute o).use_of)
    (entry ks target)) (UsesAre t b ks w target o)
