-- What types an attribute, before its records are laid and after.
use Rattle.std.specs.Prelude.{◌≡◌, true, false, cond, List, ℕ, ◌≤◌, ◌<◌, ltb}
use Rattle.std.specs.declared.result.Result.{Result}
use Rattle.std.proofs.Math.Option.{Option, none}
use Rattle.rules.specs.Grammar.{WrittenType}
use Rattle.rules.specs.Types.{keeps_unit}
use Rattle.rules.specs.Declarations.{ty_of, Attribute, Def, is_found}
use Rattle.rules.specs.Book.{use_records}
use Rattle.rules.specs.Judge.{attribute_use, is_naming, or_no_attribute}
use Rattle.rules.specs.All.{AnyIs}
use Rattle.names.specs.Index.{entry}
use Rattle.members.specs.Held.{use_for}
use Rattle.parts.specs.Forms.{any_of}
use Rattle.parts.specs.declared.types.Written.{Written}
use Rattle.wellformed.specs.Fairness.{Begins}
use Rattle.enumerations.specs.declared.Size.{Size}
use Rattle.ground.specs.declared.Ruling.{Ruling}
use Rattle.ground.specs.Rulings.{ruling_of}
use Rattle.fitting.specs.Values.{Valued, Typed}
use Rattle.types.specs.Writing.{Scratched, Once}
use Rattle.types.specs.declared.Over.{Over}
use Rattle.written.specs.Written.{LaidWhen}
use Rattle.attribute_names.specs.Facts.{Refers}
use Rattle.attribute_types.specs.Facts.{Ready}
use Rattle.attribute_records.specs.Stages.{use_rules}

-- an attribute that breaks none of 4 to 13: the positions of its base, of what its type's reference leads to, of what
-- it names and of what its base names, and its type over its base's, in the book b
pub record Lays (t b : List ℕ) (ks : List Def) (ms : List Attribute) (x : List ℕ) (count : ℕ) (y : List ℕ) (total : ℕ)
    (rs : List ℕ) (w : Written) (base target named u : ℕ) (over : Over) (v : Option WrittenType) : Type 0 where
  pub ready : Ready t b ks ms x count y total
  pub within : base ≤ total
  pub based : over.based ≡ ltb 0 base
  pub meant : w.meant ≡ any_of v
  pub begins : AnyIs (Begins w.place) v
  pub scratched : Scratched t rs v
  pub once : Once v
  pub refers : Refers v (entry ks target)
  pub names : named ≡ cond (is_naming v) target 0
  pub alone : v ≡ none → is_found (entry ms base) ≡ true
  pub used : use_for (entry ks u) (ty_of (or_no_attribute (entry ms base)).use_of)
      ≡ (or_no_attribute (entry ms base)).use_of
  pub typed : Typed t b (ty_of (or_no_attribute (entry ms base)).use_of) over.base
  pub valued : Valued (ty_of (attribute_use v (entry ks target) (or_no_attribute (entry ms base)).use_of)) over.own
  pub typed_named : 0 < named
      → Typed t b (ty_of (attribute_use v (entry ks target) (or_no_attribute (entry ms base)).use_of)) over.own
  pub keeps : is_naming v ≡ false → over.keeps
      ≡ keeps_unit (ty_of (attribute_use v (entry ks target) (or_no_attribute (entry ms base)).use_of))
      (ty_of (or_no_attribute (entry ms base)).use_of)

-- the rule of 14 to 18 and 22 that is broken, or the records at the place i; the type's reference leads to g, o is the
-- base
abbrev pub LaidAs : ℕ → Option WrittenType → Option Def → Option Attribute → ℕ → List ℕ → List ℕ
    → Result Size Ruling → Type 0
LaidAs p v g o i out out₁ r =
    LaidWhen
    (ruling_of (use_rules p (is_found o) v (attribute_use v g (or_no_attribute o).use_of) (or_no_attribute o).use_of))
    (use_records (attribute_use v g (or_no_attribute o).use_of)) i out out₁ r
