-- What the unit of an attribute is as it is read, and the state in which it comes.
use mathlib.Core.Path.{◌≡◌, refl, sym, ap, ◌∙◌, subst}
use mathlib.Core.Bool.{true}
use mathlib.Core.Option.{Option, none, some}
use mathlib.Core.List.{List}
use Prim.Native.Nat.{ℕ}
use native.Mathlib.Omega.{arith}
use Rattle.rules.specs.Names as R
use Rattle.rules.specs.Grammar as G
use Rattle.rules.specs.Units as U
use Rattle.rules.specs.Declarations.{Def, is_found, State}
use Rattle.rules.specs.Judge.{has_extended, has_twice, reference_in}
use Rattle.names.specs.References.{bytes_of, Inside}
use Rattle.parts.specs.Forms.{any_of, optional_of}
use Rattle.types.proofs.TypeLaws.{scratched}
use Rattle.units.specs.declared.AttributeUnit.{AttributeUnit}
use Rattle.units.specs.declared.Unit.TheVariants.{Attribute as V-as-Attribute}
use Rattle.state.specs.Keeping.{Comes}
use Rattle.attribute_names.specs.Facts.{Given}

-- ---- the unit, and where it stands
pub given : (t : List ℕ) (s : State) (n : R.Name) (p : List (List ℕ)) (w : G.Written) (a : AttributeUnit) (rs : List ℕ)
    → Comes t s (U.attribute n p w) (V-as-Attribute a) rs → Given t n p w rs a
given t s n p w a rs h = record {
  is = let e = h.is.0 in cc;
  named = h.fair.0;
  fair = h.fair.1;
  scratched = scratched t h.scratch rs w.type h.fair.1.type h.is.1;
}

pub class-there : (s : State) → is_found s.open_class ≡ true → (c : Def) × (s.open_class ≡ some c)
class-there s e = go s.open_class refl e
  where
    go : (o : Option Def) → s.open_class ≡ o → is_found o ≡ true → (c : Def) × (s.open_class ≡ some c)
    go none q f = let z : ◌≡◌ {A = ℕ} 0 1 = cc in absurd (omega arith)
    go (some c) q f = (c, q)

module _ (t : List ℕ) (n : R.Name) (p : List (List ℕ)) (w : G.Written) (rs : List ℕ) (a : AttributeUnit)
    (g : Given t n p w rs a) where
  pub at_name : a.name.offset ≡ n.offset
  at_name = ap (λ (u : AttributeUnit). u.name.offset) g.is

  pub is-extended : a.properties.extended ≡ has_extended p
  is-extended = ap (λ (u : AttributeUnit). u.properties.extended) g.is

  pub is-twice : a.properties.twice ≡ has_twice p
  is-twice = ap (λ (u : AttributeUnit). u.properties.twice) g.is

  pub at-type : a.written.place ≡ w.place
  at-type = ap (λ (u : AttributeUnit). u.written.place) g.is

  pub is-meant : a.written.meant ≡ any_of w.type
  is-meant = ap (λ (u : AttributeUnit). u.written.meant) g.is

  pub is-reference : a.written.reference ≡ optional_of (reference_in w.type)
  is-reference = ap (λ (u : AttributeUnit). u.written.reference) g.is

  pub name-inside : Inside t a.name
  name-inside = subst (λ (u : AttributeUnit). Inside t u.name) (sym g.is) g.named.fits

  pub name-bytes : bytes_of t a.name ≡ n.bytes
  name-bytes = ap (λ (u : AttributeUnit). bytes_of t u.name) g.is ∙ g.named.there
