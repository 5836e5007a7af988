-- What the code makes of what is meant, and of types in the book, for the types that have these values.
use mathlib.Core.Path.{◌≡◌, refl, ◌∙◌, subst}
use mathlib.Core.Bool.{Bool, true}
use mathlib.Core.Option.{Option, none, some}
use mathlib.Core.List.{List}
use Prim.Native.Nat.{ℕ}
use Rattle.rules.specs.Enumerations.{Enum, enum_fits}
use Rattle.rules.specs.Grammar as G
use Rattle.rules.specs.Grammar.{WrittenType}
use Rattle.rules.specs.Types.{Ty, text, numeric, structure, enum, kind_of, fits}
use Rattle.wellformed.proofs.UseLaws.{fits-self}
use Rattle.rules.specs.Declarations.{Def, measure_in}
use Rattle.rules.specs.Judge.{domain_type}
use Rattle.enumerations.specs.Standing.{Stands}
use Rattle.fitting.specs.Values.{Valued, Typed, FairOrNone}
use Rattle.fitting.specs.Fitting.{fits_by}
use Rattle.fitting.proofs.ValueLaws.{fits-valued}
use Rattle.fitting.specs.declared.Typing.{Typing}
use Rattle.fitting.specs.declared.Typing.TheVariants as typing
use Rattle.types.specs.Writing.{Ordered, plain_fits}

-- ---- 17 of what is written
-- a type over its own
same-fits : (t : List ℕ) (b : Ty) (c d : Typing) → FairOrNone t b → Valued b c → Valued b d → fits_by c d ≡ true
same-fits t (text m n) c d f v u =
    fits-valued (text m n) (text m n) c d tt (λ p q e g. cc) v u refl ∙ fits-self t (text m n) f
same-fits t (numeric none r) c d f v u =
    fits-valued (numeric none r) (numeric none r) c d tt (λ p q e g. cc) v u refl ∙ fits-self t (numeric none r) f
same-fits t (numeric (some x) r) c d f v u =
    fits-valued (numeric (some x) r) (numeric (some x) r) c d f.3 (λ p q e g. cc) v u refl
    ∙ fits-self t (numeric (some x) r) f
same-fits t (enum e) c d f v u = rw v.1
same-fits t structure c d f v u = rw v

pub plain-valued : (c d : Typing) (t : List ℕ) (w : Option WrittenType) (x : Option Def) (b : Ty)
    → Ordered w → FairOrNone t b → Valued (domain_type w x b) c → Valued b d
    → kind_of (domain_type w x b) ≡ kind_of b → fits_by c d ≡ plain_fits w b
plain-valued c d t none x b o g v u e = same-fits t b c d g v u
plain-valued c d t (some (G.text m n)) x b o g v u e =
    fits-valued (domain_type (some (G.text m n)) x b) b c d tt (λ p q i j. cc) v u e
plain-valued c d t (some (G.numeric none r)) x b o g v u e =
    fits-valued (numeric none (measure_in x)) b c d tt (λ p q i j. cc) v u e
plain-valued c d t (some (G.numeric (some q) r)) x b o g v u e =
    fits-valued (domain_type (some (G.numeric (some q) r)) x b) b c d o (λ p q i j. cc) v u e
plain-valued c d t (some (G.enum y)) x b o g v u e = enum-fits b c v
  where
    enum-fits : (b : Ty) (c : Typing) → Valued (domain_type (some (G.enum y)) x b) c → fits_by c d ≡ true
    enum-fits (text m n) c v = rw v.1
    enum-fits (numeric r w) c v = rw v.1
    enum-fits (enum b) c v = rw v.1
    enum-fits structure c v = rw v.1
plain-valued c d t (some (G.named r)) x b o g v u e = rw v

-- ---- in the book
module _ (t s : List ℕ) where
  pub held_fits : (x b : Ty) (c d : Typing) (p q : ℕ) (r : Bool) → c ≡ typing.Enumeration p → d ≡ typing.Enumeration q
      → Typed t s x c → Typed t s b d
      → ((e f : Enum) → Stands t s e p → Stands t s f q → r ≡ enum_fits e f) → r ≡ fits x b
  held_fits (text m n) b c d p q r h k v u f = cc
  held_fits (numeric none w) b c d p q r h k v u f = cc
  held_fits (numeric (some x) w) b c d p q r h k v u f = cc
  held_fits structure b c d p q r h k v u f = cc
  held_fits (enum x) (text m n) c d p q r h k v u f = cc
  held_fits (enum x) (numeric none w) c d p q r h k v u f = cc
  held_fits (enum x) (numeric (some y) w) c d p q r h k v u f = cc
  held_fits (enum x) structure c d p q r h k v u f = cc
  held_fits (enum x) (enum b) c d p q r h k v u f = f x b (place v h) (place u k)
    where
      place : {e : Enum} {c : Typing} {p : ℕ} → Typed t s (enum e) c → c ≡ typing.Enumeration p → Stands t s e p
      place {e = e} v h = let i : v.0 ≡ _ = cc in subst (Stands t s e) i v.2
