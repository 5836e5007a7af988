-- What is written over a base's type.
use mathlib.Core.Path.{◌≡◌, refl, sym, ◌∙◌}
use mathlib.Core.Bool.{Bool, true, false, cond, ◌&&◌}
use mathlib.Core.Option.{Option, none, some}
use mathlib.Core.List.{List, [], ◌∷◌, ◌++◌, append_assoc}
use Prim.Native.Nat.{ℕ, ◌+◌, ◌≤◌}
use native.Mathlib.Omega.{arith}
use Rattle.std.specs.Prelude.{⊤, Ok}
use lib.ListN.{length, take, drop, length-append}
use lib.Seq.{length-take-le, take_at, take-append-le, take-take, drop_at}
use Rattle.rules.specs.Enumerations.{Enum, twice}
use Rattle.rules.specs.Grammar as G
use Rattle.rules.specs.Grammar.{WrittenType}
use Rattle.rules.specs.Types.{Ty, text, numeric, structure, enum, kind_of, fits}
use Rattle.rules.specs.Declarations.{Def}
use Rattle.rules.specs.Judge.{domain_type, element_rule, doubled, is_naming}
use Rattle.rules.proofs.Tests.{never}
use Rattle.ground.specs.Parts.{splice}
use Rattle.parts.specs.Forms.{Scratches}
use Rattle.rules.specs.All.{AnyIs}
use Rattle.wellformed.specs.Fairness.{FairType}
use Rattle.wellformed.proofs.UseLaws.{fits-self}
use Rattle.elements.specs.Noted.{list_bytes}
use Rattle.enumerations.specs.Standing.{Named, Deep, Stands}
use Rattle.ground.specs.Rulings.{ruling_of}
use Rattle.fitting.specs.Values.{Valued, Sized, FairOrNone}
use Rattle.fitting.specs.declared.Typing.{Typing}
use Rattle.fitting.proofs.ValueLaws.{sized_base}
use Rattle.types.specs.Writing.{Scratched, Once, plain_fits, merge_fits}
use Rattle.book.specs.Sizes.{head_size}

-- ---- what is written
pub sized-meant : (t : List ℕ) (w : Option WrittenType) (x : Option Def) (b : Ty) (c : Typing) → AnyIs (FairType t) w
    → FairOrNone t b → Valued (domain_type w x b) c → Sized c
sized-meant t none x b c f g h = sized_base t b c g h
sized-meant t (some (G.text m n)) x b c f g h = rw h tt
sized-meant t (some (G.numeric none r)) x b c f g h = rw h tt
sized-meant t (some (G.numeric (some q) r)) x b c f g h = rw h (f.0.0.0, f.0.0.1, f.0.1.1)
sized-meant t (some (G.enum e)) x (text m n) c f g h = rw h.1 tt
sized-meant t (some (G.enum e)) x (numeric r u) c f g h = rw h.1 tt
sized-meant t (some (G.enum e)) x (enum b) c f g h = rw h.1 tt
sized-meant t (some (G.enum e)) x structure c f g h = rw h.1 tt
sized-meant t (some (G.named r)) x b c f g h = rw h tt

scratched-enum : (t o p : List ℕ) (e : Enum) → Named t e → Deep 7 e → p ≡ splice o 0 (list_bytes e) → Stands t p e 0
scratched-enum t o p e n d h = record { more = drop (0 + length (list_bytes e)) o; here = h; named = n; deep = d }

pub scratched : (t o p : List ℕ) (w : Option WrittenType) → AnyIs (FairType t) w → Scratches o p w → Scratched t p w
scratched t o p none f h = tt
scratched t o p (some (G.text m n)) f h = tt
scratched t o p (some (G.numeric q r)) f h = tt
scratched t o p (some (G.enum e)) f h = scratched-enum t o p e f.0 f.1 h
scratched t o p (some (G.named r)) f h = tt

once-enum : (o : Option ℕ) (x : ⊤) → ruling_of (doubled o ∷ []) ≡ Ok x → o ≡ none
once-enum none x h = refl
once-enum (some p) x h = cc

-- where 9 of the elements is not broken
pub once-of : (w : Option WrittenType) (x : ⊤) → ruling_of (element_rule w ∷ []) ≡ Ok x → Once w
once-of none x h = tt
once-of (some (G.text m n)) x h = tt
once-of (some (G.numeric q r)) x h = tt
once-of (some (G.enum e)) x h = once-enum (twice e []) x h
once-of (some (G.named r)) x h = tt

-- ---- 17 in its two parts
both : (a : Bool) → a ≡ (a && true)
both true = refl
both false = refl

self-fits : (t : List ℕ) (b : Ty) → FairOrNone t b → fits b b ≡ true
self-fits t (text m n) f = fits-self t (text m n) f
self-fits t (numeric r u) f = fits-self t (numeric r u) f
self-fits t (enum e) f = fits-self t (enum e) f
self-fits t structure f = refl

no_kind : {A : Type 0} (m : Bool) → ◌≡◌ {A = ℕ} 4 (cond m 2 1) → A
no_kind true e = absurd (omega arith)
no_kind false e = absurd (omega arith)

pub fits-split : (t : List ℕ) (w : Option WrittenType) (x : Option Def) (b : Ty) → FairOrNone t b
    → is_naming w ≡ false → kind_of (domain_type w x b) ≡ kind_of b
    → fits (domain_type w x b) b ≡ (plain_fits w b && merge_fits w b)
fits-split t none x b f r k = self-fits t b f
fits-split t (some (G.text m n)) x b f r k = both _
fits-split t (some (G.numeric q u)) x b f r k = both _
fits-split t (some (G.enum e)) x (text m n) f r k = no_kind m k
fits-split t (some (G.enum e)) x (numeric q u) f r k = absurd (omega arith)
fits-split t (some (G.enum e)) x (enum b) f r k = refl
fits-split t (some (G.enum e)) x structure f r k = absurd (omega arith)
fits-split t (some (G.named y)) x b f r k = never (sym r)

-- ---- a type's records, and then the head before them, written behind the book B
pub laid-book : (o o₁ o₂ B h l : List ℕ) (u : ℕ) → take u o ≡ B → u ≡ length B → u + head_size + length l ≤ length o
    → length h ≡ head_size → o₁ ≡ splice o (u + head_size) l → o₂ ≡ splice o₁ u h
    → take (u + head_size + length l) o₂ ≡ B ++ (h ++ l)
laid-book o o₁ o₂ B h l u b e f g p q =
    let d : List ℕ = drop (u + head_size + length l) o in
    let n : length (take (u + head_size) o) ≡ u + head_size = length-take-le (u + head_size) o (omega arith) in
    let p' : o₁ ≡ take (u + head_size) o ++ (l ++ d) = p ∙ append_assoc (take (u + head_size) o) l d in
    let front : take u o₁ ≡ B =
    rw p'
    (take-append-le u (take (u + head_size) o) (l ++ d) (omega arith) ∙ take-take u (u + head_size) o (omega arith))
    ∙ b in
    let back : drop (u + length h) o₁
    ≡ l ++ d = rw (g, p') (drop_at (take (u + head_size) o) (l ++ d) (u + head_size) n) in
    let whole : o₂ ≡ (B ++ (h ++ l)) ++ d = q ∙ rw (front, back) (simp append_assoc) in
    rw whole (take_at (B ++ (h ++ l)) d (u + head_size + length l) (simp length-append (omega arith)))
