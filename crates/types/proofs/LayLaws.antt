-- The records of a type, laid.
use mathlib.Core.Path.{◌≡◌, refl, sym, ap, ◌∙◌, subst}
use mathlib.Core.Bool.{true}
use mathlib.Core.Option.{none, some}
use mathlib.Core.List.{List, [], ◌∷◌, ◌++◌, append-nil}
use Prim.Native.Nat.{ℕ, ◌+◌, ◌-◌, ◌≤◌, ◌<◌}
use native.Mathlib.Omega.{arith}
use lib.ListN.{length, take, drop, length-append, length-drop, take-append-drop}
use lib.Seq.{length-take-le, take-append-le, drop-append-le}
use Rattle.rules.specs.Enumerations.{Enum}
use Rattle.rules.specs.Types.{Ty, text, numeric, structure, enum}
use Rattle.rules.specs.Book.{Record, bytes, type_records}
use Rattle.ground.specs.Parts.{part, splice, put_at}
use Rattle.ground.proofs.BufferLaws.{splice-splice, put-fits, length-put}
use Rattle.book.specs.Forms.{length_form}
use Rattle.enumerations.specs.Standing.{Stands}
use Rattle.enumerations.specs.Records.{records, size_of}
use Rattle.merging.specs.Merging.{LaidAs}
use Rattle.enumerations.proofs.KeptLaws.{part-stands}
use Rattle.enumerations.specs.declared.Size.{Size}
use Rattle.std.specs.Prelude.{Some, Ok}
use Rattle.fitting.specs.Values.{Typed}
use Rattle.types.specs.Meaning.{unit_records_by}
use Rattle.fitting.specs.declared.Typing.{Typing}
use Rattle.fitting.specs.declared.Typing.TheVariants as typing

-- ---- bytes
pub record-laid : (o o₁ v : List ℕ) (i : ℕ) → (i + length v ≤ length o → o₁ ≡ splice o i v)
    → LaidAs true (v ∷ []) i o o₁ (Ok (record { bytes = length v; records = 1 }))
record-laid o o₁ v i h = rw (append-nil v) (refl, h)

-- a number's record, with its unit's behind it
pub number-laid : (o o₁ o₂ v w : List ℕ) (i n : ℕ) → w ≡ length_form 19 n → o₁ ≡ put_at o i v
    → o₂ ≡ put_at o₁ (i + length v) w
    → LaidAs true (v ∷ unit_records_by (Some n)) i o o₂ (Ok (record { bytes = length v + 5; records = 2 }))
number-laid o o₁ o₂ v w i n e p q =
    let a : v ++ bytes (length_form 19 n ∷ []) ≡ v ++ w = rw e in
    let l : length (v ++ bytes (length_form 19 n ∷ [])) ≡ length v + 5 = length-append v (length_form 19 n) in (
      rw l,
      λ h.
          let f : i + length v ≤ length o = omega arith in
          let g : length o₁ ≡ length o = ap length p ∙ length-put o i v in
          let k : length w ≡ 5 = ap length e in
          q ∙ put-fits o₁ (i + length v) w (omega arith)
          ∙ ap (λ (x : List ℕ). splice x (i + length v) w) (p ∙ put-fits o i v f)
          ∙ splice-splice o i (i + length v) v w refl f ∙ ap (splice o i) (sym a),
    )

-- where an enumeration stands there is room for it
pub stands-within : (t s : List ℕ) (e : Enum) (p : ℕ) → Stands t s e p → p + length (bytes (records e)) ≤ length s
stands-within t s e p h =
    let l : length s - p ≡ length (bytes (records e)) + length h.more =
    sym (length-drop p s) ∙ ap length h.here ∙ length-append (bytes (records e)) h.more in
    omega arith

part-take : (o : List ℕ) (u p n : ℕ) → u ≤ length o → p + n ≤ u → part (take u o) p n ≡ part o p n
part-take o u p n h g =
    let l = length-take-le u o h in
    let d : drop p o ≡ drop p (take u o) ++ drop u o =
    ap (drop p) (sym (take-append-drop u o)) ∙ drop-append-le p (take u o) (drop u o) (omega arith) in
    let m : n ≤ length (drop p (take u o)) = rw (length-drop p (take u o)) (omega arith) in
    sym (ap (take n) d ∙ take-append-le n (drop p (take u o)) (drop u o) m)

pub again-laid : (t o o₁ : List ℕ) (u i p : ℕ) (s : Size) (e : Enum) → u ≤ length o
    → Stands t (take u o) e p → s ≡ size_of (records e)
    → (p + s.bytes ≤ u → i + s.bytes ≤ length o → o₁ ≡ splice o i (part o p s.bytes))
    → LaidAs true (records e) i o o₁ (Ok s)
again-laid t o o₁ u i p s e h k q f =
    let n : s.bytes ≡ length (bytes (records e)) = ap (λ (z : Size). z.bytes) q in
    let w : p + length (bytes (records e))
    ≤ u = omega (arith, stands-within t (take u o) e p k, length-take-le u o h) in
    let b : part o p s.bytes ≡ bytes (records e) =
    rw n (sym (part-take o u p (length (bytes (records e))) h w) ∙ part-stands t (take u o) e p k) in
    (ap Ok q, λ g. f (omega arith) (omega arith) ∙ rw b)

pub copied-laid : (t x o o₁ : List ℕ) (i : ℕ) (s : Size) (e : Enum) → Stands t x e 0 → s ≡ size_of (records e) →
    (i + length (take s.bytes x) ≤ length o → o₁ ≡ splice o i (take s.bytes x))
    → LaidAs true (records e) i o o₁ (Ok s)
copied-laid t x o o₁ i s e k q f =
    let b : take s.bytes x ≡ bytes (records e) = ap (λ (z : Size). take z.bytes x) q ∙ part-stands t x e 0 k in
    (ap Ok q, λ g. f (rw b g) ∙ rw b)

pub copied-not : {A : Type 0} (t x : List ℕ) (s : Size) (e : Enum) → Stands t x e 0
    → s ≡ size_of (records e) → length x < s.bytes → A
copied-not t x s e k q h =
    let n : s.bytes ≡ length (bytes (records e)) = ap (λ (z : Size). z.bytes) q in
    absurd (omega (arith, stands-within t x e 0 k))

-- ---- types
pub again-type : (P : List Record → Type 0) (t s : List ℕ) (b : Ty) (d : Typing) (p : ℕ) → d ≡ typing.Enumeration p
    → Typed t s b d → ((t : List ℕ) (e : Enum) → Stands t s e p → P (records e)) → P (type_records b)
again-type P t s (text m n) d p h u f = cc
again-type P t s (numeric none w) d p h u f = cc
again-type P t s (numeric (some r) w) d p h u f = cc
again-type P t s (enum e) d p h u f = let i : u.0 ≡ p = cc in f t e (subst (Stands t s e) i u.2)
again-type P t s structure d p h u f = cc
