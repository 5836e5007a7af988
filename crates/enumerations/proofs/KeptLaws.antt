-- What a merged enumeration keeps of its two, so that it can be a base again; and the bytes of one that stands.
use mathlib.Core.Path.{◌≡◌, ap, ◌∙◌}
use mathlib.Core.Bool.{Bool, true, false, cond}
use mathlib.Core.Option.{some}
use mathlib.Core.List.{List}
use Prim.Native.Nat.{ℕ}
use lib.ListN.{length, take}
use lib.Seq.{take-append_seam}
use Rattle.rules.specs.Bytes.{same}
use Rattle.rules.specs.Enumerations.{Enum, end, elem, at, or_empty, inner, has, news, merge_from, merge}
use Rattle.rules.specs.Book.{bytes}
use Rattle.rules.proofs.MergeLaws.{distinct-merge, once-distinct, distinct-once}
use Rattle.ground.specs.Parts.{part}
use Rattle.enumerations.specs.Standing.{Named, Kept, Stands}
use Rattle.enumerations.specs.Records.{records}
use Rattle.enumerations.proofs.DeepLaws.{deep-merge}

named-inner : (t : List ℕ) (n : List ℕ) (x : Enum) → Named t x → Named t (inner n x)
named-inner t n (end f) h = tt
named-inner t n (elem m i r) h = go (same n m.bytes) (named-inner t n r h.2)
  where
    go : (c : Bool) → Named t (inner n r) → Named t (or_empty (cond c (some i) (at n r)))
    go true q = h.1
    go false q = q

named-news : (t : List ℕ) (f : Bool) (w y : Enum) → Named t y → Named t (news f w y)
named-news t f w (end g) h = tt
named-news t f w (elem m j r) h = go (has m.bytes w) (named-news t f w r h.2)
  where
    go : (c : Bool) → Named t (news f w r) → Named t (cond c (news f w r) (elem m j (news f w r)))
    go true q = q
    go false q = (h.0, h.1, q)

named-merge : (t : List ℕ) (r w x : Enum) → Named t r → Named t x → Named t (merge_from r w x)
named-merge t (end f) w x h g = named-news t f w x g
named-merge t (elem n i r) w x h g =
    (h.0, named-merge t i i (inner n.bytes x) h.1 (named-inner t n.bytes x g), named-merge t r w x h.2 g)

pub merged-kept : (t : List ℕ) (b x : Enum) → Kept t b → Kept t x → Kept t (merge b x)
merged-kept t b x h k =
    record {
      named = named-merge t b b x h.named k.named;
      deep = deep-merge 7 b b x h.deep k.deep;
      once = distinct-once (merge b x)
          (distinct-merge b b x (λ n i q. q) (once-distinct b h.once) (once-distinct x k.once));
    }

-- the bytes from where it stands on are its own: copied, it stands elsewhere too
pub part-stands : (t s : List ℕ) (e : Enum) (p : ℕ) → Stands t s e p
    → part s p (length (bytes (records e))) ≡ bytes (records e)
part-stands t s e p h =
    ap (take (length (bytes (records e)))) h.here ∙ take-append_seam (bytes (records e)) h.more
