-- An enumeration fits another exactly when every legal path of it has a legal reading there.
use mathlib.Core.Path.{◌≡◌, refl, ap, ◌∙◌}
use mathlib.Core.Logic.{◌⊎◌, ⊎_elim}
use mathlib.Core.Bool.{Bool, true, false, not, ◌&&◌, true≢false}
use mathlib.Core.Option.{Option, none, some}
use mathlib.Core.List.{List}
use Prim.Native.Nat.{ℕ}
use Rattle.rules.specs.Bytes.{same}
use Rattle.rules.specs.Names.{Name}
use Rattle.rules.specs.Enumerations.{Enum, end, elem, is_leaf, final, at, Path, here, others, into, through, legal_in}
use Rattle.rules.specs.Enumerations.{legal_path, beyond, under, read_path, or_else, fits_in, enum_fits}
use Rattle.rules.proofs.Tests.{never, both, split, either-fails, or_l, or_r, or_split, not_is, not-fails}
use Rattle.rules.proofs.ByteLaws.{same-eq, same_refl}
use Rattle.rules.proofs.MergeLaws.{at-cases, fits-parts}

read_some : (b : Enum) (n : List ℕ) (p : Path) {i : Enum} → at n b ≡ some i
    → read_path b (into n p) ≡ under n (read_path i p)
read_some b n p e = rw (e, read_path)

read_none : (b : Enum) (n : List ℕ) (p : Path) → at n b ≡ none → read_path b (into n p) ≡ beyond b
read_none b n p e = rw (e, read_path)

-- ---- legal paths
others-legal : (b : Enum) → final b ≡ false → legal_in b others ≡ true
others-legal (end f) p = rw p
others-legal (elem n i r) p = others-legal r p

into_legal_in : (b : Enum) (n : List ℕ) (u : Path) (j : Enum) → at n b ≡ some j
    → legal_path j u ≡ true → legal_in b (into n u) ≡ true
into_legal_in (end f) n u j p q = cc
into_legal_in (elem m i r) n u j p q =
    at-cases n m i r (λ o. o ≡ some j → legal_in (elem m i r) (into n u) ≡ true)
    (λ e p. let s : i ≡ j = cc in or_l _ (both e (rw s q)))
    (λ e p. or_r (same n m.bytes && legal_path i u) (into_legal_in r n u j p q))
    p

into-legal : (b : Enum) (n : List ℕ) (u : Path) (j : Enum) → at n b ≡ some j → legal_path j u ≡ true
    → legal_path b (into n u) ≡ true
into-legal (end f) n u j p q = cc
into-legal (elem m i r) n u j p q = into_legal_in (elem m i r) n u j p q

-- ---- legal readings
abbrev pub Read : Enum → Path → Type 0
Read b p = (w : Path) × (read_path b p ≡ some w) × (legal_path b w ≡ true)

read_here : (b : Enum) → is_leaf b ≡ true → Read b here
read_here (end f) p = (here, refl, refl)
read_here (elem n i r) p = never p

-- what goes on where an open base does not
read-beyond : (b : Enum) (p : Path) → read_path b p ≡ beyond b → final b ≡ false → Read b p
read-beyond (end f) p e q = (here, e ∙ rw q, refl)
read-beyond (elem n i r) p e q = (others, e ∙ rw q, others-legal r q)

read-into : (b : Enum) (n : List ℕ) (p : Path) (j : Enum) → at n b ≡ some j → Read j p → Read b (into n p)
read-into b n p j a (w, e, l) = (into n w, read_some b n p a ∙ ap (under n) e, into-legal b n w j a l)

-- ---- what fits reads
abbrev Sound : (Enum → Enum → Bool) → (Enum → Path → Bool) → Enum → Type 0
Sound fit legal e = (b : Enum) → fit e b ≡ true → (p : Path) → legal e p ≡ true → Read b p

outer-sound : (e : Enum) → Sound fits_in legal_in e → Sound enum_fits legal_path e
outer-sound (end f) s b h here q = read_here b h
outer-sound (end f) s b h others q = never q
outer-sound (end f) s b h (into n p) q = never q
outer-sound (elem n i r) s b h p q = s b h p q

elem-sound : (n m : List ℕ) (i b : Enum) (p : Path) → Sound enum_fits legal_path i →
    (o : Option Enum) → at n b ≡ o → or_else o (not (final b)) (enum_fits i) ≡ true → same m n ≡ true
    → legal_path i p ≡ true → Read b (into m p)
elem-sound n m i b p s none e f h q = read-beyond b (into m p) (read_none b m p (rw (same-eq m n h) e)) (not_is f)
elem-sound n m i b p s (some j) e f h q = read-into b m p j (rw (same-eq m n h) e) (s j f p q)

fits_in_sound : (e : Enum) → Sound fits_in legal_in e
fits_in_sound (end true) b h p q = never q
fits_in_sound (end false) b h here q = never q
fits_in_sound (end false) b h others q = read-beyond b others refl (not_is h)
fits_in_sound (end false) b h (into n p) q = never q
fits_in_sound (elem n i r) b h here q = fits_in_sound r b (fits-parts n i r b h).1 here q
fits_in_sound (elem n i r) b h others q = fits_in_sound r b (fits-parts n i r b h).1 others q
fits_in_sound (elem n i r) b h (into m p) q =
    let (h₁, h₂) = fits-parts n i r b h in
    let k : (same m n.bytes && legal_path i p ≡ true) ⊎ (legal_in r (into m p) ≡ true) = or_split q in
    ⊎_elim
    (λ g. let (g₁, g₂) : (same m n.bytes ≡ true) × (legal_path i p ≡ true) = split g in
    elem-sound n.bytes m i b p (outer-sound i (fits_in_sound i)) (at n.bytes b) refl h₁ g₁ g₂)
    (λ g. fits_in_sound r b h₂ (into m p) g)
    k

pub fits-sound : (e b : Enum) → enum_fits e b ≡ true → (p : Path) → legal_path e p ≡ true → Read b p
fits-sound e = outer-sound e (fits_in_sound e)

-- ---- of what does not fit, some legal path has no reading
a-path : (e : Enum) → (p : Path) × (legal_path e p ≡ true)
a-path (end f) = (here, refl)
a-path (elem n i r) = let (p, h) = a-path i in (into n.bytes p, or_l _ (both (same_refl n.bytes) h))

abbrev Unread : (Enum → Path → Bool) → Enum → Enum → Type 0
Unread legal e b = (p : Path) × (legal e p ≡ true) × (read_path b p ≡ none)

outer-unread : (e b : Enum) → (fits_in e b ≡ false → Unread legal_in e b)
    → enum_fits e b ≡ false → Unread legal_path e b
outer-unread (end f) (end g) s h = absurd (true≢false h)
outer-unread (end f) (elem n i r) s h = (here, refl, refl)
outer-unread (elem n i r) b s h = s h

elem-unread : (n : Name) (i r b : Enum) → ((j : Enum) → enum_fits i j ≡ false → Unread legal_path i j) →
    (o : Option Enum) → at n.bytes b ≡ o → or_else o (not (final b)) (enum_fits i) ≡ false
    → Unread legal_in (elem n i r) b
elem-unread n i r b s none e f =
    let (p, h) = a-path i in
    let z : final b ≡ true = not-fails f in
    (into n.bytes p, or_l _ (both (same_refl n.bytes) h), read_none b n.bytes p e ∙ rw z)
elem-unread n i r b s (some j) e f =
    let (p, h, q) = s j f in
    (into n.bytes p, or_l _ (both (same_refl n.bytes) h), read_some b n.bytes p e ∙ ap (under n.bytes) q)

later-unread : (n : Name) (i r b : Enum) → Unread legal_in r b → Unread legal_in (elem n i r) b
later-unread n i r b (p, h, q) = (p, or_r (through n.bytes (legal_path i) p) h, q)

fits_in_unread : (e b : Enum) → fits_in e b ≡ false → Unread legal_in e b
fits_in_unread (end true) b h = absurd (true≢false h)
fits_in_unread (end false) b h = let z : final b ≡ true = not-fails h in (others, refl, rw z)
fits_in_unread (elem n i r) b h =
    let k : (or_else (at n.bytes b) (not (final b)) (enum_fits i) ≡ false) ⊎ (fits_in r b ≡ false) = either-fails h in
    ⊎_elim (λ g. elem-unread n i r b (λ j. outer-unread i j (fits_in_unread i j)) (at n.bytes b) refl g)
    (λ g. later-unread n i r b (fits_in_unread r b g)) k

pub fits-complete : (e b : Enum) → enum_fits e b ≡ false → Unread legal_path e b
fits-complete e b = outer-unread e b (fits_in_unread e b)
