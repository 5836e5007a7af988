-- Definitions by a key of their name: for each key a chain through the positions of the definitions that have it, in
-- text order. The numbers hold for each key the first and the last of its chain, and for each position the next one.
use Rattle.std.specs.Prelude.{◌≡◌, cond, List, [], ◌∷◌, ℕ, zero, suc, ◌+◌, ◌*◌, ◌%◌, ◌<◌, length, get_or, drop, eqb}
use Rattle.std.proofs.Math.Option.{some}
use Rattle.rules.specs.Declarations.{Def}
use Rattle.names.specs.Index.{nth, entry}

-- how many keys names have
abbrev pub keys : ℕ
keys = 1024

abbrev pub key_from : ℕ → List ℕ → ℕ
key_from k [] = k
key_from k (b ∷ l) = key_from ((k * 31 + b) % keys) l

abbrev pub key_of : List ℕ → ℕ
key_of n = key_from 0 n

-- the first definition with a key, where i definitions stand before the list; 0 if there is none
abbrev pub next_from : ℕ → ℕ → List Def → ℕ
next_from k i [] = 0
next_from k i (d ∷ l) = let r = next_from k (i + 1) l in cond (eqb (key_of d.name.bytes) k) (i + 1) r

-- the last of a chain
abbrev pub Tail : List Def → ℕ → ℕ → Type 0
Tail ks k zero = next_from k 0 ks ≡ 0
Tail ks k (suc j) =
    (d : Def) × (nth ks j ≡ some d) × (key_of d.name.bytes ≡ k) × (next_from k (suc j) (drop (suc j) ks) ≡ 0)

pub record Chains (ks : List Def) (z : List ℕ) : Type 0 where
  pub heads : (k : ℕ) → k < keys → get_or z k 0 ≡ next_from k 0 ks
  pub tails : (k : ℕ) → k < keys → Tail ks k (get_or z (keys + k) 0)
  pub links : (p : ℕ) (d : Def) → entry ks p ≡ some d
      → get_or z (keys + keys + p) 0 ≡ next_from (key_of d.name.bytes) p (drop p ks)

-- there is a link for every position up to p
abbrev pub Links : List ℕ → ℕ → Type 0
Links z p = keys + keys + p < length z
