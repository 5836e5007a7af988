-- Units are put together of their parts, and each ends with a symbol of its own.
use mathlib.Core.Path.{◌≡◌, refl, sym, ap, ◌∙◌, subst}
use mathlib.Core.Logic.{⊎_elim}
use mathlib.Core.Bool.{Bool, true, false, cond, not, ◌&&◌, ◌||◌}
use mathlib.Core.Option.{Option, none, some}
use mathlib.Core.List.{List, [], ◌∷◌}
use Prim.Native.Nat.{ℕ, ◌≤◌}
use native.Mathlib.Omega.{arith}
use Rattle.std.specs.Prelude.{Option as code·Option, Ok, Err}
use Rattle.ground.specs.declared.Reference.{Reference}
use lib.Dec.{eqb}
use borrow.Author.Tests.{eqb-true, eq-eqb, ne_eqb}
use Rattle.rules.specs.Bytes.{ascii, same, is_one_of}
use Rattle.rules.specs.Symbols as rules
use Rattle.rules.specs.Symbols.{Fault, word, name, symbol_at, end_of, is_kind, is_mark, is_word, is_one_word}
use Rattle.rules.specs.Readers.{Result, done, refused, Reader, and_then, ◌>>=◌, fault_of, expect, if_next}
use Rattle.rules.specs.Grammar as G
use Rattle.rules.specs.Grammar.{properties, extends, written, type_of, type_or_reference}
use Rattle.rules.specs.Units as U
use Rattle.rules.specs.Names.{sort_number}
use Rattle.rules.specs.Units.{step, header_unit, model_unit, topic_unit, class_unit, is_given, domain_unit, unit_unit}
use Rattle.rules.specs.Units.{attribute_unit, end_unit, word_step, body_end, body_unit, member_unit, last_step, unit_at}
use Rattle.rules.proofs.Tests.{split, or_split}
use Rattle.symbols.specs.declared.Symbol.{Symbol}
use Rattle.symbols.specs.Cut.{cut, next_of}
use Rattle.symbols.proofs.CutLaws.{next-cut}
use Rattle.ground.specs.declared.Name.{Name}
use Rattle.readers.specs.Reads.{fault_at, Stands, Cuts, passed, named, Gives, Reads}
use Rattle.readers.proofs.CodeLaws.{Test, is_name, is_number, is-quoted, is_stop, is-mark, is_word_lem, is-one-word}
use Rattle.readers.proofs.ReadLaws.{Passes, onward, bind, stay, mapped, if-true, if-false, expected, taken, is-yes}
use Rattle.readers.proofs.ReadLaws.{is-no, named-cut, a-name}
use Rattle.parts.specs.declared.Properties.{Properties}
use Rattle.parts.specs.declared.Owner.TheVariants as Owner
use Rattle.parts.specs.declared.types.Written.{Written}
use Rattle.parts.specs.Forms.{words_of, flags_of, optional_of, given_of, type_by, MeansAll}
use Rattle.units.specs.declared.Run.{Run}
use Rattle.units.specs.declared.Run.TheVariants.{Nothing, Domains, Units}
use Rattle.units.specs.declared.Where.{Where}
use Rattle.units.specs.declared.Where.TheVariants.{Start, AfterHeader, Body, Members, Over}
use Rattle.units.specs.declared.ModelHead.{ModelHead}
use Rattle.units.specs.declared.Unit as C
use Rattle.units.specs.declared.Unit.TheVariants.{Header, Model, Topic, Class, Domain, Attribute, Measure}
use Rattle.units.specs.declared.Unit.TheVariants.{Close, Mark}
use Rattle.units.specs.Steps.{around_of, run_of, run_cut, behind_of, where_of, place_of, run_unit, end_mark, language}
use Rattle.units.specs.Steps.{anything, IsAny}
use Rattle.units.specs.Steps.{Step, UnreadAt, StepIs, Steps, ended_of}

-- ---- one part after another
abbrev Faults : List ℕ → Symbol → Step → Type 0
Faults t y r = (f : Fault) (k : ℕ) → Cuts t (fault_at f k) y → UnreadAt t f k r

through : {t : List ℕ} {y n : Symbol} {r : Step} → Passes t y n → Faults t n r → Faults t y r
through h g f k c = g f k (h f k c)

module _ {t o p : List ℕ} {r : Step} where
  then-steps : {A : Type 0} {Q : A → Type 0} {n : Symbol} (m : Result A) (K : A → Reader U.Step) → Gives t m Q n
      → ((a : A) → Q a → Steps t o p (K a) n r) → Faults t n r
      → StepIs t o p (and_then t m K) r
  then-steps (done a z) K g k h = (k a g.value).steps z g.next
  then-steps (refused f i) K g k h = h f i g.next

  on : {A : Type 0} {Q : A → Type 0} {R : Reader A} {K : A → Reader U.Step} {y n : Symbol} → Reads t R Q y n
      → ((a : A) → Q a → Steps t o p (K a) n r) → Faults t n r
      → Steps t o p (R >>= K) y r
  on {R} {K} g k h = record { steps = λ z c. then-steps (R t z) K (g.reads z c) k h; faults = through g.passes h }

  when : {y : Symbol} (q : rules.Symbol → Bool) (a b : Reader U.Step) → ((z : rules.Symbol) → Cuts t z y → q z ≡ true)
      → Steps t o p a y r → Steps t o p (if_next q a b) y r
  when q a b h g = record { steps = λ z c. rw (h z c) (g.steps z c); faults = g.faults }

  unless : {y : Symbol} (q : rules.Symbol → Bool) (a b : Reader U.Step)
      → ((z : rules.Symbol) → Cuts t z y → q z ≡ false) → Steps t o p b y r → Steps t o p (if_next q a b) y r
  unless q a b h g = record { steps = λ z c. rw (h z c) (g.steps z c); faults = g.faults }

-- ---- the last symbol
fault-ended : {t : List ℕ} {y : Symbol} {r : Step} (k : ℕ) (u : C.Unit) (w : Where) → (k ≡ 5 → ⊥)
    → r ≡ ended_of t y k u w → Faults t y r
fault-ended {t} k u w s e f i c =
    let l = c.stands.ends in (
      cut t (fault_at f i),
      e ∙ ap (λ (x : Symbol). ended_of t x k u w) c.cuts ∙ rw (ne_eqb 5 k (λ h. s (sym h))),
      refl,
      omega arith,
    )

module _ {t o p : List ℕ} {r : Step} where
  pub ends : {y : Symbol} {q : rules.Symbol → Bool} {k : ℕ} (u : C.Unit) (x : Option U.Unit) (w : U.Where) {v : Where}
      → where_of w ≡ v → Test q k → r ≡ ended_of t y k u v
      → IsAny o p x u → Steps t o p (expect q >>= λ e. step x w e) y r
  ends {y} {q} {k} u x w {v} j h e i =
      record {
        steps = λ z c. subst (StepIs t o p ((expect q >>= λ e. step x w e) t z)) (sym (placed
            ∙ ap (λ (s : Symbol). ended_of t s k u (where_of w)) c.cuts))
            (at z c.stands (h.test z c.stands.coded));
        faults = fault-ended k u v h.sound e;
      }
    where
      placed : r ≡ ended_of t y k u (where_of w)
      placed = e ∙ ap (λ (s : Where). ended_of t y k u s) (sym j)

      at : (z : rules.Symbol) → Stands t z → q z ≡ eqb (cut t z).code k
          → StepIs t o p ((expect q >>= λ e. step x w e) t z) (ended_of t (cut t z) k u (where_of w))
      at z s f = rw f (go (eqb (cut t z).code k))
        where
          go : (b : Bool) → StepIs t o p (and_then t
              (cond b (done z (symbol_at t (end_of z))) (refused (fault_of z.kind) z.place)) (λ e. step x w e))
              (cond b (Ok (record { at = where_of w; unit = u; next = next_of t (cut t z).next })) (Err (cut t z)))
          go true = (
            u,
            ap (λ (n : Symbol). Ok (record { at = where_of w; unit = u; next = n })) (next-cut t z s.level s.ends),
            i,
          )
          go false = let l = s.ends in (cut t z, refl, refl, omega arith)

where-around : (t : Bool) → not (U.is_model (around_of t)) ≡ t
where-around true = refl
where-around false = refl

where-run : (r : Run) → run_cut (run_of r) ≡ r
where-run Nothing = refl
where-run Domains = refl
where-run Units = refl

where-behind : (f : Bool) → U.is_head (behind_of f) ≡ f
where-behind true = refl
where-behind false = refl

pub where-place : (w : Where) → where_of (place_of w) ≡ w
where-place Start = refl
where-place AfterHeader = refl
where-place (Body t r) = rw (where-around t, where-run r)
where-place (Members t f) = rw (where-around t, where-behind f)
where-place Over = refl

end_test : (last : Bool) → Test (is_mark (end_mark last)) (cond last 46 59)
end_test true = is-mark "." (omega arith) (omega arith)
end_test false = is-mark ";" (omega arith) (omega arith)

end-sound : (last : Bool) → ◌≡◌ {A = ℕ} (cond last 46 59) 5 → ⊥
end-sound true h = omega arith
end-sound false h = omega arith

given-extends : (b : Option G.Reference) → given_of (optional_of b) ≡ is_given b
given-extends none = refl
given-extends (some a) = refl

-- CLASS or STRUCTURE
class-test : {t : List ℕ} {y : Symbol} (x : Bool) → (eqb y.code 69 || eqb y.code 70) ≡ x
    → (z : rules.Symbol) → Cuts t z y
    → is_one_word (ascii "CLASS" ∷ ascii "STRUCTURE" ∷ []) z ≡ x
class-test x e z c =
    is-one-word (ascii "CLASS") (ascii "STRUCTURE") 69 70 refl refl z c.stands.coded ∙ (rw c.cuts at e)

class-word : {t : List ℕ} {y : Symbol} → (eqb y.code 69 || eqb y.code 70) ≡ true → (z : rules.Symbol) → Cuts t z y
    → is_one_word (ascii "CLASS" ∷ ascii "STRUCTURE" ∷ []) z ≡ true
class-word h z c = class-test true h z c

class-sound : (y : Symbol) → (eqb y.code 69 || eqb y.code 70) ≡ true → y.code ≡ 5 → ⊥
class-sound y h e =
    ⊎_elim (λ k. let q = eqb-true y.code 69 k in omega arith)
    (λ k. let q = eqb-true y.code 70 k in omega arith) (or_split h)

structure-flag : {t : List ℕ} {y : Symbol} → (eqb y.code 69 || eqb y.code 70) ≡ true
    → (w : rules.Symbol) → Cuts t w y
    → same w.bytes (ascii "STRUCTURE") ≡ eqb y.code 70
structure-flag {t} {y} h w c =
    let k : (is_kind word w ≡ true)
    × (is_one_of w.bytes (ascii "CLASS" ∷ ascii "STRUCTURE" ∷ []) ≡ true) = split (class-word h w c) in
    let q : (is_kind word w && same w.bytes (ascii "STRUCTURE"))
    ≡ eqb (cut t w).code 70 = (is_word_lem (ascii "STRUCTURE") 70 refl).test w c.stands.coded in
    (rw k.0 at q) ∙ ap (λ (x : Symbol). eqb x.code 70) (sym c.cuts)

semi : Test (is_mark ";") 59
semi = is-mark ";" (omega arith) (omega arith)

equals : Test (is_mark "=") 61
equals = is-mark "=" (omega arith) (omega arith)

-- ---- heads
module _ {t : List ℕ} (o : List ℕ) {y : Symbol} {r : Step} where
  pub header-steps : {v e : Symbol} {i : Name} → v ≡ passed t y 64 → e ≡ passed t v 2 → i ≡ named v
      → r ≡ ended_of t e 59 (Header i) AfterHeader → Steps t o o header_unit y r
  unfolding header_unit
  header-steps {v} {e} {i} e₁ e₂ f g =
      let second = expected is_number e₂ in
      let last = fault-ended 59 (Header i) AfterHeader (omega arith) g in
      on (expected (is_word_lem (ascii "INTERLIS") 64 refl) e₁) (λ _ _. on second
      (λ a q. ends (Header i) (some (U.header a)) U.after_header refl semi g (ap Header (f ∙ named-cut t a q))) last)
      (through second.passes last)

  pub topic-steps : {n e : Symbol} {i : Name} → n ≡ passed t y 68 → e ≡ passed t n 1 → i ≡ named n
      → r ≡ ended_of t e 61 (Topic i) (Body true Nothing) → Steps t o o topic_unit y r
  unfolding topic_unit
  topic-steps {n} {e} {i} e₁ e₂ f g =
      let second = a-name e₂ in
      let last = fault-ended 61 (Topic i) (Body true Nothing) (omega arith) g in
      on (expected (is_word_lem (ascii "TOPIC") 68 refl) e₁) (λ _ _. on second
      (λ a q. ends (Topic i) (some (U.topic a)) (U.body U.in_topic U.no_run) refl equals g (ap Topic (f ∙ q))) last)
      (through second.passes last)

  pub close-steps : (last : Bool) {n e : Symbol} {i : Name} (w : Where) → n ≡ passed t y 77 → e ≡ passed t n 1
      → i ≡ named n → r ≡ ended_of t e (cond last 46 59) (Close i) w
      → Steps t o o (end_unit (end_mark last) (place_of w)) y r
  unfolding end_unit
  close-steps last {n} {e} {i} w e₁ e₂ f g =
      let second = a-name e₂ in
      let end = fault-ended (cond last 46 59) (Close i) w (end-sound last) g in
      on (expected (is_word_lem (ascii "END") 77 refl) e₁) (λ _ _. on second
      (λ a q. ends (Close i) (some (U.close a)) (place_of w) (where-place w) (end_test last) g (ap Close (f ∙ q))) end)
      (through second.passes end)

  pub model-steps : {n l a s v w e : Symbol} (head : ModelHead) → n ≡ passed t y 65 → l ≡ passed t n 1
      → head.name ≡ named n → Reads t language anything l a → s ≡ passed t a 66
      → v ≡ passed t s 3 → head.address ≡ named s → w ≡ passed t v 67 → e ≡ passed t w 3 → head.version ≡ named w
      → r ≡ ended_of t e 61 (Model head) (Body false Nothing) → Steps t o o model_unit y r
  unfolding model_unit
  model-steps head e₁ e₂ f m e₃ e₄ x e₅ e₆ z g =
      let r₂ = a-name e₂ in
      let r₃ = expected (is_word_lem (ascii "AT") 66 refl) e₃ in
      let r₄ = expected is-quoted e₄ in
      let r₅ = expected (is_word_lem (ascii "VERSION") 67 refl) e₅ in
      let r₆ = expected is-quoted e₆ in
      let f₆ = fault-ended 61 (Model head) (Body false Nothing) (omega arith) g in
      let f₅ = through r₆.passes f₆ in
      let f₄ = through r₅.passes f₅ in
      let f₃ = through r₄.passes f₄ in
      let f₂ = through r₃.passes f₃ in
      let f₁ = through m.passes f₂ in
      on (expected (is_word_lem (ascii "MODEL") 65 refl) e₁)
      (λ _ _. on r₂ (λ i q. on m (λ _ _. on r₃ (λ _ _. on r₄ (λ b j. on r₅ (λ _ _. on r₆
      (λ d k. ends (Model head) (some (U.model i (record { address = b; version = d })))
      (U.body U.in_model U.no_run) refl equals g
      (head, refl, f ∙ q, x ∙ named-cut t b j, z ∙ named-cut t d k)) f₆) f₅) f₄) f₃) f₂) f₁)
      (through r₂.passes f₁)

  pub mark-steps : (w : List ℕ) (k : ℕ) (at : U.Where) {v : Where} → where_of at ≡ v → Test (is_word w) k
      → r ≡ ended_of t y k Mark v → Steps t o o (word_step w at) y r
  unfolding word_step
  mark-steps w k at j q g = ends Mark none at j q g refl

  pub over-steps : r ≡ ended_of t y 0 Mark Over → Steps t o o last_step y r
  unfolding last_step
  over-steps g = ends Mark none U.over refl is_stop g refl

  pub class-steps : (topic : Bool) {n l m k : Symbol} {i : Name} {ps : Properties} {b : code·Option Reference} {s : ℕ}
      → (eqb y.code 69 || eqb y.code 70) ≡ true → n ≡ passed t y y.code
      → l ≡ passed t n 1 → i ≡ named n → Reads t (properties (words_of Owner.Definition)) (λ p. ps ≡ flags_of p) l m
      → Reads t extends (λ a. b ≡ optional_of a) m k → s ≡ sort_number (U.class_sort (eqb y.code 70))
      → r ≡ ended_of t k 61 (Class (record { sort = s; name = i; properties = ps; base = b })) (Members topic true)
      → Steps t o o (class_unit (around_of topic)) y r
  unfolding class_unit
  class-steps topic {n} {l} {m} {k} {i} {ps} {b} {s} h e₁ e₂ f p x j g =
      let r₂ = a-name e₂ in
      let head = Class (record { sort = s; name = i; properties = ps; base = b }) in
      let f₄ = fault-ended 61 head (Members topic true) (omega arith) g in
      let f₃ = through x.passes f₄ in
      let f₂ = through p.passes f₃ in
      on (taken (class-word h) (class-sound y h) e₁) (λ w c. on r₂ (λ a q₁. on p (λ d q₂. on x (λ z q₃.
      ends head (some (U.class (U.class_sort (same w.bytes (ascii "STRUCTURE"))) a d z))
      (U.members (around_of topic) U.its_head) (where-place (Members topic true)) equals g
      (same w.bytes (ascii "STRUCTURE"), refl, rw (f ∙ q₁, q₂, q₃, j, structure-flag h w c))) f₄) f₃) f₂)
      (through r₂.passes f₂)

  pub measure-steps : (topic : Bool) {l m k : Symbol} {i : Name} {ps : Properties} {b : code·Option Reference}
      → l ≡ passed t y 1 → i ≡ named y → Reads t (properties (words_of Owner.Measure)) (λ p. ps ≡ flags_of p) l m
      → Reads t extends (λ a. b ≡ optional_of a) m k
      → r ≡ ended_of t k 59 (Measure (record { sort = 4; name = i; properties = ps; base = b })) (Body topic Units)
      → Steps t o o (unit_unit (around_of topic)) y r
  unfolding unit_unit
  measure-steps topic {l} {m} {k} {i} {ps} {b} e f p x g =
      let head = Measure (record { sort = 4; name = i; properties = ps; base = b }) in
      let f₃ = fault-ended 59 head (Body topic Units) (omega arith) g in
      let f₂ = through x.passes f₃ in
      on (a-name e) (λ a q₁. on p (λ d q₂. on x (λ z q₃. ends head (some (U.unit a d z))
      (U.body (around_of topic) U.units) (where-place (Body topic Units)) semi g (rw (f ∙ q₁, q₂, q₃))) f₃) f₂)
      (through p.passes f₂)

-- ---- domains and attributes
module _ {t o o' : List ℕ} (topic : Bool) {y : Symbol} {r : Step} {l m : Symbol} {i : Name} {ps : Properties} {v :
    Written} (e₁ : l ≡ passed t y 1) (f : i ≡ named y) where
  pub domain-steps : {k q e : Symbol} {b : code·Option Reference} {x : Bool}
      → Reads t (properties (words_of Owner.Definition)) (λ p. ps ≡ flags_of p) l m
      → Reads t extends (λ a. b ≡ optional_of a) m k
      → q ≡ passed t k 61 → x ≡ given_of b → Reads t (written x (type_by false)) (MeansAll o o' v) q e →
      r ≡ ended_of t e 59 (Domain (record { name = i; properties = ps; base = b; written = v })) (Body topic Domains)
      → Steps t o o' (domain_unit (around_of topic)) y r
  unfolding domain_unit
  domain-steps {k} {q} {e} {b} {x} p n e₂ j w g =
      let unit = Domain (record { name = i; properties = ps; base = b; written = v }) in
      let r₄ = expected equals e₂ in
      let f₅ = fault-ended 59 unit (Body topic Domains) (omega arith) g in
      let f₄ = through w.passes f₅ in
      let f₃ = through r₄.passes f₄ in
      let f₂ = through n.passes f₃ in
      on (a-name e₁) (λ a q₁. on p (λ d q₂. on n (λ z q₃. on r₄ (λ _ _.
      on (subst (λ (c : Bool). Reads t (written c type_of) (MeansAll o o' v) q e) (j ∙ rw q₃ (given-extends z)) w)
      (λ u q₄.
      ends unit (some (U.domain a d z u)) (U.body (around_of topic) U.domains) (where-place (Body topic Domains))
      semi g (rw (f ∙ q₁, q₂, q₃, q₄.0), q₄.1)) f₅) f₄) f₃) f₂) (through p.passes f₂)

  pub attribute-steps : {q e : Symbol}
      → Reads t (properties (words_of Owner.Attribute)) (λ p. ps ≡ flags_of p) l m → q ≡ passed t m 58
      → Reads t (written ps.extended (type_by true)) (MeansAll o o' v) q e
      → r ≡ ended_of t e 59 (Attribute (record { name = i; properties = ps; written = v })) (Members topic false)
      → Steps t o o' (attribute_unit (around_of topic)) y r
  unfolding attribute_unit
  attribute-steps {q} {e} p e₂ w g =
      let unit = Attribute (record { name = i; properties = ps; written = v }) in
      let r₃ = expected (is-mark ":" (omega arith) (omega arith)) e₂ in
      let f₄ = fault-ended 59 unit (Members topic false) (omega arith) g in
      let f₃ = through w.passes f₄ in
      let f₂ = through r₃.passes f₃ in
      on (a-name e₁) (λ a q₁. on p (λ d q₂. on r₃ (λ _ _.
      on (subst (λ (c : Bool). Reads t (written c type_or_reference) (MeansAll o o' v) q e)
      (ap (λ (x : Properties). x.extended) q₂) w)
      (λ u q₄. ends unit (some (U.attribute a d u)) (U.members (around_of topic) U.a_member)
      (where-place (Members topic false)) semi g (rw (f ∙ q₁, q₂, q₄.0), q₄.1)) f₄) f₃) f₂) (through p.passes f₂)

-- ---- which unit
pub domain-word : Test (is_word (ascii "DOMAIN")) 74
domain-word = is_word_lem (ascii "DOMAIN") 74 refl

pub unit-word : Test (is_word (ascii "UNIT")) 82
unit-word = is_word_lem (ascii "UNIT") 82 refl

both-fail : (b : Bool) (k n : ℕ) → (b ≡ true → k ≡ n → ⊥) → (b && eqb k n) ≡ false
both-fail true k n h = ne_eqb k n (h refl)
both-fail false k n h = refl

-- by the code
pub class-code : (k : ℕ) → 69 ≤ k → k ≤ 70 → (eqb k 69 || eqb k 70) ≡ true
class-code k h g = go (eqb k 69) refl
  where
    go : (x : Bool) → eqb k 69 ≡ x → (x || eqb k 70) ≡ true
    go true e = refl
    go false e = eq-eqb k 70 (let n : k ≡ 69 → ⊥ = λ i. let q = rw i at e in cc in omega arith)

no-class : (k : ℕ) → (k ≡ 69 → ⊥) → (k ≡ 70 → ⊥) → (eqb k 69 || eqb k 70) ≡ false
no-class k h g = rw (ne_eqb k 69 h, ne_eqb k 70 g)

is-model : (t : Bool) → U.is_model (around_of t) ≡ not t
is-model true = refl
is-model false = refl

module _ {t : List ℕ} {y : Symbol} where
  at-topic : (topic x : Bool) → (not topic && eqb y.code 68) ≡ x → (z : rules.Symbol) → Cuts t z y
      → (U.is_model (around_of topic) && is_word (ascii "TOPIC") z) ≡ x
  at-topic topic x e z c =
      rw (is-model topic, (is_word_lem (ascii "TOPIC") 68 refl).test z c.stands.coded) (rw c.cuts at e)

  at-attribute : (first x : Bool) → (first && eqb y.code 75) ≡ x → (z : rules.Symbol) → Cuts t z y
      → (U.is_head (behind_of first) && is_word (ascii "ATTRIBUTE") z) ≡ x
  at-attribute first x e z c =
      rw (where-behind first, (is_word_lem (ascii "ATTRIBUTE") 75 refl).test z c.stands.coded) (rw c.cuts at e)

module _ {t o p : List ℕ} {y : Symbol} {r : Step} (topic : Bool) where
  module _ (run : Run) where
    pub body-topic : topic ≡ false → y.code ≡ 68 → Steps t o p topic_unit y r
        → Steps t o p (body_unit (around_of topic) (run_of run)) y r
    unfolding body_unit
    body-topic f k g = when _ _ _ (at-topic topic true (rw (f, k))) g

    pub body-class : 69 ≤ y.code → y.code ≤ 70 → Steps t o p (class_unit (around_of topic)) y r
        → Steps t o p (body_unit (around_of topic) (run_of run)) y r
    unfolding body_unit
    body-class h k g = unless _ _ _ (at-topic topic false (both-fail (not topic) y.code 68 (λ _. omega arith)))
        (when _ _ _ (class-test true (class-code y.code h k)) g)

    pub body-domains : y.code ≡ 74 → Steps t o p (word_step (ascii "DOMAIN") (U.body (around_of topic) U.domains)) y r
        → Steps t o p (body_unit (around_of topic) (run_of run)) y r
    unfolding body_unit
    body-domains h g = unless _ _ _ (at-topic topic false (both-fail (not topic) y.code 68 (λ _. omega arith)))
        (unless _ _ _ (class-test false (no-class y.code (omega arith) (omega arith)))
        (when _ _ _ (is-yes domain-word h) g))

    pub body-units : y.code ≡ 82 → Steps t o p (word_step (ascii "UNIT") (U.body (around_of topic) U.units)) y r
        → Steps t o p (body_unit (around_of topic) (run_of run)) y r
    unfolding body_unit
    body-units h g = unless _ _ _ (at-topic topic false (both-fail (not topic) y.code 68 (λ _. omega arith)))
        (unless _ _ _ (class-test false (no-class y.code (omega arith) (omega arith)))
        (unless _ _ _ (is-no domain-word (omega arith)) (when _ _ _ (is-yes unit-word h) g)))

    pub body_run : (not topic ≡ true → y.code ≡ 68 → ⊥) → (y.code ≡ 69 → ⊥) → (y.code ≡ 70 → ⊥)
        → (y.code ≡ 74 → ⊥) → (y.code ≡ 82 → ⊥) → Steps t o p (run_unit (around_of topic) (run_of run)) y r
        → Steps t o p (body_unit (around_of topic) (run_of run)) y r
    unfolding body_unit
    body_run a b c d e g = unless _ _ _ (at-topic topic false (both-fail (not topic) y.code 68 a))
        (unless _ _ _ (class-test false (no-class y.code b c))
        (unless _ _ _ (is-no domain-word d) (unless _ _ _ (is-no unit-word e) g)))

    pub run-domain : run ≡ Domains → y.code ≡ 1 → Steps t o p (domain_unit (around_of topic)) y r
        → Steps t o p (run_unit (around_of topic) (run_of run)) y r
    run-domain h k g = rw h (when _ _ _ (is-yes is_name k) g)

    pub run-measure : run ≡ Units → y.code ≡ 1 → Steps t o p (unit_unit (around_of topic)) y r
        → Steps t o p (run_unit (around_of topic) (run_of run)) y r
    run-measure h k g = rw h (unless _ (domain_unit (around_of topic)) _ (λ _ _. refl)
        (when _ _ _ (is-yes is_name k) g))

  pub run-close : (run : Run) → (run ≡ Domains → y.code ≡ 1 → ⊥) → (run ≡ Units → y.code ≡ 1 → ⊥)
      → Steps t o p (body_end (around_of topic)) y r → Steps t o p (run_unit (around_of topic) (run_of run)) y r
  run-close Nothing h k g =
      unless _ (domain_unit (around_of topic)) _ (λ _ _. refl)
      (unless _ (unit_unit (around_of topic)) _ (λ _ _. refl) g)
  run-close Domains h k g =
      unless _ _ _ (is-no is_name (h refl)) (unless _ (unit_unit (around_of topic)) _ (λ _ _. refl) g)
  run-close Units h k g =
      unless _ (domain_unit (around_of topic)) _ (λ _ _. refl) (unless _ _ _ (is-no is_name (k refl)) g)

  module _ (first : Bool) where
    pub members-open : first ≡ true → y.code ≡ 75
        → Steps t o p (word_step (ascii "ATTRIBUTE") (U.members (around_of topic) U.a_member)) y r
        → Steps t o p (member_unit (around_of topic) (behind_of first)) y r
    unfolding member_unit
    members-open f k g = when _ _ _ (at-attribute first true (rw (f, k))) g

    pub members-attribute : y.code ≡ 1 → Steps t o p (attribute_unit (around_of topic)) y r
        → Steps t o p (member_unit (around_of topic) (behind_of first)) y r
    unfolding member_unit
    members-attribute k g = unless _ _ _ (at-attribute first false (both-fail first y.code 75 (λ _. omega arith)))
        (when _ _ _ (is-yes is_name k) g)

    pub members-close : (first ≡ true → y.code ≡ 75 → ⊥) → (y.code ≡ 1 → ⊥)
        → Steps t o p (end_unit ";" (U.body (around_of topic) U.no_run)) y r
        → Steps t o p (member_unit (around_of topic) (behind_of first)) y r
    unfolding member_unit
    members-close h k g = unless _ _ _ (at-attribute first false (both-fail first y.code 75 h))
        (unless _ _ _ (is-no is_name k) g)

-- ---- the rest
module _ {t : List ℕ} {y : Symbol} where
  pub language-there : {n c e : Symbol} → y.code ≡ 40 → n ≡ passed t y 40 → c ≡ passed t n 1 → e ≡ passed t c 41
      → Reads t language anything y e
  language-there k e₁ e₂ e₃ =
      let round = is-mark "(" (omega arith) (omega arith) in
      let r₂ = a-name e₂ in
      let r₃ = expected (is-mark ")" (omega arith) (omega arith)) e₃ in
      if-true (is_mark "(") _ _ (is-yes round k) (mapped some (bind (expected round e₁)
      (λ _ _. bind r₂ (λ _ _. r₃) r₃.passes) (onward r₂.passes r₃.passes)) (λ _ _. tt))

  pub language-absent : (y.code ≡ 40 → ⊥) → Reads t language anything y y
  language-absent k = if-false (is_mark "(") _ _ (is-no (is-mark "(" (omega arith) (omega arith)) k) (stay none tt)
