-- What is read as a unit: its places lie within the text, those behind the name of a domain or an attribute from it on,
-- and by the grammar a class is open exactly where its members are read.
use mathlib.Core.Path.{◌≡◌, refl}
use mathlib.Core.Bool.{Bool, true, false, ◌&&◌}
use mathlib.Core.Option.{Option, none, some}
use mathlib.Core.List.{List, [], ◌∷◌}
use Prim.Native.Nat.{ℕ, zero, suc, ◌-◌, ◌≤◌, ◌<◌}
use Prim.Native.Char.{Char}
use native.Mathlib.Omega.{arith}
use lib.ListN.{length}
use lib.Dec.{ltb}
use Rattle.rules.specs.Bytes.{ascii, same, is_one_of}
use Rattle.rules.specs.Names as N
use Rattle.rules.specs.Names.{Name, Sort, name_of}
use Rattle.rules.specs.Symbols.{Fault, number_of, Symbol, end_of, name, number, quoted, dots, stop, symbol_at, is_kind}
use Rattle.rules.specs.Symbols.{is_mark, is_word, is_one_word}
use Rattle.rules.specs.Numbers.{digits}
use Rattle.rules.specs.Enumerations.{Enum, end, elem}
use Rattle.rules.specs.Readers.{Result, done, refused, Reader, and_then, ◌>>=◌, ◌>>◌, ret, refuse, expect, a_name}
use Rattle.rules.specs.Readers.{fault_of, the_mark, if_next, optional}
use Rattle.rules.specs.Grammar as G
use Rattle.rules.specs.Grammar.{enough, properties_from, properties, Reference, reference, extends, close_final}
use Rattle.rules.specs.Grammar.{Element}
use Rattle.rules.specs.Grammar.{deepest, opening_bracket, enumeration, elements, element, WrittenType, is_length}
use Rattle.rules.specs.Grammar.{text_length, text_type, unit_reference, optional_unit, range_type, numeric_type}
use Rattle.rules.specs.Grammar.{type_of}
use Rattle.rules.specs.Grammar.{type_or_reference, Bounds, Written, place_of_next, written}
use Rattle.rules.specs.Units as U
use Rattle.rules.specs.Units.{Around, in_model, in_topic, is_model, of_domains, of_units, is_head, domains, units}
use Rattle.rules.specs.Units.{no_run}
use Rattle.rules.specs.Units.{a_member, is_given, class_sort, Where, start, after_header, over, body, members, Step}
use Rattle.rules.specs.Units.{step}
use Rattle.rules.specs.Units.{header_unit, model_unit, topic_unit, class_unit, domain_unit, unit_unit, attribute_unit}
use Rattle.rules.specs.Units.{end_unit}
use Rattle.rules.specs.Units.{word_step, body_end, body_unit, member_unit, last_step, unit_at}
use Rattle.rules.specs.Judge.{first_place}
use Rattle.rules.specs.All.{AnyIs}
use Rattle.rules.proofs.SymbolLaws.{either, next-lies, next-behind}

-- ---- whether a class is open: at a place, and how a unit changes it; what a class unit opens is
-- a class or a structure
abbrev pub in_class : Where → Bool
in_class start = false
in_class after_header = false
in_class over = false
in_class (body a r) = false
in_class (members a b) = true

abbrev pub is_class : Sort → Bool
is_class N.topic = false
is_class N.class = true
is_class N.struct = true
is_class N.domain = false
is_class N.unit = false

class-sort : (b : Bool) → is_class (class_sort b) ≡ true
class-sort true = refl
class-sort false = refl

abbrev pub Moves : Bool → Option U.Unit → Bool → Type 0
Moves a none b = b ≡ a
Moves a (some (U.header v)) b = b ≡ a
Moves a (some (U.model n q)) b = b ≡ false
Moves a (some (U.topic n)) b = (a ≡ false) × (b ≡ false)
Moves a (some (U.class c n p r)) b = (a ≡ false) × (b ≡ true) × (is_class c ≡ true)
Moves a (some (U.domain n p r w)) b = (a ≡ false) × (b ≡ false)
Moves a (some (U.attribute n p w)) b = (a ≡ true) × (b ≡ true)
Moves a (some (U.unit n p r)) b = (a ≡ false) × (b ≡ false)
Moves a (some (U.close n)) b = b ≡ false

-- from where on a type stands: from the base that is written, or else from the place i
abbrev pub behind_base : ℕ → Option Reference → ℕ
behind_base i none = i
behind_base i (some r) = first_place r

module _ (t : List ℕ) where
  -- ---- what has its places within the text, from the place i on
  abbrev pub Within : ℕ → ℕ → Type 0
  Within i p = (i ≤ p) × (p ≤ length t)

  abbrev pub SymbolIn : ℕ → Symbol → Type 0
  SymbolIn i y = Within i y.place

  abbrev pub NameIn : ℕ → Name → Type 0
  NameIn i n = Within i n.offset

  abbrev pub ReferenceIn : ℕ → Reference → Type 0
  ReferenceIn i r = Within i (first_place r)

  abbrev pub EnumIn : ℕ → Enum → Type 0
  EnumIn i (end f) = Unit
  EnumIn i (elem n e r) = NameIn i n × EnumIn i e × EnumIn i r

  abbrev pub BoundsIn : ℕ → Bounds → Type 0
  BoundsIn i q = SymbolIn i q.first

  abbrev pub TypeIn : ℕ → WrittenType → Type 0
  TypeIn i (G.text m n) = AnyIs (SymbolIn i) n
  TypeIn i (G.numeric q r) = AnyIs (BoundsIn i) q × AnyIs (ReferenceIn i) r
  TypeIn i (G.enum e) = EnumIn i e
  TypeIn i (G.named r) = ReferenceIn i r

  abbrev pub WrittenIn : ℕ → Written → Type 0
  WrittenIn i w = Within i w.place × AnyIs (TypeIn i) w.type

  -- what stands behind the name of a domain or an attribute lies from it on, and a domain's type from its base on
  abbrev pub UnitIn : U.Unit → Type 0
  UnitIn (U.header v) = SymbolIn 0 v
  UnitIn (U.model n q) = NameIn 0 n
  UnitIn (U.topic n) = NameIn 0 n
  UnitIn (U.class c n p r) = NameIn 0 n × AnyIs (ReferenceIn 0) r
  UnitIn (U.domain n p r w) = NameIn 0 n × AnyIs (ReferenceIn n.offset) r × WrittenIn n.offset w
      × WrittenIn (behind_base n.offset r) w
  UnitIn (U.attribute n p w) = NameIn 0 n × WrittenIn n.offset w
  UnitIn (U.unit n p r) = NameIn 0 n × AnyIs (ReferenceIn 0) r
  UnitIn (U.close n) = NameIn 0 n

  -- ---- readers: from a symbol there they come to what has its places there, and to a symbol there, or
  -- refuse a place of the text, by a number behind 1
  pub record Stands (i : ℕ) (y : Symbol) : Type 0 where
    pub starts : i ≤ y.place
    pub ends : end_of y ≤ length t
    pub behind-1 : 1 < number_of (fault_of y.kind)

  stands_from : {i j : ℕ} {y : Symbol} → i ≤ j → Stands j y → Stands i y
  stands_from h l = record { starts = omega arith; ends = l.ends; behind-1 = l.behind-1 }

  next-stands : (i : ℕ) → i ≤ length t → Stands i (symbol_at t i)
  next-stands i h = let l = next-lies t i h in record { starts = l.starts; ends = l.ends; behind-1 = next-behind t i }

  -- with which fault and where they refuse
  abbrev pub Stops : Fault → ℕ → Type 0
  Stops f p = (p ≤ length t) × (1 < number_of f)

  abbrev pub Ends : {A : Type 0} → ℕ → (A → Type 0) → Result A → Type 0
  Ends i P (done a z) = P a × Stands i z
  Ends i P (refused f p) = Stops f p

  record Reads {A : Type 0} (i : ℕ) (P : A → Type 0) (r : Reader A) : Type 0 where
    reads : (y : Symbol) → Stands i y → Ends i P (r t y)

  gives : {A : Type 0} {i : ℕ} {P : A → Type 0} (a : A) → P a → Reads i P (ret a)
  gives a h = record { reads = λ y l. (h, l) }

  refuses : {A : Type 0} {i : ℕ} {P : A → Type 0} (f : Fault) {p : ℕ} → Stops f p → Reads i P (refuse f p)
  refuses f h = record { reads = λ y l. h }

  and-then : {A B : Type 0} {i : ℕ} {P : A → Type 0} {Q : B → Type 0} (m : Result A) (k : A → Reader B) → Ends i P m
      → ((a : A) → P a → Reads i Q (k a))
      → Ends i Q (and_then t m k)
  and-then (done a z) k h f = (f a h.0).reads z h.1
  and-then (refused n p) k h f = h

  bind : {A B : Type 0} {i : ℕ} {P : A → Type 0} {Q : B → Type 0} {r : Reader A} {k : A → Reader B} → Reads i P r
      → ((a : A) → P a → Reads i Q (k a))
      → Reads i Q (r >>= k)
  bind {r} {k} h f = record { reads = λ y l. and-then (r t y) k (h.reads y l) f }

  if-next : {A : Type 0} {i : ℕ} {P : A → Type 0} {q r : Reader A} (p : Symbol → Bool) → Reads i P q
      → Reads i P r → Reads i P (if_next p q r)
  if-next {P} p h g = record { reads = λ y l. either (Ends _ P) (p y) (λ _. h.reads y l) (λ _. g.reads y l) }

  option : {A : Type 0} {i : ℕ} {P : A → Type 0} {q : Reader A} (p : Symbol → Bool) → Reads i P q
      → Reads i (AnyIs P) (optional p q)
  option p h = if-next p (bind h (λ a k. gives _ k)) (gives _ tt)

  start-in : {i : ℕ} {y : Symbol} → Stands i y → y.place ≤ length t
  start-in l = let h = l.ends in omega arith

  -- where it is not possible
  stops : {i : ℕ} {y : Symbol} → Stands i y → Stops (fault_of y.kind) y.place
  stops l = (start-in l, l.behind-1)

  -- the symbol behind one
  behind : {i : ℕ} {y : Symbol} → Stands i y → Stands i (symbol_at t (end_of y))
  behind {y} l = let h = l.starts in stands_from (omega arith) (next-stands (end_of y) l.ends)

  passes : {i : ℕ} (p : Symbol → Bool) → Reads i (SymbolIn i) (expect p)
  passes p = record {
    reads = λ y l. either (Ends _ (SymbolIn _)) (p y) (λ _. ((l.starts, start-in l), behind l)) (λ _. stops l);
  }

  -- a symbol from its own place on, and what is read from an earlier one
  from-it : {i : ℕ} {y : Symbol} → Stands i y → Stands y.place y
  from-it l = record { starts = omega arith; ends = l.ends; behind-1 = l.behind-1 }

  earlier : {A : Type 0} (P : A → Type 0) {i j : ℕ} → i ≤ j → (m : Result A) → Ends j P m → Ends i P m
  earlier P e (done a z) h = (h.0, stands_from e h.1)
  earlier P e (refused f p) h = h

  -- a symbol of which nothing is kept
  skip : {A : Type 0} {i : ℕ} {P : A → Type 0} {r : Reader A} (p : Symbol → Bool)
      → Reads i P r → Reads i P (expect p >> r)
  skip p h = bind (passes p) (λ _ _. h)

  -- a reader that depends on the text
  by-text : {A : Type 0} {i : ℕ} {P : A → Type 0} (r : List ℕ → Reader A) → Reads i P (r t) → Reads i P (λ u y. r u u y)
  by-text r h = record { reads = λ y l. h.reads y l }

  -- of what no place is taken
  abbrev Any : {A : Type 0} → A → Type 0
  Any a = Unit

  a-name : {i : ℕ} → Reads i (NameIn i) a_name
  a-name = bind (passes (is_kind name)) (λ y h. gives _ h)

  -- ---- the parts of units
  properties-from : {i : ℕ} (f : ℕ) (l : List (List ℕ)) → Reads i Any (properties_from f l)
  unfolding properties_from
  properties-from zero l = refuses _ (omega arith)
  properties-from (suc f) l =
      bind (passes (is_one_word l)) (λ _ _.
      bind
      (if-next {P = Any} (is_mark ",") (skip (is_mark ",") (properties-from f l)) (skip (is_mark ")") (gives _ tt)))
      (λ _ _. gives _ tt))

  the-properties : {i : ℕ} (l : List (List ℕ)) → Reads i Any (properties l)
  unfolding properties
  the-properties l = if-next (is_mark "(")
      (skip (is_mark "(") (by-text (λ u. properties_from (enough u) l) (properties-from (enough t) l))) (gives _ tt)

  -- behind its first name
  abbrev behind_name : Name → Reader Reference
  behind_name a = if_next (is_mark ".")
      (the_mark "." >> (a_name >>= λ b. if_next (is_mark ".") (the_mark "." >> (a_name >>= λ c. ret (G.in_topic a b c)))
      (ret (G.in_model a b)))) (ret (G.bare a))

  reference-from : {i : ℕ} {P : Reference → Type 0} (a : Name)
      → ((r : Reference) → first_place r ≡ a.offset → P r) → Reads i P (behind_name a)
  reference-from a h =
      if-next (is_mark ".")
      (skip (is_mark ".") (bind a-name (λ b _. if-next (is_mark ".")
      (skip (is_mark ".") (bind a-name (λ c _. gives _ (h _ refl)))) (gives _ (h _ refl))))) (gives _ (h _ refl))

  the-reference : {i : ℕ} → Reads i (ReferenceIn i) reference
  unfolding reference
  the-reference {i} = bind a-name (λ a h. reference-from a (λ r e. rw e h))

  the-base : {i : ℕ} → Reads i (AnyIs (ReferenceIn i)) extends
  unfolding extends
  the-base = option (is_word (ascii "EXTENDS")) (skip (is_word (ascii "EXTENDS")) the-reference)

  -- ---- a base, and from its first symbol on what stands behind it
  -- what is read, and a symbol from the place on that f gives
  abbrev EndsAt : {A : Type 0} → (A → ℕ) → (A → Type 0) → Result A → Type 0
  EndsAt f P (done a z) = P a × Stands (f a) z
  EndsAt f P (refused g p) = Stops g p

  reference-ends : (i : ℕ) (y : Symbol) → Stands i y → EndsAt first_place (ReferenceIn i) (reference t y)
  unfolding reference
  reference-ends i y l =
      either (λ m. EndsAt first_place (ReferenceIn i) (and_then t (and_then t m (λ x. ret (name_of x))) behind_name))
      (is_kind name y)
      (λ _. go (behind_name (name_of y) t (symbol_at t (end_of y)))
      ((reference-from (name_of y) (λ r e. e)).reads (symbol_at t (end_of y)) (behind (from-it l)))) (λ _. stops l)
    where
      go : (m : Result Reference) → Ends y.place (λ r. first_place r ≡ y.place) m
          → EndsAt first_place (ReferenceIn i) m
      go (done r z) (e, k) =
          let h = l.starts in let j = start-in l in ((omega arith, omega arith), stands_from (omega arith) k)
      go (refused g p) k = k

  base-ends : (i : ℕ) (y : Symbol) → Stands i y
      → EndsAt (behind_base i) (AnyIs (ReferenceIn i)) (extends t y)
  unfolding extends
  base-ends i y l =
      either (EndsAt (behind_base i) (AnyIs (ReferenceIn i))) (is_word (ascii "EXTENDS") y)
      (λ _. either (λ (m : Result Symbol). EndsAt (behind_base i) (AnyIs (ReferenceIn i))
      (and_then t (and_then t m (λ _. reference)) (λ r. ret (some r)))) (is_word (ascii "EXTENDS") y)
      (λ _. go (reference t (symbol_at t (end_of y))) (reference-ends i (symbol_at t (end_of y)) (behind l)))
      (λ _. stops l)) (λ _. (tt, l))
    where
      go : (m : Result Reference) → EndsAt first_place (ReferenceIn i) m
          → EndsAt (behind_base i) (AnyIs (ReferenceIn i)) (and_then t m (λ r. ret (some r)))
      go (done r z) k = k
      go (refused g p) k = k

  based_on : {A : Type 0} {i : ℕ} {P : A → Type 0} {k : Option Reference → Reader A}
      → ((r : Option Reference) → AnyIs (ReferenceIn i) r → Reads (behind_base i r) P (k r)) → Reads i P (extends >>= k)
  based_on {i} {P} {k} f = record { reads = λ y l. go (extends t y) (base-ends i y l) }
    where
      go : (m : Result (Option Reference)) → EndsAt (behind_base i) (AnyIs (ReferenceIn i)) m
          → Ends i P (and_then t m k)
      go (done none z) (h, l) = (f none h).reads z l
      go (done (some r) z) (h, l) = earlier P h.0 (k (some r) t z) ((f (some r) h).reads z l)
      go (refused g p) h = h

  close-final : {i : ℕ} → Reads i (EnumIn i) close_final
  unfolding close_final
  close-final = skip (is_word (ascii "FINAL")) (skip (is_mark ")") (gives _ tt))

  the-bracket : {i : ℕ} (d : ℕ) → Reads i (SymbolIn i) (opening_bracket d)
  the-bracket d = bind (passes (is_mark "(")) (λ y h. if-next (λ _. ltb 0 d) (gives _ h) (refuses _ (h.1, omega arith)))

  abbrev ElementIn : ℕ → Element → Type 0
  ElementIn i e = NameIn i e.name × EnumIn i e.inner

  mutual
    unfolding enumeration

    the-enumeration : {i : ℕ} (f d : ℕ) → Reads i (EnumIn i) (enumeration f d)
    the-enumeration zero d = refuses _ (omega arith)
    the-enumeration (suc f) d =
        bind (the-bracket d) (λ _ _. if-next (is_word (ascii "FINAL")) close-final (the_elements f (d - 1)))

    the_elements : {i : ℕ} (f d : ℕ) → Reads i (EnumIn i) (elements f d)
    the_elements zero d = refuses _ (omega arith)
    the_elements (suc f) d =
        bind (the-element f d)
        (λ e h. bind (if-next {P = EnumIn _} (is_mark ",") (skip (is_mark ",") (the_elements f d))
        (if-next (is_mark ":") (skip (is_mark ":") close-final) (skip (is_mark ")") (gives _ tt))))
        (λ r k. gives _ (h.0, h.1, k)))

    the-element : {i : ℕ} (f d : ℕ) → Reads i (ElementIn i) (element f d)
    the-element zero d = refuses _ (omega arith)
    the-element (suc f) d =
        bind a-name
        (λ n h. bind (if-next {P = EnumIn _} (is_mark "(") (the-enumeration f d) (gives _ tt)) (λ i k. gives _ (h, k)))

  the-length : {i : ℕ} → Reads i (SymbolIn i) text_length
  unfolding text_length
  the-length =
      bind (passes is_length)
      (λ y h. if-next (λ _. ltb 4294967295 (digits y.bytes 0)) (refuses _ (h.1, omega arith)) (gives _ h))

  the-text : {i : ℕ} → Reads i (TypeIn i) text_type
  unfolding text_type
  the-text =
      bind (passes (is_one_word (ascii "TEXT" ∷ ascii "MTEXT" ∷ [])))
      (λ _ _. bind (option (is_mark "*") (skip (is_mark "*") the-length)) (λ n h. gives _ h))

  the-measure : {i : ℕ} → Reads i (AnyIs (ReferenceIn i)) optional_unit
  unfolding optional_unit unit_reference
  the-measure =
      option (is_mark "[") (skip (is_mark "[") (bind the-reference (λ r h. skip (is_mark "]") (gives _ h))))

  the-range : {i : ℕ} → Reads i (TypeIn i) range_type
  unfolding range_type
  the-range =
      bind (passes (is_kind number)) (λ x h. skip (is_kind dots)
      (bind (passes (is_kind number)) (λ y _. bind the-measure (λ u k. gives _ (h, k)))))

  the-numeric : {i : ℕ} → Reads i (TypeIn i) numeric_type
  unfolding numeric_type
  the-numeric = skip (is_word (ascii "NUMERIC")) (bind the-measure (λ u k. gives _ (tt, k)))

  the_type : {i : ℕ} → Reads i (TypeIn i) type_of
  unfolding type_of
  the_type =
      if-next (is_one_word (ascii "TEXT" ∷ ascii "MTEXT" ∷ [])) the-text
      (if-next (is_word (ascii "NUMERIC")) the-numeric
      (if-next (is_mark "(") (bind (by-text (λ u. enumeration (enough u) deepest) (the-enumeration (enough t) deepest))
      (λ e h. gives _ h)) the-range))

  type-or-reference : {i : ℕ} → Reads i (TypeIn i) type_or_reference
  unfolding type_or_reference
  type-or-reference = if-next (is_kind name) (bind the-reference (λ r h. gives _ h)) the_type

  next_place : {i : ℕ} → Reads i (Within i) place_of_next
  next_place = record { reads = λ y l. ((l.starts, start-in l), l) }

  the_written : {i : ℕ} (c : Bool) (q : Reader WrittenType) → Reads i (TypeIn i) q → Reads i (WrittenIn i) (written c q)
  unfolding written
  the_written c q h =
      if-next (is_word (ascii "MANDATORY"))
      (skip (is_word (ascii "MANDATORY")) (bind next_place (λ p k.
      bind (if-next {P = AnyIs (TypeIn _)} (λ y. c && is_mark ";" y) (gives none tt) (bind h (λ x j. gives (some x) j)))
      (λ x j. gives (record { mandatory = true; place = p; type = x }) (k, j)))))
      (bind next_place (λ p k. bind h (λ x j. gives (record { mandatory = false; place = p; type = some x }) (k, j))))

  -- ---- units
  -- a name, and from it on what stands behind it
  named : {A : Type 0} {P : A → Type 0} {k : Name → Reader A}
      → ((n : Name) → NameIn 0 n → Reads n.offset P (k n)) → Reads 0 P (a_name >>= k)
  named {P} {k} f =
      record {
        reads = λ y l. either (λ m. Ends 0 P (and_then t (and_then t m (λ x. ret (name_of x))) k)) (is_kind name y)
            (λ _. earlier P (omega arith) (k (name_of y) t (symbol_at t (end_of y)))
            ((f (name_of y) (l.starts, start-in l)).reads (symbol_at t (end_of y)) (behind (from-it l))))
            (λ _. stops l);
      }

  -- what is read has its places from two places on
  from-both : {A : Type 0} {i j : ℕ} {P Q : A → Type 0} {r : Reader A} → i ≤ j → Reads i P r → Reads j Q r
      → Reads j (λ a. P a × Q a) r
  from-both {A} {i} {j} {P} {Q} {r} e h g =
      record { reads = λ y l. go (r t y) (h.reads y (stands_from e l)) (g.reads y l) }
    where
      go : (m : Result A) → Ends i P m → Ends j Q m → Ends j (λ a. P a × Q a) m
      go (done a z) k l = ((k.0, l.0), l.1)
      go (refused f p) k l = k

  -- a domain's type, from its name on and from its base on
  base-written : (i : ℕ) (r : Option Reference) → AnyIs (ReferenceIn i) r
      → Reads (behind_base i r) (λ x. WrittenIn i x × WrittenIn (behind_base i r) x) (written (is_given r) type_of)
  base-written i r h =
      from-both (base-behind r h) (the_written (is_given r) type_of the_type)
      (the_written (is_given r) type_of the_type)
    where
      base-behind : (r : Option Reference) → AnyIs (ReferenceIn i) r → i ≤ behind_base i r
      base-behind none h = omega arith
      base-behind (some q) h = h.0

  pub record Read (w : Where) (q : Step) : Type 0 where
    pub places : AnyIs UnitIn q.unit
    pub moves : Moves (in_class w) q.unit (in_class q.next)

  module _ (w : Where) where
    last : {i : ℕ} (p : Symbol → Bool) (u : Option U.Unit) (v : Where) → AnyIs UnitIn u
        → Moves (in_class w) u (in_class v)
        → Reads i (Read w) (expect p >>= λ e. step u v e)
    last p u v h m = bind (passes p) (λ e _. gives _ (record { places = h; moves = m }))

    the-topic : in_class w ≡ false → Reads 0 (Read w) topic_unit
    unfolding topic_unit
    the-topic m = skip (is_word (ascii "TOPIC")) (bind a-name (λ n h. last (is_mark "=") _ _ h (m, refl)))

    the_class : (a : Around) → in_class w ≡ false → Reads 0 (Read w) (class_unit a)
    unfolding class_unit
    the_class a m =
        bind (passes (is_one_word (ascii "CLASS" ∷ ascii "STRUCTURE" ∷ []))) (λ k _.
        bind a-name (λ n h. bind (the-properties _) (λ p _. bind the-base (λ r i.
        last (is_mark "=") _ _ (h, i) (m, refl, class-sort (same k.bytes (ascii "STRUCTURE")))))))

    the-domain : (a : Around) → in_class w ≡ false → Reads 0 (Read w) (domain_unit a)
    unfolding domain_unit
    the-domain a m =
        named (λ n h. bind (the-properties _) (λ p _. based_on (λ r i. skip (is_mark "=")
        (bind (base-written n.offset r i) (λ x j. last (is_mark ";") _ _ (h, i, j.0, j.1) (m, refl))))))

    the-unit-of : (a : Around) → in_class w ≡ false → Reads 0 (Read w) (unit_unit a)
    unfolding unit_unit
    the-unit-of a m =
        bind a-name (λ n h. bind (the-properties _) (λ p _. bind the-base (λ r i.
        last (is_mark ";") _ _ (h, i) (m, refl))))

    the-attribute : (a : Around) → in_class w ≡ true → Reads 0 (Read w) (attribute_unit a)
    unfolding attribute_unit
    the-attribute a m =
        named (λ n h. bind (the-properties _) (λ p _. skip (is_mark ":")
        (bind (the_written (is_one_of (ascii "EXTENDED") p) type_or_reference type-or-reference)
        (λ x j. last (is_mark ";") _ _ (h, j) (m, refl)))))

    the_end : (c : Char) (v : Where) → in_class v ≡ false → Reads 0 (Read w) (end_unit c v)
    unfolding end_unit
    the_end c v m = skip (is_word (ascii "END")) (bind a-name (λ n h. last (is_mark c) _ v h m))

    the_word_lem : (k : List ℕ) (v : Where) → in_class v ≡ in_class w → Reads 0 (Read w) (word_step k v)
    unfolding word_step
    the_word_lem k v m = last (is_word k) none v tt m

    the-body-end : (a : Around) → Reads 0 (Read w) (body_end a)
    unfolding body_end
    the-body-end in_topic = the_end ";" (body in_model no_run) refl
    the-body-end in_model = the_end "." over refl

  the-unit : (w : Where) → Reads 0 (Read w) (unit_at w)
  unfolding unit_at header_unit model_unit body_unit member_unit last_step
  the-unit start =
      skip (is_word (ascii "INTERLIS")) (bind (passes (is_kind number)) (λ v h. last start (is_mark ";") _ _ h refl))
  the-unit after_header =
      skip (is_word (ascii "MODEL")) (bind a-name (λ n h.
      bind (option (is_mark "(") (skip (is_mark "(") (bind a-name (λ _ _. passes (is_mark ")"))))) (λ _ _.
      skip (is_word (ascii "AT"))
      (bind (passes (is_kind quoted)) (λ _ _. skip (is_word (ascii "VERSION")) (bind (passes (is_kind quoted)) (λ _ _.
      last after_header (is_mark "=") _ _ h refl)))))))
  the-unit (body a r) =
      let w = body a r in
      if-next (λ y. is_model a && is_word (ascii "TOPIC") y) (the-topic w refl)
      (if-next (is_one_word (ascii "CLASS" ∷ ascii "STRUCTURE" ∷ [])) (the_class w a refl)
      (if-next (is_word (ascii "DOMAIN")) (the_word_lem w (ascii "DOMAIN") (body a domains) refl)
      (if-next (is_word (ascii "UNIT")) (the_word_lem w (ascii "UNIT") (body a units) refl)
      (if-next (λ y. of_domains r && is_kind name y) (the-domain w a refl)
      (if-next (λ y. of_units r && is_kind name y) (the-unit-of w a refl) (the-body-end w a))))))
  the-unit (members a b) =
      let w = members a b in
      if-next (λ y. is_head b && is_word (ascii "ATTRIBUTE") y)
      (the_word_lem w (ascii "ATTRIBUTE") (members a a_member) refl)
      (if-next (is_kind name) (the-attribute w a refl) (the_end w ";" (body a no_run) refl))
  the-unit over = last over (is_kind stop) none over tt refl

  -- from a place of the text
  pub unit-read : (w : Where) (at : ℕ) → at ≤ length t → Ends 0 (Read w) (unit_at w t (symbol_at t at))
  unit-read w at h = (the-unit w).reads (symbol_at t at) (stands_from (omega arith) (next-stands at h))
