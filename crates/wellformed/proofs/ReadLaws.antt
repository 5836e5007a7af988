-- Every unit that is read from a text is fair.
use mathlib.Core.Path.{◌≡◌, refl, sym, ap, ◌∙◌, subst}
use mathlib.Core.Bool.{Bool, true, false, ◌&&◌}
use mathlib.Core.Option.{Option, none, some}
use mathlib.Core.List.{List, [], ◌∷◌}
use Prim.Native.Nat.{ℕ, zero, suc, ◌-◌, ◌<◌}
use Prim.Native.Char.{Char}
use native.Mathlib.Omega.{arith}
use lib.ListN.{length}
use lib.Dec.{ltb}
use borrow.Author.Tests.{ltb-true, ltb-false}
use Rattle.rules.specs.Bytes.{ascii, same, is_one_of}
use Rattle.rules.specs.Names.{name_of}
use Rattle.rules.specs.Symbols.{impossible, Kind, Symbol, symbol, name, number, quoted, dots, stop, is_kind, is_mark}
use Rattle.rules.specs.Symbols.{is_word, is_one_word}
use Rattle.rules.specs.Readers.{done, refused, Reader, ret, ◌>>=◌, expect, a_name, a_number, a_string}
use Rattle.rules.specs.Readers.{the_mark, the_word}
use Rattle.rules.specs.Readers.{if_next}
use Rattle.rules.specs.Numbers.{digits}
use Rattle.rules.specs.Enumerations.{Enum}
use Rattle.rules.specs.Grammar.{enough, properties_from, properties, reference, extends, close_final, deepest}
use Rattle.rules.specs.Grammar.{opening_bracket, enumeration, elements, element, WrittenType, is_length, text_length}
use Rattle.rules.specs.Grammar.{text_type, unit_reference, optional_unit, range_type, numeric_type, type_of}
use Rattle.rules.specs.Grammar.{type_or_reference}
use Rattle.rules.specs.Grammar.{place_of_next, written}
use Rattle.rules.specs.Units as U
use Rattle.rules.specs.Units.{Around, is_model, of_domains, of_units, is_head, Where, start, after_header, over, body}
use Rattle.rules.specs.Units.{members, Step}
use Rattle.rules.specs.Units.{is_given, header_unit, model_unit, topic_unit, class_unit, domain_unit, attribute_unit}
use Rattle.rules.specs.Units.{end_unit}
use Rattle.rules.specs.Units.{unit_unit, word_step, body_end, body_unit, member_unit, last_step, unit_at}
use Rattle.rules.specs.Judge.{is_naming}
use Rattle.readers.specs.Reads.{Stands}
use Rattle.enumerations.specs.Standing.{InText, Named, plain, DeepIn, Deep}
use Rattle.rules.specs.All.{AnyIs}
use Rattle.wellformed.specs.Fairness.{FairReference, FairNumber, FairLength, FairType, Begins, FairWritten}
use Rattle.wellformed.specs.Fairness.{FairSymbol, FairUnit}
use Rattle.rules.proofs.AllLaws.{apart}
use Rattle.wellformed.proofs.ReaderLaws.{Gives, given, bind, stays, refuses, weaker, if-next, choice, option}
use Rattle.wellformed.proofs.ReaderLaws.{by-text, from-here, passes}
use Rattle.wellformed.proofs.SymbolLaws.{Whole, next-whole, in_text, symbol-in-text, fair-number}

-- what holds of a type that begins at a symbol
abbrev Fairly : List ℕ → Symbol → WrittenType → Type 0
Fairly t y x = FairType t x × Begins y.place x × (is_naming (some x) ≡ false)

-- one enumeration further in
inside : (d : ℕ) (i : Enum) → Deep (d - 1) i → 0 < d → DeepIn (plain i) d (Deep (d - 1) i)
inside d i h l = go (plain i)
  where
    go : (b : Bool) → DeepIn b d (Deep (d - 1) i)
    go true = tt
    go false = (l, h)

module _ {t : List ℕ} where
  -- ---- symbols
  takes : {P : Symbol → Symbol → Type 0} (p : Symbol → Bool) → ((y : Symbol) → Whole t y → p y ≡ true → P y y)
      → Gives t (Whole t) P (expect p)
  takes p h = passes p (next-whole t) h

  skips : (p : Symbol → Bool) → Gives t (Whole t) (λ _ _. Unit {0}) (expect p)
  skips p = takes p (λ _ _ _. tt)

  the-mark : (c : Char) → Gives t (Whole t) (λ _ _. Unit {0}) (the_mark c)
  the-mark c = skips (is_mark c)

  the_word_lem : (w : List ℕ) → Gives t (Whole t) (λ _ _. Unit {0}) (the_word w)
  the_word_lem w = skips (is_word w)

  a-string : Gives t (Whole t) (λ _ a. FairSymbol t a) a_string
  a-string = takes (is_kind quoted) (λ y h e. symbol-in-text t y h)

  a-number : Gives t (Whole t) (λ y a. FairNumber a × (a.place ≡ y.place)) a_number
  a-number = takes (is_kind number) (λ y h e. (fair-number t y h e, refl))

  a-symbol : Gives t (Whole t) (λ _ a. FairSymbol t a) a_number
  a-symbol = takes (is_kind number) (λ y h e. symbol-in-text t y h)

  -- ---- properties
  properties-from : (f : ℕ) (l : List (List ℕ)) → Gives t (Whole t) (λ _ _. Unit {0}) (properties_from f l)
  unfolding properties_from
  properties-from zero l = refuses
  properties-from (suc f) l =
      bind (skips (is_one_word l)) (λ _ _ _. bind {P = λ _ _. Unit {0}}
      (if-next (is_mark ",") (bind (the-mark ",") (λ _ _ _. properties-from f l))
      (bind (the-mark ")") (λ _ _ _. stays (λ _. tt)))) (λ _ _ _. stays (λ _. tt)))

  the-properties : (l : List (List ℕ)) → Gives t (Whole t) (λ _ _. Unit {0}) (properties l)
  unfolding properties
  the-properties l =
      if-next (is_mark "(") (bind (the-mark "(")
      (λ _ _ _. by-text (λ t. properties_from (enough t) l) (properties-from (enough t) l))) (stays (λ _. tt))

  -- ---- types without names
  text-length : Gives t (Whole t) (λ _ y. FairLength y) text_length
  unfolding text_length
  text-length =
      bind (skips is_length) (λ _ y _. choice (ltb 4294967295 (digits y.bytes 0)) (λ _. refuses)
      (λ e. stays (λ _. let q = ltb-false 4294967295 (digits y.bytes 0) e in omega arith)))

  text-type : Gives t (Whole t) (Fairly t) text_type
  unfolding text_type
  text-type =
      bind (skips (is_one_word (ascii "TEXT" ∷ ascii "MTEXT" ∷ []))) (λ _ _ _.
      bind (option (is_mark "*") (bind (the-mark "*") (λ _ _ _. text-length))) (λ _ n h. stays (λ _. (h, tt, refl))))

module _ {t : List ℕ} (small : length t < 4294967296) where
  a-name : Gives t (Whole t) (λ _ n. InText t n) a_name
  a-name = bind (takes {P = λ _ a. InText t (name_of a)} (is_kind name) (λ y h e. in_text t y h small e))
      (λ _ a h. stays (λ _. h))

  -- ---- references
  the-reference : Gives t (Whole t) (λ _ r. FairReference t r) reference
  unfolding reference
  the-reference =
      bind a-name (λ _ a h. if-next (is_mark ".")
      (bind (the-mark ".") (λ _ _ _. bind a-name (λ _ b k. if-next (is_mark ".")
      (bind (the-mark ".") (λ _ _ _. bind a-name (λ _ c l. stays (λ _. (h, k, l))))) (stays (λ _. (h, k))))))
      (stays (λ _. h)))

  the-base : Gives t (Whole t) (λ _. AnyIs (FairReference t)) extends
  unfolding extends
  the-base = option (is_word (ascii "EXTENDS")) (bind (the_word_lem (ascii "EXTENDS")) (λ _ _ _. the-reference))

  -- ---- enumerations: d may still nest
  close-final : (k : ℕ) → Gives t (Whole t) (λ _ e. Named t e × Deep k e) close_final
  unfolding close_final
  close-final k = bind (the_word_lem (ascii "FINAL")) (λ _ _ _. bind (the-mark ")") (λ _ _ _. stays (λ _. (tt, tt))))

  opens : (d : ℕ) → Gives t (Whole t) (λ _ _. 0 < d) (opening_bracket d)
  opens d = bind (the-mark "(") (λ _ _ _. choice (ltb 0 d) (λ e. stays (λ _. ltb-true 0 d e)) (λ _. refuses))

  mutual
    unfolding enumeration

    an-enumeration : (f d : ℕ) → Gives t (Whole t) (λ _ e. Named t e × Deep (d - 1) e × (0 < d)) (enumeration f d)
    an-enumeration zero d = refuses
    an-enumeration (suc f) d =
        bind (opens d) (λ _ _ l. weaker (λ _ e h. (h.0, h.1, l))
        (if-next (is_word (ascii "FINAL")) (close-final (d - 1)) (the_elements f (d - 1))))

    the_elements : (f d : ℕ) → Gives t (Whole t) (λ _ e. Named t e × Deep d e) (elements f d)
    the_elements zero d = refuses
    the_elements (suc f) d =
        bind (an-element f d) (λ _ e h.
        bind {P = λ _ r. Named t r × Deep d r} (if-next (is_mark ",") (bind (the-mark ",") (λ _ _ _. the_elements f d))
        (if-next (is_mark ":") (bind (the-mark ":") (λ _ _ _. close-final d))
        (bind (the-mark ")") (λ _ _ _. stays (λ _. (tt, tt))))))
        (λ _ r k. stays (λ _. ((h.0, h.1, k.0), (h.2, k.1)))))

    an-element : (f d : ℕ) → Gives t (Whole t) (λ _ e.
        InText t e.name × Named t e.inner × DeepIn (plain e.inner) d (Deep (d - 1) e.inner)) (element f d)
    an-element zero d = refuses
    an-element (suc f) d =
        bind a-name (λ _ n h. bind {P = λ _ i. Named t i × DeepIn (plain i) d (Deep (d - 1) i)}
        (if-next (is_mark "(") (weaker (λ _ i k. (k.0, inside d i k.1 k.2)) (an-enumeration f d))
        (stays (λ _. (tt, tt))))
        (λ _ i k. stays (λ _. (h, k.0, k.1))))

  -- ---- types
  unit-of-number : Gives t (Whole t) (λ _. AnyIs (FairReference t)) optional_unit
  unfolding optional_unit unit_reference
  unit-of-number = option (is_mark "[") (bind (the-mark "[")
      (λ _ _ _. bind the-reference (λ _ r h. bind (the-mark "]") (λ _ _ _. stays (λ _. h)))))

  range-type : Gives t (Whole t) (Fairly t) range_type
  unfolding range_type
  range-type =
      bind a-number (λ y a h. bind (skips (is_kind dots)) (λ _ _ _. bind a-number (λ _ b k.
      bind unit-of-number (λ _ u l. stays (λ _. (((h.0, k.0), l), h.1, refl))))))

  numeric-type : Gives t (Whole t) (Fairly t) numeric_type
  unfolding numeric_type
  numeric-type =
      bind (the_word_lem (ascii "NUMERIC")) (λ _ _ _. bind unit-of-number (λ _ u l. stays (λ _. ((tt, l), tt, refl))))

  a-type : Gives t (Whole t) (Fairly t) type_of
  unfolding type_of
  a-type =
      if-next (is_one_word (ascii "TEXT" ∷ ascii "MTEXT" ∷ [])) text-type
      (if-next (is_word (ascii "NUMERIC")) numeric-type
      (if-next (is_mark "(") (bind (by-text (λ t. enumeration (enough t) deepest) (an-enumeration (enough t) deepest))
      (λ _ e h. stays (λ _. ((h.0, h.1), tt, refl)))) range-type))

  type-or-reference : Gives t (Whole t) (λ y x. FairType t x × Begins y.place x × Unit {0}) type_or_reference
  unfolding type_or_reference
  type-or-reference = if-next (is_kind name) (bind the-reference (λ _ r h. stays (λ _. (h, tt, tt))))
      (weaker (λ y x h. (h.0, h.1, tt)) a-type)

module _ {t : List ℕ} (Q : WrittenType → Type 0) {q : Reader WrittenType}
    (h : Gives t (Whole t) (λ y x. FairType t x × Begins y.place x × Q x) q) where
  -- a type is there
  with-type : (based m : Bool) → Gives t (Whole t) (λ _ w. FairWritten t based w × AnyIs Q w.type)
      (place_of_next >>= λ p. q >>= λ x. ret (record { mandatory = m; place = p; type = some x }))
  with-type based m =
      from-here (λ p. bind h (λ y x k. stays
      (λ _ e. (record { type = k.0; begins = subst (λ (i : ℕ). Begins i x) e k.1; alone = λ z. apart z }, k.2))))

  -- it may be missing
  may-type : (based : Bool) → Gives t (Whole t) (λ _ w. FairWritten t based w × AnyIs Q w.type)
      (place_of_next >>= λ p. if_next (λ y. based && is_mark ";" y) (ret none) (q >>= λ x. ret (some x))
      >>= λ x. ret (record { mandatory = true; place = p; type = x }))
  may-type based =
      from-here (λ p. bind {P = λ y x.
      AnyIs (FairType t) x × AnyIs (Begins y.place) x × AnyIs Q x × (x ≡ none → based ≡ true)} (typed based)
      (λ y x k. stays
      (λ _ e. (record { type = k.0; begins = subst (λ (i : ℕ). AnyIs (Begins i) x) e k.1; alone = k.3 }, k.2))))
    where
      there : (b : Bool) → Gives t (Whole t)
          (λ y x. AnyIs (FairType t) x × AnyIs (Begins y.place) x × AnyIs Q x × (x ≡ none → b ≡ true))
          (q >>= λ x. ret (some x))
      there b = bind h (λ y x k. stays (λ _. (k.0, k.1, k.2, λ z. apart z)))

      typed : (b : Bool) → Gives t (Whole t)
          (λ y x. AnyIs (FairType t) x × AnyIs (Begins y.place) x × AnyIs Q x × (x ≡ none → b ≡ true))
          (if_next (λ y. b && is_mark ";" y) (ret none) (q >>= λ x. ret (some x)))
      typed true = if-next (λ y. is_mark ";" y) (stays (λ _. (tt, tt, tt, λ _. refl))) (there true)
      typed false = there false

  the_written : (based : Bool) → Gives t (Whole t) (λ _ w. FairWritten t based w × AnyIs Q w.type) (written based q)
  unfolding written
  the_written based = if-next (is_word (ascii "MANDATORY"))
      (bind (the_word_lem (ascii "MANDATORY")) (λ _ _ _. may-type based)) (with-type based false)

not-naming : (x : Option WrittenType) → AnyIs (λ (y : WrittenType). is_naming (some y) ≡ false) x → is_naming x ≡ false
not-naming none h = refl
not-naming (some x) h = h

-- ---- units
abbrev Reads : List ℕ → Symbol → Step → Type 0
Reads t y q = AnyIs (FairUnit t) q.unit

module _ {t : List ℕ} (small : length t < 4294967296) where
  end-unit : (c : Char) (w : Where) → Gives t (Whole t) (Reads t) (end_unit c w)
  unfolding end_unit
  end-unit c w = bind (the_word_lem (ascii "END"))
      (λ _ _ _. bind (a-name small) (λ _ n h. bind (the-mark c) (λ _ _ _. stays (λ _. h))))

  word-step : (k : List ℕ) (w : Where) → Gives t (Whole t) (Reads t) (word_step k w)
  unfolding word_step
  word-step k w = bind (the_word_lem k) (λ _ _ _. stays (λ _. tt))

  header-unit : Gives t (Whole t) (Reads t) header_unit
  unfolding header_unit
  header-unit = bind (the_word_lem (ascii "INTERLIS"))
      (λ _ _ _. bind a-symbol (λ _ v h. bind (the-mark ";") (λ _ _ _. stays (λ _. h))))

  model-unit : Gives t (Whole t) (Reads t) model_unit
  unfolding model_unit
  model-unit =
      bind (the_word_lem (ascii "MODEL")) (λ _ _ _. bind (a-name small) (λ _ n h.
      bind (option (is_mark "(") (bind (the-mark "(") (λ _ _ _. bind (a-name small) (λ _ _ _. the-mark ")")))) (λ _ _ _.
      bind (the_word_lem (ascii "AT")) (λ _ _ _. bind a-string (λ _ a j. bind (the_word_lem (ascii "VERSION"))
      (λ _ _ _. bind a-string (λ _ v k. bind (the-mark "=") (λ _ _ _. stays (λ _. (h, j, k))))))))))

  topic-unit : Gives t (Whole t) (Reads t) topic_unit
  unfolding topic_unit
  topic-unit = bind (the_word_lem (ascii "TOPIC"))
      (λ _ _ _. bind (a-name small) (λ _ n h. bind (the-mark "=") (λ _ _ _. stays (λ _. h))))

  class-unit : (i : Around) → Gives t (Whole t) (Reads t) (class_unit i)
  unfolding class_unit
  class-unit i =
      bind (skips (is_one_word (ascii "CLASS" ∷ ascii "STRUCTURE" ∷ [])))
      (λ _ d _. bind (a-name small) (λ _ n h. bind (the-properties (ascii "ABSTRACT" ∷ ascii "FINAL" ∷ [])) (λ _ p _.
      bind (the-base small)
      (λ _ b k. bind (the-mark "=") (λ _ _ _. stays (λ _. (h, k, (same d.bytes (ascii "STRUCTURE"), refl))))))))

  domain-unit : (i : Around) → Gives t (Whole t) (Reads t) (domain_unit i)
  unfolding domain_unit
  domain-unit i =
      bind (a-name small) (λ _ n h. bind (the-properties (ascii "ABSTRACT" ∷ ascii "FINAL" ∷ []))
      (λ _ p _. bind (the-base small) (λ _ b k. bind (the-mark "=") (λ _ _ _.
      bind (the_written (λ x. is_naming (some x) ≡ false) (a-type small) (is_given b))
      (λ _ w l. bind (the-mark ";") (λ _ _ _. stays (λ _. (h, k, l.0, not-naming w.type l.1))))))))

  unit-unit : (i : Around) → Gives t (Whole t) (Reads t) (unit_unit i)
  unfolding unit_unit
  unit-unit i =
      bind (a-name small) (λ _ n h. bind (the-properties (ascii "ABSTRACT" ∷ []))
      (λ _ p _. bind (the-base small) (λ _ b k. bind (the-mark ";") (λ _ _ _. stays (λ _. (h, k))))))

  attribute-unit : (i : Around) → Gives t (Whole t) (Reads t) (attribute_unit i)
  unfolding attribute_unit
  attribute-unit i =
      bind (a-name small)
      (λ _ n h. bind (the-properties (ascii "EXTENDED" ∷ ascii "FINAL" ∷ [])) (λ _ p _. bind (the-mark ":") (λ _ _ _.
      bind (the_written (λ _. Unit) (type-or-reference small) (is_one_of (ascii "EXTENDED") p))
      (λ _ w l. bind (the-mark ";") (λ _ _ _. stays (λ _. (h, l.0)))))))

  body_end_lem : (i : Around) → Gives t (Whole t) (Reads t) (body_end i)
  unfolding body_end
  body_end_lem U.in_topic = end-unit ";" (body U.in_model U.no_run)
  body_end_lem U.in_model = end-unit "." over

  the-unit : (w : Where) → Gives t (Whole t) (Reads t) (unit_at w)
  unfolding unit_at body_unit member_unit last_step
  the-unit start = header-unit
  the-unit after_header = model-unit
  the-unit (body i r) =
      if-next (λ y. is_model i && is_word (ascii "TOPIC") y) topic-unit
      (if-next (is_one_word (ascii "CLASS" ∷ ascii "STRUCTURE" ∷ [])) (class-unit i)
      (if-next (is_word (ascii "DOMAIN")) (word-step (ascii "DOMAIN") (body i U.domains))
      (if-next (is_word (ascii "UNIT")) (word-step (ascii "UNIT") (body i U.units))
      (if-next (λ y. of_domains r && is_kind name y) (domain-unit i)
      (if-next (λ y. of_units r && is_kind name y) (unit-unit i) (body_end_lem i))))))
  the-unit (members i r) =
      if-next (λ y. is_head r && is_word (ascii "ATTRIBUTE") y) (word-step (ascii "ATTRIBUTE") (members i U.a_member))
      (if-next (is_kind name) (attribute-unit i) (end-unit ";" (body i U.no_run)))
  the-unit over = bind (skips (is_kind stop)) (λ _ _ _. stays (λ _. tt))

-- ---- no unit begins with a number
number-stops : (w : Where) (t : List ℕ) (p : ℕ) (b : List ℕ) → unit_at w t (symbol number p b) ≡ refused impossible p
unfolding unit_at header_unit model_unit topic_unit class_unit domain_unit unit_unit attribute_unit end_unit word_step
    body_end body_unit member_unit last_step
number-stops start t p b = refl
number-stops after_header t p b = refl
number-stops (body U.in_topic U.domains) t p b = refl
number-stops (body U.in_topic U.units) t p b = refl
number-stops (body U.in_topic U.no_run) t p b = refl
number-stops (body U.in_model U.domains) t p b = refl
number-stops (body U.in_model U.units) t p b = refl
number-stops (body U.in_model U.no_run) t p b = refl
number-stops (members i U.its_head) t p b = refl
number-stops (members i U.a_member) t p b = refl
number-stops over t p b = refl

no_number : (w : Where) (t : List ℕ) (y : Symbol) (q : Step) (z : Symbol)
    → unit_at w t y ≡ done q z → y.kind ≡ number → ⊥
no_number w t y q z e k =
    let h = number-stops w t y.place y.bytes in
    let f : y ≡ symbol number y.place y.bytes = ap (λ (x : Kind). symbol x y.place y.bytes) k in
    let r : done q z ≡ refused impossible y.place = sym e ∙ ap (unit_at w t) f ∙ h in
    let n : ◌≡◌ {A = ℕ} 0 1 = cc in
    omega arith

pub unit-fair : (t : List ℕ) (w : Where) (y : Symbol) (q : Step) (z : Symbol) → length t < 4294967296 → Stands t y
    → unit_at w t y ≡ done q z → AnyIs (FairUnit t) q.unit
unit-fair t w y q z l s e =
    given (the-unit l w) y (record { stands = s; sized = λ k. absurd (no_number w t y q z e k) }) q z e
