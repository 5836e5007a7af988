-- Which units come in which state: by the grammar a class is open exactly where its members are read.
use mathlib.Core.Path.{◌≡◌, refl, sym, ap, ◌∙◌, subst}
use mathlib.Core.Bool.{Bool, true, false, ◌&&◌}
use mathlib.Core.Option.{Option, none, some}
use mathlib.Core.List.{List, [], ◌∷◌}
use Prim.Native.Nat.{ℕ}
use Prim.Native.Char.{Char}
use Rattle.rules.specs.Bytes.{ascii, is_one_of}
use Rattle.rules.specs.Names.{Name, Sort}
use Rattle.rules.specs.Symbols.{Symbol, name, stop, is_kind, is_mark, is_word, is_one_word}
use Rattle.rules.specs.Readers.{done, ◌>>◌, expect, a_name, a_number, a_string, the_mark, the_word, optional}
use Rattle.rules.specs.Grammar.{Reference, Written, properties, extends, written, type_of, type_or_reference}
use Rattle.rules.specs.Units as U
use Rattle.rules.specs.Units.{Strings, Around, is_model, Run, of_domains, of_units, Behind, is_head, Where, start}
use Rattle.rules.specs.Units.{after_header, over}
use Rattle.rules.specs.Units.{body, members, Step, is_given, header_unit, model_unit, topic_unit, class_unit}
use Rattle.rules.specs.Units.{domain_unit}
use Rattle.rules.specs.Units.{unit_unit, attribute_unit, end_unit, word_step, body_end, body_unit, member_unit}
use Rattle.rules.specs.Units.{last_step}
use Rattle.rules.specs.Units.{unit_at}
use Rattle.rules.specs.Declarations.{Def, is_found, State}
use Rattle.rules.specs.Judge.{Rule, ok, first_broken_or, after_member, after_close, rules_of, next_state, judge}
use Rattle.rules.specs.Check.{is_over}
use Rattle.rules.proofs.Tests.{never}
use Rattle.rules.specs.All.{AnyIs}
use Rattle.wellformed.specs.Fairness.{Undeclared, Placed, MayStand}
use Rattle.rules.proofs.AllLaws.{apart, any-is}
use Rattle.rules.proofs.RuleLaws.{first-broken-ok}
use Rattle.wellformed.proofs.ReaderLaws.{Gives, Any, given, bind, stays, if-next, anything}

-- ---- where a unit leads
data Goes : Where → Option U.Unit → Where → Type 0 where
  a-header : (v : Symbol) → Goes start (some (U.header v)) after_header
  a-model : (n : Name) (q : Strings) → Goes after_header (some (U.model n q)) (body U.in_model U.no_run)
  a-topic : (i : Around) (r : Run) (n : Name) → Goes (body i r) (some (U.topic n)) (body U.in_topic U.no_run)
  a-class : (i : Around) (r : Run) (c : Sort) (n : Name) (p : List (List ℕ)) (b : Option Reference)
      → Goes (body i r) (some (U.class c n p b)) (members i U.its_head)
  a-domain : (i : Around) (r : Run) (n : Name) (p : List (List ℕ)) (b : Option Reference) (w : Written)
      → Goes (body i r) (some (U.domain n p b w)) (body i U.domains)
  a_unit : (i : Around) (r : Run) (n : Name) (p : List (List ℕ)) (b : Option Reference)
      → Goes (body i r) (some (U.unit n p b)) (body i U.units)
  domains : (i : Around) (r : Run) → Goes (body i r) none (body i U.domains)
  units : (i : Around) (r : Run) → Goes (body i r) none (body i U.units)
  topic-end : (r : Run) (n : Name) → Goes (body U.in_topic r) (some (U.close n)) (body U.in_model U.no_run)
  model-end : (r : Run) (n : Name) → Goes (body U.in_model r) (some (U.close n)) over
  an-attribute : (i : Around) (r : Behind) (n : Name) (p : List (List ℕ)) (w : Written)
      → Goes (members i r) (some (U.attribute n p w)) (members i U.a_member)
  attributes : (i : Around) (r : Behind) → Goes (members i r) none (members i U.a_member)
  class-end : (i : Around) (r : Behind) (n : Name) → Goes (members i r) (some (U.close n)) (body i U.no_run)
  the_end : Goes over none over

abbrev Leads : Where → Symbol → Step → Type 0
Leads w y q = Goes w q.unit q.next

module _ {t : List ℕ} where
  end-leads : (w : Where) (c : Char) (v : Where) → ((n : Name) → Goes w (some (U.close n)) v)
      → Gives t Any (Leads w) (end_unit c v)
  unfolding end_unit
  end-leads w c v h = bind (anything (the_word (ascii "END")))
      (λ _ _ _. bind (anything a_name) (λ _ n _. bind (anything (the_mark c)) (λ _ _ _. stays (λ _. h n))))

  word-leads : (w : Where) (k : List ℕ) (v : Where) → Goes w none v → Gives t Any (Leads w) (word_step k v)
  unfolding word_step
  word-leads w k v h = bind (anything (the_word k)) (λ _ _ _. stays (λ _. h))

  topic-leads : (i : Around) (r : Run) → Gives t Any (Leads (body i r)) topic_unit
  unfolding topic_unit
  topic-leads i r = bind (anything (the_word (ascii "TOPIC")))
      (λ _ _ _. bind (anything a_name) (λ _ n _. bind (anything (the_mark "=")) (λ _ _ _. stays (λ _. a-topic i r n))))

  class-leads : (i : Around) (r : Run) → Gives t Any (Leads (body i r)) (class_unit i)
  unfolding class_unit
  class-leads i r =
      bind (anything (expect (is_one_word (ascii "CLASS" ∷ ascii "STRUCTURE" ∷ [])))) (λ _ _ _.
      bind (anything a_name) (λ _ n _. bind (anything (properties (ascii "ABSTRACT" ∷ ascii "FINAL" ∷ []))) (λ _ p _.
      bind (anything extends) (λ _ b _. bind (anything (the_mark "=")) (λ _ _ _. stays (λ _. a-class i r _ n p b))))))

  domain-leads : (i : Around) (r : Run) → Gives t Any (Leads (body i r)) (domain_unit i)
  unfolding domain_unit
  domain-leads i r =
      bind (anything a_name) (λ _ n _. bind (anything (properties (ascii "ABSTRACT" ∷ ascii "FINAL" ∷ [])))
      (λ _ p _. bind (anything extends) (λ _ b _. bind (anything (the_mark "=")) (λ _ _ _.
      bind (anything (written (is_given b) type_of))
      (λ _ w _. bind (anything (the_mark ";")) (λ _ _ _. stays (λ _. a-domain i r n p b w)))))))

  unit-unit-leads : (i : Around) (r : Run) → Gives t Any (Leads (body i r)) (unit_unit i)
  unfolding unit_unit
  unit-unit-leads i r =
      bind (anything a_name) (λ _ n _. bind (anything (properties (ascii "ABSTRACT" ∷ []))) (λ _ p _.
      bind (anything extends) (λ _ b _. bind (anything (the_mark ";")) (λ _ _ _. stays (λ _. a_unit i r n p b)))))

  attribute-leads : (i : Around) (r : Behind) → Gives t Any (Leads (members i r)) (attribute_unit i)
  unfolding attribute_unit
  attribute-leads i r =
      bind (anything a_name) (λ _ n _. bind (anything (properties (ascii "EXTENDED" ∷ ascii "FINAL" ∷ [])))
      (λ _ p _. bind (anything (the_mark ":")) (λ _ _ _.
      bind (anything (written (is_one_of (ascii "EXTENDED") p) type_or_reference))
      (λ _ w _. bind (anything (the_mark ";")) (λ _ _ _. stays (λ _. an-attribute i r n p w))))))

  body-end-leads : (i : Around) (r : Run) → Gives t Any (Leads (body i r)) (body_end i)
  unfolding body_end
  body-end-leads U.in_topic r = end-leads (body U.in_topic r) ";" (body U.in_model U.no_run) (topic-end r)
  body-end-leads U.in_model r = end-leads (body U.in_model r) "." over (model-end r)

  unit-leads : (w : Where) → Gives t Any (Leads w) (unit_at w)
  unfolding unit_at header_unit model_unit body_unit member_unit last_step
  unit-leads start = bind (anything (the_word (ascii "INTERLIS")))
      (λ _ _ _. bind (anything a_number) (λ _ v _. bind (anything (the_mark ";")) (λ _ _ _. stays (λ _. a-header v))))
  unit-leads after_header =
      bind (anything (the_word (ascii "MODEL"))) (λ _ _ _. bind (anything a_name)
      (λ _ n _. bind (anything (optional (is_mark "(") (the_mark "(" >> (a_name >> the_mark ")")))) (λ _ _ _.
      bind (anything (the_word (ascii "AT"))) (λ _ _ _. bind (anything a_string)
      (λ _ a _. bind (anything (the_word (ascii "VERSION"))) (λ _ _ _. bind (anything a_string) (λ _ v _.
      bind (anything (the_mark "=")) (λ _ _ _. stays (λ _. a-model n (record { address = a; version = v }))))))))))
  unit-leads (body i r) =
      if-next (λ y. is_model i && is_word (ascii "TOPIC") y) (topic-leads i r)
      (if-next (is_one_word (ascii "CLASS" ∷ ascii "STRUCTURE" ∷ [])) (class-leads i r)
      (if-next (is_word (ascii "DOMAIN")) (word-leads (body i r) (ascii "DOMAIN") (body i U.domains) (domains i r))
      (if-next (is_word (ascii "UNIT")) (word-leads (body i r) (ascii "UNIT") (body i U.units) (units i r))
      (if-next (λ y. of_domains r && is_kind name y) (domain-leads i r)
      (if-next (λ y. of_units r && is_kind name y) (unit-unit-leads i r) (body-end-leads i r))))))
  unit-leads (members i r) =
      if-next (λ y. is_head r && is_word (ascii "ATTRIBUTE") y)
      (word-leads (members i r) (ascii "ATTRIBUTE") (members i U.a_member) (attributes i r))
      (if-next (is_kind name) (attribute-leads i r) (end-leads (members i r) ";" (body i U.no_run) (class-end i r)))
  unit-leads over = bind (anything (expect (is_kind stop))) (λ _ _ _. stays (λ _. the_end))

-- ---- the open class after a unit
abbrev is_open : State → Bool
is_open s = is_found s.open_class

first-broken-open : (l : List Rule) (s x : State) → first_broken_or l s ≡ ok x → is_open x ≡ is_open s
first-broken-open l s x q = sym (ap is_open (first-broken-ok l s x q).next)

-- judging leads to the next state
judged-open : (s x : State) (u : U.Unit) → judge s u ≡ ok x → is_open x ≡ is_open (next_state s u)
unfolding judge
judged-open s x u q = first-broken-open (rules_of s u) (next_state s u) x q

judged-state : (s x : State) (u : U.Unit) → judge s u ≡ ok x → next_state s u ≡ x
unfolding judge
judged-state s x u q = (first-broken-ok (rules_of s u) (next_state s u) x q).next

member-open : (s : State) (n : Name) (p : List (List ℕ)) (w : Written) (o : Option Def) → is_found o ≡ true
    → is_open (after_member s n p w o) ≡ true
member-open s n p w none h = never h
member-open s n p w (some c) h = refl

close_open : (s : State) (o m : Option Def) → s.open_class ≡ o → is_open (after_close s o m) ≡ false
close_open s (some c) m e = refl
close_open s none (some m) e = refl
close_open s none none e = ap is_found e

-- ---- what may stand, and how places go on
goes-may : {w : Where} {u : Option U.Unit} {v : Where} (s : State) → Goes w u v → Placed w s → AnyIs (MayStand s) u
goes-may s (a-header v) h = h
goes-may s (a-model n q) h = h
goes-may s (a-topic i r n) h = h
goes-may s (a-class i r c n p b) h = h
goes-may s (a-domain i r n p b w) h = h
goes-may s (a_unit i r n p b) h = h
goes-may s (domains i r) h = tt
goes-may s (units i r) h = tt
goes-may s (topic-end r n) h = tt
goes-may s (model-end r n) h = tt
goes-may s (an-attribute i r n p w) h = h
goes-may s (attributes i r) h = tt
goes-may s (class-end i r n) h = tt
goes-may s the_end h = tt

goes-mark : {w : Where} {u : Option U.Unit} {v : Where} (s : State) → Goes w u v → Placed w s → u ≡ none → Placed v s
goes-mark s (a-header v) h e = apart e
goes-mark s (a-model n q) h e = apart e
goes-mark s (a-topic i r n) h e = apart e
goes-mark s (a-class i r c n p b) h e = apart e
goes-mark s (a-domain i r n p b w) h e = apart e
goes-mark s (a_unit i r n p b) h e = apart e
goes-mark s (domains i r) h e = h
goes-mark s (units i r) h e = h
goes-mark s (topic-end r n) h e = apart e
goes-mark s (model-end r n) h e = apart e
goes-mark s (an-attribute i r n p w) h e = apart e
goes-mark s (attributes i r) h e = h
goes-mark s (class-end i r n) h e = apart e
goes-mark s the_end h e = h

goes-next : {w : Where} {u : Option U.Unit} {v : Where} (s x : State) → Goes w u v → Placed w s
    → AnyIs (λ (j : U.Unit). judge s j ≡ ok x → Placed v x) u
goes-next s x (a-header v) h = λ q. subst Undeclared (judged-state s x (U.header v) q) h
goes-next s x (a-model n q) h = judged-open s x (U.model n q)
goes-next s x (a-topic i r n) h = judged-open s x (U.topic n)
goes-next s x (a-class i r c n p b) h = judged-open s x (U.class c n p b)
goes-next s x (a-domain i r n p b w) h = judged-open s x (U.domain n p b w)
goes-next s x (a_unit i r n p b) h = judged-open s x (U.unit n p b)
goes-next s x (domains i r) h = tt
goes-next s x (units i r) h = tt
goes-next s x (topic-end r n) h = λ q. judged-open s x (U.close n) q ∙ close_open s s.open_class s.topic refl
goes-next s x (model-end r n) h = λ q. judged-open s x (U.close n) q ∙ close_open s s.open_class s.topic refl
goes-next s x (an-attribute i r n p w) h =
    λ q. judged-open s x (U.attribute n p w) q ∙ member-open s n p w s.open_class h
goes-next s x (attributes i r) h = tt
goes-next s x (class-end i r n) h = λ q. judged-open s x (U.close n) q ∙ close_open s s.open_class s.topic refl
goes-next s x the_end h = tt

module _ (t : List ℕ) (w : Where) (s : State) (y : Symbol) (q : Step) (z : Symbol) (p : Placed w s) where
  leads : unit_at w t y ≡ done q z → Goes w q.unit q.next
  leads e = given (unit-leads {t = t} w) y tt q z e

  pub may-stand : unit_at w t y ≡ done q z → AnyIs (MayStand s) q.unit
  may-stand e = goes-may s (leads e) p

  pub placed-mark : is_over w ≡ false → unit_at w t y ≡ done q z → q.unit ≡ none → Placed q.next s
  placed-mark o e n = goes-mark s (leads e) p n

  pub placed-next : is_over w ≡ false → unit_at w t y ≡ done q z → (u : U.Unit) → q.unit ≡ some u → (x : State)
      → judge s u ≡ ok x → Placed q.next x
  placed-next o e u n x j =
      any-is (λ (j : U.Unit). judge s j ≡ ok x → Placed q.next x) q.unit u (goes-next s x (leads e) p) n j
