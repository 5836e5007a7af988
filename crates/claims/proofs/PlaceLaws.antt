-- All place that a rule names lies within the text, as rules take theirs from what is read.
use mathlib.Core.Bool.{Bool}
use mathlib.Core.Option.{Option, none, some}
use mathlib.Core.List.{List, [], ◌∷◌, ◌++◌}
use Prim.Native.Nat.{ℕ, ◌≤◌}
use native.Mathlib.Omega.{arith}
use lib.ListN.{length}
use Rattle.rules.specs.Bytes.{is_one_of}
use Rattle.rules.specs.Names.{Name}
use Rattle.rules.specs.Enumerations as E
use Rattle.rules.specs.Enumerations.{Enum, end, elem, twice}
use Rattle.rules.specs.Grammar as G
use Rattle.rules.specs.Grammar.{Reference, WrittenType, Written}
use Rattle.rules.specs.Units as U
use Rattle.rules.specs.Declarations.{Attribute, Def, is_found, State}
use Rattle.rules.specs.Judge.{Rule, resolved, reference_in, place_of, doubled, element_rule, type_rules, extends_rules}
use Rattle.rules.specs.Judge.{class_rules, domain_to_16, domain_rules, attribute_to_16, attribute_rules, inherited_as}
use Rattle.rules.specs.Judge.{member_rules, rules_of}
use Rattle.rules.specs.Check.{Given, unit_place}
use Rattle.rules.specs.All.{All, AnyIs}
use Rattle.rules.proofs.AllLaws.{all_append}
use Rattle.rules.proofs.SymbolLaws.{either}
use Rattle.claims.specs.Ranking.{all_rules}
use Rattle.claims.proofs.UnitLaws as W

abbrev pub RuleIn : List ℕ → Rule → Type 0
RuleIn t r = r.place ≤ length t

module _ (t : List ℕ) (i : ℕ) where
  abbrev Within : ℕ → Type 0
  Within p = W.Within t i p

  reference-in : (r : Option Reference) → AnyIs (W.ReferenceIn t i) r → place_of r ≤ length t
  reference-in none h = omega arith
  reference-in (some r) h = h.1

  first-in : (o p : Option ℕ) → AnyIs Within o → AnyIs Within p → AnyIs Within (E.first o p)
  first-in none p h k = k
  first-in (some q) p h k = h

  pub twice_in : (e : Enum) (l : List (List ℕ)) → W.EnumIn t i e → AnyIs Within (twice e l)
  twice_in (end f) l h = tt
  twice_in (elem n e r) l h =
      either (AnyIs Within) (is_one_of n.bytes l) (λ _. h.0)
      (λ _. first-in (twice e []) (twice r (n.bytes ∷ l)) (twice_in e [] h.1) (twice_in r (n.bytes ∷ l) h.2))

  doubled-in : (o : Option ℕ) → AnyIs Within o → RuleIn t (doubled o)
  doubled-in none h = omega arith
  doubled-in (some p) h = h.1

  element-in : (x : Option WrittenType) → AnyIs (W.TypeIn t i) x → RuleIn t (element_rule x)
  element-in none h = omega arith
  element-in (some (G.text m n)) h = omega arith
  element-in (some (G.numeric q r)) h = omega arith
  element-in (some (G.enum e)) h = doubled-in (twice e []) (twice_in e [] h)
  element-in (some (G.named r)) h = omega arith

  types-in : (based : Bool) (p : ℕ) (x : Option WrittenType) → Within p → AnyIs (W.TypeIn t i) x
      → All (RuleIn t) (type_rules based p x)
  types-in based p none k h = tt
  types-in based p (some (G.text m none)) k h = tt
  types-in based p (some (G.text m (some y))) k h = (h.1, tt)
  types-in based p (some (G.numeric none r)) k h = tt
  types-in based p (some (G.numeric (some q) r)) k h = (h.0.1, tt)
  types-in based p (some (G.enum e)) k h = (k.1, tt)
  types-in based p (some (G.named r)) k h = tt

  pub written-reference : (x : Option WrittenType) → AnyIs (W.TypeIn t i) x → AnyIs (W.ReferenceIn t i) (reference_in x)
  written-reference none h = tt
  written-reference (some (G.text m n)) h = tt
  written-reference (some (G.numeric q r)) h = h.1
  written-reference (some (G.enum e)) h = tt
  written-reference (some (G.named r)) h = h

  kinds-in : (based : Bool) (w : Written) (k : Rule) → W.WrittenIn t i w → RuleIn t k
      → All (RuleIn t) (type_rules based w.place w.type ++ (k ∷ []))
  kinds-in based w k h q = all_append (RuleIn t) (type_rules based w.place w.type) (k ∷ [])
      (types-in based w.place w.type h.0 h.1) (q, tt)

  module _ (s : State) (n : Name) (p : List (List ℕ)) (w : Written)
      (h : n.offset ≤ length t) (j : W.WrittenIn t i w) where
    domain-to-16 : (r : Option Reference) (o g : Option Def) → AnyIs (W.ReferenceIn t i) r
        → All (RuleIn t) (domain_to_16 s n p r w o g)
    unfolding domain_to_16
    domain-to-16 r o g q =
        let a = reference-in r q in
        let b = reference-in (reference_in w.type) (written-reference w.type j.1) in
        (h, (element-in w.type j.1, (a, (b, (a, (b, (a, (h, kinds-in (is_found o) w _ j j.0.1))))))))

    domain-in : (r : Option Reference) (o g : Option Def) → AnyIs (W.ReferenceIn t i) r
        → All (RuleIn t) (domain_rules s n p r w o g)
    unfolding domain_rules
    domain-in r o g q =
        all_append (RuleIn t) (domain_to_16 s n p r w o g) _ (domain-to-16 r o g q) (j.0.1, (j.0.1, tt))

    attribute-to-16 : (c : Def) (o : Option Attribute) (g : Option Def) → All (RuleIn t) (attribute_to_16 s c n p w o g)
    unfolding attribute_to_16
    attribute-to-16 c o g =
        let a = reference-in (reference_in w.type) (written-reference w.type j.1) in
        (h, (h, (element-in w.type j.1, (h, (a, (a, (h, (h, kinds-in (is_found o) w _ j j.0.1))))))))

    member-in : (o : Option Def) → All (RuleIn t) (member_rules s n p w o)
    unfolding attribute_rules
    member-in none = tt
    member-in (some c) =
        let g = resolved s (reference_in w.type) in
        all_append (RuleIn t) (attribute_to_16 s c n p w (inherited_as c n) g) _
        (attribute-to-16 c (inherited_as c n) g) (j.0.1, (j.0.1, (j.0.1, tt)))

module _ (t : List ℕ) where
  unit-in : (u : U.Unit) → W.UnitIn t u → unit_place u ≤ length t
  unit-in (U.header v) h = h.1
  unit-in (U.model n q) h = h.1
  unit-in (U.topic n) h = h.1
  unit-in (U.class c n p r) h = h.0.1
  unit-in (U.domain n p r w) h = h.0.1
  unit-in (U.attribute n p w) h = h.0.1
  unit-in (U.unit n p r) h = h.0.1
  unit-in (U.close n) h = h.1

  rules-in : (s : State) (u : U.Unit) → W.UnitIn t u → All (RuleIn t) (rules_of s u)
  unfolding class_rules extends_rules
  rules-in s (U.header v) h = (h.1, tt)
  rules-in s (U.model n q) h = tt
  rules-in s (U.topic n) h = (h.1, tt)
  rules-in s (U.class c n p r) h = let a = reference-in t 0 r h.1 in (h.0.1, (a, (a, (a, (h.0.1, tt)))))
  rules-in s (U.domain n p r w) h = domain-in t n.offset s n p w h.0.1 h.2 r (resolved s r)
      (resolved s (reference_in w.type)) h.1
  rules-in s (U.attribute n p w) h = member-in t n.offset s n p w h.0.1 h.1 s.open_class
  rules-in s (U.unit n p r) h = let a = reference-in t 0 r h.1 in (h.0.1, (a, (a, (a, (h.0.1, tt)))))
  rules-in s (U.close n) h = (h.1, tt)

  pub all-rules-in : (g : Given) (s : State) (u : U.Unit) → W.UnitIn t u → All (RuleIn t) (all_rules g s u)
  all-rules-in g s u h = all_append (RuleIn t) (rules_of s u) _ (rules-in s u h) (unit-in u h, tt)
