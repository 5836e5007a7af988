-- The rules of an attribute, judged in stages.
use mathlib.Core.Path.{◌≡◌, sym, ap, ◌∙◌}
use mathlib.Core.Option.{Option, some}
use mathlib.Core.List.{List, [], ◌∷◌, ◌++◌, append_assoc, append-nil}
use Prim.Native.Nat.{ℕ}
use Rattle.rules.specs.Names as R
use Rattle.rules.specs.Grammar as G
use Rattle.rules.specs.Units as U
use Rattle.rules.specs.Declarations.{ty_of, Attribute, Def, attribute_at, is_found, State}
use Rattle.rules.specs.Judge.{Rule, ok, first_broken_or, judge, member_rules, after_member}
use Rattle.rules.specs.Judge.{attribute_rules}
use Rattle.rules.specs.Judge.{attribute_to_16, attribute_from_17, new_attribute, or_no_attribute, has_extended}
use Rattle.rules.specs.Judge.{has_twice}
use Rattle.rules.specs.Judge.{reference_in, is_naming, resolved, type_rules, kind_rule}
use Rattle.ground.specs.Rulings.{ruling_of, judged_by}
use Rattle.ground.proofs.RulingLaws.{first-broken-by}
use Rattle.attribute_names.specs.Stages.{rules_to_11}
use Rattle.attribute_types.specs.Stages.{head_rules}
use Rattle.attribute_records.specs.Stages.{use_rules}
use Rattle.attributes.specs.Facts.{use_in, after_attribute}

-- ---- all rules
module _ (s : State) (c : Def) (n : R.Name) (p : List (List ℕ)) (w : G.Written) where
  abbrev base· : Option Attribute
  base· = attribute_at n.bytes c.inherited

  abbrev target· : Option Def
  target· = resolved s (reference_in w.type)

  abbrev pub to-11 : List Rule
  to-11 = rules_to_11 c n (has_extended p) (is_found base·) w.type target·

  abbrev pub to-13 : List Rule
  to-13 = head_rules n.offset (or_no_attribute base·).final (has_twice p) (use_in s c n w) target·

  abbrev pub to-22 : List Rule
  to-22 = use_rules w.place (is_found base·) w.type (use_in s c n w) (or_no_attribute base·).use_of

  in-stages : attribute_rules s c n p w base· target· ≡ to-11 ++ (to-13 ++ to-22)
  unfolding attribute_rules attribute_to_16 new_attribute
  in-stages =
      rw (append_assoc (type_rules (is_found base·) w.place w.type) (kind_rule w.place (is_found base·)
      (ty_of (use_in s c n w)) (ty_of (or_no_attribute base·).use_of) ∷ []) (attribute_from_17 w.place (is_found base·)
      (is_naming w.type) (use_in s c n w) (or_no_attribute base·).use_of))

  all-rules : first_broken_or (attribute_rules s c n p w base· target·) (after_attribute s c n p w) ≡ judged_by
      (ruling_of to-11) (judged_by (ruling_of to-13) (judged_by (ruling_of to-22) (ok (after_attribute s c n p w))))
  all-rules =
      ap (λ (l : List Rule). first_broken_or l (after_attribute s c n p w)) in-stages
      ∙ first-broken-by to-11 (to-13 ++ to-22) (after_attribute s c n p w)
      ∙ ap (judged_by (ruling_of to-11)) (first-broken-by to-13 to-22 (after_attribute s c n p w)
      ∙ ap (judged_by (ruling_of to-13)) (ap (λ (l : List Rule). first_broken_or l (after_attribute s c n p w))
      (sym (append-nil to-22)) ∙ first-broken-by to-22 [] (after_attribute s c n p w)))

  pub judged-in-stages : s.open_class ≡ some c → judge s (U.attribute n p w) ≡ judged_by (ruling_of to-11)
      (judged_by (ruling_of to-13) (judged_by (ruling_of to-22) (ok (after_attribute s c n p w))))
  unfolding judge
  judged-in-stages e =
      ap (λ (o : Option Def). first_broken_or (member_rules s n p w o) (after_member s n p w o)) e ∙ all-rules
