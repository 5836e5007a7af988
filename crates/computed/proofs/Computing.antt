-- What a table unfolds to compute.
use Rattle.rules.specs.Symbols.{symbol_of, symbol_at}
use Rattle.rules.specs.Grammar.{properties_from, properties, reference, extends, close_final, enumeration}
use Rattle.rules.specs.Grammar.{text_length, text_type, unit_reference, optional_unit, range_type, numeric_type}
use Rattle.rules.specs.Grammar.{type_of}
use Rattle.rules.specs.Grammar.{type_or_reference, written}
use Rattle.rules.specs.Units.{header_unit, model_unit, topic_unit, class_unit, domain_unit, unit_unit, attribute_unit}
use Rattle.rules.specs.Units.{end_unit, word_step, body_end, body_unit, member_unit, last_step, unit_at}
use Rattle.rules.specs.Judge.{new_topic, new_class, new_domain, new_attribute, with_attribute, extends_rules}
use Rattle.rules.specs.Judge.{class_rules, domain_to_16, domain_rules, attribute_to_16, attribute_rules, judge}
use Rattle.rules.specs.Check.{run}
use Rattle.rules.specs.Numbers.{read_number}
use Rattle.rules.specs.Show.{size_of, records_from, is_named, find_record, show_name}

-- to unfold it is to unfold all that its line names
unfoldable pub computing : Unit {0}
unfolding
    symbol_of symbol_at properties_from properties reference extends close_final enumeration text_length text_type
    unit_reference optional_unit range_type numeric_type type_of type_or_reference written
    header_unit model_unit topic_unit
    class_unit domain_unit unit_unit attribute_unit end_unit word_step body_end body_unit
    member_unit last_step unit_at new_topic
    new_class new_domain new_attribute with_attribute extends_rules
    class_rules domain_to_16 domain_rules attribute_to_16 attribute_rules judge run
    read_number size_of records_from is_named
    find_record show_name
computing = tt
