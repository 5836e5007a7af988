use mathlib.Core.Path.{ap, ◌∙◌}
use mathlib.Core.Bool.{◌||◌}
use Rattle.ground.specs.Parts.{splice}
use Rattle.names.specs.Index.{entry}
use Rattle.rules.specs.Declarations.{attribute_at}
use Rattle.rules.specs.Book.{number_or}
use Rattle.rules.specs.Judge.{or_no_def, or_no_attribute, base_of_attribute}
use Rattle.state.proofs.RoomLaws.{definition-rows, attribute_rows}
use Rattle.attributes.proofs.HeadLaws.{head-flags, head-form}
use native.Mathlib.Omega.{arith}
use Rattle.attributes.proofs.put_head.Goals as goal

pub returns-clause-value : goal.returns-clause-value
returns-clause-value c = (
  c.flags-f.ensures.1,
  λ t o ks ms h k n p w rs hd g fl e.
      let x =
      (or_no_def (entry ks c.args.b.target)).mandatory
      || (or_no_attribute (entry ms c.args.b.base)).mandatory in
      let v = c.is_mandatory-m.ensures t o ks ms c.args.st.listing.count c.args.st.listing.total hd
      c.requires.2.base c.requires.2.target in (
        head-flags t n p w rs c.args.a g x c.is_mandatory-m.result v c.flags-f.result c.flags-f.ensures.0,
        c.put.ensures
            ∙ ap (splice c.args.desk.now.book.now c.args.st.extent.used)
            (head-form t n p w rs c.args.a g x c.is_mandatory-m.result v c.flags-f.result c.flags-f.ensures.0
            (number_or (base_of_attribute (attribute_at n.bytes h))) c.base_number.result _ c.head_record-head.ensures
            (c.base_number.ensures ms h k n.bytes fl e)),
      ),
)
