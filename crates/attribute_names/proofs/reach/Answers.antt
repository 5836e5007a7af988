use mathlib.Core.Path.{refl}
use Rattle.std.specs.Prelude.{Ok, Err}
use Rattle.std.proofs.lemmas.Result.{err_from_is_err_and}
use Rattle.rules.specs.Judge.{reference_in}
use Rattle.state.proofs.RoomLaws.{definition-rows}
use Rattle.state.proofs.TargetLaws.{reference-fair}
use Rattle.attribute_names.proofs.GivenLaws.{is-reference}
use Rattle.attribute_names.proofs.BondLaws.{was, base-is, reference-is}
use native.Mathlib.Omega.{arith}
use Rattle.attribute_names.proofs.reach.Goals as goal

pub returns-in_err-reference_ruling : goal.returns-in_err-reference_ruling
returns-in_err-reference_ruling c =
    let e = err_from_is_err_and c.from_residual.result c.from_residual.ensures.1 in
    rw (e.1, e.2) (
      tt,
      λ q d n p w o rs k ec g off es.
          let en = c.target-target.ensures.1 q (reference_in w.type) o c.args.desk.now.hand.now k
          (is-reference c.args.desk.now.text.now n p w rs c.args.a g)
          (reference-fair c.args.desk.now.text.now w.type g.fair.type) in
          reference-is k ec g off c.args.slot (es (was k ec g)) c.found_at-base.result c.found_at-base.ensures.1
          c.target-target.result en c.found_at-base.ensures.0 c.target-target.ensures.0
          (Err c.in_err-reference_ruling.field-0.0) c.in_err-reference_ruling.ensures,
    )

pub returns : goal.returns
returns c = (
  (refl, c.found_at-base.ensures.0, c.target-target.ensures.0),
  λ q d n p w o rs k ec g off es.
      let en = c.target-target.ensures.1 q (reference_in w.type) o c.args.desk.now.hand.now k
      (is-reference c.args.desk.now.text.now n p w rs c.args.a g)
      (reference-fair c.args.desk.now.text.now w.type g.fair.type) in
      let sl = es (was k ec g) in (
        reference-is k ec g off c.args.slot sl c.found_at-base.result c.found_at-base.ensures.1
            c.target-target.result en c.found_at-base.ensures.0 c.target-target.ensures.0
            (Ok tt) c.in_ok-reference_ruling.ensures,
        record {
          base = base-is k ec g off c.args.slot sl c.found_at-base.result c.found_at-base.ensures.1
              c.target-target.result en;
          target = en;
        },
      ),
)
