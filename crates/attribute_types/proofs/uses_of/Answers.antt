use mathlib.Core.Path.{refl, sym, ap, ◌∙◌}
use Rattle.rules.specs.Types.{Ty, keeps_unit}
use Rattle.members.proofs.HeldLaws.{indexed}
use Rattle.rules.specs.Declarations.{ty_of}
use Rattle.names.specs.Index.{entry}
use Rattle.rules.specs.Judge.{or_no_attribute}
use Rattle.fitting.proofs.ValueLaws.{typed-valued, sized_base}
use Rattle.attribute_types.proofs.UseLaws.{fair-base, unit-base, in-place-type, own-sized}
use Rattle.attribute_types.proofs.uses_of.Goals as goal

pub returns : goal.returns
returns c =
    let b = c.args.b in (
      record { base = refl; named = c.named_at-named.ensures.0; kept = c.kept_by-kept.ensures.0; based = refl },
      λ t ks ms total w r l e f g.
          let base = (or_no_attribute (entry ms b.base)).use_of in
          let (k, i) = c.kept_by-kept.ensures.1 t c.args.front.now ks ms c.args.index.now total r.held l in
          let tb = c.base_type-base.ensures t ks ms c.args.count total r l c.kept_by-kept.ensures.0 i in
          let vb = typed-valued t c.args.front.now (ty_of base) c.base_type-base.result tb in
          let fb = fair-base t c.args.front.now ks ms c.args.index.now c.args.count
          c.args.rows.now total r b.base in
          let a = c.named_at-named.ensures.1 w e in
          let (v, n) =
          c.own_type-own.ensures t ks ms c.args.count c.args.rows.now total w base r c.requires.1 e a g vb in
          let x = indexed r.held in
          let u = unit-base t c.args.front.now ks ms c.args.index.now c.args.count
          c.args.rows.now total r b.base in
          record {
            named = a;
            kept = k;
            base = tb;
            own = v;
            typed_named = n;
            keeps = λ z.
                c.keeps_unit.ensures t ks x.known x.chained r.rising w (entry ks b.target) (ty_of base)
                e refl u vb
                ∙ ap (λ (y : Ty). keeps_unit y (ty_of base)) (sym (in-place-type w (entry ks b.target) base z));
            sized_own = own-sized t c.args.front.now ks ms c.args.index.now c.args.count
                c.args.rows.now total r b.target w base c.own_type-own.result f g fb v;
            sized_base = sized_base t (ty_of base) c.base_type-base.result fb vb;
          },
    )
