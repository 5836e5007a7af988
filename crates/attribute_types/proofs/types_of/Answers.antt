use mathlib.Core.Path.{sym}
use Rattle.std.proofs.lemmas.Result.{err_from_is_err_and}
use Rattle.attribute_types.proofs.types_of.Goals as goal

pub returns-in_err-head_ruling : goal.returns-in_err-head_ruling
returns-in_err-head_ruling c =
    let i = err_from_is_err_and c.from_residual.result c.from_residual.ensures.1 in
    rw (i.1, i.2) (
      tt,
      λ t ks ms total w r l e f g.
          let u = c.uses_of-u.ensures.1 t ks ms total w r l e f g in
          sym (c.in_err-head_ruling.ensures t c.args.front.now ks ms c.args.count total w r.held l c.requires.1 g
          u.own),
    )

pub returns : goal.returns
returns c = (
  c.uses_of-u.ensures.0,
  λ t ks ms total w r l e f g.
      let u = c.uses_of-u.ensures.1 t ks ms total w r l e f g in (
        sym (c.in_ok-head_ruling.ensures t c.args.front.now ks ms c.args.count total w r.held l c.requires.1 g u.own),
        u,
      ),
)
