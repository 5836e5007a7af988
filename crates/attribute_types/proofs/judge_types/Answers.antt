use Rattle.attribute_types.proofs.judge_types.Goals as goal

pub returns : goal.returns
returns c = (
  c.types_of.ensures.0,
  λ t ks ms w r e h g. c.types_of.ensures.1 t ks ms c.args.st.listing.total w r c.requires.2.base e h g,
)
