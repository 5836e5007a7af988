use Rattle.elements.proofs.SizeLaws.{fits_whole}
use Rattle.elements.proofs.outermost.Goals as goal

pub returns : goal.returns
returns c =
    fits_whole c.args.text.now c.args.scratch.now _ _ c.requires.held c.requires.code_value.1 c.enumeration.ensures
