use Rattle.ncl_cells.proofs.Terms.{IsImageOf, subst, sym}
use Rattle.ncl_cells.proofs.Remade.{image_turned}
use Rattle.ncl_cells.proofs.remaking.image.Goals as goal

pub returns : goal.returns
returns c =
    subst (IsImageOf c.args.inputs c.args.images.now c.args.signal) (sym c.turned_by.ensures)
    (image_turned c.args.inputs c.args.images.now c.args.signal c.in_ok-source.source c.in_ok-source.ensures)
