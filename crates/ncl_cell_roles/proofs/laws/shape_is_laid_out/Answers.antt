use Rattle.ncl_cell_roles.proofs.LaidOut.{laid_out_of}
use Rattle.ncl_cell_roles.proofs.laws.shape_is_laid_out.Goals as goal

pub returns : goal.returns
returns c = laid_out_of
