use Rattle.ncl_cells.proofs.Remade.{IsInOrder-narrow}
use Rattle.ncl_cells.proofs.improving.one_round.Goals as goal

pub remake-requires : goal.remake-requires
remake-requires c = IsInOrder-narrow c.args.network.now c.requires
