-- One pass over the cells of a stage in their order.
use Rattle.std.specs.Prelude.{List, [], ◌∷◌}
use Rattle.ncl_shape.specs.declared.stage.StageCell.{StageCell}
use Rattle.ncl_shape.specs.Nets.{Nets, with_net}
use Rattle.ncl_faults.specs.Values.{rises}

-- each cell in turn gives its output the value that it then has, where some nets are kept low
abbrev pub pass : Nets → List StageCell → Nets → Nets
pass low [] v = v
pass low (c ∷ cells) v = pass low cells (with_net v c.out.0 (rises low v c))
