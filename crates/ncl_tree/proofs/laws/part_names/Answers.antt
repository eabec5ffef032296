use Rattle.ncl_tree.proofs.PartNameLaws.{same_cell, same_net, cell_is_no_net, cell_name-IsPartName, net_name-IsPartName}
use Rattle.ncl_tree.proofs.laws.part_names.Goals as goal

pub returns-clause-cells : goal.returns-clause-cells
returns-clause-cells c = same_cell

pub returns-clause-nets : goal.returns-clause-nets
returns-clause-nets c = same_net

pub returns-clause-apart : goal.returns-clause-apart
returns-clause-apart c = cell_is_no_net

pub returns-clause-cell_form : goal.returns-clause-cell_form
returns-clause-cell_form c = cell_name-IsPartName

pub returns-clause-net_form : goal.returns-clause-net_form
returns-clause-net_form c = net_name-IsPartName
