use Rattle.ncl_netlist.proofs.Said.{netlist_of-parts_said, faultless-parts_said}
use Rattle.ncl_netlist.proofs.laws.said_again.Goals as goal

pub returns-clause-same : goal.returns-clause-same
returns-clause-same c = netlist_of-parts_said

pub returns-clause-faultless : goal.returns-clause-faultless
returns-clause-faultless c = faultless-parts_said
