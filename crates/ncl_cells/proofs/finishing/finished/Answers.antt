use Rattle.ncl_cells.proofs.Terms.{arith, narrow_left}
use Rattle.ncl_cells.proofs.finishing.finished.Goals as goal

pub returns-clause-network : goal.returns-clause-network
returns-clause-network c =
    let pruned = c.in_ok-made.ensures in
    record {
      nodes = narrow_left c.args.whole.nodes c.in_ok-made.made.nodes pruned.nodes c.requires.narrow;
      reads_before = pruned.ordered.reads_before;
      outputs_exist = pruned.ordered.outputs_exist;
      reach = pruned.reach;
      cheap = omega arith;
    }
