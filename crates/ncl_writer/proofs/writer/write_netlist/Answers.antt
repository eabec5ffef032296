use Rattle.ncl_writer.proofs.Terms.{arith, common_steps, text_of, ◌≡◌}
use Rattle.ncl_writer.proofs.ReadsBack.{reads_again}
use Rattle.ncl_writer.proofs.writer.write_netlist.Goals as goal

pub returns-clause-reads : goal.returns-clause-reads
returns-clause-reads c =
    let is : c.extend_from_slice.new.self.items ≡ text_of c.args.netlist.now = grind (arith, common_steps) in
    reads_again c.args.netlist.now c.extend_from_slice.new.self.items c.ports-ports.ensures.netlist c.requires is
