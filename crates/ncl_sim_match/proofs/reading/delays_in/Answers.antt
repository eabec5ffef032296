use Rattle.ncl_sim_match.proofs.Terms.{AreRefusedDelays, TellsLine-weaker}
use Rattle.ncl_sim_match.proofs.SimReplies.{delays_refused}
use Rattle.ncl_sim_match.proofs.reading.delays_in.Goals as goal

pub returns-in-Err-clause-refused : goal.returns-in-Err-clause-refused
returns-in-Err-clause-refused c =
    TellsLine-weaker _ (AreRefusedDelays c.args.netlist.now c.args.bytes.now)
    (delays_refused c.args.netlist.now c.args.bytes.now c.requires c.in-Err.fault c.in-Err.ensures.broken)
    c.no_delays.result c.no_delays.ensures
