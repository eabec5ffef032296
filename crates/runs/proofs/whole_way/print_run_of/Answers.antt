use Rattle.std.proofs.Common.{arith}
use Rattle.ncl_sim.proofs.WordsDue.{few_due}
use Rattle.ncl_report.proofs.NamedItems.{names_item}
use Rattle.runs.proofs.whole_way.print_run_of.Goals as goal

pub overflow_add-due : goal.overflow_add-due
overflow_add-due g c = omega (arith, few_due _ c.args.pipeline.now c.args.words.now c.facts.ensures, c.data_banks.ensures, c.requires.few)

pub print_trace-requires : goal.print_trace-requires
print_trace-requires g c = names_item c.args.pipeline.now c.args.delays.now c.args.words.now c.in_ok-trace.trace c.in_ok-trace.ensures.run
