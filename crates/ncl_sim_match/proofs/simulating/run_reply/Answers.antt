use Rattle.ncl_sim_match.proofs.Terms.{arith, few_due, names_item}
use Rattle.ncl_sim_match.proofs.simulating.run_reply.Goals as goal

pub trace_text-requires : goal.trace_text-requires
trace_text-requires c = names_item c.args.pipeline.now c.args.delays.now c.args.words.now c.in_ok-trace.trace c.in_ok-trace.ensures.run

pub overflow_add-due : goal.overflow_add-due
overflow_add-due c = omega (arith, few_due _ c.args.pipeline.now c.args.words.now c.facts.ensures, c.data_banks.ensures, c.requires.few)
