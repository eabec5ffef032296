use Rattle.ncl_merge.proofs.Choices.{All, AllDiffer, HasAllPins, IsFaultless, Parts, length, parts-kept, port_names, subst, sym, ◌<◌, ◌^◌}
use Rattle.ncl_merge.proofs.rebuilding.rebuild.Goals as goal

pub built-requires-clause-ports_differ : goal.built-requires-clause-ports_differ
built-requires-clause-ports_differ c = subst (λ (parts : Parts). AllDiffer (port_names parts)) (sym c.in_ok-parts.ensures) (parts-kept c.args.pipeline.now c.facts.ensures c.args.lists.now c.requires).1

pub built-requires-clause-few_ports : goal.built-requires-clause-few_ports
built-requires-clause-few_ports c = subst (λ (parts : Parts). length parts.ports < 2 ^ 31) (sym c.in_ok-parts.ensures) c.facts.ensures.is_netlist.few_ports

pub built-requires-clause-all_pins : goal.built-requires-clause-all_pins
built-requires-clause-all_pins c = subst (λ (parts : Parts). All HasAllPins parts.cells) (sym c.in_ok-parts.ensures) (parts-kept c.args.pipeline.now c.facts.ensures c.args.lists.now c.requires).2

pub built-requires-clause-faultless : goal.built-requires-clause-faultless
built-requires-clause-faultless c = subst IsFaultless (sym c.in_ok-parts.ensures) (parts-kept c.args.pipeline.now c.facts.ensures c.args.lists.now c.requires).0
