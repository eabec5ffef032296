use Rattle.std.proofs.lemmas.Bool.{both_ways}
use Rattle.ncl_shape.proofs.ShownNets.{closed_from, cells_shown, ports_shown}
use Rattle.ncl_shape.proofs.closing.is_closed.Goals as goal

pub returns-then-are_cells_shown : goal.returns-then-are_cells_shown
returns-then-are_cells_shown c = (
  (λ holds. closed_from c.args.origins.now.netlist c.facts.ensures.drivers.netlist c.args.banks.now c.args.roots.now c.requires.chain c.requires.rooted c.requires.roots (c.are_cells_shown.ensures.0 c.if-are_cells_shown.true) (c.are_ports_shown.ensures.0 holds)),
  λ closed. c.are_ports_shown.ensures.1 (ports_shown c.args.origins.now.netlist c.facts.ensures.drivers.netlist c.args.banks.now c.args.roots.now c.requires.chain c.requires.rooted c.requires.roots closed),
)

pub returns-else-are_cells_shown : goal.returns-else-are_cells_shown
returns-else-are_cells_shown c = (
  (λ holds. absurd (both_ways c.are_cells_shown.result c.if-are_cells_shown.false holds)),
  λ closed. c.are_cells_shown.ensures.1 (cells_shown c.args.origins.now.netlist c.facts.ensures.drivers.netlist c.args.banks.now c.args.roots.now c.requires.chain c.requires.rooted c.requires.roots closed),
)
