use Rattle.ncl_cell_rules.proofs.Terms.{A, B, OnPin, RST, and_from, and_parts, arith, get_or}
use Rattle.ncl_cell_rules.proofs.PinNumbers.{no_net, register_on}
use Rattle.ncl_cell_rules.proofs.RuleTests.{register_of_first, first_of_register}
use Rattle.ncl_cell_rules.proofs.mixing.is_register_of_one.Goals as goal

pub returns : goal.returns
returns c =
    let n = c.args.origins.now.netlist in
    let cell = c.args.cell.now in
    let is = c.facts.ensures.drivers.netlist in
    let are = c.facts.ensures.sources in
    let on_rst : OnPin cell RST (get_or c.deref.result.now 2 no_net).0 = register_on n is cell c.requires.in_netlist 2 c.deref.result.now c.deref.ensures.0 c.requires.register (omega arith) in
    let on_b : OnPin cell B (get_or c.deref-2.result.now 1 no_net).0 = register_on n is cell c.requires.in_netlist 1 c.deref-2.result.now c.deref-2.ensures.0 c.requires.register (omega arith) in
    let on_a : OnPin cell A (get_or c.deref-3.result.now 0 no_net).0 = register_on n is cell c.requires.in_netlist 0 c.deref-3.result.now c.deref-3.ensures.0 c.requires.register (omega arith) in (
      (λ holds.
          let (before, as_first) = and_parts _ _ holds in
          let (pins, rail) = and_parts _ _ before in
          let (reset, request) = and_parts _ _ pins in
          register_of_first n is _ are cell c.requires.in_netlist _ _ on_a on_b _ on_rst (c.is_input_port-reset.ensures.0 reset) (c.is_from_one_ack-request.ensures.0 request) (c.is_from_one_rail-rail.ensures.0 rail) (c.is_as_first.ensures.0 as_first)),
      λ one.
          and_from _ _
          (and_from _ _ (and_from _ _ (c.is_input_port-reset.ensures.1 (one.reset _ on_rst)) (c.is_from_one_ack-request.ensures.1 (one.request _ on_b))) (c.is_from_one_rail-rail.ensures.1 (one.rail _ on_a)))
          (c.is_as_first.ensures.1 (first_of_register n is _ are cell c.requires.in_netlist _ _ on_a on_b c.requires.register _ on_rst one)),
    )
