use Rattle.ncl_cell_rules.proofs.Terms.{A, B, IsFirstOfBank, OnPin, ap, arith, get_or, length, sym, ◌∙◌}
use Rattle.ncl_cell_rules.proofs.PinNumbers.{no_net, register_on, register_inside, register_pins}
use Rattle.ncl_cell_rules.proofs.RuleTests.{same_entries_of}
use Rattle.ncl_cell_rules.proofs.FirstRegisters.{own_first_within, own_first_read, own_first_there}
use Rattle.ncl_cell_rules.proofs.mixing.is_as_first.Goals as goal
use Rattle.ncl_cell_rules.proofs.mixing.is_as_first.Goals.{After-deref-2}

pub returns-in_default : goal.returns-in_default
returns-in_default c = absurd (own_first_there c.args.origins.now.netlist c.netlist.ensures.origins.drivers.netlist _ c.netlist.ensures.origins.firsts c.args.cell.now c.requires.in_netlist c.requires.register _ c.deref.ensures.0 (sym c.first.ensures.first ∙ c.in_default.is))

pub bounds-cells-place : goal.bounds-cells-place
bounds-cells-place c =
    own_first_within c.args.origins.now.netlist c.netlist.ensures.origins.drivers.netlist _ c.netlist.ensures.origins.firsts c.args.cell.now c.requires.in_netlist c.requires.register _ c.deref.ensures.0
    c.in-Some.place c.cells-cells.result.now (sym c.first.ensures.first ∙ c.in-Some.is) (rw c.netlist.ensures.netlist at c.cells-cells.ensures.cells)

-- the cell that is read is the first of its bank
first : (c : After-deref-2) → IsFirstOfBank c.args.origins.now.netlist (get_or c.deref.result.now 1 no_net).0 c.index-cells-place.result
first c =
    own_first_read c.args.origins.now.netlist c.netlist.ensures.origins.drivers.netlist _ c.netlist.ensures.origins.firsts c.args.cell.now c.requires.in_netlist c.requires.register _ c.deref.ensures.0
    c.in-Some.place c.cells-cells.result.now c.index-cells-place.result (sym c.first.ensures.first ∙ c.in-Some.is) (rw c.netlist.ensures.netlist at c.cells-cells.ensures.cells) c.index-cells-place.is

pub bounds-deref-0-2 : goal.bounds-deref-0-2
bounds-deref-0-2 c =
    let of_bank = (first (goal.at.bounds-deref-0-2 c).After-deref-2).of_bank in
    let pins = register_pins c.args.origins.now.netlist c.netlist.ensures.origins.drivers.netlist c.index-cells-place.result of_bank.0 of_bank.1 in
    omega (arith, pins, ap length c.deref-3.ensures.0)

pub source-first_source-requires : goal.source-first_source-requires
source-first_source-requires c =
    let of_bank = (first (goal.at.source-first_source-requires c).After-deref-2).of_bank in
    register_inside c.args.origins.now.netlist c.netlist.ensures.origins.drivers.netlist c.index-cells-place.result of_bank.0 0 c.deref-3.result.now c.deref-3.ensures.0 of_bank.1 (omega arith)

pub returns : goal.returns
returns c =
    let n = c.args.origins.now.netlist in
    let cell = c.args.cell.now in
    let is = c.netlist.ensures.origins.drivers.netlist in
    let is_first = first (goal.at.returns c).After-deref-2 in
    let on_b : OnPin cell B (get_or c.deref.result.now 1 no_net).0 = register_on n is cell c.requires.in_netlist 1 c.deref.result.now c.deref.ensures.0 c.requires.register (omega arith) in
    let on_a : OnPin cell A (get_or c.deref-2.result.now 0 no_net).0 = register_on n is cell c.requires.in_netlist 0 c.deref-2.result.now c.deref-2.ensures.0 c.requires.register (omega arith) in
    let first_on_a : OnPin c.index-cells-place.result A (get_or c.deref-3.result.now 0 no_net).0 = register_on n is c.index-cells-place.result is_first.of_bank.0 0 c.deref-3.result.now c.deref-3.ensures.0 is_first.of_bank.1 (omega arith) in (
      (λ holds. record {
        request = (get_or c.deref.result.now 1 no_net).0;
        first = c.index-cells-place.result;
        net = (get_or c.deref-2.result.now 0 no_net).0;
        first_net = (get_or c.deref-3.result.now 0 no_net).0;
        on_b = on_b;
        is_first = is_first;
        on_a = on_a;
        first_on_a = first_on_a;
        same = sym c.source-source.ensures.source ∙ c.same_source.ensures.0 holds ∙ c.source-first_source.ensures.source;
      }),
      λ as_first. c.same_source.ensures.1 (c.source-source.ensures.source ∙ same_entries_of n is c.args.origins.now.sources cell c.index-cells-place.result _ _ _ on_b is_first on_a first_on_a as_first ∙ sym c.source-first_source.ensures.source),
    )
