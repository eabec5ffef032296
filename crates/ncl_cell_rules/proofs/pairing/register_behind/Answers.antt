use Rattle.ncl_cell_rules.proofs.Terms.{Cell, CellAt, Contains-from_slice_get, ap, arith, both_ways, is_register, length, subst, sym, ◌∙◌, ◌≡◌}
use Rattle.ncl_cell_rules.proofs.TableSteps.{driver_within, driver_is, not_both}
use Rattle.ncl_cell_rules.proofs.PinNumbers.{register_pins, on_pin_of}
use Rattle.ncl_cell_rules.proofs.pairing.register_behind.Goals as goal

pub returns-in_default-clause-none : goal.returns-in_default-clause-none
returns-in_default-clause-none c = λ place request behind.
    not_both _ place (c.requires.drivers.driven c.args.net.0 place (behind.cell, behind.at, behind.out)) c.in_default.is

pub bounds-cells-place : goal.bounds-cells-place
bounds-cells-place c = driver_within c.args.netlist.now c.args.drivers.now c.requires.drivers c.args.net.0 c.in-Some.place c.cells.result.now c.cells.ensures.cells c.in-Some.is

pub returns-then-not-is_register-clause-none : goal.returns-then-not-is_register-clause-none
returns-then-not-is_register-clause-none c = λ place request behind.
    let (at, out) = driver_is c.args.netlist.now c.args.drivers.now c.requires.drivers c.args.net.0 c.in-Some.place c.cells.result.now c.index-cells-place.result c.cells.ensures.cells c.in-Some.is c.index-cells-place.is in
    let said = c.requires.drivers.driven c.args.net.0 place (behind.cell, behind.at, behind.out) in
    let known = c.in-Some.is in
    let same : place ≡ c.in-Some.place = cc in
    let there : CellAt c.args.netlist.now c.in-Some.place behind.cell = subst (λ k. CellAt c.args.netlist.now k behind.cell) same behind.at in
    let cells : c.index-cells-place.result ≡ behind.cell = cc in
    both_ways c.is_register.result c.if-not-is_register.true (c.is_register.ensures ∙ ap (λ (x : Cell). is_register x.kind) cells ∙ behind.register)

pub bounds-deref-1 : goal.bounds-deref-1
bounds-deref-1 c =
    let (at, out) = driver_is c.args.netlist.now c.args.drivers.now c.requires.drivers c.args.net.0 c.in-Some.place c.cells.result.now c.index-cells-place.result c.cells.ensures.cells c.in-Some.is c.index-cells-place.is in
    let pins = register_pins c.args.netlist.now c.cells.ensures.netlist c.index-cells-place.result (Contains-from_slice_get c.args.netlist.now.cells _ _ at) (sym c.is_register.ensures ∙ c.if-not-is_register.false) in
    omega (arith, pins, ap length c.deref.ensures.0)

pub returns-clause-some : goal.returns-clause-some
returns-clause-some c =
    let (at, out) = driver_is c.args.netlist.now c.args.drivers.now c.requires.drivers c.args.net.0 c.in-Some.place c.cells.result.now c.index-cells-place.result c.cells.ensures.cells c.in-Some.is c.index-cells-place.is in
    let pins = register_pins c.args.netlist.now c.cells.ensures.netlist c.index-cells-place.result (Contains-from_slice_get c.args.netlist.now.cells _ _ at) (sym c.is_register.ensures ∙ c.if-not-is_register.false) in
    record {
      cell = c.index-cells-place.result;
      at = at;
      out = out;
      register = (sym c.is_register.ensures ∙ c.if-not-is_register.false);
      on_b = on_pin_of c.index-cells-place.result 1 c.deref.result.now c.deref.ensures.0 (omega (arith, pins));
    }
