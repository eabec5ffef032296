use Rattle.ncl_shape.proofs.Terms.{A, IsSourceOf, OnPin, ap, arith, first_none, first_read, first_within, get_or, length, no_net, on_pin_of, pin_inside, register_pins, subst, sym, ◌<◌, ◌∙◌}
use Rattle.ncl_shape.proofs.BankFeeds.{feed_of}
use Rattle.ncl_shape.proofs.banks.feed.Goals as goal

pub returns-in_default : goal.returns-in_default
returns-in_default c = λ bank. first_none c.args.origins.now.netlist c.args.origins.now.firsts c.netlist.ensures.origins.firsts c.args.bank.0 c.requires.inside (sym c.first.ensures.first ∙ c.in_default.is) bank.0 bank.1

pub bounds-cells-place : goal.bounds-cells-place
bounds-cells-place c = first_within c.args.origins.now.netlist c.args.origins.now.firsts c.netlist.ensures.origins.firsts c.args.bank.0 c.requires.inside c.in-Some.place c.cells-cells.result.now (sym c.first.ensures.first ∙ c.in-Some.is) (rw c.netlist.ensures.netlist at c.cells-cells.ensures.cells)

pub bounds-deref-0 : goal.bounds-deref-0
bounds-deref-0 c =
    let n = c.args.origins.now.netlist in
    let first = first_read c.args.origins.now.netlist c.args.origins.now.firsts c.netlist.ensures.origins.firsts c.args.bank.0 c.requires.inside c.in-Some.place c.cells-cells.result.now c.index-cells-place.result (sym c.first.ensures.first ∙ c.in-Some.is) (rw c.netlist.ensures.netlist at c.cells-cells.ensures.cells) c.index-cells-place.is in
    let pins = register_pins n c.netlist.ensures.origins.drivers.netlist c.index-cells-place.result first.of_bank.0 first.of_bank.1 in
    let lt : 0 < length c.deref.result.now = omega (arith, pins, ap length c.deref.ensures.0) in
    lt

pub source-requires : goal.source-requires
source-requires c =
    let n = c.args.origins.now.netlist in
    let is = c.netlist.ensures.origins.drivers.netlist in
    let first = first_read c.args.origins.now.netlist c.args.origins.now.firsts c.netlist.ensures.origins.firsts c.args.bank.0 c.requires.inside c.in-Some.place c.cells-cells.result.now c.index-cells-place.result (sym c.first.ensures.first ∙ c.in-Some.is) (rw c.netlist.ensures.netlist at c.cells-cells.ensures.cells) c.index-cells-place.is in
    let pins = register_pins n is c.index-cells-place.result first.of_bank.0 first.of_bank.1 in
    pin_inside n is c.index-cells-place.result first.of_bank.0 0 c.deref.result.now c.deref.ensures.0 (omega (arith, pins))

pub returns : goal.returns
returns c =
    let n = c.args.origins.now.netlist in
    let is = c.netlist.ensures.origins.drivers.netlist in
    let first = first_read c.args.origins.now.netlist c.args.origins.now.firsts c.netlist.ensures.origins.firsts c.args.bank.0 c.requires.inside c.in-Some.place c.cells-cells.result.now c.index-cells-place.result (sym c.first.ensures.first ∙ c.in-Some.is) (rw c.netlist.ensures.netlist at c.cells-cells.ensures.cells) c.index-cells-place.is in
    let pins = register_pins n is c.index-cells-place.result first.of_bank.0 first.of_bank.1 in
    let on : OnPin c.index-cells-place.result A (get_or c.deref.result.now 0 no_net).0 = on_pin_of c.index-cells-place.result 0 c.deref.result.now c.deref.ensures.0 (omega (arith, pins)) in
    let lt = pin_inside n is c.index-cells-place.result first.of_bank.0 0 c.deref.result.now c.deref.ensures.0 (omega (arith, pins)) in
    feed_of n is c.requires.free c.args.bank.0 (get_or c.deref.result.now 0 no_net).0 c.index-cells-place.result c.source.result first.of_bank on
    (subst (IsSourceOf n (get_or c.deref.result.now 0 no_net).0) (sym c.source.ensures.source) (c.netlist.ensures.origins.sources.each _ lt))
