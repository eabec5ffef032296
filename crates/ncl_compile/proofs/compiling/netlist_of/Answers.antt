use Rattle.ncl_compile.proofs.Terms.{Compiled, IsFaultOf-excludes, IsNetlist, subst, sym}
use Rattle.ncl_compile.proofs.CompiledParts.{is_compiled}
use Rattle.ncl_compile.proofs.NetDrivers.{plain_nets, plain_cells, apart}
use Rattle.ncl_compile.proofs.TextLength.{text_short}
use Rattle.ncl_compile.proofs.PartsFaultless.{is_faultless}
use Rattle.ncl_compile.proofs.PartPins.{all_pins, ports_differ, few_ports}
use Rattle.ncl_compile.proofs.compiling.netlist_of.Goals as goal

pub build-requires-clause-ports_differ : goal.build-requires-clause-ports_differ
build-requires-clause-ports_differ c = ports_differ c.args.models.now c.requires.models c.requires.small c.in_ok-parts.parts c.in_ok-parts.ensures

pub build-requires-clause-few_ports : goal.build-requires-clause-few_ports
build-requires-clause-few_ports c = few_ports c.args.models.now c.requires.models c.requires.small c.in_ok-parts.parts c.in_ok-parts.ensures

pub build-requires-clause-all_pins : goal.build-requires-clause-all_pins
build-requires-clause-all_pins c = all_pins c.args.models.now c.requires.models c.requires.small c.in_ok-parts.parts c.in_ok-parts.ensures

pub returns-in-Ok : goal.returns-in-Ok
returns-in-Ok c =
    let models = c.args.models.now in
    let parts = c.in_ok-parts.parts in
    let small = c.requires.small in
    let put = c.in_ok-parts.ensures in
    let is = subst IsNetlist c.in-Ok.ensures.built c.ports.ensures.netlist in
    subst (Compiled models) (sym c.in-Ok.ensures.built)
    (is_compiled models c.requires.models small parts put is (plain_nets models c.requires.models small parts put is) (plain_cells models c.requires.models small parts put) (apart models c.requires.models small parts put is) (text_short models c.requires.models small parts put is))

-- no rule of netlists is broken, so `build` fails for want of memory alone
pub unreachable-requires : goal.unreachable-requires
unreachable-requires c =
    let models = c.args.models.now in
    let parts = c.in_ok-parts.parts in
    let small = c.requires.small in
    let put = c.in_ok-parts.ensures in
    let faultless = is_faultless models c.requires.models small parts put in
    c.in_default.not-Memory (IsFaultOf-excludes parts c.in-Err.fault c.in-Err.ensures.fault faultless)
