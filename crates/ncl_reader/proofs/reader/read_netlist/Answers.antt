use Rattle.ncl_reader.proofs.GraphicNames.{arith, subst, sym, flat_map, joined_in, HasGraphicNames, graphic_names, all_pins}
use Rattle.ncl_reader.proofs.reader.read_netlist.Goals as goal

pub build-requires-clause-few_ports : goal.build-requires-clause-few_ports
build-requires-clause-few_ports c = omega (arith, c.in_ok-parts.ensures.few)

pub build-requires-clause-all_pins : goal.build-requires-clause-all_pins
build-requires-clause-all_pins c =
    let reads = c.in_ok-parts.ensures.parts.2 in
    all_pins (flat_map joined_in reads.text.items) c.in_ok-parts.parts.cells reads.says.cells

pub returns-in-Ok-clause-names : goal.returns-in-Ok-clause-names
returns-in-Ok-clause-names c = subst HasGraphicNames (sym c.in-Ok.ensures.built) (graphic_names c.args.bytes.now c.in_ok-parts.parts c.in_ok-parts.ensures.parts)
