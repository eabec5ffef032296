use Rattle.ncl_netlist.proofs.Terms.{[], ap, arith, length, net_of, output_name, pins_of-some, same_Some, sym, ◌∙◌, ◌∷◌, ◌≡◌}
use Rattle.ncl_netlist.proofs.NameLists.{length-insert_all}
use Rattle.ncl_netlist.proofs.Steps.{still_whatever, cell_by_pins, inputs_by_pop, output_by_pop, inputs_few}
use Rattle.ncl_netlist.proofs.numbering.number_cell.Goals as goal

pub number_net-requires : goal.number_net-requires
number_net-requires c =
    let cell = c.args.cell in
    let inputs = inputs_by_pop cell c.into_vec-inputs.result.items c.pop.new.self.items c.into_vec-inputs.result.len c.into_vec-inputs.ensures c.into_vec-inputs.result.ok.0 c.pop.ensures.rest in
    omega (arith, inputs_few cell c.args.names.now.keys c.pop.new.self.items c.number_inputs.new.names.keys c.requires.pins inputs c.in_ok-ins.ensures.names)

pub returns-clause-cell : goal.returns-clause-cell
returns-clause-cell c = λ more.
    let cell = c.args.cell in
    let pins = c.into_vec-inputs.result in
    let keys = c.number_inputs.new.names.keys in
    let inputs = inputs_by_pop cell pins.items c.pop.new.self.items pins.len c.into_vec-inputs.ensures pins.ok.0 c.pop.ensures.rest in
    let output : c.unwrap-output.result ≡ output_name cell =
    output_by_pop cell pins.items pins.len c.unwrap-output.result c.into_vec-inputs.ensures pins.ok.0
    (same_Some _ _ (sym c.unwrap-output.ensures ∙ c.pop.ensures.value [] (omega (arith, pins_of-some cell.kind, c.requires.pins, pins.ok.0, ap length c.into_vec-inputs.ensures)))) in
    let ins = still_whatever net_of c.pop.new.self.items c.in_ok-ins.ins.items keys (c.unwrap-output.result ∷ []) more c.in_ok-ins.ensures.nets in
    cell_by_pins _ cell c.pop.new.self.items c.unwrap-output.result c.in_ok-ins.ins c.in_ok-out.out inputs output
    (rw c.in_ok-out.ensures.names ins) (c.in_ok-out.ensures.net more)

pub returns-clause-few : goal.returns-clause-few
returns-clause-few c =
    let cell = c.args.cell in
    let pins = c.into_vec-inputs.result in
    let inputs = inputs_by_pop cell pins.items c.pop.new.self.items pins.len c.into_vec-inputs.ensures pins.ok.0 c.pop.ensures.rest in
    let few = inputs_few cell c.args.names.now.keys c.pop.new.self.items c.number_inputs.new.names.keys c.requires.pins inputs c.in_ok-ins.ensures.names in
    let one = length-insert_all c.number_inputs.new.names.keys (c.unwrap-output.result ∷ []) in
    rw c.in_ok-out.ensures.names (omega (arith, one, few))
