use Rattle.std.proofs.lemmas.Bool.{both_ways, false≢true}
use Rattle.ncl_cell_rules.proofs.SourceTests.{not_from_one_ack}
use Rattle.ncl_cell_rules.proofs.mixing.is_from_one_ack.Goals as goal

pub returns-in_default : goal.returns-in_default
returns-in_default c =
    let other = not_from_one_ack c.args.origins.now.netlist c.source.ensures.origins.drivers.netlist _ c.source.ensures.origins.sources c.args.net.0 c.requires.inside c.source.result c.source.ensures.source
    (λ input. both_ways c.is_input_port.result c.if-is_input_port.false (c.is_input_port.ensures.1 input)) c.in_default.not-Ack in
    (λ never. absurd (false≢true never), λ from. absurd (other from))
