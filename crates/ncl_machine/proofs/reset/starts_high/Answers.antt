use Rattle.ncl_machine.proofs.Terms.{IsSourceOf, output_within, subst, sym}
use Rattle.ncl_machine.proofs.ResetDrivers.{bank_within}
use Rattle.ncl_machine.proofs.reset.starts_high.Goals as goal

pub asks_for_data-requires : goal.asks_for_data-requires
asks_for_data-requires c bank same =
    let n = c.args.origins.now.netlist in
    let is = c.facts.ensures.drivers.netlist in
    let out = c.args.cell.now.out.0 in
    let is_s = subst (IsSourceOf n out) (sym c.source.ensures.source) (c.facts.ensures.sources.each out (output_within n is c.args.cell.now c.requires)) in
    bank_within n is out bank (subst (IsSourceOf n out) same is_s)

pub asks_for_data-requires-in-Ack : goal.asks_for_data-requires-in-Ack
asks_for_data-requires-in-Ack c bank same =
    let n = c.args.origins.now.netlist in
    let is = c.facts.ensures.drivers.netlist in
    let out = c.args.cell.now.out.0 in
    let is_s = subst (IsSourceOf n out) (sym c.source-in-Ack.ensures.source) (c.facts.ensures.sources.each out (output_within n is c.args.cell.now c.requires)) in
    bank_within n is out bank (subst (IsSourceOf n out) same is_s)
