use Rattle.ncl_shape.proofs.Terms.{Ack, AckOf, IsSourceOf, both_ways, refl, subst, sym, ◌∙◌}
use Rattle.ncl_shape.proofs.NetSources.{source_of_origin}
use Rattle.ncl_shape.proofs.rooting.bank_of_root.Goals as goal

pub returns-in_default : goal.returns-in_default
returns-in_default c = λ bank root.
    let n = c.args.origins.now.netlist in
    let is_s = subst (IsSourceOf n c.args.net.0) (sym c.source.ensures.source) (c.source.ensures.origins.sources.each c.args.net.0 c.requires.inside) in
    c.in_default.not-Ack (record { 0 = bank }) (source_of_origin n c.source.ensures.origins.drivers.netlist c.requires.free c.args.net.0 c.source.result (Ack (record { 0 = bank })) (AckOf bank) is_s root.acks refl)

pub returns-then-not-is_used : goal.returns-then-not-is_used
returns-then-not-is_used c = λ bank root. both_ways c.is_used.result c.if-not-is_used.true (c.is_used.ensures.1 root.used)

pub returns : goal.returns
returns c =
    let n = c.args.origins.now.netlist in
    let is_s = subst (IsSourceOf n c.args.net.0) (sym c.source.ensures.source ∙ c.in-Ack.is) (c.source.ensures.origins.sources.each c.args.net.0 c.requires.inside) in
    record { acks = is_s.comes; used = c.is_used.ensures.0 c.if-not-is_used.false }
