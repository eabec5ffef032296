use Rattle.ncl_netlist.proofs.Terms.{ap, name_number, sym, ◌++◌, ◌∙◌, ◌≡◌}
use Rattle.ncl_netlist.proofs.NameLists.{name_number-insert_key}
use Rattle.ncl_netlist.proofs.numbering.number_net.Goals as goal

pub returns-clause-net : goal.returns-clause-net
returns-clause-net c = λ more.
    let place : c.in_ok-place.place ≡ name_number (c.insert_full.new.self.keys ++ more) c.args.name =
    c.in_ok-place.ensures.index
    ∙ sym (name_number-insert_key c.args.names.now.keys c.args.name more)
    ∙ ap (λ l. name_number (l ++ more) c.args.name) (sym c.in_ok-place.ensures.keys) in
    λ i. record { 0 = place i }
