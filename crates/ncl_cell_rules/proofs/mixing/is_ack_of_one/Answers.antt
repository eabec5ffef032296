use Rattle.ncl_cell_rules.proofs.Terms.{ap, both_ways, false, get_or, refl, sym, ◌∙◌, ◌≡◌}
use Rattle.ncl_cell_rules.proofs.BitTests.{acks_behind, acks_by_behind, same_behind, behind_within}
use Rattle.ncl_cell_rules.proofs.DataBanks.{mark_of_bank, bank_of_mark}
use Rattle.ncl_cell_rules.proofs.mixing.is_ack_of_one.Goals as goal

pub returns-in_default : goal.returns-in_default
returns-in_default c = (
  (λ holds request acks is_data.
      let (k, behind) = acks_behind c.args.origins.now.netlist c.netlist.ensures.origins.drivers.netlist c.args.cell.now c.requires.in_netlist c.requires.ack _ c.deref.ensures.0 request acks in
      absurd ((rw c.netlist.ensures.netlist at c.in_default.ensures.none) k request behind)),
  λ one. refl,
)

pub is_data_bank-requires : goal.is_data_bank-requires
is_data_bank-requires c = behind_within c.args.origins.now.netlist c.netlist.ensures.origins.drivers.netlist _ _ _ (rw c.netlist.ensures.netlist at c.in-Some.ensures.some)

pub returns-then-not-is_data_bank : goal.returns-then-not-is_data_bank
returns-then-not-is_data_bank c = (
  (λ holds request acks is_data.
      let n = c.args.origins.now.netlist in
      let is = c.netlist.ensures.origins.drivers.netlist in
      let (k, behind) = acks_behind n is c.args.cell.now c.requires.in_netlist c.requires.ack _ c.deref.ensures.0 request acks in
      let same : c.in-Some.bank.0 ≡ request = (same_behind n is _ _ k c.in-Some.bank.0 request (rw c.netlist.ensures.netlist at c.in-Some.ensures.some) behind).1 in
      let within = behind_within n is _ k request behind in
      absurd (both_ways c.is_data_bank.result c.if-not-is_data_bank.true
      (c.is_data_bank.ensures.data ∙ ap (λ x. get_or c.args.origins.now.data_banks x false) same ∙ mark_of_bank n c.args.origins.now.data_banks c.netlist.ensures.origins.data_banks request within is_data))),
  λ one. refl,
)

pub returns : goal.returns
returns c = (
  (λ holds request acks is_data. c.reads_data.ensures.0 holds),
  λ one.
      let n = c.args.origins.now.netlist in
      let is = c.netlist.ensures.origins.drivers.netlist in
      let behind = (rw c.netlist.ensures.netlist at c.in-Some.ensures.some) in
      let within = behind_within n is _ _ _ behind in
      let is_data = bank_of_mark n c.args.origins.now.data_banks c.netlist.ensures.origins.data_banks c.in-Some.bank.0 within (sym c.is_data_bank.ensures.data ∙ c.if-not-is_data_bank.false) in
      c.reads_data.ensures.1 (one c.in-Some.bank.0 (acks_by_behind n is c.args.cell.now c.requires.in_netlist c.requires.ack _ c.deref.ensures.0 _ _ behind) is_data),
)
