use Rattle.ncl_cell_rules.proofs.Terms.{A, AreDrivers, B, IsDataBehind, NetlistData, OnPin, ap, arith, both_ways, get_or, inl, inr, length, refl, subst, subst₂, sym, ◌∙◌}
use Rattle.ncl_cell_rules.proofs.BitTests.{data_by_behind, data_read}
use Rattle.ncl_cell_rules.proofs.PinNumbers.{ack_on, ack_pins, no_net, on_pin_within}
use Rattle.ncl_cell_rules.proofs.mixing.reads_data.Goals as goal
use Rattle.ncl_cell_rules.proofs.mixing.reads_data.Goals.{After-deref, After-deref-2}

-- the nets that are read are on pins A and B
on_a : (c : After-deref) → OnPin c.args.cell.now A (get_or c.deref.result.now 0 no_net).0
on_a c = ack_on c.args.origins.now.netlist c.netlist.ensures.origins.drivers.netlist c.args.cell.now c.requires.in_netlist 0 c.deref.result.now c.deref.ensures.0 c.requires.ack (omega arith)

on_b : (c : After-deref-2) → OnPin c.args.cell.now B (get_or c.deref-2.result.now 1 no_net).0
on_b c = ack_on c.args.origins.now.netlist c.netlist.ensures.origins.drivers.netlist c.args.cell.now c.requires.in_netlist 1 c.deref-2.result.now c.deref-2.ensures.0 c.requires.ack (omega arith)

pub is_data_behind-requires-clause-inside : goal.is_data_behind-requires-clause-inside
is_data_behind-requires-clause-inside c =
    let n = c.args.origins.now.netlist in
    let within = on_pin_within n c.netlist.ensures.origins.drivers.netlist c.args.cell.now c.requires.in_netlist A _ (on_a (goal.at.is_data_behind-requires-clause-inside c).After-deref) in
    omega (arith, within, ap (λ (x : NetlistData). length x.nets) c.netlist.ensures.netlist)

pub is_data_behind-requires-2-clause-inside : goal.is_data_behind-requires-2-clause-inside
is_data_behind-requires-2-clause-inside c =
    let n = c.args.origins.now.netlist in
    let within = on_pin_within n c.netlist.ensures.origins.drivers.netlist c.args.cell.now c.requires.in_netlist B _ (on_b (goal.at.is_data_behind-requires-2-clause-inside c).After-deref-2) in
    omega (arith, within, ap (λ (x : NetlistData). length x.nets) c.netlist-2.ensures.netlist)

pub is_data_behind-requires-clause-drivers : goal.is_data_behind-requires-clause-drivers
is_data_behind-requires-clause-drivers c = subst₂ AreDrivers (sym c.netlist.ensures.netlist) (sym c.drivers.ensures.drivers) c.netlist.ensures.origins.drivers

pub is_data_behind-requires-2-clause-drivers : goal.is_data_behind-requires-2-clause-drivers
is_data_behind-requires-2-clause-drivers c = subst₂ AreDrivers (sym c.netlist-2.ensures.netlist) (sym c.drivers-2.ensures.drivers) c.netlist.ensures.origins.drivers

pub bounds-deref-0 : goal.bounds-deref-0
bounds-deref-0 c =
    let two = ack_pins c.args.origins.now.netlist c.netlist.ensures.origins.drivers.netlist c.args.cell.now c.requires.in_netlist c.requires.ack in
    omega (arith, two, ap length c.deref.ensures.0)

pub bounds-deref-1 : goal.bounds-deref-1
bounds-deref-1 c =
    let two = ack_pins c.args.origins.now.netlist c.netlist.ensures.origins.drivers.netlist c.args.cell.now c.requires.in_netlist c.requires.ack in
    omega (arith, two, ap length c.deref-2.ensures.0)

pub returns-then-is_data_behind : goal.returns-then-is_data_behind
returns-then-is_data_behind c = (
  (λ yes.
      let n = c.args.origins.now.netlist in
      let behind = (rw c.netlist.ensures.netlist at c.is_data_behind.ensures.0) c.if-is_data_behind.true in
      data_by_behind n c.netlist.ensures.origins.drivers.netlist c.args.cell.now c.requires.in_netlist c.requires.ack _ c.deref.ensures.0 0 (omega arith) behind),
  λ reads. refl,
)

pub returns : goal.returns
returns c =
    let n = c.args.origins.now.netlist in
    let is = c.netlist.ensures.origins.drivers.netlist in
    let cell = c.args.cell.now in (
      (λ yes. data_by_behind n is cell c.requires.in_netlist c.requires.ack _ c.deref-2.ensures.0 1 (omega arith) ((rw c.netlist-2.ensures.netlist at c.is_data_behind-2.ensures.0) yes)),
      λ reads. elim (data_read n is cell c.requires.in_netlist c.requires.ack _ c.deref.ensures.0 reads) [
        | inl zero ↦ absurd (both_ways c.is_data_behind.result c.if-is_data_behind.false ((rw c.netlist.ensures.netlist at c.is_data_behind.ensures.1) zero))
        | inr one ↦ (rw c.netlist-2.ensures.netlist at c.is_data_behind-2.ensures.1) (subst (λ pins. IsDataBehind n (get_or pins 1 no_net).0) (c.deref.ensures.0 ∙ sym c.deref-2.ensures.0) one)
      ],
    )
