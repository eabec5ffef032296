-- Tests of cells, which compute: of which sort a cell is, and which net is on which of its pins.
use Rattle.std.specs.Prelude.{ℕ, Bool, true, false, ◌&&◌, Option, None, Some, slice_get, nat_eq, count_by}
use Rattle.std.specs.List.{list_any, position_from}
use Rattle.ncl_gates.specs.declared.cell_kind.CellKind.{CellKind}
use Rattle.ncl_gates.specs.declared.cell_kind.CellKind.TheVariants.{Gate, Register, RegisterData, Ack}
use Rattle.ncl_gates.specs.Cell.{is_register, is_data_register}
use Rattle.ncl_netlist.specs.declared.ids.NetId.{NetId}
use Rattle.ncl_netlist.specs.declared.cell.Cell.{Cell}
use Rattle.ncl_netlist.specs.Netlist.{NetlistData}
use Rattle.ncl_cell_rules.specs.Origin.{B}

abbrev pub is_gate : CellKind → Bool
is_gate (Gate kind) = true
is_gate Register = false
is_gate RegisterData = false
is_gate Ack = false

-- a pin has this net
abbrev pub has_net : ℕ → Option NetId → Bool
has_net net None = false
has_net net (Some id) = nat_eq id.0 net

-- a register cell
abbrev pub register_test : Cell → Bool
register_test c = is_register c.kind

-- a register cell with the net on this pin
abbrev pub on_register_pin : ℕ → ℕ → Cell → Bool
on_register_pin pin net c = is_register c.kind && has_net net (slice_get c.ins.items pin)

-- a register cell of a bank, which is named by its request
abbrev pub bank_test : ℕ → Cell → Bool
bank_test request = on_register_pin B request

-- a register cell of a bank that is reset to 1
abbrev pub data_test : ℕ → Cell → Bool
data_test request c = is_data_register c.kind && has_net request (slice_get c.ins.items B)

-- a cell that reads the net
abbrev pub reads_test : ℕ → Cell → Bool
reads_test net c = list_any (λ (id : NetId). nat_eq id.0 net) c.ins.items

-- a gate cell that reads the net
abbrev pub gate_reads_test : ℕ → Cell → Bool
gate_reads_test net c = is_gate c.kind && reads_test net c

-- the place of the first register cell of a bank
abbrev pub first_register : NetlistData → ℕ → Option ℕ
first_register n request = position_from (bank_test request) 0 n.cells

-- how many register cells have the net on this pin
abbrev pub pins_at : NetlistData → ℕ → ℕ → ℕ
pins_at n pin net = count_by (on_register_pin pin net) n.cells
