-- Tables of nets: lists that have an entry for each net of a netlist, at the place of its number.
use Rattle.std.specs.Prelude.{◌≡◌, ℕ, ◌<◌, List, Bool, false, Option, None, length}
use Rattle.std.specs.List.{slice_index_or, list_any}
use Rattle.ncl_netlist.specs.Netlist.{NetlistData}
use Rattle.ncl_cell_rules.specs.Rules.{ack_pins}
use Rattle.ncl_cell_rules.specs.CellTests.{reads_test, gate_reads_test, data_test, first_register}

-- the table has the value of f at each net, and d past its end
pub record IsTable {X : Type 0} (n : NetlistData) (d : X) (f : ℕ → X) (table : List X) : Type 0 where
  pub sized : length table ≡ length n.nets
  pub each : (net : ℕ) → net < length n.nets → slice_index_or table net d ≡ f net

-- for each net whether some pin has it
abbrev pub AreReads : NetlistData → List Bool → Type 0
AreReads n = IsTable n false (λ net. list_any (reads_test net) n.cells)

-- for each net whether a pin of a gate cell has it
abbrev pub AreGateReads : NetlistData → List Bool → Type 0
AreGateReads n = IsTable n false (λ net. list_any (gate_reads_test net) n.cells)

-- for each net whether it is the request of a bank that is reset to DATA
abbrev pub AreDataBanks : NetlistData → List Bool → Type 0
AreDataBanks n = IsTable n false (λ net. list_any (data_test net) n.cells)

-- for each net how many pins of acknowledge cells have it
abbrev pub AreAckPins : NetlistData → List ℕ → Type 0
AreAckPins n = IsTable n 0 (ack_pins n)

-- what a table of first register cells says of a net
abbrev pub first_at : List (Option ℕ) → ℕ → Option ℕ
first_at firsts net = slice_index_or firsts net None

-- for each net the place of the first register cell that has it on B, if there is one
abbrev pub AreFirsts : NetlistData → List (Option ℕ) → Type 0
AreFirsts n = IsTable n None (first_register n)
