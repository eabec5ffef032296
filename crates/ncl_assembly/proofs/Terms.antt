-- What the proofs of this crate take from the library, the crates below and its own definitions, passed on.
pub use Rattle.std.proofs.Common.{Bool, List, None, Some, [], ap, arith, false, get_or, inl, inr, length, map, refl, subst, suc, sym, true, zero, ℕ, ◌++◌, ◌+◌, ◌-◌, ◌<◌, ◌∙◌, ◌∷◌, ◌≡◌, ◌≢◌, ◌≤◌, ◌⊎◌}
pub use Rattle.std.proofs.lemmas.Bool.{both_ways, cases_eq, cases_lt, eq-eqb, false_from_ne_true, ne_eqb}
pub use Rattle.std.proofs.lemmas.List.{append-nil, append_assoc, length-map}
pub use Rattle.std.proofs.lemmas.List.Elements.{All-from_recursion}
pub use Rattle.std.proofs.lemmas.List.FromFn.{get_or-range_with_len, length-range_with_len}
pub use Rattle.std.proofs.lemmas.List.Kept.{AllPairs-cons}
pub use Rattle.std.proofs.lemmas.List.Sums.{sum_by-cons}
pub use Rattle.std.proofs.lemmas.Option.{slice_get-get_or, slice_get_within}
pub use Rattle.std.specs.List.{AllZip, flat_map, range_with_len}
pub use Rattle.std.specs.Prelude.{All, AllPairs, Contains, codes, slice_get, sum_by, ◌&&◌}
pub use Rattle.ncl_assembly.specs.Assembled.{HasCell, HasGate, IsAssembled, IsWiredBank, IsWiredBit, IsWiredStage, ReadsAcks, WiredBank, WiredBit, ack_nets, bank_numbers, bank_of, gate_numbers, input_nets, output_nets, rails_driven, rails_read, register_numbers}
pub use Rattle.ncl_base.proofs.Joined.{Member-flat_map}
pub use Rattle.ncl_base.proofs.Lists.{AllZip-from_places, pairs-head, pairs-tail}
pub use Rattle.ncl_base.proofs.Members.{All-from_members, Contains-from_Member, Contains-from_slice_get, Member, Member-append_cases, Member-append_left, Member-append_right, Member-from_Contains, Member-map, here, member_cases, member_of_map, slice_get-from_Contains, slice_get-some, there}
pub use Rattle.ncl_base.proofs.Places.{at_map, at_of_map, divided_at, slice_get-end, slice_get-kept}
pub use Rattle.ncl_base.proofs.Tests.{All-at, All-member}
pub use Rattle.ncl_base.specs.declared.word.TheConstants.{MOST_BITS}
pub use Rattle.ncl_cell_rules.proofs.CellOrigins.{gate_origin}
pub use Rattle.ncl_cell_rules.proofs.CellTests.{same_net}
pub use Rattle.ncl_cell_rules.proofs.Drivers.{cell_fits, same_driver, same_place}
pub use Rattle.ncl_cell_rules.proofs.NetOrigins.{acked_is_one, bank_is_one}
pub use Rattle.ncl_cell_rules.proofs.OriginLaws.{ReadsNet-from_pin, ack_origin, place_of, port_origin, register_origin}
pub use Rattle.ncl_cell_rules.specs.Free.{IsFree}
pub use Rattle.ncl_cell_rules.specs.Origin.{A, AckOf, AcksBank, B, CellAt, ComesFrom, FromPort, HasOnlyOrigin, HaveSameOrigins, IsAck, IsCell, IsDataBank, IsGate, IsInputPort, IsOfBank, IsOutputPort, IsRegister, IsTreeKind, LeadsTo, OnPin, Origin, RST, RailOf, ReadsNet, ack, gate, more, one, port, rail, th22}
pub use Rattle.ncl_cell_rules.specs.Rules.{IsFromOneAck, IsFromOneRail, IsGateOfOne, IsOffCycles, IsPaired, IsReadByGate, IsReadPort, IsRegisterOfOne, IsRequest, IsTied, IsUnmixed, ReadsOneBit, ack_pins, ack_pins_of, pins_with}
pub use Rattle.ncl_gates.proofs.PinLaws.{pins_of-some}
pub use Rattle.ncl_gates.proofs.RegisterLaws.{data_is_register, register_no_ack, register_no_gate}
pub use Rattle.ncl_gates.specs.Cell.{is_data_register, is_register, pins_of}
pub use Rattle.ncl_gates.specs.declared.cell_kind.CellKind.{CellKind}
pub use Rattle.ncl_gates.specs.declared.cell_kind.CellKind.TheVariants.{Ack, Gate, Register}
pub use Rattle.ncl_gates.specs.declared.kind.Kind.{Kind}
pub use Rattle.ncl_gates.specs.declared.kind.Kind.TheVariants.{Th22}
pub use Rattle.ncl_netlist.specs.Netlist.{IsNetlist, NetlistData}
pub use Rattle.ncl_netlist.specs.declared.cell.Cell.{Cell}
pub use Rattle.ncl_netlist.specs.declared.ids.CellId.{CellId}
pub use Rattle.ncl_netlist.specs.declared.ids.NetId.{NetId}
pub use Rattle.ncl_netlist.specs.declared.port.Port.{Port}
pub use Rattle.ncl_shape.proofs.InnerRules.{chained}
pub use Rattle.ncl_shape.specs.Chain.{Follows, HasEnds, HasOne, HasOneRole, HasRegister, HasRoots, IsAcknowledged, IsChain, IsChained, IsClosed, IsEnd, IsFirstBank, IsHead, IsInputOf, IsLastBank, IsPath, IsRoot, IsShown, IsUnforked, OnPinNamed, end, next}
pub use Rattle.ncl_shape.specs.Examples.{bit, net_id, one_bit, one_bit_pipeline, one_bit_ports, rails, with_ports}
pub use Rattle.ncl_shape.specs.Held.{start_of}
pub use Rattle.ncl_shape.specs.Pipeline.{PipelineData}
pub use Rattle.ncl_shape.specs.Shape.{AreInputsOf, AreRailsOf, IsBankOf, IsBitOf, IsGateOf, IsStageOf, Shape}
pub use Rattle.ncl_shape.specs.Stage.{IsStage, Reads, StageData, nets_of, out_of, rail_nets}
pub use Rattle.ncl_shape.specs.declared.bank.Bank.{Bank}
pub use Rattle.ncl_shape.specs.declared.bank.Bit.{Bit}
pub use Rattle.ncl_shape.specs.declared.rails.Rails.{Rails}
pub use Rattle.ncl_shape.specs.declared.stage.StageCell.{StageCell}
