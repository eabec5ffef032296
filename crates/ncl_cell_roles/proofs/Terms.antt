-- What the proofs of this crate take from the library, the crates below and its own definitions, passed on.
pub use Rattle.std.proofs.Common.{Bool, List, None, Option, Some, [], ap, arith, codes, false, get_or, if◌then◌else◌, inl, inr, is_some, length, map, not, refl, subst, suc, sym, true, zero, ℕ, ◌&&◌, ◌++◌, ◌+◌, ◌<◌, ◌||◌, ◌∙◌, ◌∷◌, ◌≡◌, ◌≢◌, ◌≤◌, ◌⊎◌}
pub use Rattle.std.proofs.lemmas.Bool.{both_ways, cases_Bool, cases_lt, eq-eqb, eqb-true, false_from_ne_true}
pub use Rattle.std.proofs.lemmas.List.{append-nil, get_or-map, get_or_append_left, get_or_at, length-map}
pub use Rattle.std.proofs.lemmas.List.Elements.{All-contains, All-filter, filter_passes}
pub use Rattle.std.proofs.lemmas.List.Kept.{AllPairs-cons, AllPairs-filter}
pub use Rattle.std.proofs.lemmas.Option.{get_or_from_slice_get, slice_get-get_or, slice_get_past, slice_get_within}
pub use Rattle.std.proofs.lemmas.Slice.Zip.{AllZip-long}
pub use Rattle.std.specs.List.{AllZip}
pub use Rattle.std.specs.Prelude.{AllPairs, Contains, filter, nat_eq, slice_get}
pub use Rattle.ncl_base.proofs.Lists.{AllZip-at, Differ, differ_of_map, increasing_place}
pub use Rattle.ncl_base.proofs.Members.{All-from_members, Contains-from_Member, Contains-from_slice_get, Member, Member-append_cases, Member-append_right, Member-filter, Member-from_Contains, Member-map, here, list_any-from_member, member_cases, member_from_list_any, member_of_map, slice_get-from_Contains, slice_get-some, there}
pub use Rattle.ncl_base.specs.declared.word.TheConstants.{MOST_BITS}
pub use Rattle.ncl_cell_roles.specs.Layout.{IsAckOf, IsAckOn, IsCellOf, IsLayoutOf, IsRegisterOn, IsWires, Layout, Part, ReadsTree, SomeCell, TreeHas, TreePart, acks, completes, holds_rail, in_rail, no_rails, of_bank, of_stage, of_tree, rail_at, width}
pub use Rattle.ncl_cell_rules.proofs.AckPins.{ack_of_register, ack_pin_is_one}
pub use Rattle.ncl_cell_rules.proofs.CellTests.{same_net}
pub use Rattle.ncl_cell_rules.proofs.Drivers.{cell_fits, same_driver, same_place}
pub use Rattle.ncl_cell_rules.proofs.GateRanks.{gate_ranks}
pub use Rattle.ncl_cell_rules.proofs.NetOrigins.{bank_of_ack_net, completion_cell, one_origin}
pub use Rattle.ncl_cell_rules.proofs.OriginLaws.{ack_of_bank, ack_origin, bank_of_ack, bank_of_rail, bank_of_register, driver_of_ack, has_origin, origin_within, place_of, register_origin, sort_of}
pub use Rattle.ncl_cell_rules.specs.Free.{IsFree}
pub use Rattle.ncl_cell_rules.specs.Origin.{A, AckOf, AcksBank, B, CellAt, ComesFrom, FromPort, IsAck, IsCell, IsDataBank, IsGate, IsInputPort, IsOfBank, IsRegister, OnPin, Origin, RailOf, ReadsNet, ack, gate, port, rail}
pub use Rattle.ncl_gates.proofs.RegisterLaws.{register_pins_of}
pub use Rattle.ncl_gates.specs.Cell.{is_data_register, pins_of}
pub use Rattle.ncl_gates.specs.declared.cell_kind.CellKind.TheVariants.{Gate}
pub use Rattle.ncl_gates.specs.declared.kind.Kind.{Kind}
pub use Rattle.ncl_netlist.specs.Netlist.{IsNetlist, NetlistData}
pub use Rattle.ncl_netlist.specs.declared.cell.Cell.{Cell}
pub use Rattle.ncl_netlist.specs.declared.ids.NetId.{NetId}
pub use Rattle.ncl_shape.proofs.ChainLaws.{banks_of_chain, follows_at, place_in_chain}
pub use Rattle.ncl_shape.proofs.ShapeLaws.{last_bank, request_at, requests, same_cell}
pub use Rattle.ncl_shape.specs.Chain.{ChainedRequests, Follows, IsBank, IsRoot, OneRoleEach, OneRootEach, ShownOutputs, WordsApart}
pub use Rattle.ncl_shape.specs.Closure.{net_of}
pub use Rattle.ncl_shape.specs.Held.{is_data_bank, value_or_low, word_held}
pub use Rattle.ncl_shape.specs.Pipeline.{PipelineData}
pub use Rattle.ncl_shape.specs.Shape.{AreInputsOf, AreRailsOf, IsBankOf, IsBitOf, IsGateOf, IsStageOf, Shape}
pub use Rattle.ncl_shape.specs.Stage.{IsStage, StageData, nets_of, out_of, rail_nets, rail_of}
pub use Rattle.ncl_shape.specs.declared.bank.Bank.{Bank}
pub use Rattle.ncl_shape.specs.declared.bank.Bit.{Bit}
pub use Rattle.ncl_shape.specs.declared.rails.Rails.{Rails}
pub use Rattle.ncl_shape.specs.declared.stage.StageCell.{StageCell}
