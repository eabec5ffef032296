-- What the proofs of this crate take from the library, the crates below and its own definitions, passed on.
pub use Rattle.std.proofs.Common.{Bool, Global, List, None, Option, Some, Vec, [], ap, arith, below_more, codes, cond, drop, false, get_or, get_or-set_other, get_or-set_same, if◌then◌else◌, inl, inr, is_some, length, length-set, map, not, refl, replicate, rules, set, subst, suc, sym, take, true, zero, ℕ, ◌&&◌, ◌*◌, ◌++◌, ◌+◌, ◌-◌, ◌<◌, ◌^◌, ◌∙◌, ◌∷◌, ◌≡◌, ◌≢◌, ◌≤◌, ◌⊎◌}
pub use Rattle.std.proofs.Math.ListN.{drop_of_length-le}
pub use Rattle.std.proofs.Math.Path.{fun_ext}
pub use Rattle.std.proofs.lemmas.Bool.{and_from, and_parts, both_ways, cases_Bool, cases_eq, cases_lt, cond-false, cond-true, eq-eqb, eqb-true, false_from_ne_true, false≢true, not-true, not_from_false, or_cases, or_from, or_left, or_right}
pub use Rattle.std.proofs.lemmas.Iterator.Adapters.{YieldsList-from_vec}
pub use Rattle.std.proofs.lemmas.Iterator.Consumers.{YieldsList-end, YieldsList-turn}
pub use Rattle.std.proofs.lemmas.List.{drop_more, get_or-map, get_or-replicate, get_or_append_left, get_or_past, get_or_push, get_or_read, length-map, length-replicate, length_push, map-append, map-set, map_push, replicate_more, take_all, take_at, take_more}
pub use Rattle.std.proofs.lemmas.List.Elements.{All-cons, All-contains, All-push, Contains-append_left}
pub use Rattle.std.proofs.lemmas.List.Kept.{AllPairs-cons}
pub use Rattle.std.proofs.lemmas.List.Quantifiers.{all_pairs_push}
pub use Rattle.std.proofs.lemmas.List.Sums.{count_by-le-length, count_by_more_no, count_by_more_yes, sum_by-cons, sum_by-take-le}
pub use Rattle.std.proofs.lemmas.Option.{MatchOption-at_none, MatchOption-at_some, get_or_from_slice_get, slice_get-get_or, slice_get-map, slice_get_within}
pub use Rattle.std.specs.List.{AllByRecursion, AllZip, list_any}
pub use Rattle.std.specs.Option.{option_map}
pub use Rattle.std.specs.Prelude.{All, AllPairs, Contains, IfErr, IsErrAnd, MatchOption, count_by, filter, nat_eq, slice_get}
pub use Rattle.std.specs.declared.result.Result.{Result}
pub use Rattle.std.specs.declared.result.Result.TheVariants.{Err, Ok}
pub use Rattle.ncl_base.proofs.Growing.{Contains-last, at_push, cut_at, from_push, no_more_than, split_push}
pub use Rattle.ncl_base.proofs.Lists.{AllZip-at, AllZip-from_places, AllZip-one, HasKeys, IsPermutation-from_members, differ_of_map, pairs-head, pairs-tail, same_from_lengths, same_from_places, same_increasing}
pub use Rattle.ncl_base.proofs.Members.{All-from_members, Contains-from_Member, Contains-from_slice_get, Member, Member-append_left, Member-append_right, Member-from_Contains, Member-map, count_from_member, here, list_any-from_member, member_cases, member_from_count, member_from_list_any, member_of_map, place_is_one, recursion_from_members, slice_get-from_Contains, slice_get-some, there}
pub use Rattle.ncl_base.proofs.Places.{no_entry, slice_get-end, slice_get-kept}
pub use Rattle.ncl_base.proofs.Tests.{AllPairs-append, map-same, same_from_both, same_unless}
pub use Rattle.ncl_base.specs.declared.word.TheConstants.{MOST_BITS}
pub use Rattle.ncl_cell_rules.proofs.AckPins.{ack_of_register, ack_pin_is_one}
pub use Rattle.ncl_cell_rules.proofs.BitTests.{banks_are_one, behind_a, behind_b, data_of_driver, of_bank_behind, same_cell}
pub use Rattle.ncl_cell_rules.proofs.CellTests.{each_gate_reading, each_of_bank, each_passing, each_register, on_pin_each, same_net}
pub use Rattle.ncl_cell_rules.proofs.DataBanks.{bank_of_mark, mark_of_bank}
pub use Rattle.ncl_cell_rules.proofs.Drivers.{cell_fits, driver_of, no_cell_drives_port, same_driver, same_place}
pub use Rattle.ncl_cell_rules.proofs.FirstRegisters.{first_none, first_of_bank, first_read, first_within}
pub use Rattle.ncl_cell_rules.proofs.NetOrigins.{acked_is_one, bank_of_ack_net, one_origin}
pub use Rattle.ncl_cell_rules.proofs.OrderSteps.{new_at}
pub use Rattle.ncl_cell_rules.proofs.OriginLaws.{ReadsNet-from_pin, ack_origin, bank_of_rail, cell_of_rail, has_origin, origin_within, pin_of_register, place_of, port_origin, register_origin, sort_of}
pub use Rattle.ncl_cell_rules.proofs.PinNumbers.{ack_pins, no_net, on_pin_of, on_pin_within, output_within, pin_inside, register_inside, register_on, register_pins}
pub use Rattle.ncl_cell_rules.proofs.PortReads.{port_read}
pub use Rattle.ncl_cell_rules.proofs.SourceSteps.{only_from_source, source_from_only}
pub use Rattle.ncl_cell_rules.proofs.SourceTests.{names_rail, none_from, none_of_port, port_of_none, some_from}
pub use Rattle.ncl_cell_rules.proofs.Summaries.{named, named_is_one}
pub use Rattle.ncl_cell_rules.proofs.TableSteps.{cell_of_order, cell_read, rule_at}
pub use Rattle.ncl_cell_rules.proofs.TreeTests.{first_by_request, request_by_first}
pub use Rattle.ncl_cell_rules.specs.CellOrder.{IsCellOrder}
pub use Rattle.ncl_cell_rules.specs.CellTests.{bank_test, has_net, on_register_pin, pins_at}
pub use Rattle.ncl_cell_rules.specs.Free.{AtCell, FailsFirst, IsFree}
pub use Rattle.ncl_cell_rules.specs.GateGraph.{Drives, IsRegisterBehind}
pub use Rattle.ncl_cell_rules.specs.Origin.{A, AckOf, AcksBank, B, CellAt, ComesFrom, FromPort, HasOnlyOrigin, HaveSameOrigins, IsAck, IsCell, IsDataBank, IsGate, IsInputPort, IsOfBank, IsOutputPort, IsRegister, OnPin, Origin, RST, RailOf, ReadsNet, ack, gate, port, rail}
pub use Rattle.ncl_cell_rules.specs.Origins.{AreOffCycles, ArePaired, ArePortsRead, AreUnmixed, IsCellFault}
pub use Rattle.ncl_cell_rules.specs.Rules.{IsOffCycles, IsPaired, IsReadPort, IsTied, IsUnmixed, ReadsOneBit}
pub use Rattle.ncl_cell_rules.specs.Sources.{IsSourceOf}
pub use Rattle.ncl_cell_rules.specs.Tables.{IsTable}
pub use Rattle.ncl_cell_rules.specs.declared.fault.CellFault.{CellFault}
pub use Rattle.ncl_cell_rules.specs.declared.fault.CellFault.TheVariants.{Cycle, Loose, Memory as CellMemory, Mixed, Unpaired, UnusedPort}
pub use Rattle.ncl_cell_rules.specs.declared.source.Source.{Source}
pub use Rattle.ncl_cell_rules.specs.declared.source.Source.TheVariants.{Ack, Many, Port, Rail}
pub use Rattle.ncl_gates.proofs.GateLaws.{set_of-monotone}
pub use Rattle.ncl_gates.proofs.PinLaws.{pins_of-gate}
pub use Rattle.ncl_gates.proofs.RegisterLaws.{register_no_ack, register_no_gate, register_pins_of}
pub use Rattle.ncl_gates.specs.Cell.{is_data_register, is_register, pins_of}
pub use Rattle.ncl_gates.specs.Gate.{arity_of, set_of, some_high}
pub use Rattle.ncl_gates.specs.GateLaw.{IsBelow as AreBelow, all_high}
pub use Rattle.ncl_gates.specs.declared.cell_kind.CellKind.{CellKind}
pub use Rattle.ncl_gates.specs.declared.cell_kind.CellKind.TheVariants.{Gate, Register, RegisterData}
pub use Rattle.ncl_gates.specs.declared.kind.Kind.{Kind}
pub use Rattle.ncl_gates.specs.declared.kind.Kind.TheVariants.{Th22}
pub use Rattle.ncl_netlist.proofs.NetlistLaws.{ports-le-nets}
pub use Rattle.ncl_netlist.specs.Netlist.{IsNetlist, NetlistData}
pub use Rattle.ncl_netlist.specs.declared.cell.Cell.{Cell}
pub use Rattle.ncl_netlist.specs.declared.ids.NetId.{NetId}
pub use Rattle.ncl_shape.specs.Chain.{BreaksInner, ChainedRequests, Follows, HasChain, HasEnds, HasOne, HasOneRole, HasRegister, HasRoots, InnerHolds, InnerRule, IsAcknowledged, IsBank, IsChain, IsChained, IsClosed, IsDataApart, IsEnd, IsFirstBank, IsHead, IsInputOf, IsLastBank, IsPath, IsRoot, IsUnforked, NoFork, OnPinNamed, OneChain, OneRoleEach, OneRootEach, ShownOutputs, SomeRegister, TwoEnds, WordsApart, end, inner_number, next}
pub use Rattle.ncl_shape.specs.ChainSteps.{AreAllNumbered, AreNumbersOf, AreOnly, AreRootsOf, HasMore, IsFeedOf, IsOneRole, IsOnly, IsOnlyOf, IsShownCell, IsShownPort, IsWalk, net_at, numbers_of}
pub use Rattle.ncl_shape.specs.Closure.{close, first_pin, net_of, passes, passes_on, pin_values}
pub use Rattle.ncl_shape.specs.Examples.{bit_left_out, cell, cut, three}
pub use Rattle.ncl_shape.specs.FoundChain.{IsChainFault, IsChainOf, Relates, number_at, requests_of}
pub use Rattle.ncl_shape.specs.FoundParts.{AreFewBitsOf, AreGatesOf, AreOnSide, AreStagesOf, IsFewBitBank, net_on}
pub use Rattle.ncl_shape.specs.Held.{data_banks, is_data_bank, start_of}
pub use Rattle.ncl_shape.specs.Nets.{IsBelow, Nets, round, rounds}
pub use Rattle.ncl_shape.specs.Pipeline.{PipelineData}
pub use Rattle.ncl_shape.specs.Renamed.{IsRenamedCell, renamed_net, renamed_rails}
pub use Rattle.ncl_shape.specs.SamePipeline.{IsSamePipeline, IsSameStage}
pub use Rattle.ncl_shape.specs.Shape.{AreBitsOf, AreInputsOf, AreRailsOf, BreaksRule, Broken, Chained, FewBanks, InPairs, IsBankOf, IsBitOf, IsGateOf, IsNarrow, IsShapeFault, IsShort, IsStageOf, NarrowBanks, OffCycles, PortsRead, Rule, RuleHolds, Shape, Tied, Unmixed, rule_number, rule_of, shape_fault_of}
pub use Rattle.ncl_shape.specs.Stage.{IsInOrder, IsStage, Reads, StageData, nets_of, out_of, rail_nets, rail_of}
pub use Rattle.ncl_shape.specs.declared.bank.Bank.{Bank}
pub use Rattle.ncl_shape.specs.declared.bank.Bit.{Bit}
pub use Rattle.ncl_shape.specs.declared.bank.TheConstants.{MOST_BANKS}
pub use Rattle.ncl_shape.specs.declared.chain.Chain.{Chain}
pub use Rattle.ncl_shape.specs.declared.chain.Relation.{Relation}
pub use Rattle.ncl_shape.specs.declared.chain.Relation.TheVariants.{Follower, Root}
pub use Rattle.ncl_shape.specs.declared.fault.ShapeFault.{ShapeFault}
pub use Rattle.ncl_shape.specs.declared.fault.ShapeFault.TheVariants.{CellRule, Memory, NoChain, TooLong, TooWide}
pub use Rattle.ncl_shape.specs.declared.rails.Rails.{Rails}
pub use Rattle.ncl_shape.specs.declared.rails.Side.{Side}
pub use Rattle.ncl_shape.specs.declared.rails.Side.TheVariants.{Driven, Read}
pub use Rattle.ncl_shape.specs.declared.stage.StageCell.{StageCell}
