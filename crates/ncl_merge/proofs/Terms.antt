-- What the proofs of this crate take from the library and from other crates, and the terms that they speak of, passed on.
pub use Rattle.ncl_base.proofs.Growing.{Contains-filter_map, Contains-filter_map_of, filter_map-more, map_push, split_at, sum_by-map}
pub use Rattle.ncl_base.proofs.Joined.{Member-flat_map, length-join_with_byte, member_of_flat_map}
pub use Rattle.ncl_base.proofs.Lists.{AllZip-from_places, Differ, pairs-head, pairs-tail, take-written}
pub use Rattle.ncl_base.proofs.Members.{All-from_members, Contains-from_Member, Contains-from_slice_get, Member, Member-append_cases, Member-append_left, Member-append_right, Member-filter, Member-from_Contains, Member-get_or, Member-map, count_from_member, here, list_any-from_member, member-found, member_cases, member_from_count, member_from_list_any, member_of_filter, member_of_map, slice_get-from_Contains, slice_get-some, there}
pub use Rattle.ncl_base.proofs.Places.{AllZip-back, at_map, at_of_map, push_cases}
pub use Rattle.ncl_base.proofs.Tests.{All-member, AllPairs-append, list_all-member, map-same, same_from_both}
pub use Rattle.ncl_base.specs.declared.word.TheConstants.{MOST_BITS}
pub use Rattle.ncl_cell_roles.proofs.BankBits.{rail_of_register}
pub use Rattle.ncl_cell_roles.proofs.BetweenBanks.{gate_of_stage, register_on, stage_origin, stages_join}
pub use Rattle.ncl_cell_roles.proofs.EndLaws.{first_bank, input_is_port, ki_is_port}
pub use Rattle.ncl_cell_roles.proofs.HeldWords.{held-some}
pub use Rattle.ncl_cell_roles.proofs.LaidOut.{laid_out}
pub use Rattle.ncl_cell_roles.proofs.NetsApart.{nets_at, stages_apart}
pub use Rattle.ncl_cell_roles.proofs.Numbering.{bank_named, inner_or_last, inner_stage, last_stage, stage_at}
pub use Rattle.ncl_cell_roles.proofs.RailNets.{rail-within}
pub use Rattle.ncl_cell_roles.proofs.StageNumbers.{wires_or_stage}
pub use Rattle.ncl_cell_roles.specs.Layout.{IsLayoutOf, Layout, rail_at}
pub use Rattle.ncl_cell_rules.proofs.Drivers.{cell_fits, driver_of, no_cell_drives_port, same_driver, same_place}
pub use Rattle.ncl_cell_rules.proofs.GateRanks.{gate_ranks}
pub use Rattle.ncl_cell_rules.proofs.OriginLaws.{bank_of_ack, bank_of_register, cell_of_rail, driver_of_ack, origin_within, place_of, sort_of}
pub use Rattle.ncl_cell_rules.proofs.PinCounts.{AreCountsOf, counts_more, counts_whole, few_counts, own_pins}
pub use Rattle.ncl_cell_rules.specs.CellTests.{is_gate}
pub use Rattle.ncl_cell_rules.specs.Free.{IsFree}
pub use Rattle.ncl_cell_rules.specs.Origin.{A, AckOf, AcksBank, B, CellAt, ComesFrom, FromPort, HasOnlyOrigin, IsAck, IsCell, IsDataBank, IsGate, IsInputPort, IsOfBank, IsOutputPort, IsRegister, LeadsTo, OnPin, Origin, RST, RailOf, ReadsNet, ack, gate, more, one, port, rail}
pub use Rattle.ncl_cell_rules.specs.Rules.{IsAckOfOne, IsFirstOfBank, IsGateOfOne, IsPaired, IsReadPort, IsRegisterOfOne, IsRequest, IsTied, IsUnmixed, ack_pins, ack_pins_of, pins_with}
pub use Rattle.ncl_cell_rules.specs.Tables.{IsTable}
pub use Rattle.ncl_faults.proofs.Apart.{named-within, right-differ}
pub use Rattle.ncl_faults.proofs.OnePass.{among-from_member}
pub use Rattle.ncl_faults.proofs.Reordered.{IsSameVariant, base, bit, cell, same_values}
pub use Rattle.ncl_faults.proofs.ValueLaws.{rail-no_output, rises-monotone, same_output, start-within, val-keeps, val-output, val-settled}
pub use Rattle.ncl_faults.specs.Faults.{BothRails, Incomplete, IsSound, IsWordOf, NoRail, Orphan, all_data, has_data, holds_at, is_illegal}
pub use Rattle.ncl_faults.specs.Values.{both_rails, holds, kept_low, output_net, rises, start, val}
pub use Rattle.ncl_faults.specs.declared.variant.Variant.{Variant}
pub use Rattle.ncl_faults.specs.declared.variant.Variant.TheVariants.{Base, Bit, Cell as LowCell}
pub use Rattle.ncl_gates.proofs.PinLaws.{arity_of-few, arity_of-some, name_of-long, name_of-short, pins_of-gate}
pub use Rattle.ncl_gates.proofs.RegisterLaws.{data_is_register, register_no_gate, register_pins_of}
pub use Rattle.ncl_gates.proofs.Table.{kind_named-name_of}
pub use Rattle.ncl_gates.specs.Cell.{is_data_register, is_register, pins_of}
pub use Rattle.ncl_gates.specs.Gate.{arity_of, set_of}
pub use Rattle.ncl_gates.specs.Name.{cell_name_of, name_of}
pub use Rattle.ncl_gates.specs.declared.cell_kind.CellKind.{CellKind}
pub use Rattle.ncl_gates.specs.declared.cell_kind.CellKind.TheVariants.{Ack, Gate}
pub use Rattle.ncl_gates.specs.declared.kind.Kind.{Kind}
pub use Rattle.ncl_gates.specs.declared.kind.Kind.TheVariants.{Th12, Th22}
pub use Rattle.ncl_gates.specs.declared.kind.TheConstants.{KINDS}
pub use Rattle.ncl_insensitivity.proofs.Composition.{closed-is}
pub use Rattle.ncl_insensitivity.proofs.Headline.{is_composition}
pub use Rattle.ncl_insensitivity.proofs.HeldDue.{word-passes}
pub use Rattle.ncl_insensitivity.proofs.HeldLayout.{held-in, slice_get-drop}
pub use Rattle.ncl_insensitivity.proofs.OfferedWords.{under-own, word_under}
pub use Rattle.ncl_insensitivity.proofs.WiresPass.{wires-pass}
pub use Rattle.ncl_insensitivity.proofs.WiresSound.{wires_sound}
pub use Rattle.ncl_machine.proofs.FallingLaws.{sound-when_held}
pub use Rattle.ncl_machine.proofs.HeldCounts.{held_from}
pub use Rattle.ncl_machine.proofs.LocalNets.{with_net-here}
pub use Rattle.ncl_machine.proofs.NamedRails.{member-from_among}
pub use Rattle.ncl_machine.specs.Composition.{composed, stage_function}
pub use Rattle.ncl_merge.specs.Choice.{DriveOnce, HaveGates, all_of, becomes, cell_driving, choice_by, choice_of, folded_netlist, folded_pipeline, is_driven, is_stage_cell, is_stage_net, moved_gate, moved_stage, moved_stages, net_there, place_there, with_gate_of}
pub use Rattle.ncl_merge.specs.Fold.{AreNeeded, AreThrough, Depends, FoldsTo, IsFold, IsFoldOf, IsFoldable, IsIndependent, IsOnOnePin, agrees, assigned, line_length, more as folded_more, none as unfolded, one_at, pins_of as net_pins, pins_sum, same_value, value_through, with_cells}
pub use Rattle.ncl_merge.specs.Folding.{AreAllFolds, AreFewer, AreFoldsOf, CountsPins, HasNoFoldable, HasNone, HasNoneAt, HasNoneBefore, HasNoneIn, HasNoneUpTo, IsFoldedAt, IsFolding, IsTabledStage, TabledStageData, present, with_gate, with_slot}
pub use Rattle.ncl_merge.specs.Merged.{HasLabelOf, IsMergedBank, IsMergedStage, IsOnTheWay, IsSmaller, IsSoundNetlist, Keeps, Merged, NothingFoldable, cell_name, rail_names, standing}
pub use Rattle.ncl_merge.specs.Rebuilt.{IsChoice, IsWhole, kept, kept_parts, name_at, number_in, with_kept}
pub use Rattle.ncl_merge.specs.Search.{ArePins, ArePinsSoFar, HasNoFold, IsGateOf, IsJoinedAt, IsJoint, JointData, SoughtData, added, all_agree, differs_at, is_in, is_needed, is_told, needed_nets, nets_through, values_of}
pub use Rattle.ncl_merge.specs.Thinned.{IsOld, IsRailGate, IsStood, IsThinGate, IsThinStage, IsThinned, moved, moved_bank, moved_bit, moved_pipeline}
pub use Rattle.ncl_merge.specs.declared.needed.TheConstants.{WORDS}
pub use Rattle.ncl_merge.specs.declared.search.Gate.{Gate as FoldGate}
pub use Rattle.ncl_netlist.proofs.FaultLaws.{IsFaultOf-excludes}
pub use Rattle.ncl_netlist.proofs.NameLists.{AllDiffer-once_each, equal_names, get_or-name_number, list_any-once_each, name_number-get_or, name_number-lt-length, same_itself, take-once_each}
pub use Rattle.ncl_netlist.specs.Faults.{IsFaultless, drivers_at}
pub use Rattle.ncl_netlist.specs.Names.{AllDiffer, name_number, once_each, same_name}
pub use Rattle.ncl_netlist.specs.Netlist.{CellFits, IsNetlist, NetlistData, drives, most_cells, pin_names}
pub use Rattle.ncl_netlist.specs.Parts.{HasAllPins, cell_names, cell_of, net_of, netlist_of, part_of, port_names}
pub use Rattle.ncl_netlist.specs.declared.cell.Cell.{Cell, Cell as NetlistCell}
pub use Rattle.ncl_netlist.specs.declared.ids.CellId.{CellId}
pub use Rattle.ncl_netlist.specs.declared.ids.NetId.{NetId}
pub use Rattle.ncl_netlist.specs.declared.parts.PartCell.{PartCell}
pub use Rattle.ncl_netlist.specs.declared.parts.Parts.{Parts}
pub use Rattle.ncl_netlist.specs.declared.port.Port.{Port}
pub use Rattle.ncl_shape.proofs.ChainLaws.{banks_of_chain}
pub use Rattle.ncl_shape.proofs.ClosureLaws.{pin_values-same}
pub use Rattle.ncl_shape.proofs.FaultLaws.{shape_is_unbroken}
pub use Rattle.ncl_shape.proofs.JoinedLists.{append_split}
pub use Rattle.ncl_shape.proofs.NetSources.{only_origin}
pub use Rattle.ncl_shape.proofs.RailLaws.{rail_found, rail_one, rail_zero, register_of_rail}
pub use Rattle.ncl_shape.proofs.RenamedNets.{known-renamed, nets-renamed, rail_nets-renamed}
pub use Rattle.ncl_shape.proofs.Rounds.{rounds-below_settled, rounds-keep, rounds-settled}
pub use Rattle.ncl_shape.proofs.ShapeLaws.{last_bank, request_at, requests, same_cell, shape_is_one}
pub use Rattle.ncl_shape.proofs.ZippedLists.{AllZip-find, AllZip-found, AllZip-same, zip_split}
pub use Rattle.ncl_shape.specs.Chain.{ChainedRequests, Follows, HasEnds, HasOne, HasOneRole, HasRoots, IsAcknowledged, IsBank, IsChain, IsChained, IsClosed, IsFirstBank, IsInputOf, IsLastBank, IsPath, IsRoot, IsUnforked, NoFork, OnPinNamed, OneChain, OneRoleEach, OneRootEach, ShownOutputs, SomeRegister, TwoEnds, WordsApart, end, next}
pub use Rattle.ncl_shape.specs.Closure.{close, function_at, held_nets, pin_values}
pub use Rattle.ncl_shape.specs.Held.{is_data_bank, value_or_low, word_held}
pub use Rattle.ncl_shape.specs.Nets.{IsBelow, Nets, among, rounds, with_net}
pub use Rattle.ncl_shape.specs.Pipeline.{PipelineData}
pub use Rattle.ncl_shape.specs.Renamed.{IsRenamedCell, IsRenamedStage, renamed_net, renamed_rails}
pub use Rattle.ncl_shape.specs.SamePipeline.{IsSamePipeline, IsSameStage}
pub use Rattle.ncl_shape.specs.Shape.{AreBitsOf, AreInputsOf, AreRailsOf, Broken, IsBankOf, IsBitOf, IsShapeFault, IsStageOf, Shape}
pub use Rattle.ncl_shape.specs.Stage.{IsInOrder, IsStage, Reads, StageData, named_rails, nets_of, out_of, rail_nets, rail_of}
pub use Rattle.ncl_shape.specs.declared.bank.Bank.{Bank}
pub use Rattle.ncl_shape.specs.declared.bank.Bit.{Bit as BankBit}
pub use Rattle.ncl_shape.specs.declared.fault.ShapeFault.{ShapeFault}
pub use Rattle.ncl_shape.specs.declared.fault.ShapeFault.TheVariants.{Memory}
pub use Rattle.ncl_shape.specs.declared.rails.Rails.{Rails}
pub use Rattle.ncl_shape.specs.declared.stage.StageCell.{StageCell}
pub use Rattle.ncl_space.specs.Table.{words}
pub use Rattle.ncl_writer.specs.Names.{spelled_name}
pub use Rattle.ncl_writer.specs.Text.{cell_line, header_line, opened, pin_text, pin_texts, port_line, text_of, wire_line}
pub use Rattle.std.proofs.Common.{All, AllPairs, Bool, Contains, IsPermutation, List, MatchOption, None, Option, Some, [], ap, append_assoc, arith, bytes_eq, codes, cond, count_by, drop, eq-eqb, false, filter, get_or, get_or-set_other, get_or-set_same, if◌then◌else◌, inl, inr, is_some, length, length-append, length-set, map, nat_eq, not, refl, set, slice_get, subst, suc, sum_by, sym, take, true, zero, ℕ, ◌&&◌, ◌++◌, ◌+◌, ◌-◌, ◌<◌, ◌==◌, ◌^◌, ◌||◌, ◌∙◌, ◌∷◌, ◌≡◌, ◌≢◌, ◌≤◌, ◌⊎◌}
pub use Rattle.std.proofs.Math.Bool.{or-false}
pub use Rattle.std.proofs.Math.Path.{fun_ext}
pub use Rattle.std.proofs.lemmas.Bool.{and_from, and_parts, both_ways, cases_Bool, cases_eq, cases_lt, eqb-true, false_from_ne_true, ne_eqb, not-true, or_cases, or_parts}
pub use Rattle.std.proofs.lemmas.Bool.Decides.{Decides-eqb}
pub use Rattle.std.proofs.lemmas.Grind.{flat_map-append}
pub use Rattle.std.proofs.lemmas.List.FromFn.{get_or-range_with_len, length-range_with_len}
pub use Rattle.std.proofs.lemmas.List.{append-nil, drop_more, get_or-map, get_or-take, get_or_default, get_or_past, length-drop, length-map, length-take, length-take-le, length_push, map-append, take-append-drop, take_all, take_more}
pub use Rattle.std.proofs.lemmas.List.Concat.{flat_map-cons, length-flat_map}
pub use Rattle.std.proofs.lemmas.List.Elements.{All-contains, filter_agree}
pub use Rattle.std.proofs.lemmas.List.Folds.{find-append, list_all-map, list_any-append}
pub use Rattle.std.proofs.lemmas.List.Kept.{AllPairs-cons, AllPairs-filter}
pub use Rattle.std.proofs.lemmas.List.Quantifiers.{all_pairs_push}
pub use Rattle.std.proofs.lemmas.List.Sorted.{Contains-permutation, IsPermutation-sym, list_any-IsPermutation}
pub use Rattle.std.proofs.lemmas.List.Sums.{sum_by-append, sum_by-cons, sum_by_more, sum_by_push}
pub use Rattle.std.proofs.lemmas.Map.Made.{AllPairs-from_IsDistinct, IsDistinct-from_AllPairs}
pub use Rattle.std.proofs.lemmas.Option.{get_or_from_slice_get, same_Some, slice_get-get_or, slice_get_within}
pub use Rattle.std.proofs.lemmas.Simd.{map-map}
pub use Rattle.std.proofs.lemmas.Slice.Eq.{slice_eq-Decides}
pub use Rattle.std.specs.Bool.{beq}
pub use Rattle.std.specs.List.{AllZip, flat_map, list_all, list_any, range_with_len, slice_index_or, zip}
pub use Rattle.std.specs.Option.{IfSome, option_or}
