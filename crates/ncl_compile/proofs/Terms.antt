-- What the proofs of this crate take from the library, the crates below and its own definitions, passed on.
pub use Rattle.std.proofs.Common.{Bool, List, None, Some, [], ap, arith, cond, count_by, drop, false, get_or, if◌then◌else◌, inl, inr, length, map, nat_eq, not, refl, subst, suc, sum, sum_by, sym, take, true, true≢false, zero, ℕ, ◌%◌, ◌*◌, ◌++◌, ◌+◌, ◌-◌, ◌/◌, ◌<◌, ◌^◌, ◌||◌, ◌∙◌, ◌∷◌, ◌≡◌, ◌≢◌, ◌≤◌, ◌⊎◌}
pub use Rattle.std.proofs.lemmas.Bool.{and_from, and_parts, both_ways, cases_Bool, cases_lt, cond-false, cond-true, cond_both, eq-eqb, eqb-false, eqb-true, false_from_ne_true, le-leb, ne_eqb, or_cases, or_left, or_right}
pub use Rattle.std.proofs.lemmas.Fmt.{decimal_by_steps, decimal_is_IsNumeral, length-decimal-le}
pub use Rattle.std.proofs.lemmas.Grind.{common_steps}
pub use Rattle.std.proofs.lemmas.List.{append_assoc, drop_at, get_or-take, get_or_past, length-append, length-drop, length-map, length-take, length-take-le, length_push, map-append, same_from_push, take-append-drop, take_all, take_more}
pub use Rattle.std.proofs.lemmas.List.Concat.{length-flat_map}
pub use Rattle.std.proofs.lemmas.List.Elements.{All-cons, All-contains, All-head, All-nil, All-tail}
pub use Rattle.std.proofs.lemmas.List.FromFn.{fill_by_all, get_or-map-range_with_len, get_or-range_with_len, length-map-range_with_len, length-range_with_len, map-range_with_len_more}
pub use Rattle.std.proofs.lemmas.List.Kept.{AllPairs-cons}
pub use Rattle.std.proofs.lemmas.List.Sums.{fails_before_first, get_or-le-sum_by, passes_at_first, sum_by-cons, sum_by-le, sum_by-le-sum_by, sum_by_more_le_part}
pub use Rattle.std.proofs.lemmas.Option.{get_or_from_slice_get, slice_get-get_or, slice_get_read, slice_get_within}
pub use Rattle.std.proofs.lemmas.Result.{IfOk-weaker}
pub use Rattle.std.specs.Cmp.Lexicographic.{bytes_decides}
pub use Rattle.std.specs.List.{AllZip, flat_map, list_all, list_any, position_or_len, range_with_len, zip}
pub use Rattle.std.specs.Prelude.{All, AllPairs, Contains, codes, decimal, is_none, nat_le, slice_get, slice_index, slice_index_or, ◌==◌}
pub use Rattle.std.specs.Str.{bytes_eq}
pub use Rattle.std.specs.Str.Parse.{digits_value}
pub use Rattle.ncl_assembly.proofs.AssembledShape.{Shape-from_assembled}
pub use Rattle.ncl_assembly.proofs.CellsAreUnmixed.{no_data_cell}
pub use Rattle.ncl_assembly.proofs.ListPlaces.{Rise, at_range, map-map, member_at, member_of_flat_map, pairs_of_map, place_of_member}
pub use Rattle.ncl_assembly.specs.Assembled.{HasCell, HasGate, IsAssembled, IsWiredBank, IsWiredBit, IsWiredStage, ReadsAcks, WiredBank, WiredBit, ack_nets, bank_numbers, bank_of, gate_numbers, input_nets, output_nets, rails_driven, rails_read, register_numbers}
pub use Rattle.ncl_bank.proofs.Apart.{AreApart, apart_from_differ, differ_from_apart}
pub use Rattle.ncl_bank.specs.BankParts.{AreBankParts, CanBeBank, IsTreeCell, bank_pins}
pub use Rattle.ncl_bank.specs.declared.BankParts.{BankParts}
pub use Rattle.ncl_base.proofs.Growing.{no_more_than}
pub use Rattle.ncl_base.proofs.Joined.{Member-flat_map, length-join_with_byte}
pub use Rattle.ncl_base.proofs.Lists.{pairs-head, pairs-tail, same_from_lengths}
pub use Rattle.ncl_base.proofs.Members.{All-from_members, Contains-from_Member, Member, Member-append_cases, Member-append_left, Member-append_right, Member-from_Contains, Member-get_or, Member-map, here, list_any-from_member, member_cases, member_from_list_any, member_of_map, slice_get-from_Contains, slice_get-some, there}
pub use Rattle.ncl_base.proofs.Places.{at_map, at_of_map, divided_at, push_cases, slice_get-append_left, slice_get-append_right}
pub use Rattle.ncl_base.proofs.Ranges.{below_of_range}
pub use Rattle.ncl_base.proofs.Tests.{All-at, All-member, AllPairs-append, map-same}
pub use Rattle.ncl_base.specs.declared.source.TheConstants.{MOST_BYTES}
pub use Rattle.ncl_base.specs.declared.word.TheConstants.{MOST_BITS}
pub use Rattle.ncl_blif.specs.Meaning.{Computes, Gives, width_of}
pub use Rattle.ncl_blif.specs.Model.{AreJoined, AreModels, IsModel, most_size, size_of_model, weight_of_rows}
pub use Rattle.ncl_blif.specs.declared.model.Cover.{Cover}
pub use Rattle.ncl_blif.specs.declared.model.Model.{Model}
pub use Rattle.ncl_cell_roles.proofs.HeldWords.{data_bank_of}
pub use Rattle.ncl_cell_rules.specs.Origin.{IsTreeKind, th22, th33, th44}
pub use Rattle.ncl_compile.specs.Compiled.{Compiled, ComputesModel, IsPlain, answer_width}
pub use Rattle.ncl_compile.specs.InnerNames.{bank_prefix, inner_pair, inner_pairs, numbered, pairs_driven, request_name, root_name, stage_prefix, three_digits}
pub use Rattle.ncl_compile.specs.Pieces.{AreStages, IsBankBetween, IsPutTogether, IsStageOfModel, outputs_of, pairs_read}
pub use Rattle.ncl_compile.specs.Ports.{input_pairs, names_of_rails, output_pairs, port_pair, ports_for, ports_named}
pub use Rattle.ncl_network.specs.Size.{CanBeCompiled, IsSlim, compile_size, widths_of}
pub use Rattle.ncl_decomp.specs.Split.{IsSplit}
pub use Rattle.ncl_faults.specs.Faults.{IsSound}
pub use Rattle.ncl_gates.proofs.PinLaws.{name_of-short, pins_of-some}
pub use Rattle.ncl_gates.specs.Cell.{is_data_register, pins_of}
pub use Rattle.ncl_gates.specs.Name.{cell_name_of}
pub use Rattle.ncl_gates.specs.declared.cell_kind.CellKind.{CellKind}
pub use Rattle.ncl_gates.specs.declared.cell_kind.CellKind.TheVariants.{Ack, Gate, Register, RegisterData}
pub use Rattle.ncl_gates.specs.declared.kind.Kind.{Kind}
pub use Rattle.ncl_gates.specs.declared.kind.Kind.TheVariants.{Th12, Th22}
pub use Rattle.ncl_insensitivity.proofs.Headline.{is_composition}
pub use Rattle.ncl_machine.specs.Composition.{composed, stage_function}
pub use Rattle.ncl_netlist.proofs.FaultLaws.{IsFaultOf-excludes}
pub use Rattle.ncl_netlist.proofs.NameLists.{AllDiffer-once_each, equal_names, get_or-name_number, list_any-once_each, name_number-get_or, name_number-lt-length, same_itself, take-once_each}
pub use Rattle.ncl_netlist.proofs.NetlistLaws.{driver_of_net, name_number-net, net_of_port, ports-le-nets}
pub use Rattle.ncl_netlist.specs.Faults.{IsFaultless, drivers_at}
pub use Rattle.ncl_netlist.specs.Names.{AllDiffer, name_number, same_name}
pub use Rattle.ncl_netlist.specs.Netlist.{CellFits, IsNetlist, NetlistData, drives, pin_names}
pub use Rattle.ncl_netlist.specs.Parts.{HasAllPins, cell_names, cell_of, input_names, netlist_of, nets_of, output_name, port_names}
pub use Rattle.ncl_netlist.specs.declared.cell.Cell.{Cell}
pub use Rattle.ncl_netlist.specs.declared.ids.NetId.{NetId}
pub use Rattle.ncl_netlist.specs.declared.parts.NamePair.{NamePair}
pub use Rattle.ncl_netlist.specs.declared.parts.PartCell.{PartCell}
pub use Rattle.ncl_netlist.specs.declared.parts.Parts.{Parts}
pub use Rattle.ncl_netlist.specs.declared.port.Port.{Port}
pub use Rattle.ncl_network.specs.Network.{answer_of, weight_of_model}
pub use Rattle.ncl_network.specs.declared.network.Network.{Network}
pub use Rattle.ncl_rails.specs.Naming.{IsNumbered, IsNumberedStage, named_net, named_pair, names_known}
pub use Rattle.ncl_rails.specs.StageParts.{Answers, AreStageParts, CanBeStage}
pub use Rattle.ncl_rails.specs.declared.StageParts.{StageParts}
pub use Rattle.ncl_reader.specs.Words.{keyword_of, left_out}
pub use Rattle.ncl_reader.specs.declared.keyword.Keyword.TheVariants.{EndModule, LeftOut, Module, Way as word_of, Wire}
pub use Rattle.ncl_reader.specs.declared.keyword.Way.TheVariants.{Input, Output}
pub use Rattle.ncl_shape.specs.Closure.{function_of}
pub use Rattle.ncl_shape.specs.Held.{data_banks, is_data_bank}
pub use Rattle.ncl_shape.specs.Pipeline.{PipelineData}
pub use Rattle.ncl_shape.specs.Shape.{Shape}
pub use Rattle.ncl_shape.specs.Stage.{Reads, StageData, out_of, rail_nets}
pub use Rattle.ncl_shape.specs.declared.bank.Bank.{Bank}
pub use Rattle.ncl_shape.specs.declared.rails.Rails.{Rails}
pub use Rattle.ncl_shape.specs.declared.stage.StageCell.{StageCell}
pub use Rattle.ncl_token.specs.Bytes.{begins_word, continues_word, is_digit, is_letter}
pub use Rattle.ncl_tree.specs.GateTree.{IsOfFamily, all_four, all_three, all_two}
pub use Rattle.ncl_tree.specs.NamePairs.{IsFreeOf, pair_list, pair_names}
pub use Rattle.ncl_tree.specs.PartNames.{IsPartName, is_name_byte}
pub use Rattle.ncl_tree.specs.declared.tree.Family.TheVariants.{All as Conjunctions}
pub use Rattle.ncl_writer.specs.Names.{is_plain, spelled_name}
pub use Rattle.ncl_writer.specs.Text.{cell_line, closed, header_line, opened, pin_text, pin_texts, port_line, text_of, wire_line}
