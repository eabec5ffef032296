-- What the proofs of this crate take from the library, the crates below and its own definitions, passed on.
pub use Rattle.std.proofs.Common.{Bool, Err, List, None, Option, Some, [], ap, append_assoc, arith, cond, drop, false, get_or, if◌then◌else◌, inl, inr, length, length-set, map, not, refl, rules, set, subst, suc, sym, take, true, unwrap_or, zero, ℕ, ◌&&◌, ◌++◌, ◌+◌, ◌-◌, ◌<◌, ◌||◌, ◌∙◌, ◌∷◌, ◌≡◌, ◌≢◌, ◌≤◌, ◌⊎◌}
pub use Rattle.std.proofs.Math.Path.{fun_ext}
pub use Rattle.std.proofs.lemmas.Bool.{and_from, and_parts, and_right, both_ways, cases_Bool, cases_eq, cases_lt, eq-eqb, eqb-true, false_from_ne_true, ne_eqb, not_from_false, or_cases, true_from_ne_false}
pub use Rattle.std.proofs.lemmas.Bool.Decides.{nat_tests}
pub use Rattle.std.proofs.lemmas.List.{append-nil, drop_more, get_or-map, get_or-set_other, get_or-set_same, length-append, length-drop, length-map, length-take-le, map-append, take_all, take_more}
pub use Rattle.std.proofs.lemmas.List.Elements.{All-contains}
pub use Rattle.std.proofs.lemmas.List.Kept.{AllPairs-cons}
pub use Rattle.std.proofs.lemmas.Option.{slice_get-get_or, slice_get_within}
pub use Rattle.std.proofs.lemmas.Result.{IfOk-weaker}
pub use Rattle.std.proofs.lemmas.Slice.Zip.{AllZip-long}
pub use Rattle.std.specs.List.{find, list_all, range_with_len}
pub use Rattle.std.specs.Prelude.{All, AllPairs, Contains, IfOk, Ok, OnOk, Result, nat_eq, nat_le, nat_lt, option_and_then, slice_get}
pub use Rattle.ncl_base.proofs.Lists.{pairs-head, pairs-tail}
pub use Rattle.ncl_base.proofs.Members.{All-from_members, Contains-from_Member, Contains-from_slice_get, Member, Member-append_cases, Member-append_left, Member-append_right, Member-from_Contains, Member-get_or, Member-map, here, member_cases, member_of_map, slice_get-from_Contains, slice_get-some, there}
pub use Rattle.ncl_base.proofs.Places.{at_map, divided_at, no_entry, place_read}
pub use Rattle.ncl_base.proofs.Ranges.{Member-range, below_of_range}
pub use Rattle.ncl_base.proofs.Tests.{AllPairs-append, list_all-member, same_from_both}
pub use Rattle.ncl_base.specs.declared.word.TheConstants.{MOST_BITS}
pub use Rattle.ncl_cell_roles.proofs.BankBits.{place_of_rail, register_of_rail}
pub use Rattle.ncl_cell_roles.proofs.BetweenBanks.{register_on}
pub use Rattle.ncl_cell_roles.proofs.LaidOut.{laid_out}
pub use Rattle.ncl_cell_roles.proofs.Numbering.{bank_rails, inner_or_last, inner_stage, last_stage, one_more_bank, stage_after, stage_at, wires_of}
pub use Rattle.ncl_cell_roles.proofs.RailNets.{rail-place, rail-within}
pub use Rattle.ncl_cell_roles.specs.Layout.{IsAckOf, IsCellOf, IsLayoutOf, IsRegisterOf, Layout, Part, TreePart, acks, completes, in_rail, no_rails, of_bank, of_stage, of_tree, out_rail, rail_at, stage_nets, width}
pub use Rattle.ncl_cell_rules.specs.CellOrder.{IsCellOrder}
pub use Rattle.ncl_cell_rules.specs.Origin.{CellAt, IsRegister}
pub use Rattle.ncl_cell_rules.specs.Origins.{AreOrigins, OriginsData}
pub use Rattle.ncl_diagram.specs.Diagram.{diagram_space}
pub use Rattle.ncl_faults.proofs.Apart.{parts-differ, right-differ}
pub use Rattle.ncl_faults.proofs.OnePass.{among-from_member}
pub use Rattle.ncl_faults.proofs.ValueLaws.{rail-no_output, same_output, val-output, val-rail}
pub use Rattle.ncl_faults.proofs.WiringLaws.{left-differ}
pub use Rattle.ncl_faults.specs.Faults.{BothRails, Incomplete, IsSound, IsWordOf, NoRail, Orphan, StageFault, all_data, has_data, holds_at, is_illegal, shows}
pub use Rattle.ncl_faults.specs.Values.{holds, kept_low, output_net, val}
pub use Rattle.ncl_faults.specs.declared.variant.Variant.{Variant}
pub use Rattle.ncl_faults.specs.declared.variant.Variant.TheVariants.{Base, Cell as Without}
pub use Rattle.ncl_gates.proofs.GateLaws.{next_of-hysteresis}
pub use Rattle.ncl_gates.proofs.RegisterLaws.{register_no_gate}
pub use Rattle.ncl_gates.specs.Cell.{next_of_cell}
pub use Rattle.ncl_gates.specs.Gate.{arity_of, next_of, set_of, some_high}
pub use Rattle.ncl_gates.specs.declared.cell_kind.CellKind.TheVariants.{Gate}
pub use Rattle.ncl_gates.specs.declared.kind.Kind.{Kind}
pub use Rattle.ncl_gates.specs.declared.kind.Kind.TheVariants.{Th22}
pub use Rattle.ncl_hazard.specs.Explained.{AreSoundBefore, BringsOrphan, IsExplained, IsOrphanAt, IsPlaceOf, StandsAt, TellsOfCell}
pub use Rattle.ncl_hazard.specs.Joined.{Names, cells_of, gate_as, inputs_of, joined, joined_cells, name_in, named_as, names_after, net_as, outputs_after, outputs_of, rails_as, replaced}
pub use Rattle.ncl_hazard.specs.Schedule.{acknowledging, all_items, chosen, coming, fires, forth, gates_at, gates_of, going, is_cell, is_high, joins, lacking, lowers, no_cell, raises, reaching, registers_at, registers_but, registers_of, swept}
pub use Rattle.ncl_hazard.specs.Search.{ascending, made_count, question_count}
pub use Rattle.ncl_hazard.specs.Trying.{HasNoDataBank, Loses, happened, tried, turned}
pub use Rattle.ncl_hazard.specs.Why.{Way, brings, brings_orphan, functions_at, functions_before, least_input, orphan_on, stage_functions, values_on, why_count, why_tables}
pub use Rattle.ncl_hazard.specs.declared.explaining.Explained.{Explained}
pub use Rattle.ncl_insensitivity.proofs.Composition.{word_at}
pub use Rattle.ncl_insensitivity.proofs.NextValues.{gate-next, register-next}
pub use Rattle.ncl_insensitivity.proofs.RunLaws.{after-append}
pub use Rattle.ncl_insensitivity.proofs.StepValues.{lowered-value}
pub use Rattle.ncl_insensitivity.proofs.WiresPass.{wires-pass}
pub use Rattle.ncl_insensitivity.proofs.WiresSound.{wires_sound}
pub use Rattle.ncl_machine.proofs.AtWorkLaws.{with_net-elsewhere}
pub use Rattle.ncl_machine.proofs.FallingLaws.{next-from_unfed}
pub use Rattle.ncl_machine.proofs.HeldCounts.{holds_word, none_past}
pub use Rattle.ncl_machine.proofs.InOrder.{in_order}
pub use Rattle.ncl_machine.proofs.LocalNets.{with_net-here, with_net-keeps}
pub use Rattle.ncl_machine.proofs.NamedRails.{bit_at, data-same, member-from_among, named-get, named-has, named-only, named-place, rail-data, rail-is_one, some-rail}
pub use Rattle.ncl_machine.proofs.RailPlaces.{one_at, zero_at}
pub use Rattle.ncl_machine.proofs.StageNets.{gate-listed, in_bit, in_outputs, inputs-listed, out-listed, outputs-listed, rail-listed, root-listed, tree-listed}
pub use Rattle.ncl_machine.proofs.Start.{held-net, none-holds, stage-value, tree-value}
pub use Rattle.ncl_machine.specs.AtWork.{next_of_gate}
pub use Rattle.ncl_machine.specs.Composition.{composed, stage_function}
pub use Rattle.ncl_machine.specs.Held.{InRange, IsFor, meaning}
pub use Rattle.ncl_machine.specs.Run.{IsRunFrom, after}
pub use Rattle.ncl_machine.specs.State.{State, reset, reset_nets}
pub use Rattle.ncl_machine.specs.Steps.{after_lower, after_raise, current_rails, differ, enabled, fired, has_value, is_excited, next_value, put_at, rails_of_word, step}
pub use Rattle.ncl_netlist.specs.Netlist.{NetlistData}
pub use Rattle.ncl_netlist.specs.declared.cell.Cell.{Cell}
pub use Rattle.ncl_netlist.specs.declared.ids.CellId.{CellId}
pub use Rattle.ncl_netlist.specs.declared.ids.NetId.{NetId}
pub use Rattle.ncl_shape.proofs.ClosureLaws.{pin_values-same}
pub use Rattle.ncl_shape.proofs.PinLaws.{some_high-low}
pub use Rattle.ncl_shape.specs.Closure.{pin_values}
pub use Rattle.ncl_shape.specs.Held.{data_banks, is_data_bank}
pub use Rattle.ncl_shape.specs.Nets.{Nets, among, with_net}
pub use Rattle.ncl_shape.specs.Pipeline.{PipelineData}
pub use Rattle.ncl_shape.specs.Shape.{AreRailsOf, Shape}
pub use Rattle.ncl_shape.specs.Stage.{IsInOrder, IsStage, Reads, StageData, named_rails, nets_of, out_of, rail_nets, rail_of}
pub use Rattle.ncl_shape.specs.declared.bank.Bank.{Bank}
pub use Rattle.ncl_shape.specs.declared.bank.Bit.{Bit}
pub use Rattle.ncl_shape.specs.declared.item.Item.{Item}
pub use Rattle.ncl_shape.specs.declared.item.Item.TheVariants.{Cell as Fire, Lower, Raise, Ready, Take}
pub use Rattle.ncl_shape.specs.declared.rails.Rails.{Rails}
pub use Rattle.ncl_shape.specs.declared.stage.StageCell.{StageCell}
pub use Rattle.ncl_space.proofs.BeadLaws.{HasMembers, distinct_beads-same}
pub use Rattle.ncl_space.proofs.MakingLaws.{fits-along, handed_on}
pub use Rattle.ncl_space.proofs.SpaceLaws.{count_of_both, too_much_by_front}
pub use Rattle.ncl_space.proofs.TableLaws.{find-same, table_of-same}
pub use Rattle.ncl_space.specs.Beads.{bead_count, distinct_beads}
pub use Rattle.ncl_space.specs.Space.{IsNew, Keeps, SpaceData, fits, is_within, with_tables}
pub use Rattle.ncl_space.specs.Table.{table_of, words}
pub use Rattle.ncl_stage.proofs.OrderLaws.{words-length, words_by-ascending}
pub use Rattle.ncl_stage.proofs.OutputLaws.{fronts-map, net-tables}
pub use Rattle.ncl_stage.specs.BitOrder.{bit_order, words_by}
pub use Rattle.ncl_stage.specs.LeastWords.{least_word_by}
pub use Rattle.ncl_stage.specs.StageTables.{net_tables_by}
pub use Rattle.ncl_stage.specs.Tables.{ValuesAt, WordFunction, all_data_function, count, data_fronts, data_functions, fronts, functions_of, net_functions, orphan_function, tables_by}
pub use Rattle.ncl_verdict.proofs.Sound.{of_stage-sound}
pub use Rattle.ncl_verdict.specs.Judgement.{at_variant, cell_number, faults_of, first_of, found, judgement, least_word, stopped_at, variants, verdict_of}
pub use Rattle.ncl_verdict.specs.declared.verdict.Verdict.{Verdict}
