-- What the proofs of this crate take from the library and the terms that they speak of, passed on.
pub use Rattle.std.proofs.Common.{Bool, List, None, Option, Some, [], ap, arith, cond, drop, false, get_or, if◌then◌else◌, inl, inr, is_some, length, map, mul-add, mul_assoc, mul_comm, not, refl, subst, suc, sym, take, true, zero, ℕ, ◌&&◌, ◌*◌, ◌++◌, ◌+◌, ◌-◌, ◌<◌, ◌^◌, ◌||◌, ◌∙◌, ◌∷◌, ◌≡◌, ◌≢◌, ◌≤◌, ◌⊎◌}
pub use Rattle.std.proofs.Math.Bool.{not-not}
pub use Rattle.std.proofs.Math.Nat.{mul-le-mul_left}
pub use Rattle.std.proofs.lemmas.Bool.{and_from, and_left, and_parts, and_right, both_ways, cases_Bool, cases_eq, cases_lt, eq-eqb, eqb-true, false_from_ne_true, ltb-true, ne_eqb, not-false, not-true, not_from_false, not_from_true, or_cases, or_from, or_left, or_parts, or_right, true_from_ne_false}
pub use Rattle.std.proofs.lemmas.List.{get_or-map, length-append, length-map}
pub use Rattle.std.proofs.lemmas.List.Elements.{All-contains, All-from_get_or}
pub use Rattle.std.proofs.lemmas.List.FromFn.{get_or-range_with_len, length-range_with_len}
pub use Rattle.std.proofs.lemmas.List.Kept.{AllPairs-cons}
pub use Rattle.std.proofs.lemmas.List.Sums.{AllPass-from_list_all, sum_by-cons, sum_by-le}
pub use Rattle.std.proofs.lemmas.Map.Made.{IsDistinct-from_count}
pub use Rattle.std.proofs.lemmas.Option.{get_or_from_slice_get, slice_get-map, slice_get_within}
pub use Rattle.std.proofs.lemmas.Slice.Zip.{AllZip-long}
pub use Rattle.std.proofs.lemmas.Simd.{map-map}
pub use Rattle.std.specs.List.{AllZip, flat_map, list_all, range_with_len}
pub use Rattle.std.specs.Option.{option_map}
pub use Rattle.std.specs.Prelude.{All, AllPairs, Contains, nat_eq, nat_lt, slice_get, sum_by}
pub use Rattle.std.specs.Set.{distinct_count}
pub use Rattle.ncl_base.proofs.Growing.{no_more_than}
pub use Rattle.ncl_base.proofs.Lists.{pairs-head, pairs-tail, same_from_lengths}
pub use Rattle.ncl_base.proofs.Members.{All-from_members, Contains-from_Member, Contains-from_slice_get, Member, Member-append_cases, Member-from_Contains, Member-get_or, here, list_any-from_member, member_cases, member_from_list_any, member_of_map, recursion_from_members, slice_get-from_Contains, slice_get-some, there}
pub use Rattle.ncl_base.proofs.Places.{push_cases, slice_get-append_left, slice_get-append_right}
pub use Rattle.ncl_base.proofs.Tests.{list_all-member, map-same, same_from_both}
pub use Rattle.ncl_cell_roles.proofs.BankBits.{drives_rail, register_of_rail}
pub use Rattle.ncl_cell_roles.proofs.EndLaws.{ki_is_no_input, ki_is_port}
pub use Rattle.ncl_cell_roles.proofs.HeldWords.{held-some, held-wide, register-held}
pub use Rattle.ncl_cell_roles.proofs.LaidOut.{laid_out, laid_out_of}
pub use Rattle.ncl_cell_roles.proofs.Numbering.{bank_rails, inner_or_last, inner_stage, last_stage, stage_at}
pub use Rattle.ncl_cell_roles.proofs.RailNets.{rail-place, rail-within}
pub use Rattle.ncl_cell_roles.proofs.StageNumbers.{stage_of, wires_or_stage}
pub use Rattle.ncl_cell_roles.specs.Layout.{IsCellOf, IsLayoutOf, IsRegisterOf, IsRegisterOn, IsWires, Layout, Part, TreePart, acks, completes, holds_rail, in_rail, no_rails, of_bank, of_stage, of_tree, out_rail, rail_at, stage_nets, width}
pub use Rattle.ncl_cell_rules.proofs.CellTests.{data-from_test, same_net}
pub use Rattle.ncl_cell_rules.proofs.Drivers.{no_cell_drives_port, same_driver, same_place}
pub use Rattle.ncl_cell_rules.specs.CellTests.{data_test, has_net}
pub use Rattle.ncl_cell_rules.specs.Free.{AtCell}
pub use Rattle.ncl_cell_rules.specs.Origin.{AckOf, B, CellAt, ComesFrom, IsCell, IsInputPort, OnPin, ack, gate}
pub use Rattle.ncl_cell_rules.specs.Rules.{IsUnmixed}
pub use Rattle.ncl_faults.proofs.Apart.{named-within}
pub use Rattle.ncl_faults.proofs.OnePass.{among-from_member}
pub use Rattle.ncl_faults.proofs.StageTest.{IsStage-from_test}
pub use Rattle.ncl_faults.proofs.ValueLaws.{holds-grows, rail-no_output, rises-monotone, same_output, val-keeps, val-output, val-rail, val-settled, val-support, val-within}
pub use Rattle.ncl_faults.specs.Examples.{and_stage}
pub use Rattle.ncl_faults.specs.Faults.{BothRails, Incomplete, IsSound, IsWordOf, NoRail, Orphan, StageFault, all_data, has_data, holds_at, is_illegal, shows}
pub use Rattle.ncl_faults.specs.Values.{both_rails, holds, kept_low, rises, start, val}
pub use Rattle.ncl_faults.specs.declared.variant.Variant.{Variant}
pub use Rattle.ncl_faults.specs.declared.variant.Variant.TheVariants.{Base, Bit}
pub use Rattle.ncl_gates.proofs.GateLaws.{of_two, set_of-low}
pub use Rattle.ncl_gates.proofs.RegisterLaws.{at_register, data_is_register, register_no_ack, register_no_gate}
pub use Rattle.ncl_gates.specs.Cell.{is_data_register, next_of_cell, pins_of}
pub use Rattle.ncl_gates.specs.Gate.{next_of, set_of, some_high}
pub use Rattle.ncl_gates.specs.declared.kind.Kind.TheVariants.{Th12, Th22}
pub use Rattle.ncl_machine.proofs.AtWorkLaws.{falling-within, named-within_values, rising-within, with_net-below, with_net-elsewhere, with_net-lowered, with_net-raised}
pub use Rattle.ncl_machine.proofs.CellNets.{output-no_ki, output-no_source, source-no_ki}
pub use Rattle.ncl_machine.proofs.Completion.{Follows, ReadsNew, all_are_new, all_are_old, bit-new, net-new, old_is_turning, one_cell, others_are_new, reads-more, some_input, turning_is_old}
pub use Rattle.ncl_machine.proofs.FallingLaws.{IsDrained, IsUnfed, data_in_values, drained-excited, drained-less, excited-below, excited-from_unfed, falling-empty, falling-safely, next-from_unfed, rail-apart, sound-when_held}
pub use Rattle.ncl_machine.proofs.HeldCounts.{count-banks, from-falls, from-past, from-step, held-count, held_before, held_from, held_in_all, holds_word, none_past, start-even, start-half, start_number}
pub use Rattle.ncl_machine.proofs.InOrder.{in_order, one_named}
pub use Rattle.ncl_machine.proofs.LocalNets.{all-local, in_stage, in_tree, local, local-at, local-put_here, local-put_other, pins-local, with_net-here, with_net-keeps}
pub use Rattle.ncl_machine.proofs.NamedRails.{all-from_places, bit_at, data-same, member-from_among, named-get, named-has, named-only, named-past, named-place, rail-data, rail-is_one, some-rail}
pub use Rattle.ncl_machine.proofs.Numbers.{AreNear, ahead, at_place, behind, double-half, equal, even, even-double, even-given, half, half-given, near-map, near-numbers, near-same, one_if, one_if-most, place-here, place-other}
pub use Rattle.ncl_machine.proofs.ResetNets.{data_bank_by_cells, reset_of}
pub use Rattle.ncl_machine.proofs.SoundLaws.{ShowsNeed, all_data-grows, legal-below, named-from_high, need-output, need-rail}
pub use Rattle.ncl_machine.proofs.StageNets.{gate-listed, in_bit, in_outputs, inputs-listed, ki-listed, out-listed, output-listed, outputs-listed, rail-listed, root-listed, tree-listed}
pub use Rattle.ncl_machine.proofs.Start.{held-named, held-net, held_in, named-held, none-holds, source-null, stage-held, stage-none, stage-value, tree-at, tree-value}
pub use Rattle.ncl_machine.proofs.TruthValues.{differ-itself, differ_from_not, not-from_differ, not-from_one, not_itself, same-from_differ, same_or_not}
pub use Rattle.ncl_machine.specs.AtWork.{IsExcited, IsRising, next_of_gate, null, raise}
pub use Rattle.ncl_machine.specs.Composition.{composed, stage_function}
pub use Rattle.ncl_machine.specs.DelayInsensitive.{AfterEveryRun, AlternatesWithNull, Carries, DeliversInTime, DeliversWhatIsDue, IsDelayInsensitive, IsLegalState, IsSafe, PassesNull, RestsWhereQuiet, due, held_words}
pub use Rattle.ncl_machine.specs.OneChange.{ChangesOneNet}
pub use Rattle.ncl_machine.specs.Run.{AreWordsOf, IsPersistent, IsQuiet, IsRun, IsRunFrom, after}
pub use Rattle.ncl_machine.specs.SoundAt.{IsSoundAt, IsSoundWhenHeld}
pub use Rattle.ncl_machine.specs.StageLaw.{IsRisingSafely, IsUndisturbed}
pub use Rattle.ncl_machine.specs.State.{State, no_nets, reset, reset_nets}
pub use Rattle.ncl_machine.specs.Steps.{after_lower, after_raise, current_rails, differ, enabled, fired, has_value, is_data, is_excited, is_null, next_value, pair_at, put_at, rails_of_word, step}
pub use Rattle.ncl_machine.specs.declared.pair.Pair.{Pair}
pub use Rattle.ncl_netlist.proofs.NameLists.{same_name-equiv}
pub use Rattle.ncl_netlist.specs.Names.{once_each, same_name}
pub use Rattle.ncl_netlist.specs.Netlist.{CellFits, IsNetlist, NetlistData, drivers_of, most_cells, pin_names}
pub use Rattle.ncl_netlist.specs.declared.cell.Cell.{Cell}
pub use Rattle.ncl_netlist.specs.declared.ids.CellId.{CellId}
pub use Rattle.ncl_netlist.specs.declared.ids.NetId.{NetId}
pub use Rattle.ncl_shape.proofs.ClosureLaws.{set_of-grows}
pub use Rattle.ncl_shape.proofs.PinLaws.{first_pin-is, high_net, some_high-low}
pub use Rattle.ncl_shape.proofs.RailLaws.{rails-length, rails_within}
pub use Rattle.ncl_shape.proofs.Rounds.{rounds-below_settled, rounds-each, rounds-keep, rounds-settled}
pub use Rattle.ncl_shape.proofs.WrittenCells.{cell_of, is_cell}
pub use Rattle.ncl_shape.specs.Chain.{HasOne, IsRoot}
pub use Rattle.ncl_shape.specs.Closure.{close, first_pin, function_at, function_of, held_nets, net_of, passes, passes_on, pin_values}
pub use Rattle.ncl_shape.specs.Examples.{bit_left_out, wires_pipeline}
pub use Rattle.ncl_shape.specs.Held.{data_banks, is_data_bank, word_held}
pub use Rattle.ncl_shape.specs.Nets.{IsBelow, Nets, among, with_net}
pub use Rattle.ncl_shape.specs.Pipeline.{PipelineData}
pub use Rattle.ncl_shape.specs.SamePipeline.{IsSamePipeline, IsSameStage}
pub use Rattle.ncl_shape.specs.Shape.{AreRailsOf, Shape}
pub use Rattle.ncl_shape.specs.Stage.{IsStage, StageData, named_rails, nets_of, out_of, rail_nets, rail_of}
pub use Rattle.ncl_shape.specs.declared.bank.Bank.{Bank}
pub use Rattle.ncl_shape.specs.declared.item.Item.{Item}
pub use Rattle.ncl_shape.specs.declared.item.Item.TheVariants.{Cell as Fire, Lower, Raise, Ready, Take}
pub use Rattle.ncl_shape.specs.declared.rails.Rails.{Rails}
pub use Rattle.ncl_shape.specs.declared.stage.StageCell.{StageCell}
pub use Rattle.ncl_insensitivity.specs.Examples.{at_the_end, chain, chain_pipeline, chain_stage, fire, holding_pipeline, one_word, where_holding_rests, where_the_chain_rests, where_two_may_move}
pub use Rattle.ncl_insensitivity.specs.IllShaped.{TakesBack, acknowledges_one_bit, asks_too_early, excites_both, one_bit_seen, one_offered, two_offered, two_roots, with_th12, with_two_drivers, with_two_roots, without_a_bit}
pub use Rattle.ncl_insensitivity.specs.Unsound.{BreaksOnly, after_run, condition_of, dead_stage, delivers_both_rails, delivers_too_early, eager_stage, gets_stuck, illegal_stage, leaves_a_gate_behind, one_zero, orphan_stage, two_zeros, with_both_rails, with_dead_rail, with_eager_and, with_orphan}
