-- What the proofs of this crate take from the library, the crates below and its own definitions, passed on.
pub use Rattle.std.proofs.Common.{Bool, List, None, Option, Some, [], ap, arith, drop, false, get_or, if◌then◌else◌, inl, inr, is_some, length, map, not, refl, subst, suc, sym, true, zero, ℕ, ◌&&◌, ◌*◌, ◌++◌, ◌+◌, ◌-◌, ◌<◌, ◌||◌, ◌∙◌, ◌∷◌, ◌≡◌, ◌≢◌, ◌≤◌, ◌⊎◌}
pub use Rattle.std.proofs.Math.Bool.{not-not}
pub use Rattle.std.proofs.lemmas.Bool.{and_from, and_parts, and_right, both_ways, cases_Bool, cases_eq, cases_lt, eq-eqb, eqb-true, false_from_ne_true, ne_eqb, not-true, not_from_false, or_from, or_left, or_parts, or_right, true_from_ne_false}
pub use Rattle.std.proofs.lemmas.List.{length-map}
pub use Rattle.std.proofs.lemmas.List.Folds.{list_all-map}
pub use Rattle.std.proofs.lemmas.Option.{get_or_from_slice_get, slice_get-get_or, slice_get_within}
pub use Rattle.std.proofs.lemmas.Slice.Zip.{AllZip-long}
pub use Rattle.std.specs.List.{flat_map, list_all, list_any}
pub use Rattle.std.specs.Prelude.{All, Contains, nat_eq, nat_lt, option_and_then, slice_get, ◌↔◌}
pub use Rattle.ncl_base.proofs.Growing.{split_at}
pub use Rattle.ncl_base.proofs.Joined.{Member-flat_map, member_of_flat_map}
pub use Rattle.ncl_base.proofs.Members.{All-from_members, Contains-from_Member, Contains-from_slice_get, Member, Member-append_cases, Member-append_left, Member-append_right, Member-from_Contains, Member-get_or, Member-map, here, list_any-from_member, member_cases, member_of_map, recursion_from_members, slice_get-from_Contains, slice_get-some, there}
pub use Rattle.ncl_base.proofs.Ranges.{below_of_range}
pub use Rattle.ncl_base.proofs.Tests.{list_all-member, map-same, same_from_both}
pub use Rattle.ncl_cell_roles.proofs.HeldWords.{held-some}
pub use Rattle.ncl_cell_roles.proofs.LaidOut.{laid_out}
pub use Rattle.ncl_cell_roles.proofs.Numbering.{inner_stage, stage_at}
pub use Rattle.ncl_cell_roles.proofs.RailNets.{rail-place, rail-within}
pub use Rattle.ncl_cell_roles.specs.Layout.{IsAckOf, IsLayoutOf, IsRegisterOf, Layout, Part, TreePart, acks, completes, in_rail, no_rails, of_bank, of_stage, of_tree, out_rail, rail_at, stage_nets, width}
pub use Rattle.ncl_cell_rules.proofs.GateRanks.{cell_order}
pub use Rattle.ncl_cell_rules.specs.CellOrder.{IsCellOrder}
pub use Rattle.ncl_cell_rules.specs.Origin.{CellAt, IsCell, IsGate, IsTreeKind}
pub use Rattle.ncl_faults.proofs.OnePass.{among-from_member}
pub use Rattle.ncl_faults.proofs.ValueLaws.{rail-no_output, same_output, val-output, val-rail, val-settled}
pub use Rattle.ncl_faults.specs.Faults.{BothRails, Incomplete, IsSound, NoRail, Orphan, StageFault, all_data, has_data, holds_at, is_illegal, shows}
pub use Rattle.ncl_faults.specs.Values.{both_rails, holds, kept_low, output_net, val}
pub use Rattle.ncl_faults.specs.declared.variant.Variant.{Variant}
pub use Rattle.ncl_faults.specs.declared.variant.Variant.TheVariants.{Base, Bit, Cell as Without}
pub use Rattle.ncl_gates.proofs.GateLaws.{next_of_cell-again, set_of-low}
pub use Rattle.ncl_gates.specs.Cell.{next_of_cell}
pub use Rattle.ncl_gates.specs.Gate.{arity_of, next_of, set_of, some_high}
pub use Rattle.ncl_gates.specs.declared.cell_kind.CellKind.{CellKind}
pub use Rattle.ncl_gates.specs.declared.cell_kind.CellKind.TheVariants.{Ack, Gate}
pub use Rattle.ncl_gates.specs.declared.kind.Kind.{Kind}
pub use Rattle.ncl_gates.specs.declared.kind.Kind.TheVariants.{Th22}
pub use Rattle.ncl_hazard.proofs.BankSweeps.{AreRegisters, AreRegistersBut, AreTrees, in_rail-no_output, in_rail-no_root, in_rail-one, registers-rise, trees-drive, trees-fall}
pub use Rattle.ncl_hazard.proofs.Found.{bit-within, cells_are, high_in, own_stage, rail_id, register-here, registers_are, registers_but-are, regs, trees_are, word-brought}
pub use Rattle.ncl_hazard.proofs.Handing.{IsOneRailed, handed_on, high-value, one_railed, value-high, wide-at}
pub use Rattle.ncl_hazard.proofs.JoinedLaws.{stage-here}
pub use Rattle.ncl_hazard.proofs.Losing.{happened-after, happened-run, loses-after, loses-from_both, tried-append}
pub use Rattle.ncl_hazard.proofs.NullReset.{IsEmptied, emptied-at_reset, none-among}
pub use Rattle.ncl_hazard.proofs.OrphanPlaces.{first-among, first-refused, found-some}
pub use Rattle.ncl_hazard.proofs.ShownRuns.{explained, ones-before}
pub use Rattle.ncl_hazard.proofs.StageSweeps.{AreCellsOf, known_apart, reads, stage-rises}
pub use Rattle.ncl_hazard.proofs.Sweeps.{fired-at, same-from_still, swept-append, swept-elsewhere, tried-cells}
pub use Rattle.ncl_hazard.proofs.Tries.{run-append}
pub use Rattle.ncl_hazard.proofs.Way.{Drive, IsUp, drive-keeps, further, gates, gates_nets, regs_nets, way}
pub use Rattle.ncl_hazard.proofs.WordRaised.{raised-at_source}
pub use Rattle.ncl_hazard.specs.Schedule.{acknowledging, chosen, coming, fires, forth, gates_at, gates_of, going, is_cell, lacking, no_cell, raises, reaching, registers_at, registers_but, registers_of, swept}
pub use Rattle.ncl_hazard.specs.Trying.{HasNoDataBank, Loses, happened, tried, turned}
pub use Rattle.ncl_hazard.specs.Why.{brings}
pub use Rattle.ncl_insensitivity.proofs.Composition.{word_at}
pub use Rattle.ncl_insensitivity.proofs.Headline.{IsSoundUnder, bounded-under, delay_insensitive, insensitive-under, under-sound}
pub use Rattle.ncl_insensitivity.proofs.HeldLayout.{bank-holds, held-in, slice_get-drop}
pub use Rattle.ncl_insensitivity.proofs.NextValues.{gate-next, register-excited, register-next, register-turns}
pub use Rattle.ncl_insensitivity.proofs.OfferedWords.{under-wide, word_or, word_under}
pub use Rattle.ncl_insensitivity.proofs.RisingLaws.{IsSupported, excited-from_waiting, named-no_output, waits-from_excited}
pub use Rattle.ncl_insensitivity.proofs.RunLaws.{IsRunFrom-prefix, IsRunFrom-suffix, after-append}
pub use Rattle.ncl_insensitivity.proofs.StepLaws.{changes_one_net}
pub use Rattle.ncl_insensitivity.proofs.StepValues.{lowered-value}
pub use Rattle.ncl_insensitivity.proofs.WiresSound.{wires_sound}
pub use Rattle.ncl_machine.proofs.AtWorkLaws.{holds-excited, named-within_values, with_net-elsewhere}
pub use Rattle.ncl_machine.proofs.Completion.{Follows, ReadsNew, all_are_new, nets_new, old_is_turning, one_cell, others_are_new, reads-bit, reads-more, turning_is_old, up_the_tree}
pub use Rattle.ncl_machine.proofs.Counts.{count-few, count-same}
pub use Rattle.ncl_machine.proofs.EnabledItems.{few_named}
pub use Rattle.ncl_machine.proofs.FallingLaws.{IsUnfed, excited-from_unfed, next-from_unfed, unfed-at}
pub use Rattle.ncl_machine.proofs.HeldCounts.{held_from, none_past, start_number}
pub use Rattle.ncl_machine.proofs.InOrder.{in_order}
pub use Rattle.ncl_machine.proofs.LocalNets.{in_stage, in_tree, local-at, with_net-here, with_net-keeps}
pub use Rattle.ncl_machine.proofs.NamedRails.{all-from_places, bit_at, member-from_among, named-get, named-has, named-only, named-past, named-place, rail-data, rail-is_one, some-rail}
pub use Rattle.ncl_machine.proofs.Numbers.{one_if, one_if-most}
pub use Rattle.ncl_machine.proofs.StageNets.{gate-listed, in_bit, in_outputs, inputs-listed, ki-listed, out-listed, output-listed, outputs-listed, rail-listed, root-listed, tree-listed}
pub use Rattle.ncl_machine.proofs.Start.{held_in, stage-held, stage-none, tree-value}
pub use Rattle.ncl_machine.proofs.TruthValues.{differ_from_not, not-from_differ, not_itself, same-from_differ, same_or_not}
pub use Rattle.ncl_machine.specs.AtWork.{IsExcited, next_of_gate}
pub use Rattle.ncl_machine.specs.Composition.{stage_function}
pub use Rattle.ncl_machine.specs.DelayInsensitive.{IsAtRest, IsDelayInsensitive, IsLegalState, IsNullBit}
pub use Rattle.ncl_machine.specs.Run.{AreWordsOf, IsPersistent, IsQuiet, IsRun, IsRunFrom, after}
pub use Rattle.ncl_machine.specs.SoundAt.{IsSoundAt, IsSoundWhenHeld, is_held_up, is_late, is_left_high, only}
pub use Rattle.ncl_machine.specs.State.{State, no_nets, reset, reset_nets}
pub use Rattle.ncl_machine.specs.Steps.{current_rails, differ, enabled, fired, has_value, is_data, is_excited, is_null, next_value, put_at, rails_of_word, step}
pub use Rattle.ncl_machine.specs.Tallies.{count_of}
pub use Rattle.ncl_netlist.specs.declared.cell.Cell.{Cell}
pub use Rattle.ncl_netlist.specs.declared.ids.CellId.{CellId}
pub use Rattle.ncl_netlist.specs.declared.ids.NetId.{NetId}
pub use Rattle.ncl_refusal.specs.Breaks.{Breaks, BreaksAsTold, BreaksBy, gate_loses, illegal_output, register_loses, stop_while_full}
pub use Rattle.ncl_refusal.specs.Reached.{AreSoundOnTheWay, GoesWrong, IsSoundPastHeld, IsSoundWhereHeld, IsSoundWhereReached, illegal, loses, stops}
pub use Rattle.ncl_refusal.specs.Told.{Tells, incomplete, no_rail, orphan}
pub use Rattle.ncl_shape.proofs.ClosureLaws.{pin_values-same, set_of-grows}
pub use Rattle.ncl_shape.proofs.PinLaws.{some_high-low}
pub use Rattle.ncl_shape.specs.Closure.{net_of, pin_values}
pub use Rattle.ncl_shape.specs.Held.{data_banks, is_data_bank, word_held}
pub use Rattle.ncl_shape.specs.Nets.{Nets, among, with_net}
pub use Rattle.ncl_shape.specs.Pipeline.{PipelineData}
pub use Rattle.ncl_shape.specs.Shape.{Shape}
pub use Rattle.ncl_shape.specs.Stage.{IsStage, StageData, named_rails, out_of, rail_nets, rail_of}
pub use Rattle.ncl_shape.specs.declared.bank.Bank.{Bank}
pub use Rattle.ncl_shape.specs.declared.bank.Bit.{Bit as BankBit}
pub use Rattle.ncl_shape.specs.declared.item.Item.{Item}
pub use Rattle.ncl_shape.specs.declared.item.Item.TheVariants.{Cell as Fire, Lower, Raise, Ready, Take, Take as Taking}
pub use Rattle.ncl_shape.specs.declared.rails.Rails.{Rails}
pub use Rattle.ncl_shape.specs.declared.stage.StageCell.{StageCell}
pub use Rattle.ncl_stage.proofs.OrderLaws.{words_by-length}
pub use Rattle.ncl_stage.proofs.OrderedTables.{order-is}
pub use Rattle.ncl_stage.specs.BitOrder.{bit_order, words_by}
pub use Rattle.ncl_stage.specs.LeastWords.{below}
pub use Rattle.ncl_stage.specs.Tables.{count}
pub use Rattle.ncl_verdict.proofs.Accepting.{sound_verdict}
pub use Rattle.ncl_verdict.proofs.Places.{Member-below}
pub use Rattle.ncl_verdict.proofs.Sound.{judgement-sound, of_stage-sound}
pub use Rattle.ncl_verdict.specs.Judgement.{at_variant, faults_of, found, judgement, least_word, stopped_at, variants, verdict_of}
pub use Rattle.ncl_verdict.specs.Within.{AreWithin}
pub use Rattle.ncl_verdict.specs.declared.verdict.Verdict.{Verdict}
pub use Rattle.ncl_verdict.specs.declared.verdict.Verdict.TheVariants.{Accepted}
