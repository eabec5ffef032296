-- What the proofs of this crate take from the library, the crates below and its own definitions, passed on.
pub use Rattle.std.proofs.Common.{Bool, IfSome, List, None, Option, Some, [], ap, append_assoc, arith, cond, drop, false, get_or, get_or-set_other, get_or-set_same, inl, inr, is_some, length, length-set, map, not, refl, set, subst, suc, sym, take, true, zero, ℕ, ◌&&◌, ◌*◌, ◌++◌, ◌+◌, ◌-◌, ◌<◌, ◌||◌, ◌∙◌, ◌∷◌, ◌≡◌, ◌≢◌, ◌≤◌, ◌⊎◌}
pub use Rattle.std.proofs.Math.Bool.{not-not, or-false}
pub use Rattle.std.proofs.Math.ListN.{drop_of_length-le}
pub use Rattle.std.proofs.Math.Path.{fun_ext}
pub use Rattle.std.proofs.lemmas.Bool.{and_from, and_parts, and_right, both_ways, cases_Bool, cases_eq, cases_lt, cond-false, cond_both, eq-eqb, eqb-true, false_from_ne_true, ne_eqb, not-true, not_from_false, or_cases, or_from, or_left, or_parts, or_right, true_from_ne_false}
pub use Rattle.std.proofs.lemmas.List.{append-nil, drop_more, get_or_default, length-map, map-append, take_all, take_at, take_more}
pub use Rattle.std.proofs.lemmas.List.Elements.{All-contains, All-from_recursion, same_from_all_zip}
pub use Rattle.std.proofs.lemmas.List.Kept.{AllPairs-cons}
pub use Rattle.std.proofs.lemmas.Option.{slice_get_past, slice_get_read, slice_get_within}
pub use Rattle.std.specs.List.{list_all, list_any}
pub use Rattle.std.specs.Option.{option_or}
pub use Rattle.std.specs.Prelude.{All, AllPairs, Contains, if◌then◌else◌, nat_eq, slice_get, vec_capacity, ◌↔◌}
pub use Rattle.ncl_base.proofs.Lists.{pairs-head, pairs-tail}
pub use Rattle.ncl_base.proofs.Members.{All-from_members, Contains-from_Member, Contains-from_slice_get, Member, Member-append_cases, Member-append_left, Member-append_right, Member-from_Contains, Member-get_or, Member-map, here, list_any-from_member, member_cases, member_from_list_any, member_of_map, recursion_from_members, slice_get-from_Contains, there}
pub use Rattle.ncl_base.proofs.Tests.{same_from_both}
pub use Rattle.ncl_base.specs.declared.word.TheConstants.{MOST_BITS}
pub use Rattle.ncl_cell_roles.proofs.LaidOut.{laid_out_of}
pub use Rattle.ncl_cell_roles.proofs.RailNets.{rail-place, rail-within}
pub use Rattle.ncl_cell_roles.specs.Layout.{IsAckOf, IsAckOn, IsLayoutOf, Layout, Part, TreePart, acks, completes, holds_rail, in_rail, no_rails, of_bank, of_stage, of_tree, out_rail, rail_at, stage_nets, width}
pub use Rattle.ncl_cell_rules.proofs.CellTests.{same_net}
pub use Rattle.ncl_cell_rules.proofs.DataBanks.{bank_of_mark, mark_of_bank}
pub use Rattle.ncl_cell_rules.proofs.Drivers.{cell_fits, same_driver}
pub use Rattle.ncl_cell_rules.proofs.NetOrigins.{one_origin}
pub use Rattle.ncl_cell_rules.proofs.OriginLaws.{ack_of_bank, driver_of_ack}
pub use Rattle.ncl_cell_rules.proofs.PinNumbers.{on_pin_within, output_within}
pub use Rattle.ncl_cell_rules.specs.Free.{IsFree}
pub use Rattle.ncl_cell_rules.specs.Origin.{AckOf, B, CellAt, ComesFrom, IsAck, IsCell, IsDataBank, IsGate, IsTreeKind, th22, th33, th44}
pub use Rattle.ncl_cell_rules.specs.Origins.{AreOrigins, OriginsData}
pub use Rattle.ncl_cell_rules.specs.Sources.{IsSourceOf, source_at}
pub use Rattle.ncl_cell_rules.specs.declared.source.Source.{Source}
pub use Rattle.ncl_cell_rules.specs.declared.source.Source.TheVariants.{Ack as FromAck, Many, Port, Rail}
pub use Rattle.ncl_faults.proofs.Apart.{named-within, parts-differ, right-differ, same_from_value}
pub use Rattle.ncl_faults.proofs.OnePass.{among-from_member}
pub use Rattle.ncl_faults.proofs.ValueLaws.{holds-grows, rail-no_output, same_output, val-keeps, val-output, val-rail, val-settled, val-support, val-within}
pub use Rattle.ncl_faults.proofs.WiringLaws.{left-differ}
pub use Rattle.ncl_faults.specs.Faults.{BothRails, Incomplete, IsSound, IsWordOf, NoRail, Orphan, all_data, has_data, holds_at, is_illegal, shows}
pub use Rattle.ncl_faults.specs.Values.{both_rails, holds, kept_low, output_net, val}
pub use Rattle.ncl_faults.specs.declared.variant.Variant.{Variant}
pub use Rattle.ncl_faults.specs.declared.variant.Variant.TheVariants.{Base, Bit}
pub use Rattle.ncl_gates.proofs.GateLaws.{next_of-hysteresis, set_of-Th22, set_of-Th33, set_of-Th44, set_of-low}
pub use Rattle.ncl_gates.proofs.RegisterLaws.{at_register, by_register, data_is_register, register_no_ack, register_no_gate}
pub use Rattle.ncl_gates.specs.Cell.{is_data_register, next_of_cell}
pub use Rattle.ncl_gates.specs.Gate.{arity_of, next_of, set_of, some_high}
pub use Rattle.ncl_gates.specs.GateLaw.{all_high}
pub use Rattle.ncl_gates.specs.declared.cell_kind.CellKind.{CellKind}
pub use Rattle.ncl_gates.specs.declared.cell_kind.CellKind.TheVariants.{Ack, Gate}
pub use Rattle.ncl_gates.specs.declared.kind.Kind.{Kind}
pub use Rattle.ncl_machine.specs.AtWork.{IsExcited, IsFalling, IsRising, fire, lower, next_of_gate, null, raise, settled}
pub use Rattle.ncl_machine.specs.Held.{Held, InRange, IsFor, meaning, net_values}
pub use Rattle.ncl_machine.specs.OneChange.{net_of_step, out_at}
pub use Rattle.ncl_machine.specs.ResetLaw.{AsksForData, IsDataOutput, IsReset}
pub use Rattle.ncl_machine.specs.ResetValues.{asks_for_data, cell_starts_high, driven_high, drives_high, starts_high}
pub use Rattle.ncl_machine.specs.Run.{AreWordsOf, IsQuiet}
pub use Rattle.ncl_machine.specs.SoundAt.{IsSoundAt, IsSoundWhenHeld, is_held_up, is_late, is_left_high, only}
pub use Rattle.ncl_machine.specs.StageLaw.{IsFallingSafely, IsLegal, IsUndisturbed}
pub use Rattle.ncl_machine.specs.State.{State, data_nets, joins_kind, joins_tree, no_nets, reset_nets, tree_nets}
pub use Rattle.ncl_machine.specs.Steps.{after_lower, after_raise, current_rails, differ, enabled, fired, has_value, is_data, is_excited, is_null, next_value, put_at, rails_of_word, step}
pub use Rattle.ncl_machine.specs.Tallies.{AreCovered, IsCounted, LevelsData, count_of, current_word, is_covered_by, lowered_from, mate_in, mate_of, other_rails, rails_beside, raised_from}
pub use Rattle.ncl_machine.specs.contracts.state.State.{the_view}
pub use Rattle.ncl_machine.specs.declared.pair.Pair.{Pair}
pub use Rattle.ncl_netlist.specs.Netlist.{IsNetlist, NetlistData}
pub use Rattle.ncl_netlist.specs.declared.cell.Cell.{Cell}
pub use Rattle.ncl_netlist.specs.declared.ids.CellId.{CellId}
pub use Rattle.ncl_netlist.specs.declared.ids.NetId.{NetId}
pub use Rattle.ncl_shape.proofs.BankCounts.{data_banks-le}
pub use Rattle.ncl_shape.proofs.ClosureLaws.{set_of-grows}
pub use Rattle.ncl_shape.proofs.PinLaws.{all_high-from, high_net, some_high-from, some_high-low}
pub use Rattle.ncl_shape.proofs.RailLaws.{own_rail, rails_within}
pub use Rattle.ncl_shape.proofs.Rounds.{rounds-each, rounds-settled}
pub use Rattle.ncl_shape.specs.Closure.{net_of, pin_values}
pub use Rattle.ncl_shape.specs.Held.{data_banks, is_data_bank}
pub use Rattle.ncl_shape.specs.Nets.{IsBelow, Nets, among, with_net}
pub use Rattle.ncl_shape.specs.Pipeline.{PipelineData}
pub use Rattle.ncl_shape.specs.Shape.{Shape}
pub use Rattle.ncl_shape.specs.Stage.{IsStage, StageData, named_rails, nets_of, out_of, rail_nets, rail_of}
pub use Rattle.ncl_shape.specs.declared.bank.Bank.{Bank}
pub use Rattle.ncl_shape.specs.declared.item.Item.{Item}
pub use Rattle.ncl_shape.specs.declared.item.Item.TheVariants.{Cell as Fire, Lower, Raise, Ready, Take}
pub use Rattle.ncl_shape.specs.declared.rails.Rails.{Rails}
pub use Rattle.ncl_shape.specs.declared.stage.StageCell.{StageCell}
