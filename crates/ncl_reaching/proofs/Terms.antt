-- What the proofs of this crate take from the library, the crates below and its own definitions, passed on.
pub use Rattle.std.proofs.Common.{Bool, Err, List, None, Option, Some, [], ap, append_assoc, arith, cond, drop, false, get_or, if◌then◌else◌, inl, inr, length, length-append, length-set, map, not, refl, replicate, rules, set, subst, suc, sym, take, true, vec_len, zero, ℕ, ◌&&◌, ◌*◌, ◌++◌, ◌+◌, ◌-◌, ◌<◌, ◌^◌, ◌||◌, ◌∙◌, ◌∷◌, ◌≡◌, ◌≢◌, ◌≤◌, ◌⊎◌}
pub use Rattle.std.proofs.Math.Path.{fun_ext}
pub use Rattle.std.proofs.lemmas.Bool.{both_ways, cases_eq, eq-eqb, eqb-true, false_from_ne_true, ne_eqb, or_from}
pub use Rattle.std.proofs.lemmas.List.{append-nil, drop_more, get_or-map, get_or-set_other, get_or-set_same, length-map, length-replicate, length-take-le, map-append, map_more, take_all, take_more}
pub use Rattle.std.proofs.lemmas.List.Elements.{All-contains, same_from_all_zip}
pub use Rattle.std.proofs.lemmas.List.Kept.{AllPairs-cons}
pub use Rattle.std.proofs.lemmas.Option.{get_or_from_slice_get, slice_get-get_or, slice_get_within}
pub use Rattle.std.proofs.lemmas.Result.{IfOk-weaker}
pub use Rattle.std.specs.List.{find, flat_map, list_all, range_with_len}
pub use Rattle.std.specs.Option.{option_map, option_or}
pub use Rattle.std.specs.Prelude.{All, AllPairs, Contains, IfOk, nat_eq, option_and_then, slice_get}
pub use Rattle.ncl_base.proofs.Joined.{Member-flat_map, member_of_flat_map}
pub use Rattle.ncl_base.proofs.Lists.{pairs-head, pairs-tail, same_from_lengths}
pub use Rattle.ncl_base.proofs.Members.{All-from_members, Contains-from_Member, Contains-from_slice_get, Member, Member-append_cases, Member-append_left, Member-append_right, Member-from_Contains, Member-map, here, member-found, member_cases, member_of_map, slice_get-some, there}
pub use Rattle.ncl_base.proofs.Places.{at_map, place_read, slice_get-append_left, slice_get-append_right}
pub use Rattle.ncl_base.proofs.Ranges.{below_of_range}
pub use Rattle.ncl_base.proofs.Tests.{All-member, AllPairs-append, map-same, same_from_both}
pub use Rattle.ncl_cell_roles.proofs.LaidOut.{laid_out}
pub use Rattle.ncl_cell_roles.proofs.RailNets.{rail-place, rail-within}
pub use Rattle.ncl_cell_roles.specs.Layout.{IsLayoutOf, Layout, no_rails, rail_at, stage_nets}
pub use Rattle.ncl_cell_rules.specs.CellOrder.{IsCellOrder}
pub use Rattle.ncl_complete.specs.RailFaults.{first_rail_fault_by, found_fault_by, rail_fault}
pub use Rattle.ncl_complete.specs.declared.rail_fault.RailFault.{RailFault}
pub use Rattle.ncl_diagram.specs.Diagram.{diagram_space}
pub use Rattle.ncl_faults.proofs.Apart.{right-differ}
pub use Rattle.ncl_faults.proofs.OnePass.{among-from_member, pass-val}
pub use Rattle.ncl_faults.proofs.ValueLaws.{rail-no_output, val-output, val-rail}
pub use Rattle.ncl_faults.proofs.WiringLaws.{at_rail}
pub use Rattle.ncl_faults.specs.Faults.{BothRails, Incomplete, IsSound, NoRail, Orphan, StageFault, all_data, has_data, holds_at, is_illegal, shows}
pub use Rattle.ncl_faults.specs.Pass.{pass}
pub use Rattle.ncl_faults.specs.Values.{both_rails, holds, kept_low, output_net, rises, val}
pub use Rattle.ncl_faults.specs.declared.variant.Variant.{Variant}
pub use Rattle.ncl_faults.specs.declared.variant.Variant.TheVariants.{Base, Bit, Cell, Cell as Without}
pub use Rattle.ncl_gates.specs.Gate.{arity_of, set_of}
pub use Rattle.ncl_gates.specs.declared.kind.Kind.TheVariants.{Th22}
pub use Rattle.ncl_hazard.proofs.Found.{rail_id, word-brought}
pub use Rattle.ncl_hazard.proofs.Handing.{IsOneRailed, high-value, one_railed, sound-one_railed, value-high, wide-at}
pub use Rattle.ncl_hazard.proofs.ItemLaws.{acknowledging-tried, all-named, all-tried, coming-tried, going-tried, lacking-tried, reaching-tried}
pub use Rattle.ncl_hazard.proofs.JoinedLaws.{stage-here}
pub use Rattle.ncl_hazard.proofs.Losing.{happened-after, happened-run, none-happens}
pub use Rattle.ncl_hazard.proofs.OrphanPlaces.{first-among, found-some}
pub use Rattle.ncl_hazard.proofs.SearchLaws.{all_over, nets_over}
pub use Rattle.ncl_hazard.proofs.ShownLaws.{order-of}
pub use Rattle.ncl_hazard.proofs.Tries.{run-append}
pub use Rattle.ncl_hazard.specs.Schedule.{acknowledging, all_items, coming, going, lacking, no_cell, reaching}
pub use Rattle.ncl_hazard.specs.Search.{ascending, question_count}
pub use Rattle.ncl_hazard.specs.Trying.{HasNoDataBank, Loses, happened, tried}
pub use Rattle.ncl_hazard.specs.Why.{brings}
pub use Rattle.ncl_insensitivity.proofs.Composition.{word_at}
pub use Rattle.ncl_insensitivity.proofs.RunLaws.{after-append}
pub use Rattle.ncl_insensitivity.proofs.WiresPass.{wires-pass}
pub use Rattle.ncl_insensitivity.proofs.WiresSound.{wires_sound}
pub use Rattle.ncl_machine.proofs.EnabledItems.{item_in_range}
pub use Rattle.ncl_machine.proofs.InOrder.{in_order}
pub use Rattle.ncl_machine.proofs.NamedRails.{bit_at, named-has, named-only}
pub use Rattle.ncl_machine.proofs.StageNets.{gate-listed, output-listed, outputs-listed, rail-listed}
pub use Rattle.ncl_machine.specs.Composition.{stage_function}
pub use Rattle.ncl_machine.specs.DelayInsensitive.{IsDelayInsensitive}
pub use Rattle.ncl_machine.specs.Held.{InRange, IsFor, meaning}
pub use Rattle.ncl_machine.specs.Run.{IsQuiet, IsRunFrom, after}
pub use Rattle.ncl_machine.specs.SoundAt.{IsSoundAt}
pub use Rattle.ncl_machine.specs.State.{State, reset}
pub use Rattle.ncl_machine.specs.Steps.{enabled}
pub use Rattle.ncl_netlist.specs.declared.ids.CellId.{CellId}
pub use Rattle.ncl_netlist.specs.declared.ids.NetId.{NetId}
pub use Rattle.ncl_reaching.specs.Answers.{Answers, GoesWrongBy, IsFaultShown, IsPastLimit, IsRunTold, IsShown, Means}
pub use Rattle.ncl_reaching.specs.Asking.{EndsWith, IsFaultOf, IsPast, fault_of, gate_place, inputs_of_chain, is_first, lesser, rail0_place, rail1_place, shown_of}
pub use Rattle.ncl_reaching.specs.Breaking.{BreaksIn, BringsFault, GoesToStop, register_cell}
pub use Rattle.ncl_reaching.specs.Chain.{CanFollow, by_net, chain, followed, followed_by, follower, followers}
pub use Rattle.ncl_reaching.specs.Evaluating.{none_low, value_in, word_on}
pub use Rattle.ncl_reaching.specs.Reaching.{AreSoundWhereReached, Inputs, Shown, brings_fault, first_at, first_reached, first_shown, least_bringing, shown_by}
pub use Rattle.ncl_reaching.specs.declared.breaking.WrongRun.{WrongRun}
pub use Rattle.ncl_reaching.specs.declared.fault.Found.{Found}
pub use Rattle.ncl_reaching.specs.declared.reaching.Reached.{Reached}
pub use Rattle.ncl_refusal.proofs.Breaking.{IsLost, bit-in_bank, bit-in_word, bit-lost, both-breaks, gate-lost, none-breaks}
pub use Rattle.ncl_refusal.proofs.Converse.{insensitive-reached}
pub use Rattle.ncl_refusal.proofs.Exact.{reached-insensitive}
pub use Rattle.ncl_refusal.proofs.Outputs.{standing}
pub use Rattle.ncl_refusal.specs.Breaks.{BreaksBy}
pub use Rattle.ncl_refusal.specs.Reached.{IsSoundWhereReached}
pub use Rattle.ncl_refusal.specs.Told.{Tells, incomplete, no_rail, orphan}
pub use Rattle.ncl_shape.proofs.ClosureLaws.{pin_values-same}
pub use Rattle.ncl_shape.proofs.JoinedLists.{append_split}
pub use Rattle.ncl_shape.specs.Closure.{pin_values}
pub use Rattle.ncl_shape.specs.Nets.{Nets, among, with_net}
pub use Rattle.ncl_shape.specs.Pipeline.{PipelineData}
pub use Rattle.ncl_shape.specs.Shape.{Shape}
pub use Rattle.ncl_shape.specs.Stage.{IsInOrder, IsStage, Reads, StageData, named_rails, nets_of, out_of, rail_nets, rail_of}
pub use Rattle.ncl_shape.specs.declared.bank.Bank.{Bank}
pub use Rattle.ncl_shape.specs.declared.item.Item.{Item}
pub use Rattle.ncl_shape.specs.declared.item.Item.TheVariants.{Cell as Fire}
pub use Rattle.ncl_shape.specs.declared.rails.Rails.{Rails}
pub use Rattle.ncl_shape.specs.declared.stage.StageCell.{StageCell}
pub use Rattle.ncl_space.proofs.MakingLaws.{handed_on}
pub use Rattle.ncl_space.proofs.TableLaws.{find-same, find-words}
pub use Rattle.ncl_space.specs.Beads.{distinct_beads}
pub use Rattle.ncl_space.specs.Space.{IsNew, Keeps, Restores, SpaceData, fits, is_within, with_tables}
pub use Rattle.ncl_space.specs.Table.{words}
pub use Rattle.ncl_stage.proofs.ChangedLaws.{values-kept}
pub use Rattle.ncl_stage.proofs.OrderLaws.{Member-words_by, ascending-order, words-length, words_by-ascending, words_by-length}
pub use Rattle.ncl_stage.specs.BitOrder.{IsOrderOf, words_by}
pub use Rattle.ncl_stage.specs.LeastWords.{below, faults_of, first_of, least_word_by}
pub use Rattle.ncl_stage.specs.StageTables.{net_tables_by}
pub use Rattle.ncl_verdict.proofs.FileOrder.{Member-file_order, after_base-within}
pub use Rattle.ncl_verdict.proofs.Firsts.{find-none}
pub use Rattle.ncl_verdict.proofs.InSpaceLaws.{first-none_at, first-some_at}
pub use Rattle.ncl_verdict.proofs.Places.{Member-below, slice_get-cases}
pub use Rattle.ncl_verdict.proofs.Sound.{judgement-sound}
pub use Rattle.ncl_verdict.specs.InSpace.{IsAfterBase}
pub use Rattle.ncl_verdict.specs.Judgement.{after_base, cell_number, file_order, variants, verdict_of}
pub use Rattle.ncl_verdict.specs.declared.verdict.Verdict.{Verdict}
