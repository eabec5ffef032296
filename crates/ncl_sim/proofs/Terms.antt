-- What the proofs of this crate take from the library and the terms that they speak of, passed on.
pub use Rattle.std.proofs.Common.{Bool, Global, List, None, Option, Some, Vec, [], ap, append_assoc, arith, cond, eqb, false, get_or, if◌then◌else◌, inl, inr, length, ltb, map, min, not, refl, replicate, rules, set, subst, suc, sym, take, true, zero, ℕ, ◌%◌, ◌&&◌, ◌*◌, ◌++◌, ◌+◌, ◌-◌, ◌<◌, ◌==◌, ◌^◌, ◌||◌, ◌∙◌, ◌∷◌, ◌≡◌, ◌≢◌, ◌≤◌, ◌⊎◌}
pub use Rattle.std.proofs.Math.Nat.{mul-le-mul_left}
pub use Rattle.std.proofs.lemmas.Bool.{and_from, and_left, and_parts, and_right, both_ways, cases_Bool, cases_eq, cases_lt, cond-false, cond-true, eq-eqb, eqb-false, eqb-true, false_from_ne_true, le-ltb, lt-ltb, ne_eqb, not-true, not_from_false, not_from_true, true_from_ne_false}
pub use Rattle.std.proofs.lemmas.Bool.Decides.{nat_tests}
pub use Rattle.std.proofs.lemmas.List.{append-nil, get_or-map, get_or-set_other, get_or-set_same, get_or_past, get_or_push, length-append, length-map, length-replicate, length-set, length_push, map-append, map-set, replicate_more, same_from_push, set-get_or, take_all, take_more}
pub use Rattle.std.proofs.lemmas.List.Elements.{All-append, All-cons, All-contains, All-from_recursion, All-head, All-map, All-nil, All-push, All-weaker}
pub use Rattle.std.proofs.lemmas.List.Sorted.{All-permutation, IsPermutation-append_comm, IsPermutation-append_left, IsPermutation-append_right, IsPermutation-cons, IsPermutation-map, IsPermutation-middle, IsPermutation-refl, IsPermutation-sym, IsPermutation-trans, length_permutation, sorted_far, sum_by-IsPermutation}
pub use Rattle.std.proofs.lemmas.List.Sums.{sum_by-append, sum_by-cons}
pub use Rattle.std.proofs.lemmas.Option.{get_or_from_slice_get, none-some, same_Some, slice_get-get_or, slice_get-map, slice_get_read, slice_get_within}
pub use Rattle.std.proofs.lemmas.Result.{IfOk-weaker, MatchResult-from_err}
pub use Rattle.std.specs.BinaryHeap.{IsUpperBound, heap_items}
pub use Rattle.std.specs.Cmp.{IsStrictWeakOrder}
pub use Rattle.std.specs.List.{AllByRecursion, flat_map, list_all, sum_by}
pub use Rattle.std.specs.List.Sorted.{IsPermutation, IsSorted}
pub use Rattle.std.specs.Option.{option_map, option_to_list}
pub use Rattle.std.specs.Ordering.{is_lt, nat_cmp, ordering_then}
pub use Rattle.std.specs.Prelude.{All, AllPairs, Contains, IfSome, filter, slice_get}
pub use Rattle.std.specs.declared.cmp.Reverse.{Reverse}
pub use Rattle.ncl_base.proofs.Growing.{Contains-last, cases_contains, from_push, last_of}
pub use Rattle.ncl_base.proofs.Lists.{pairs-head, pairs-tail}
pub use Rattle.ncl_base.proofs.Members.{All-from_members, Contains-from_Member, Contains-from_slice_get, Member, Member-append_left, Member-append_right, Member-from_Contains, Member-get_or, Member-map, here, member_cases, recursion_from_members, slice_get-some, there}
pub use Rattle.ncl_base.proofs.ListTables.{grows-along, nothing-at, put-more}
pub use Rattle.ncl_base.proofs.Places.{push_cases}
pub use Rattle.ncl_base.specs.ListTables.{Grows, items_at}
pub use Rattle.ncl_base.specs.declared.word.TheConstants.{MOST_BITS}
pub use Rattle.ncl_cell_roles.proofs.EndLaws.{inputs_differ}
pub use Rattle.ncl_cell_roles.proofs.LaidOut.{few_inputs, laid_out_of}
pub use Rattle.ncl_cell_roles.proofs.RailNets.{rail-within}
pub use Rattle.ncl_cell_roles.specs.Layout.{IsLayoutOf, Layout, Part, in_rail, no_rails, of_bank, of_stage, of_tree, stage_nets}
pub use Rattle.ncl_cell_rules.proofs.Drivers.{same_place}
pub use Rattle.ncl_cell_rules.specs.Origin.{CellAt}
pub use Rattle.ncl_delay.specs.Delays.{AreDelays, DelaysData, HasDelays, delay_of, edge, edges_of, edges_of_cell, stated_or}
pub use Rattle.ncl_delay.specs.declared.delays.Edges.{Edges}
pub use Rattle.ncl_delay.specs.declared.delays.TheConstants.{MOST_DELAY}
pub use Rattle.ncl_delay.specs.declared.fired.Fired.{Fired}
pub use Rattle.ncl_delay.specs.declared.word_text.TheConstants.{MOST_WORDS}
pub use Rattle.ncl_faults.specs.Faults.{IsSound}
pub use Rattle.ncl_gates.proofs.GateLaws.{next_of_cell-again}
pub use Rattle.ncl_gates.proofs.PinLaws.{pins_of-few}
pub use Rattle.ncl_gates.specs.Cell.{next_of_cell, pins_of}
pub use Rattle.ncl_gates.specs.NextWord.{own_pins}
pub use Rattle.ncl_insensitivity.proofs.Headline.{rests_where_quiet, run_bound, safe}
pub use Rattle.ncl_insensitivity.proofs.HeldDue.{held_words-length}
pub use Rattle.ncl_insensitivity.proofs.SamePipelineLaws.{after-same, enabled-same, other-is, run-same, step-same, with_stages}
pub use Rattle.ncl_machine.proofs.EnabledItems.{and3, bit_within, excited_within, item_in_range}
pub use Rattle.ncl_machine.proofs.LocalNets.{with_net-here}
pub use Rattle.ncl_machine.specs.DelayInsensitive.{IsAtRest, due, held_words}
pub use Rattle.ncl_machine.specs.Held.{InRange, IsFor, meaning}
pub use Rattle.ncl_machine.specs.OneChange.{net_of_step, out_at}
pub use Rattle.ncl_machine.specs.Run.{AreWordsOf, IsPersistent, IsQuiet, IsRun, IsRunFrom, after}
pub use Rattle.ncl_machine.specs.State.{State, reset}
pub use Rattle.ncl_machine.specs.Steps.{after_lower, after_raise, current_rails, differ, enabled, fired, has_value, is_data, is_excited, is_null, next_value, put_at, rails_of_word, step}
pub use Rattle.ncl_machine.specs.declared.pair.Pair.{Pair}
pub use Rattle.ncl_netlist.specs.Netlist.{CellFits, NetlistData, most_cells}
pub use Rattle.ncl_netlist.specs.declared.cell.Cell.{Cell}
pub use Rattle.ncl_netlist.specs.declared.ids.NetId.{NetId}
pub use Rattle.ncl_shape.proofs.BankCounts.{data_banks-le}
pub use Rattle.ncl_shape.proofs.ShapeLaws.{shape_is_one}
pub use Rattle.ncl_shape.specs.Closure.{function_of, net_of, pin_values}
pub use Rattle.ncl_shape.specs.Nets.{Nets, with_net}
pub use Rattle.ncl_shape.specs.Pipeline.{PipelineData}
pub use Rattle.ncl_shape.specs.SamePipeline.{IsSamePipeline}
pub use Rattle.ncl_shape.specs.Shape.{Shape}
pub use Rattle.ncl_shape.specs.Stage.{StageData, named_rails, out_of, rail_nets}
pub use Rattle.ncl_shape.specs.declared.bank.TheConstants.{MOST_BANKS}
pub use Rattle.ncl_shape.specs.declared.item.Item.{Item}
pub use Rattle.ncl_shape.specs.declared.item.Item.TheVariants.{Cell as Fire, Lower, Raise, Ready, Take}
pub use Rattle.ncl_shape.specs.declared.rails.Rails.{Rails}
pub use Rattle.ncl_shape.specs.declared.stage.StageCell.{StageCell}
pub use borrow.Author.Count.{below_more}
pub use Rattle.ncl_sim.specs.Agenda.{IsQueueOf, events}
pub use Rattle.ncl_sim.specs.Calendar.{CalendarData, ComesBeforeAll, IsCalendar, IsDueAfter, IsDueAt, IsDueIn, IsNextList, IsWheel, WheelData, all_events, event_cmp, joined, list_at}
pub use Rattle.ncl_sim.specs.Candidates.{IsFree, bit_candidate, candidate, due_at, look, number_count, popped, sink_candidate}
pub use Rattle.ncl_sim.specs.Course.{CourseData}
pub use Rattle.ncl_sim.specs.Numbers.{item_number, output_is_low, rises}
pub use Rattle.ncl_sim.specs.Queue.{IsBefore, IsFirst, IsTracked, NoneWaits, begins, due_now, is_waiting, least_of, look_at, looks, loses, lower, note}
pub use Rattle.ncl_sim.specs.Rows.{AreRowsOf, HasNetsBelow, IsDelayAt, IsDelayOfRow, IsRowOf, is_excited_by_row, next_by_row, pin_or_output}
pub use Rattle.ncl_sim.specs.Running.{GoesOn, HasTouched, IsPopped, IsStopped, IsUnderWay, Tells, Turned}
pub use Rattle.ncl_sim.specs.TimedRun.{ComesFirst, DeliversAll, Ends, IsLost, IsNext, IsTimedRun, LosesNone, TraceData, due_after, due_along, due_from, due_next, due_step, is_take, items_in, last_time, lost, most_steps, over, quiet, state_after, takes_in, words_due}
pub use Rattle.ncl_sim.specs.Times.{AreWithin, IsTimely}
pub use Rattle.ncl_sim.specs.Touch.{AreApart, AreDrivenOnce, AreEnds, Avoids, IsApart, IsUntouched}
pub use Rattle.ncl_sim.specs.declared.rows.Row.{Row}
pub use Rattle.ncl_sim.specs.declared.run.Run.{Run}
pub use Rattle.ncl_sim.specs.declared.trace.End.{End}
pub use Rattle.ncl_sim.specs.declared.trace.End.TheVariants.{Hazard, Over, Quiet}
pub use Rattle.ncl_sim.specs.declared.trace.Taken.{Taken}
