-- What the proofs of this crate take from the library and the terms that they speak of, passed on.
pub use Rattle.std.proofs.Common.{[], Bool, Err, IsTrue, List, None, Ok, Option, Result, Some, ap, append_assoc, arith, cond, drop, false, get_or, get_or-set_other, get_or-set_same, if◌then◌else◌, inl, inr, length, map, nat_eq, nat_lt, not, refl, replicate, rules, set, subst, subst₂, suc, sym, take, true, zero, zero-add, ℕ, ⊎_elim, ◌&&◌, ◌*◌, ◌++◌, ◌+◌, ◌-◌, ◌/◌, ◌<◌, ◌^◌, ◌||◌, ◌∙◌, ◌∷◌, ◌≡◌, ◌≢◌, ◌≤◌, ◌⊎◌}
pub use Rattle.std.proofs.lemmas.Bool.{both_ways, cases_eq, cases_lt, eq-eqb, eqb-true, false_from_ne_true, false≢true, or_cases, or_left, or_right}
pub use Rattle.std.proofs.lemmas.Bool.Decides.{nat_tests}
pub use Rattle.std.proofs.lemmas.Grind.{common_steps}
pub use Rattle.std.proofs.lemmas.List.{append-nil, get_or-append-add, get_or-map, get_or-take, get_or_append_left, get_or_default, get_or_past, get_or_push, length-append, length-map, length-set, length-take, length_push, map-append, map_more, map_push, take_all, take_more}
pub use Rattle.std.proofs.lemmas.List.Elements.{All-append, All-cons, All-contains, All-head, All-nil, All-push, All-set, All-tail, Contains-append_cases, Contains-push_cases, recursion_from_All}
pub use Rattle.std.proofs.lemmas.List.Folds.{list_any-append, list_any_at}
pub use Rattle.std.proofs.lemmas.List.FromFn.{get_or-range_with_len, length-range_with_len}
pub use Rattle.std.proofs.lemmas.List.Sums.{sum_by-cons, sum_by_push}
pub use Rattle.std.proofs.lemmas.Map.Keys.{apart_from_distinct}
pub use Rattle.std.proofs.lemmas.Option.{get_or_from_slice_get, same_Some, slice_get-get_or, slice_get_read, slice_get_within}
pub use Rattle.std.proofs.lemmas.Result.{IfOk-at_ok, IfOk-weaker}
pub use Rattle.std.specs.BTreeMap.{get}
pub use Rattle.std.specs.List.{AllByRecursion, filter_map, find, list_any, range_with_len, slice_index_or}
pub use Rattle.std.specs.Option.{option_map, option_or}
pub use Rattle.std.specs.Ordering.{nat_cmp}
pub use Rattle.std.specs.Prelude.{All, AllPairs, Contains, IfOk, IsErrAnd, IsSome, slice_get, sum_by, ◌==◌, ◌↔◌}
pub use Rattle.ncl_base.proofs.Growing.{cut_at}
pub use Rattle.ncl_base.proofs.Lists.{pairs-head, pairs-tail, take-written}
pub use Rattle.ncl_base.proofs.Members.{All-from_members, Contains-from_Member, Contains-from_slice_get, Member, Member-append_cases, Member-append_left, Member-append_right, Member-from_Contains, Member-get_or, Member-map, here, list_any-from_member, member_cases, member_from_list_any, member_of_map, slice_get-from_Contains, slice_get-some, there}
pub use Rattle.ncl_base.proofs.Ranges.{range_with_len-more}
pub use Rattle.ncl_base.proofs.Tests.{All-left, All-member, All-right, map-same, same_from_both}
pub use Rattle.ncl_base.proofs.Places.{slice_get-kept, slice_get-end, push_cases}
pub use Rattle.ncl_base.specs.declared.word.TheConstants.{MOST_BITS}
pub use Rattle.ncl_blif.proofs.Composing.{computes_one}
pub use Rattle.ncl_blif.proofs.Fitting.{fits_agree, map-agree_on, map-range, outs_differ}
pub use Rattle.ncl_blif.specs.Dependence.{dependency_graph, driver_place}
pub use Rattle.ncl_blif.specs.Meaning.{Computes, Fits, Gives, cover_value, lit_matches, row_matches, width_of}
pub use Rattle.ncl_blif.specs.Model.{AreJoined, AreModels, IsModel, signals_of, size_of_model}
pub use Rattle.ncl_blif.specs.declared.model.Cover.{Cover}
pub use Rattle.ncl_blif.specs.declared.model.Lit.{Lit}
pub use Rattle.ncl_blif.specs.declared.model.Lit.TheVariants.{Dash, One, Zero}
pub use Rattle.ncl_blif.specs.declared.model.Model.{Model}
pub use Rattle.ncl_cell_roles.proofs.LaidOut.{few_inputs, laid_out_of}
pub use Rattle.ncl_cell_roles.proofs.RailNets.{rail-place, rail-within}
pub use Rattle.ncl_cell_roles.specs.Layout.{IsLayoutOf, Layout, Part, in_rail, no_rails, of_bank, of_stage, of_tree, out_rail, rail_at, stage_nets, width}
pub use Rattle.ncl_cell_rules.specs.Origin.{A, CellAt, IsCell, IsGate, IsRegister, OnPin, ReadsNet}
pub use Rattle.ncl_diagram.specs.Diagram.{diagram_space}
pub use Rattle.ncl_faults.proofs.Apart.{named-within, parts-differ, right-differ}
pub use Rattle.ncl_faults.proofs.NamedRails.{named-at}
pub use Rattle.ncl_faults.proofs.ValueLaws.{rail-no_output, same_output}
pub use Rattle.ncl_faults.proofs.WiringLaws.{left-differ}
pub use Rattle.ncl_gates.proofs.DualLaws.{dual-arity, dual-set, dual_pins-length, dual_pins-map}
pub use Rattle.ncl_gates.proofs.GateLaws.{and_gate, or_gate}
pub use Rattle.ncl_gates.proofs.RegisterLaws.{at_register}
pub use Rattle.ncl_gates.specs.Cell.{is_register}
pub use Rattle.ncl_gates.specs.Dual.{crossed, dual_of, dual_pins, is_crossed}
pub use Rattle.ncl_gates.specs.Gate.{arity_of, set_of}
pub use Rattle.ncl_gates.specs.declared.kind.Kind.{Kind}
pub use Rattle.ncl_gates.specs.declared.kind.Kind.TheVariants.{Th12, Th22}
pub use Rattle.ncl_graph.specs.Graph.{IsOrder}
pub use Rattle.ncl_netlist.specs.Netlist.{NetlistData}
pub use Rattle.ncl_netlist.specs.declared.cell.Cell.{Cell}
pub use Rattle.ncl_netlist.specs.declared.ids.NetId.{NetId}
pub use Rattle.ncl_network.proofs.CoverOrder.{HoldsOf, covers_few, holds_of_all, length-order, turn_done, turn_holds, turn_within}
pub use Rattle.ncl_shape.proofs.ClosureLaws.{passes-monotone}
pub use Rattle.ncl_shape.proofs.PinLaws.{first_pin-is}
pub use Rattle.ncl_shape.proofs.Rounds.{rounds-keep, rounds-settled, rounds-support}
pub use Rattle.ncl_shape.specs.Closure.{first_pin, net_of, passes, passes_on, pin_values}
pub use Rattle.ncl_shape.specs.Nets.{Nets, among}
pub use Rattle.ncl_shape.specs.Pipeline.{PipelineData}
pub use Rattle.ncl_shape.specs.Shape.{Shape}
pub use Rattle.ncl_shape.specs.Stage.{IsStage, StageData, named_rails, nets_of, out_of, rail_nets, rail_of}
pub use Rattle.ncl_shape.specs.declared.rails.Rails.{Rails}
pub use Rattle.ncl_shape.specs.declared.stage.StageCell.{StageCell}
pub use Rattle.ncl_space.proofs.BeadLaws.{distinct_beads-append, one_set, table_order}
pub use Rattle.ncl_space.proofs.MakingLaws.{handed_on, held-along, makes-live, too_much-after}
pub use Rattle.ncl_space.proofs.SpaceLaws.{keeps_all, keeps_along, len_grows, too_much_by_front, with_none}
pub use Rattle.ncl_space.proofs.TableLaws.{at_table, find-words, least-table_of, table_of-at, table_of-same, word_number-less}
pub use Rattle.ncl_space.specs.Beads.{Beads, bead_count, distinct_beads}
pub use Rattle.ncl_space.specs.Functions.{at, constant_table, gate_table, is_value, least, rail_table}
pub use Rattle.ncl_space.specs.Space.{IsLive, IsNew, IsSpace, Keeps, Makes, SpaceData, Within, fits, is_within, with_tables}
pub use Rattle.ncl_space.specs.Table.{table_of, word_number, words}
pub use Rattle.ncl_space.specs.declared.space.Ref.{Ref}
pub use Rattle.ncl_space.specs.declared.space.SpaceFault.{SpaceFault}
pub use mathlib.Core.Bool.{beq}
pub use Rattle.ncl_match.specs.Answer.{DiffersAt, HaveWidths, IsAnswer, IsBitAnswer, IsOver, IsRunAnswer, bit_of, outputs_of}
pub use Rattle.ncl_match.specs.Circuit.{Circuit, circuit_of, closed, computed}
pub use Rattle.ncl_match.specs.Counting.{NetCounts, SignalCounts, by_cover, by_gate, by_position, by_register, is_output, is_rail}
pub use Rattle.ncl_match.specs.Covers.{cover_function, cover_tables, literal_function, row_function, row_tables, rows_function, turn_tables}
pub use Rattle.ncl_match.specs.Difference.{apart_function, apart_tables, without}
pub use Rattle.ncl_match.specs.Gathering.{AreHeld, Gathers, IsHeld, Overflows}
pub use Rattle.ncl_match.specs.Inputs.{HaveInputs, bit_function, input_tables, is_needed}
pub use Rattle.ncl_match.specs.Listed.{AreCompared, Assigns, IsListed, complement, either_alone, models_alone, net, netlist_alone, row, rows, signal}
pub use Rattle.ncl_match.specs.Making.{MakesRail}
pub use Rattle.ncl_match.specs.Needed.{AreNeeded, IsNeeded, is_among}
pub use Rattle.ncl_match.specs.Order.{IsBefore, IsNoLater}
pub use Rattle.ncl_match.specs.Pairs.{HasFunction, IsPair, MakesPair, WordFunction, both_tables, function_at, functions_at, gate_function, inverse, side_of, values_of}
pub use Rattle.ncl_match.specs.Plan.{AreMarks, Drives, FitPins, IsEvaluated, IsKnown, IsOrdered, Reaches, cell_tables, first_value, is_marked, is_on, itself, made_of, pair_at, pins_of, plan_tables, reads}
pub use Rattle.ncl_match.specs.PlanCase.{AreDone, IsCase}
pub use Rattle.ncl_match.specs.Planned.{AreMarksFor, bank_cells, before_at, gate_cell, outputs_at, plan_of, plan_turn, register_cell, register_cells}
pub use Rattle.ncl_match.specs.Question.{QuestionData, RunAnswers}
pub use Rattle.ncl_match.specs.Runs.{Agree, AreWithin, IsAnswerToRun, IsFirstDifference, IsFirstOver, IsIn}
pub use Rattle.ncl_match.specs.Sides.{HasApart, HasRail, HasSignal, HoldsNets, HoldsSignals}
pub use Rattle.ncl_match.specs.Signals.{HaveBits, HaveSignals, HaveSteps, first_tables, functions_read, step_tables, tables_of_step}
pub use Rattle.ncl_match.specs.Steps.{AddsModel, AddsStep, AreAdded, AreInRow, AreNumbered, AreOrdered, HasStep, IsNumbered, IsOutOf, Stay, bit_at, bits_after, signal_function, step_value}
pub use Rattle.ncl_match.specs.Turns.{gathered}
pub use Rattle.ncl_match.specs.declared.answer.CompareFault.{CompareFault}
pub use Rattle.ncl_match.specs.declared.answer.Compared.{Compared}
pub use Rattle.ncl_match.specs.declared.answer.RunAnswer.{RunAnswer}
pub use Rattle.ncl_match.specs.declared.answer.RunAnswer.TheVariants.{Differ, Full, Same}
pub use Rattle.ncl_match.specs.declared.pair.Pair.{Pair}
pub use Rattle.ncl_match.specs.declared.planning.DataCell.{DataCell}
pub use Rattle.ncl_match.specs.declared.steps.Step.{Step}
