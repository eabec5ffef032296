-- What the proofs of this crate take from the library, the crates below and its own definitions, passed on.
pub use Rattle.std.proofs.Common.{Bool, Err, IfNone, IfOk, IfSome, List, None, Ok, Option, Result, Some, [], ap, append-nil, arith, below_more, cond, drop, false, get_or, inl, inr, length, map, min, not, refl, rules, set, subst, suc, sym, take, true, zero, ℕ, ◌%◌, ◌&&◌, ◌*◌, ◌++◌, ◌+◌, ◌-◌, ◌/◌, ◌<◌, ◌^◌, ◌||◌, ◌∙◌, ◌∷◌, ◌≡◌, ◌≢◌, ◌≤◌, ◌⊎◌}
pub use Rattle.std.proofs.Math.Path.{fun_ext}
pub use Rattle.std.proofs.lemmas.Bool.{both_ways, cases_Bool, cases_eq, cases_lt, eq-eqb, eqb-true, le-ltb, lt-ltb, ltb-false, ltb-true, ne_eqb, or_cases, or_left, or_right}
pub use Rattle.std.proofs.lemmas.Bool.Decides.{leb_tells, nat_tests}
pub use Rattle.std.proofs.lemmas.Grind.{common_steps, flat_map-append}
pub use Rattle.std.proofs.lemmas.List.{append_assoc, get_or-map, get_or-set_other, get_or-set_same, get_or_append_left, get_or_default, get_or_past, get_or_push, length-append, length-map, length-set, map-append, take-append-drop, take_all, take_more}
pub use Rattle.std.proofs.lemmas.List.Elements.{All-contains, filter-append}
pub use Rattle.std.proofs.lemmas.List.Folds.{list_any-append}
pub use Rattle.std.proofs.lemmas.List.FromFn.{get_or-range_with_len, length-range_with_len}
pub use Rattle.std.proofs.lemmas.List.Kept.{AllPairs-cons}
pub use Rattle.std.proofs.lemmas.List.Sorted.{All-permutation, Contains-permutation, IsNonDecreasingBy-from_sort_by_key, IsPermutation-sym}
pub use Rattle.std.proofs.lemmas.List.Sums.{fold_push, sum_by-append, sum_by-cons, sum_by_more, sum_by_push}
pub use Rattle.std.proofs.lemmas.Map.Keys.{IsDistinct-IsPermutation, IsDistinct-from_apart, apart_from_distinct}
pub use Rattle.std.proofs.lemmas.Nat.{one_shl, pow_pos}
pub use Rattle.std.proofs.lemmas.Nat.Bits.{bit_at-lt, bit_at-pow_same, bit_at-suc, bit_at_and, bit_at_lowest, same_from_bits}
pub use Rattle.std.proofs.lemmas.Option.{get_or_from_slice_get, option_and_then_some, slice_get-get_or, slice_get_within}
pub use Rattle.std.proofs.lemmas.Result.{IfOk-at_ok, IfOk-weaker, on_ok_weaker}
pub use Rattle.std.proofs.lemmas.Simd.{map-map}
pub use Rattle.std.specs.Int.{bit_at}
pub use Rattle.std.specs.Int.Count.{ones_step}
pub use Rattle.std.specs.List.{AllByRecursion, AllZip, IsDistinct, find, flat_map, fold, list_all, list_any, range_with_len}
pub use Rattle.std.specs.List.Sorted.{IsNonDecreasingBy, IsPermutation}
pub use Rattle.std.specs.Option.{option_map, option_or}
pub use Rattle.std.specs.Prelude.{All, Contains, IsTrue, MatchResult, bit_and, bit_or, count_ones, filter, if◌then◌else◌, nat_eq, nat_le, nat_lt, option_and_then, slice_get, sum_by, unwrap_or}
pub use Rattle.ncl_base.proofs.Growing.{sum_by-map}
pub use Rattle.ncl_base.proofs.Lists.{AreIncreasing, Differ, HasKeys, differ_of_map, pairs-head, pairs-tail, same_increasing}
pub use Rattle.ncl_base.proofs.Members.{All-from_members, Contains-from_Member, Contains-from_slice_get, Member, Member-append_cases, Member-append_left, Member-append_right, Member-filter, Member-from_Contains, Member-get_or, Member-map, here, list_any-from_member, member_cases, member_from_list_any, member_of_filter, member_of_map, slice_get-from_Contains, slice_get-some, there}
pub use Rattle.ncl_base.proofs.Ranges.{Member-range, below_of_range}
pub use Rattle.ncl_base.proofs.Tests.{All-member, map-same}
pub use Rattle.ncl_base.specs.declared.memory.Memory.{Memory}
pub use Rattle.ncl_complete.specs.RailFaults.{first_rail_fault_by, found_fault_by, rail_fault}
pub use Rattle.ncl_complete.specs.declared.rail_fault.RailFault.{RailFault}
pub use Rattle.ncl_faults.proofs.Apart.{same_from_value}
pub use Rattle.ncl_faults.proofs.Reordered.{IsSameVariant, base, bit, cell, same_values, with_cells}
pub use Rattle.ncl_faults.proofs.ValueLaws.{val-output, val-rail}
pub use Rattle.ncl_faults.proofs.WiringLaws.{at_rail}
pub use Rattle.ncl_faults.specs.Examples.{adder_stage, and_stage, crossed_stage, dead_rail_stage, eager_and_stage, orphan_and_stage, straight_stage, sum_stage, swapped_stage}
pub use Rattle.ncl_faults.specs.Faults.{BothRails, Incomplete, IsSound, IsWordOf, NoRail, Orphan, StageFault, all_data, has_data, holds_at, is_illegal, shows}
pub use Rattle.ncl_faults.specs.Values.{both_rails, kept_low, output_net, val}
pub use Rattle.ncl_faults.specs.declared.variant.Variant.{Variant}
pub use Rattle.ncl_faults.specs.declared.variant.Variant.TheVariants.{Base, Bit, Cell}
pub use Rattle.ncl_gates.proofs.BitLaws.{is_set-or}
pub use Rattle.ncl_gates.specs.Bits.{is_set}
pub use Rattle.ncl_gates.specs.Gate.{set_of}
pub use Rattle.ncl_gates.specs.declared.kind.Kind.TheVariants.{Th12}
pub use Rattle.ncl_netlist.specs.Netlist.{NetlistData}
pub use Rattle.ncl_netlist.specs.declared.ids.NetId.{NetId}
pub use Rattle.ncl_shape.specs.Chain.{SomeRegister}
pub use Rattle.ncl_shape.specs.Closure.{pin_values}
pub use Rattle.ncl_shape.specs.Nets.{among}
pub use Rattle.ncl_shape.specs.Pipeline.{PipelineData}
pub use Rattle.ncl_shape.specs.SamePipeline.{IsSamePipeline, IsSameStage}
pub use Rattle.ncl_shape.specs.Shape.{Shape}
pub use Rattle.ncl_shape.specs.Stage.{IsStage, StageData, named_rails, nets_of, out_of, rail_nets}
pub use Rattle.ncl_shape.specs.declared.bank.Bank.{Bank}
pub use Rattle.ncl_shape.specs.declared.rails.Rails.{Rails}
pub use Rattle.ncl_shape.specs.declared.stage.StageCell.{StageCell}
pub use Rattle.ncl_space.proofs.BeadLaws.{HasMembers, bead_count-computes, contains-distinct_beads, distinct_beads-append, distinct_beads-same, distinct_count, one_set, table_order}
pub use Rattle.ncl_space.proofs.BoundLaws.{bead_count-bounded}
pub use Rattle.ncl_space.proofs.FreeLaws.{free}
pub use Rattle.ncl_space.proofs.MakingLaws.{have-kept}
pub use Rattle.ncl_space.proofs.Nub.{same}
pub use Rattle.ncl_space.proofs.SpaceLaws.{count_of_both, fits_fewer, keeps_along, len_grows, too_much_by_front}
pub use Rattle.ncl_space.proofs.TableLaws.{beads_of-constant, high_half-append, length-table_of, pow_suc, table_of-same}
pub use Rattle.ncl_space.specs.Beads.{Beads, bead_count, beads_of, distinct_beads, high_half, is_bead, is_same, low_half}
pub use Rattle.ncl_space.specs.Bounds.{Agree, IsMarked, Marked, is_free, weight, weights, width_of}
pub use Rattle.ncl_space.specs.Space.{IsLive, IsSpace, Keeps, Releases, Restores, SpaceData, fits, is_within, with_tables}
pub use Rattle.ncl_space.specs.Table.{table_of, words}
pub use Rattle.ncl_space.specs.declared.space.Ref.{Ref}
pub use Rattle.ncl_space.specs.declared.space.SpaceFault.{SpaceFault}
pub use Rattle.ncl_space.specs.declared.space.SpaceFault.TheVariants.{Full}
pub use Rattle.ncl_stage.proofs.ChangedLaws.{net_at-cell, net_at-place, nets-length, pins-before}
pub use Rattle.ncl_stage.proofs.Counted.{count-computes, counted}
pub use Rattle.ncl_stage.proofs.LeastLaws.{first_of-one, tables_of-parts}
pub use Rattle.ncl_stage.proofs.NetLaws.{out_at-is, pins-of}
pub use Rattle.ncl_stage.proofs.ObservedLaws.{sound_from_observed}
pub use Rattle.ncl_stage.proofs.OrderLaws.{Member-words_by, length-placed, placed-at, words_by-length}
pub use Rattle.ncl_stage.proofs.OrderedTables.{order-is, ordered-table, placed-length}
pub use Rattle.ncl_stage.proofs.OutputLaws.{fronts-map, outputs-within, shared-tables, values_at}
pub use Rattle.ncl_stage.proofs.Reordered.{same_count}
pub use Rattle.ncl_stage.proofs.SameOrder.{same_order}
pub use Rattle.ncl_stage.proofs.SupportLaws.{told}
pub use Rattle.ncl_stage.proofs.Unvisited.{place-of}
pub use Rattle.ncl_stage.specs.BitOrder.{IsOrderOf, bit_order, placed, words_by}
pub use Rattle.ncl_stage.specs.Changes.{net_at}
pub use Rattle.ncl_stage.specs.LeastWords.{below, faults_of, least_word_by}
pub use Rattle.ncl_stage.specs.Observed.{HasValidRails}
pub use Rattle.ncl_stage.specs.StageTables.{ValuesData, net_tables, net_tables_by, rail_at}
pub use Rattle.ncl_stage.specs.Supports.{AgreeOn, AreSupports, Marks}
pub use Rattle.ncl_stage.specs.Tables.{ValuesAt, WordFunction, count, data_fronts, data_functions, fronts, function_tables_by, functions_of, illegal_functions, net_functions, orphan_function, question_functions, tables_by, tables_of}
pub use Rattle.ncl_stage.specs.Wiring.{IsWiring, WiringData, pin_places, place_in, rail_places}
pub use Rattle.ncl_verdict.specs.InSpace.{AskedData, IsAfterBase, IsAsked, IsReady, ReadyData, output_of, rail_verdict, stopped_within}
pub use Rattle.ncl_verdict.specs.Judgement.{Answers, Stop, after_base, at_variant, cell_number, file_number, file_order, first_of, found, inserted, judged, judgement, least_word, of_stage, ordered_by, stopped_at, variants, verdict_of}
pub use Rattle.ncl_verdict.specs.Masks.{AreMasks, AreReaches, Covers, IsPart, IsSupport, both, is_part, lost_data, lost_mask, mask_at, union, weight_lost, weight_of}
pub use Rattle.ncl_verdict.specs.Sharing.{AreSilent, IsHeard, SharedData, at_place, said_at, shared_of}
pub use Rattle.ncl_verdict.specs.Within.{AreWithin, IsWithin}
pub use Rattle.ncl_verdict.specs.declared.verdict.Verdict.{Verdict}
pub use Rattle.ncl_verdict.specs.declared.verdict.Verdict.TheVariants.{Limit}
