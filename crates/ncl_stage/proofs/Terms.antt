-- What the proofs of this crate take from the library, the crates below and its own definitions, passed on.
pub use Rattle.std.proofs.Common.{Bool, Err, List, None, Option, Some, [], ap, append_assoc, arith, cond, drop, false, get_or, inl, inr, length, map, not, refl, replicate, reverse, rules, set, subst, suc, sym, take, true, zero, ℕ, ◌%◌, ◌&&◌, ◌*◌, ◌++◌, ◌+◌, ◌-◌, ◌/◌, ◌<◌, ◌^◌, ◌||◌, ◌∙◌, ◌∷◌, ◌≡◌, ◌≢◌, ◌≤◌, ◌⊎◌}
pub use Rattle.std.proofs.Math.Path.{fun_ext}
pub use Rattle.std.proofs.Math.Pow.{pow-lt}
pub use Rattle.std.proofs.Math.Seq.{take-append-add}
pub use Rattle.std.proofs.lemmas.Bool.{and_parts, both_ways, cases_eq, cases_lt, eq-eqb, eqb-true, false_from_ne_true, ne_eqb, or_cases, or_left, or_parts, or_right}
pub use Rattle.std.proofs.lemmas.Cmp.{nat_eq_equiv}
pub use Rattle.std.proofs.lemmas.Grind.{common_steps}
pub use Rattle.std.proofs.lemmas.Iterator.Adapters.{position_from-zero}
pub use Rattle.std.proofs.lemmas.List.{append-nil, drop_more, get_or-append-add, get_or-append_right, get_or-drop, get_or-map, get_or-replicate, get_or-set_other, get_or-set_same, get_or-take, get_or_append_left, get_or_default, get_or_push, get_or_read, length-append, length-drop, length-map, length-replicate, length-reverse, length-set, length-take-le, map-append, map_more, reverse-append, reverse-reverse, take-append-drop, take_all, take_more, take_rest}
pub use Rattle.std.proofs.lemmas.List.Concat.{flat_map-append}
pub use Rattle.std.proofs.lemmas.List.Elements.{All-append, All-cons, All-contains, All-drop, All-head, All-map, All-nil, All-tail, All-take}
pub use Rattle.std.proofs.lemmas.List.Folds.{list_all-append}
pub use Rattle.std.proofs.lemmas.List.FromFn.{get_or-range_with_len, length-range_with_len, map-range_with_len_more}
pub use Rattle.std.proofs.lemmas.List.Quantifiers.{position-Some}
pub use Rattle.std.proofs.lemmas.List.Sorted.{Contains-permutation, IsPermutation-append, IsPermutation-append_left, IsPermutation-append_right, IsPermutation-map, IsPermutation-sym, length_permutation}
pub use Rattle.std.proofs.lemmas.List.Sums.{sum_by-set}
pub use Rattle.std.proofs.lemmas.Map.Keys.{IsDistinct-push}
pub use Rattle.std.proofs.lemmas.Map.Steps.{le-length_from_below, length-le_from_distinct_below}
pub use Rattle.std.proofs.lemmas.Option.{get_or_from_slice_get, slice_get-get_or, slice_get_past, slice_get_within}
pub use Rattle.std.proofs.lemmas.Result.{IfOk-weaker}
pub use Rattle.std.proofs.lemmas.Simd.{map-map}
pub use Rattle.std.specs.Borrow.{Bor}
pub use Rattle.std.specs.List.{AllByRecursion, drop-map, find, flat_map, list_all, list_any, range_with_len, take-map}
pub use Rattle.std.specs.List.Sorted.{IsPermutation}
pub use Rattle.std.specs.Option.{ForSome, option_map}
pub use Rattle.std.specs.Prelude.{All, AllPairs, Contains, IfOk, IsTrue, Result, count_by, if◌then◌else◌, nat_eq, position, slice_get, slice_index_or, unwrap_or, ◌==◌, ◌↔◌}
pub use Rattle.indexmap.specs.IndexSet.{insert_key}
pub use Rattle.ncl_base.proofs.Growing.{from_push, map_push, position_from-found, split_at}
pub use Rattle.ncl_base.proofs.Joined.{member_of_flat_map}
pub use Rattle.ncl_base.proofs.Lists.{pairs-head, pairs-tail, take-written}
pub use Rattle.ncl_base.proofs.Members.{All-from_members, Contains-from_Member, Contains-from_slice_get, Member, Member-append_cases, Member-append_left, Member-append_right, Member-from_Contains, Member-get_or, Member-map, here, list_any-from_member, member-found, member_cases, member_from_list_any, member_of_map, recursion_from_members, slice_get-from_Contains, there}
pub use Rattle.ncl_base.proofs.ListTables.{grows-along, nothing-at, put-more}
pub use Rattle.ncl_base.proofs.Ranges.{Member-range, below_of_range, range_with_len-more}
pub use Rattle.ncl_base.proofs.Tests.{from_test, map-same, stands_or_not}
pub use Rattle.ncl_base.specs.ListTables.{Grows, items_at}
pub use Rattle.ncl_faults.proofs.Apart.{parts-differ, right-differ}
pub use Rattle.ncl_faults.proofs.NamedRails.{named-at, rail-member}
pub use Rattle.ncl_faults.proofs.Reordered.{IsSameVariant, base, bit, cell, same_values, with_cells}
pub use Rattle.ncl_faults.proofs.StageTest.{IsStage-from_test}
pub use Rattle.ncl_faults.proofs.ValueLaws.{holds-grows, rail-no_output, val-below_base, val-output, val-rail, val-within}
pub use Rattle.ncl_faults.proofs.WiringLaws.{AllDiffer, at_rail, cell-read, insert_out, insert_rails, left-differ, one-member, reads-within, zero-member}
pub use Rattle.ncl_faults.specs.Examples.{adder_stage, and_stage, crossed_stage, dead_rail_stage, eager_and_stage, gate, orphan_and_stage, straight_stage, sum_stage, swapped_stage, unmet_stage}
pub use Rattle.ncl_faults.specs.Faults.{BothRails, Incomplete, IsSound, IsWordOf, NoRail, Orphan, StageFault, all_data, has_data, holds_at, is_illegal, shows}
pub use Rattle.ncl_faults.specs.Values.{both_rails, holds, kept_low, output_net, val}
pub use Rattle.ncl_faults.specs.declared.variant.Variant.{Variant}
pub use Rattle.ncl_faults.specs.declared.variant.Variant.TheVariants.{Base, Bit, Cell}
pub use Rattle.ncl_gates.proofs.DualLaws.{dual-arity, dual-set, dual_pins-length, dual_pins-map}
pub use Rattle.ncl_gates.proofs.GateLaws.{and_gate, or_gate}
pub use Rattle.ncl_gates.specs.Dual.{crossed, dual_of, dual_pins, is_crossed}
pub use Rattle.ncl_gates.specs.Gate.{arity_of, set_of}
pub use Rattle.ncl_gates.specs.declared.kind.Kind.{Kind}
pub use Rattle.ncl_gates.specs.declared.kind.Kind.TheVariants.{Th12, Th22, Th33w2}
pub use Rattle.ncl_netlist.specs.declared.ids.NetId.{NetId}
pub use Rattle.ncl_shape.proofs.ClosureLaws.{set_of-grows}
pub use Rattle.ncl_shape.proofs.RailLaws.{rails-length}
pub use Rattle.ncl_shape.specs.Closure.{pin_values}
pub use Rattle.ncl_shape.specs.Nets.{IsBelow, Nets, among, with_net}
pub use Rattle.ncl_shape.specs.Stage.{IsStage, StageData, named_rails, nets_of, out_of, rail_nets, rail_of}
pub use Rattle.ncl_shape.specs.declared.rails.Rails.{Rails}
pub use Rattle.ncl_shape.specs.declared.stage.StageCell.{StageCell}
pub use Rattle.ncl_space.proofs.BeadLaws.{bead_count-computes, bead_count-permuted, distinct_count}
pub use Rattle.ncl_space.proofs.BoundLaws.{Member-words}
pub use Rattle.ncl_space.proofs.MakingLaws.{Making, handed_on, have-at, have-kept, have-length, held-along, makes-live, making-next, making-none, making-one, map-cut, too_much-after, too_much-front, too_much-next, with_tables-live}
pub use Rattle.ncl_space.proofs.SpaceLaws.{both-live, keeps_all, keeps_along, too_much_by_front}
pub use Rattle.ncl_space.proofs.TableLaws.{at_table, least-table_of, least-zero_table_of, length-table_of, table_of-at, table_of-same}
pub use Rattle.ncl_space.specs.Beads.{beads_of}
pub use Rattle.ncl_space.specs.Functions.{at, constant_table, gate_table, is_value, least, rail_table}
pub use Rattle.ncl_space.specs.Making.{HaveTables, MakesAll}
pub use Rattle.ncl_space.specs.Space.{IsLive, IsSpace, Keeps, Makes, SpaceData, fits, with_tables}
pub use Rattle.ncl_space.specs.Table.{table_of, word_number, words}
pub use Rattle.ncl_space.specs.declared.space.Ref.{Ref}
pub use Rattle.ncl_stage.specs.BitOrder.{IsOrderOf, bit_order, bits_from, driver_of, met, placed, read_by, taken, walk, with_bit, with_bits, words_by}
pub use Rattle.ncl_stage.specs.Changes.{AreWaiting, IsUnchanged, IsUnreached, MarksChanges, net_at}
pub use Rattle.ncl_stage.specs.LeastWords.{below, first_of, least_word_by}
pub use Rattle.ncl_stage.specs.Observed.{AreObserved, HasValidRails, IsObserved, SomeFalls, falls_with}
pub use Rattle.ncl_stage.specs.Observing.{IsAlwaysObserved, IsLeft, IsShown, low_table_by, low_tables_by, table_without}
pub use Rattle.ncl_stage.specs.StageTables.{AreValues, ValuesData, all_table, conjunction, front_tables, net_table_by, net_tables_by, pair_table, rail_at, ref_at, shared_tables_by}
pub use Rattle.ncl_stage.specs.Supports.{AgreeOn, AreSupports, Marks}
pub use Rattle.ncl_stage.specs.Tables.{ValuesAt, all_data_function, count, data_fronts, data_functions, fronts, function_tables_by, functions_of, illegal_functions, net_functions, orphan_function, question_functions, tables_by, tables_of}
pub use Rattle.ncl_stage.specs.Walk.{AreMet, IsAhead, IsDone, IsWalk, ReadEarlier, turns, was_entered}
pub use Rattle.ncl_stage.specs.Wiring.{IsWiring, WiringData, pin_places, place_in, rail_places}
pub use borrow.Author.Count.{below_more}
