-- What the proofs of this crate take from the library, the crates below and its own definitions, passed on.
pub use Rattle.std.proofs.Common.{Bool, IfSome, List, None, Option, Some, [], ap, append-nil, append_assoc, arith, cond, drop, false, get_or, if◌then◌else◌, inl, inr, length, length-append, map, nat_eq, not, refl, replicate, rules, set, subst, suc, sym, take, true, zero, zero-add, ℕ, ◌&&◌, ◌*◌, ◌++◌, ◌+◌, ◌-◌, ◌/◌, ◌<◌, ◌^◌, ◌||◌, ◌∙◌, ◌∷◌, ◌≡◌, ◌≢◌, ◌≤◌}
pub use Rattle.std.proofs.Math.Seq.{take-append_seam}
pub use Rattle.std.proofs.lemmas.Bool.{and_from, and_left, and_parts, and_right, both_ways, cases_Bool, cases_lt, cond-false, cond-true, eq-eqb, eqb-true, false_from_ne_true, false≢true, le-ltb, lt-ltb, not_from_true, or_cases, or_from, or_left, or_right}
pub use Rattle.std.proofs.lemmas.Bool.Decides.{Decides-eqb}
pub use Rattle.std.proofs.lemmas.Grind.{common_steps}
pub use Rattle.std.proofs.lemmas.List.{get_or-append_right, get_or-map, get_or_append_left, get_or_push, length-map, length-replicate, length-take-le, length_push, map-append, map_more, take_all, take_more}
pub use Rattle.std.proofs.lemmas.List.Concat.{flat_map-append, flat_map-cons}
pub use Rattle.std.proofs.lemmas.List.Elements.{All-append, All-cons, All-head, All-map, All-nil, All-push, All-tail, All-weaker, filter-append}
pub use Rattle.std.proofs.lemmas.List.FromFn.{get_or-map-range_with_len, length-map-range_with_len, length-range_with_len, map-range_with_len_more}
pub use Rattle.std.proofs.lemmas.List.Sums.{count_by-le-length, length-filter, sum_by-append, sum_by-cons, sum_by-take-le, sum_by_push}
pub use Rattle.std.proofs.lemmas.Map.Made.{AllPairs-from_IsDistinct, IsDistinct-from_AllPairs}
pub use Rattle.std.proofs.lemmas.Nat.{one_shl}
pub use Rattle.std.proofs.lemmas.Nat.Bits.{bit_at-suc, bit_at_lowest, shr_and_one}
pub use Rattle.std.proofs.lemmas.Option.{get_or_from_slice_get, same_Some, slice_get-get_or, slice_get-map, slice_get_within}
pub use Rattle.std.proofs.lemmas.Simd.{map-map}
pub use Rattle.std.proofs.lemmas.Slice.Eq.{slice_eq-Decides}
pub use Rattle.std.specs.List.{AllZip, flat_map, list_all, list_any, range_with_len, slice_index_or}
pub use Rattle.std.specs.Option.{option_map}
pub use Rattle.std.specs.Prelude.{All, AllPairs, Contains, IfOk, filter, nat_lt, slice_get, sum_by}
pub use Rattle.ncl_base.proofs.Growing.{split_at}
pub use Rattle.ncl_base.proofs.Joined.{member_of_flat_map}
pub use Rattle.ncl_base.proofs.Lists.{same_from_lengths}
pub use Rattle.ncl_base.proofs.Members.{All-from_members, Contains-from_Member, Contains-from_slice_get, Member, Member-append_cases, Member-append_left, Member-append_right, Member-filter, Member-from_Contains, Member-get_or, Member-map, here, list_any-from_member, member_cases, member_from_list_any, member_of_map, slice_get-from_Contains, slice_get-some, there}
pub use Rattle.ncl_base.proofs.Places.{AllZip-back, pushed_last, slice_get-append_left, slice_get-append_right}
pub use Rattle.ncl_base.proofs.Ranges.{Member-range, below_of_range, range_with_len-more}
pub use Rattle.ncl_base.proofs.Tests.{All-at}
pub use Rattle.ncl_base.specs.declared.word.TheConstants.{MOST_BITS}
pub use Rattle.ncl_blif.specs.Meaning.{cover_value}
pub use Rattle.ncl_blif.specs.declared.model.Lit.TheVariants.{Dash}
pub use Rattle.ncl_cells.specs.Remade.{IsSameAs}
pub use Rattle.ncl_decomp.proofs.EachWord.{at_each_word}
pub use Rattle.ncl_decomp.proofs.Later.{ReadBefore-append, node_values-append, signals_kept}
pub use Rattle.ncl_decomp.proofs.Pairs.{join_value, tree_nodes}
pub use Rattle.ncl_decomp.proofs.Parts.{cost_of_pairs}
pub use Rattle.ncl_decomp.proofs.Trees.{IsTreeOver, pair_ins, pair_narrow, tree_over}
pub use Rattle.ncl_decomp.specs.Pairs.{AddsTree, NodeTree, more, node_signal, one, pair_node}
pub use Rattle.ncl_decomp.specs.Split.{IsNarrow, IsSplit, cost_of_inputs, cost_of_network, cost_of_nodes, most_cost}
pub use Rattle.ncl_decomp.specs.Splitting.{AreVarying}
pub use Rattle.ncl_decomp.specs.Words.{word_of}
pub use Rattle.ncl_decomp.specs.declared.pair.Joint.{Joint}
pub use Rattle.ncl_decomp.specs.declared.pair.Joint.TheVariants.{Join}
pub use Rattle.ncl_faults.proofs.Apart.{named-within, parts-differ, right-differ}
pub use Rattle.ncl_faults.proofs.OnePass.{among-from_member}
pub use Rattle.ncl_faults.proofs.ValueLaws.{val-below_base, val-output, val-rail}
pub use Rattle.ncl_faults.proofs.WiringLaws.{rail_nets-append}
pub use Rattle.ncl_faults.specs.Faults.{BothRails, Incomplete, IsSound, IsWordOf, NoRail, Orphan, all_data, has_data, holds_at, is_illegal}
pub use Rattle.ncl_faults.specs.Values.{both_rails, holds, output_net, val}
pub use Rattle.ncl_faults.specs.declared.variant.Variant.{Variant}
pub use Rattle.ncl_faults.specs.declared.variant.Variant.TheVariants.{Base, Bit, Cell}
pub use Rattle.ncl_gates.proofs.PinLaws.{pins_of-gate}
pub use Rattle.ncl_gates.specs.Bits.{is_set}
pub use Rattle.ncl_gates.specs.Gate.{arity_of, set_of}
pub use Rattle.ncl_gates.specs.declared.cell_kind.CellKind.{CellKind}
pub use Rattle.ncl_gates.specs.declared.cell_kind.CellKind.TheVariants.{Gate}
pub use Rattle.ncl_gates.specs.declared.kind.Kind.{Kind}
pub use Rattle.ncl_netlist.specs.Names.{AllDiffer, same_name}
pub use Rattle.ncl_netlist.specs.Parts.{HasAllPins, input_names, output_name}
pub use Rattle.ncl_netlist.specs.declared.ids.NetId.{NetId}
pub use Rattle.ncl_netlist.specs.declared.parts.NamePair.{NamePair}
pub use Rattle.ncl_netlist.specs.declared.parts.PartCell.{PartCell}
pub use Rattle.ncl_network.proofs.Walking.{IsSource-more, ReadBefore-push, length-node_values, node_values-push, signal_value-more}
pub use Rattle.ncl_network.specs.Network.{IsSource, ReachesOutput, ReadBefore, answer_of, is_constant, node_value, node_values, output as is_output, reader as is_read, signal_value, source_value}
pub use Rattle.ncl_network.specs.declared.network.Network.{Network}
pub use Rattle.ncl_network.specs.declared.network.Node.{Node}
pub use Rattle.ncl_network.specs.declared.network.Signal.{Signal}
pub use Rattle.ncl_network.specs.declared.network.SignalSource.{SignalSource}
pub use Rattle.ncl_network.specs.declared.network.SignalSource.TheVariants.{Const, Input, Node as FromNode}
pub use Rattle.ncl_plans.specs.Cones.{signal_in}
pub use Rattle.ncl_rails.specs.Complete.{AnswersAs, IsComplete, IsInputBelow, IsVarying, SourceReaches, input_signal, is_among, is_input, is_input_read, output, reader, replaced, true_node, unread_signals}
pub use Rattle.ncl_rails.specs.GatesOf.{AreGatesOf, CanHaveGates}
pub use Rattle.ncl_rails.specs.Layout.{AreLaidOut, IsLaidOut, exchanged, input_pair, input_pairs, no_rails, signal_pair, source_pair}
pub use Rattle.ncl_rails.specs.Named.{CanBeNamed, IsNamed, name_of_net, name_of_pair, part_of_gate}
pub use Rattle.ncl_rails.specs.Naming.{IsNumbered, IsNumberedStage, IsOneToOne, named_net, named_pair, names_known}
pub use Rattle.ncl_rails.specs.StageParts.{AreStageParts, CanBeStage, ReadsKnown}
pub use Rattle.ncl_rails.specs.Waiting.{HasBits, IsAwaited, IsCovered, IsHeld, Reaches, WaitsFor, value_at, waiter, waits_of}
pub use Rattle.ncl_rails.specs.declared.parts.StageParts.{StageParts}
pub use Rattle.ncl_shape.proofs.JoinedLists.{append_split}
pub use Rattle.ncl_shape.proofs.RailLaws.{own_rail, rails_within}
pub use Rattle.ncl_shape.proofs.RenamedNets.{known-renamed, nets-renamed, rail_nets-renamed}
pub use Rattle.ncl_shape.proofs.ZippedLists.{zip_split}
pub use Rattle.ncl_shape.specs.Closure.{pin_values}
pub use Rattle.ncl_shape.specs.Nets.{IsBelow, Nets, among}
pub use Rattle.ncl_shape.specs.Renamed.{IsRenamedCell, renamed_net, renamed_rails}
pub use Rattle.ncl_shape.specs.Stage.{IsInOrder, IsStage, StageData, named_rails, nets_of, out_of, rail_nets, rail_of}
pub use Rattle.ncl_shape.specs.declared.rails.Rails.{Rails}
pub use Rattle.ncl_shape.specs.declared.stage.StageCell.{StageCell}
pub use Rattle.ncl_template.proofs.AmongLaws.{among_more}
pub use Rattle.ncl_template.proofs.WaitsLaws.{waits_at-all}
pub use Rattle.ncl_template.specs.Among.{AddsAmong, IsTemplateAmong}
pub use Rattle.ncl_template.specs.Template.{IsCase, IsNull, Obeys, ShowWord, Shows, node_function}
pub use Rattle.ncl_template.specs.Waits.{all_inputs, waits_at}
pub use Rattle.ncl_template.specs.declared.waits.Waits.{Waits}
pub use Rattle.ncl_tree.proofs.PartNameLaws.{cell_is_no_net, cell_name-IsPartName, net_name-IsPartName, same_cell, same_net}
pub use Rattle.ncl_tree.specs.Gates.{AreNumbered, GatesData}
pub use Rattle.ncl_tree.specs.NamePairs.{IsFreeOf, pair_list, pair_names}
pub use Rattle.ncl_tree.specs.PartNames.{IsPartName, cell_name_of, digits_36, most_parts, net_name_of}
pub use borrow.Author.Count.{below_more}
