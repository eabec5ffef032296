-- What the proofs of this crate take from the library, the crates below and its own definitions, passed on.
pub use Rattle.std.proofs.Common.{Bool, List, None, Option, Some, [], add-one, add-zero, ap, arith, cond, drop, false, get_or, length, map, nat_lt, not, one-add, refl, replicate, rules, subst, subst₂, suc, sym, take, true, zero, zero-add, ℕ, ⊎_elim, ◌&&◌, ◌++◌, ◌+◌, ◌-◌, ◌<◌, ◌==◌, ◌^◌, ◌||◌, ◌∙◌, ◌∷◌, ◌≡◌, ◌≢◌, ◌≤◌, ◌⊎◌}
pub use Rattle.std.proofs.lemmas.Bool.{and_cases, and_from, and_left, and_parts, and_right, cases_eq, cases_lt, eq-eqb, eqb-false, eqb-true, false≢true, lt-ltb, ltb-true, not-false, not-true, or_cases, or_left, or_parts, or_right, true≢false}
pub use Rattle.std.proofs.lemmas.Bool.Decides.{nat_tests}
pub use Rattle.std.proofs.lemmas.Grind.{common_steps}
pub use Rattle.std.proofs.lemmas.Iterator.Adapters.{YieldsList-from_vec}
pub use Rattle.std.proofs.lemmas.Iterator.Consumers.{YieldsList-turn}
pub use Rattle.std.proofs.lemmas.List.{get_or-map, get_or-set_other, get_or_append_left, get_or_default, get_or_past, get_or_push, length-map, length-replicate, length-set, length-take, length_push, map-append, map_more, map_push, take-take, take_all, take_more}
pub use Rattle.std.proofs.lemmas.List.Elements.{All-cons, All-from_recursion, All-head, All-map, All-nil, All-push, All-tail, All-weaker, Contains-append_cases, Contains-push_cases}
pub use Rattle.std.proofs.lemmas.List.Folds.{Any-from_list_any, list_any_at}
pub use Rattle.std.proofs.lemmas.List.FromFn.{get_or-map-range_with_len, get_or-range_with_len, length-enumerate_from}
pub use Rattle.std.proofs.lemmas.List.Sums.{count_by_more_no, count_by_more_yes, sum-map, sum_by-cons, sum_by-set, sum_by-take-le, sum_by_push}
pub use Rattle.std.proofs.lemmas.Option.{IfSome_then, MatchOption-at_none, MatchOption-at_some, get_or_from_slice_get, same_Some, slice_get-get_or, slice_get-map, slice_get_read, slice_get_within}
pub use Rattle.std.specs.BTreeMap.{get}
pub use Rattle.std.specs.Bool.{beq, if◌then◌else◌}
pub use Rattle.std.specs.List.{enumerate_from, filter_map, list_all, list_any, slice_index_or, zip}
pub use Rattle.std.specs.Option.{option_map}
pub use Rattle.std.specs.Ordering.{nat_cmp}
pub use Rattle.std.specs.Prelude.{All, AllPairs, Contains, IfSome, IsSome, count_by, slice_get, slice_set, sum_by, ⊤}
pub use Rattle.ncl_base.proofs.Growing.{Contains-filter_map_of, cut_at, length-le-sum_by, position_from-found}
pub use Rattle.ncl_base.proofs.Lists.{take-written}
pub use Rattle.ncl_blif.proofs.DependenceLaws.{Depends-from_Leads, position_from-passes}
pub use Rattle.ncl_blif.specs.Dependence.{dependency_graph, driver_place}
pub use Rattle.ncl_blif.specs.Meaning.{Fits, Gives, cover_value, lit_matches, row_matches}
pub use Rattle.ncl_blif.specs.Model.{IsModel, most_size, signals_of, size_of_model, weight_of_rows}
pub use Rattle.ncl_blif.specs.declared.model.Cover.{Cover}
pub use Rattle.ncl_blif.specs.declared.model.Lit.{Lit}
pub use Rattle.ncl_blif.specs.declared.model.Lit.TheVariants.{Dash, One, Zero}
pub use Rattle.ncl_blif.specs.declared.model.Model.{Model}
pub use Rattle.ncl_graph.proofs.Ranking.{leads_within}
pub use Rattle.ncl_graph.specs.Graph.{IsOnCycle, IsOrder, successors}
pub use Rattle.ncl_network.specs.Examples.{carry, carry_node, half_adder, sum, sum_node}
pub use Rattle.ncl_network.specs.Fold.{HasSources, IsFolded, folded_value, is_asked, is_live, is_one, is_zero, kept_columns, select, two_level, weight_of_folded}
pub use Rattle.ncl_network.specs.Network.{IsNetwork, IsNode, IsSource, ReachesOutput, ReadBefore, answer_of, is_constant, is_dash, node_value, node_values, output, reader, signal_value, source_value, weight_of_model, weight_of_network}
pub use Rattle.ncl_network.specs.Prune.{AreLeft, IsInOrder, IsMarked, IsPlaced, is_kept, is_node, is_read, moved_node, moved_signal, moved_source, new_place}
pub use Rattle.ncl_network.specs.Walk.{IsWalked, input_signal, nodes_with, signal_with, weight_at}
pub use Rattle.ncl_network.specs.declared.fold.Folded.{Folded}
pub use Rattle.ncl_network.specs.declared.fold.Folded.TheVariants.{Node as IntoNode, Signal as IntoSignal}
pub use Rattle.ncl_network.specs.declared.network.Network.{Network}
pub use Rattle.ncl_network.specs.declared.network.Node.{Node}
pub use Rattle.ncl_network.specs.declared.network.Signal.{Signal}
pub use Rattle.ncl_network.specs.declared.network.SignalSource.{SignalSource}
pub use Rattle.ncl_network.specs.declared.network.SignalSource.TheVariants.{Const, Input, Node as FromNode}
