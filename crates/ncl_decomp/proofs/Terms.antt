-- What the proofs of this crate take from the library, the crates below and its own definitions, passed on.
pub use Rattle.std.proofs.Common.{Bool, List, Some, [], ap, append_assoc, arith, cond, drop, false, get_or, inl, inr, length, length-append, map, nat_eq, not, refl, subst, suc, sym, take, true, zero, zero-add, ℕ, ◌%◌, ◌&&◌, ◌*◌, ◌++◌, ◌+◌, ◌/◌, ◌<◌, ◌^◌, ◌||◌, ◌∙◌, ◌∷◌, ◌≡◌, ◌≤◌}
pub use Rattle.std.proofs.lemmas.Bool.{eqb-true, false_from_ne_true, true_from_ne_false}
pub use Rattle.std.proofs.lemmas.Bool.Decides.{nat_tests}
pub use Rattle.std.proofs.lemmas.Grind.{common_steps}
pub use Rattle.std.proofs.lemmas.List.{append-nil, drop-append-le, drop_all, drop_more, get_or_append_left, get_or_push, length-map, length-take-le, length_push, map_push, take_all, take_more}
pub use Rattle.std.proofs.lemmas.List.Elements.{All-append, All-cons, All-head, All-map, All-nil, All-push, All-tail, All-weaker}
pub use Rattle.std.proofs.lemmas.List.Folds.{list_all-append, list_any-append}
pub use Rattle.std.proofs.lemmas.List.Sorted.{All-permutation, IsPermutation-append_right, IsPermutation-to_front, length_permutation, list_any-IsPermutation, sum_by-IsPermutation}
pub use Rattle.std.proofs.lemmas.List.Sums.{count_by_more_no, count_by_more_yes, sum_by-append, sum_by-cons, sum_by-take-le, sum_by_more, sum_by_push}
pub use Rattle.std.proofs.lemmas.Option.{slice_get-get_or}
pub use Rattle.std.specs.List.{cons_option, list_all, list_any}
pub use Rattle.std.specs.List.Sorted.{IsPermutation}
pub use Rattle.std.specs.Prelude.{All, Contains, IfSome, None, count_by, if◌then◌else◌, sum_by}
pub use Rattle.ncl_base.proofs.Tests.{All-left, All-right}
pub use Rattle.ncl_blif.specs.Meaning.{cover_value, row_matches}
pub use Rattle.ncl_blif.specs.Model.{most_size, weight_of_rows}
pub use Rattle.ncl_blif.specs.declared.model.Lit.{Lit}
pub use Rattle.ncl_blif.specs.declared.model.Lit.TheVariants.{Dash, One, Zero}
pub use Rattle.ncl_decomp.specs.Images.{image_of, image_of_source}
pub use Rattle.ncl_decomp.specs.Pairs.{AddsTree, NodeTree, more, node_signal, one, pair_node}
pub use Rattle.ncl_decomp.specs.Products.{IsFilled, has, is_empty, other_than, same_signal, same_source, total, under, whole, without}
pub use Rattle.ncl_decomp.specs.Rows.{literals_of, turned}
pub use Rattle.ncl_decomp.specs.Split.{IsNarrow, IsOfTwoOr, IsSplit, cost_of_inputs, cost_of_nodes}
pub use Rattle.ncl_decomp.specs.Splitting.{AddsNode, AddsSum, AddsTerms, AreSplit, AreVarying, Becomes, IsSameSum, TellProducts, TellSum}
pub use Rattle.ncl_decomp.specs.Words.{word_of}
pub use Rattle.ncl_decomp.specs.declared.factoring.Frame.{Frame}
pub use Rattle.ncl_decomp.specs.declared.pair.Joint.{Joint}
pub use Rattle.ncl_decomp.specs.declared.pair.Joint.TheVariants.{And, Join, Or}
pub use Rattle.ncl_network.proofs.Marking.{all_placed, node_reads}
pub use Rattle.ncl_network.proofs.Pruned.{IsInOrder-network, moved_constant, sum_by-left}
pub use Rattle.ncl_network.proofs.Walking.{IsSource-more, length-node_values, node_values-push, signal_value-more}
pub use Rattle.ncl_network.specs.Network.{IsNetwork, IsNode, IsSource, ReachesOutput, ReadBefore, answer_of, is_constant, is_dash, node_value, node_values, signal_value, source_value, weight_of_network}
pub use Rattle.ncl_network.specs.Prune.{AreLeft, IsInOrder, IsPlaced, moved_node, moved_signal}
pub use Rattle.ncl_network.specs.declared.network.Network.{Network}
pub use Rattle.ncl_network.specs.declared.network.Node.{Node}
pub use Rattle.ncl_network.specs.declared.network.Signal.{Signal}
pub use Rattle.ncl_network.specs.declared.network.SignalSource.{SignalSource}
pub use Rattle.ncl_network.specs.declared.network.SignalSource.TheVariants.{Const, Input, Node as FromNode}
