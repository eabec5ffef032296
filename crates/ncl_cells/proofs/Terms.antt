-- What the proofs of this crate take from the library, the crates below and its own definitions, passed on.
pub use Rattle.std.proofs.Common.{Bool, List, None, Option, Some, [], ap, arith, cond, false, get_or, inl, inr, length, map, not, refl, subst, suc, sym, take, zero, zero-add, ℕ, ⊎_elim, ◌++◌, ◌+◌, ◌<◌, ◌^◌, ◌∙◌, ◌∷◌, ◌≡◌, ◌≤◌, ◌⊎◌}
pub use Rattle.std.proofs.lemmas.Bool.{cases_eq, cases_lt}
pub use Rattle.std.proofs.lemmas.List.{get_or-set_other, get_or-set_same, get_or_append_left, get_or_push, length-map, length-set, length_push, map_push, take_all, take_at, take_more}
pub use Rattle.std.proofs.lemmas.List.Elements.{All-cons, All-head, All-nil, All-push, All-tail, AllZip-push}
pub use Rattle.std.proofs.lemmas.List.Sums.{sum_by-cons}
pub use Rattle.std.proofs.lemmas.Option.{get_or_from_slice_get, same_Some, slice_get-get_or, slice_get_read, slice_get_within}
pub use Rattle.std.proofs.lemmas.Result.{IfOk-weaker}
pub use Rattle.std.specs.List.{AllZip}
pub use Rattle.std.specs.Prelude.{All, IfSome, slice_get, slice_set}
pub use Rattle.ncl_base.proofs.Places.{place_read, push_cases}
pub use Rattle.ncl_base.proofs.Tests.{All-at}
pub use Rattle.ncl_blif.specs.Meaning.{cover_value}
pub use Rattle.ncl_blif.specs.declared.model.Lit.{Lit}
pub use Rattle.ncl_cells.specs.Recasts.{Agrees, AgreesAt, AreRecast, MayStand, VariesBefore}
pub use Rattle.ncl_cells.specs.Remade.{AreImagesOf, AreRemade, IsImageOf, IsRebuiltOf, IsSameAs, bit_at, leaf_signals, plain}
pub use Rattle.ncl_cells.specs.Reordered.{AreMoved, IsMoved, IsMovedSource}
pub use Rattle.ncl_decomp.proofs.EachWord.{at_each_word}
pub use Rattle.ncl_decomp.proofs.Whole.{IsNarrow-cost, narrow_left}
pub use Rattle.ncl_decomp.specs.Split.{IsNarrow, IsSplit, cost_of_inputs, cost_of_nodes}
pub use Rattle.ncl_decomp.specs.Words.{word_of}
pub use Rattle.ncl_network.proofs.Marking.{node_reads}
pub use Rattle.ncl_network.proofs.Walking.{ReadBefore-push, length-node_values, node_values-push}
pub use Rattle.ncl_network.specs.Network.{IsSource, ReadBefore, answer_of, is_constant, node_value, node_values, signal_value, source_value}
pub use Rattle.ncl_network.specs.Prune.{IsInOrder}
pub use Rattle.ncl_network.specs.declared.network.Network.{Network}
pub use Rattle.ncl_network.specs.declared.network.Node.{Node}
pub use Rattle.ncl_network.specs.declared.network.Signal.{Signal}
pub use Rattle.ncl_network.specs.declared.network.SignalSource.{SignalSource}
pub use Rattle.ncl_network.specs.declared.network.SignalSource.TheVariants.{Const, Input, Node as FromNode}
pub use Rattle.ncl_plans.specs.Cones.{Computes, IsKnown, leaf_bits}
pub use Rattle.ncl_plans.specs.Forms.{turned_by}
pub use Rattle.ncl_plans.specs.Plans.{plan_value}
pub use Rattle.ncl_plans.specs.Pools.{Adds, IsPool}
pub use Rattle.ncl_plans.specs.Smalls.{bits_of, small_node}
pub use Rattle.ncl_plans.specs.declared.cone.Leaves.{Leaves}
pub use Rattle.ncl_plans.specs.declared.plan.Plan.{Plan}
pub use Rattle.ncl_plans.specs.declared.small.Small.{Small}
