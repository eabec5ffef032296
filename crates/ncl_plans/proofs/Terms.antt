-- What the proofs of this crate take from the library, the crates below and its own definitions, passed on.
pub use Rattle.std.proofs.Common.{Bool, List, Some, [], add-zero, ap, append_assoc, arith, cond, false, get_or, length, map, not, refl, subst, suc, sym, take, true, zero, zero-add, ℕ, ◌&&◌, ◌*◌, ◌++◌, ◌+◌, ◌<◌, ◌||◌, ◌∙◌, ◌∷◌, ◌≡◌, ◌≤◌}
pub use Rattle.std.proofs.lemmas.List.{append-nil, get_or_push, length-append, length-map, length_push, map-append, map_more, map_push, take_all, take_more}
pub use Rattle.std.proofs.lemmas.List.Elements.{All-cons, All-head, All-nil, All-push, All-tail}
pub use Rattle.std.proofs.lemmas.Option.{same_Some, slice_get-map, slice_get_read, slice_get_within}
pub use Rattle.std.proofs.lemmas.Result.{IfOk-weaker}
pub use Rattle.std.specs.Bool.{beq}
pub use Rattle.std.specs.Option.{option_map}
pub use Rattle.std.specs.Prelude.{All, IfOk, Result, slice_get, sum_by}
pub use Rattle.ncl_blif.specs.Meaning.{cover_value}
pub use Rattle.ncl_blif.specs.declared.model.Lit.{Lit}
pub use Rattle.ncl_blif.specs.declared.model.Lit.TheVariants.{Dash, One, Zero}
pub use Rattle.ncl_decomp.proofs.EachWord.{at_each_word}
pub use Rattle.ncl_decomp.proofs.Later.{node_values-append, signal_kept, signals_kept}
pub use Rattle.ncl_decomp.specs.Split.{IsNarrow, cost_of_inputs}
pub use Rattle.ncl_decomp.specs.Words.{word_of}
pub use Rattle.ncl_network.proofs.Walking.{IsSource-more, ReadBefore-push, length-node_values, node_values-push}
pub use Rattle.ncl_network.specs.Network.{IsSource, ReadBefore, is_constant, node_value, node_values, signal_value, source_value}
pub use Rattle.ncl_network.specs.declared.network.Network.{Network}
pub use Rattle.ncl_network.specs.declared.network.Node.{Node}
pub use Rattle.ncl_network.specs.declared.network.Signal.{Signal}
pub use Rattle.ncl_network.specs.declared.network.SignalSource.{SignalSource}
pub use Rattle.ncl_network.specs.declared.network.SignalSource.TheVariants.{Input, Node as FromNode}
pub use Rattle.ncl_plans.specs.Adding.{AddsOp}
pub use Rattle.ncl_plans.specs.Cones.{Computes, ComputesAt, IsKnown, Respects, fact, leaf_bits, signal_in}
pub use Rattle.ncl_plans.specs.Forms.{ComesTo, IsFormOver, form_value, turned_by}
pub use Rattle.ncl_plans.specs.Plans.{arg_value, plan_value, step_value, step_values}
pub use Rattle.ncl_plans.specs.Pools.{Adds, IsPool, PutsForm}
pub use Rattle.ncl_plans.specs.Smalls.{bits_of, ins_of, op_value, rows_of, small_ins, small_node, small_value}
pub use Rattle.ncl_plans.specs.declared.cone.Known.{Known}
pub use Rattle.ncl_plans.specs.declared.cone.Leaves.{Leaves}
pub use Rattle.ncl_plans.specs.declared.form.Form.{Form}
pub use Rattle.ncl_plans.specs.declared.form.Form.TheVariants.{New}
pub use Rattle.ncl_plans.specs.declared.plan.Arg.{Arg}
pub use Rattle.ncl_plans.specs.declared.plan.Plan.{Plan}
pub use Rattle.ncl_plans.specs.declared.plan.Step.{Step}
pub use Rattle.ncl_plans.specs.declared.small.Op.{Op}
pub use Rattle.ncl_plans.specs.declared.small.Op.TheVariants.{And, Choose, Differ, Majority}
pub use Rattle.ncl_plans.specs.declared.small.Small.{Small}
pub use Rattle.ncl_plans.specs.declared.stop.Stop.{Stop}
pub use borrow.Author.Count.{below_more}
