-- What the proofs of this crate take from the library, the crates below and its own definitions, passed on.
pub use Rattle.std.proofs.Common.{Bool, List, [], ap, append_assoc, arith, cond, drop, false, get_or, inl, inr, leb, length, map, not, refl, subst, suc, sym, take, true, zero, ℕ, ◌&&◌, ◌++◌, ◌+◌, ◌<◌, ◌||◌, ◌∙◌, ◌∷◌, ◌≡◌, ◌≢◌, ◌⊎◌}
pub use Rattle.std.proofs.Math.Path.{fun_ext}
pub use Rattle.std.proofs.lemmas.Bool.{and_from, and_parts, both_ways, cases_eq, eq-eqb, eqb-true, false_from_ne_true, leb-true, ne_eqb, not-true, or_cases, or_left, or_right}
pub use Rattle.std.proofs.lemmas.List.{append-nil, drop_more, get_or_append_left, length-append, length-map, map-append, take-append-drop, take_more}
pub use Rattle.std.proofs.lemmas.List.Elements.{All-contains, All-head, All-tail}
pub use Rattle.std.proofs.lemmas.List.Folds.{list_any-append}
pub use Rattle.std.proofs.lemmas.List.Sorted.{length_permutation, list_any-IsPermutation}
pub use Rattle.std.specs.List.{list_all}
pub use Rattle.std.specs.List.Sorted.{IsPermutation}
pub use Rattle.std.specs.Prelude.{All, AllPairs, Contains, nat_eq, slice_get}
pub use Rattle.indexmap.specs.IndexSet.{insert_key}
pub use Rattle.ncl_base.proofs.Lists.{pairs-head, pairs-tail}
pub use Rattle.ncl_base.proofs.Members.{All-from_members, Contains-from_Member, Member, Member-append_left, Member-append_right, Member-from_Contains, Member-get_or, Member-map, here, list_any-from_member, member_cases, member_from_list_any, there}
pub use Rattle.ncl_base.proofs.Tests.{list_all-member, same_from_both}
pub use Rattle.ncl_faults.specs.Pass.{pass}
pub use Rattle.ncl_faults.specs.Values.{holds, kept_low, output_net, rises, start, val}
pub use Rattle.ncl_faults.specs.declared.variant.Variant.{Variant}
pub use Rattle.ncl_faults.specs.declared.variant.Variant.TheVariants.{Base, Bit, Cell}
pub use Rattle.ncl_gates.specs.Gate.{arity_of, set_of}
pub use Rattle.ncl_netlist.specs.declared.ids.NetId.{NetId}
pub use Rattle.ncl_shape.proofs.ClosureLaws.{below_at, set_of-grows}
pub use Rattle.ncl_shape.proofs.Rounds.{IsMonotone, rounds-below, rounds-keep, rounds-settled, rounds-support}
pub use Rattle.ncl_shape.specs.Closure.{pin_values}
pub use Rattle.ncl_shape.specs.Nets.{IsBelow, Nets, among, round, rounds, with_net}
pub use Rattle.ncl_shape.specs.Stage.{IsStage, Reads, StageData, named_rails, nets_of, out_of, rail_nets, rail_of}
pub use Rattle.ncl_shape.specs.declared.rails.Rails.{Rails}
pub use Rattle.ncl_shape.specs.declared.stage.StageCell.{StageCell}
pub use Rattle.ncl_space.specs.Functions.{is_value}
