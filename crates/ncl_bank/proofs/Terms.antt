-- What the proofs of this crate take from the library, the crates below and its own definitions, passed on.
pub use Rattle.std.proofs.Common.{List, Some, [], ap, append_assoc, arith, drop, get_or, inl, inr, length, length-append, length-take, map, min, refl, subst, suc, sym, take, zero, ℕ, ◌*◌, ◌++◌, ◌+◌, ◌-◌, ◌<◌, ◌∙◌, ◌∷◌, ◌≡◌, ◌≢◌, ◌≤◌, ◌⊎◌}
pub use Rattle.std.proofs.lemmas.Bool.{cases_lt}
pub use Rattle.std.proofs.lemmas.Grind.{flat_map-append}
pub use Rattle.std.proofs.lemmas.List.{append-nil, drop_all, drop_more, get_or_append_left, get_or_default, get_or_push, get_or_read, length-map, length-take-le, length_push, map-append, map_more, nil_from_length, take-append-drop, take_all, take_at, take_more}
pub use Rattle.std.proofs.lemmas.List.Elements.{All-cons, All-get_or, All-nil, All-same, Contains-append_right, Contains-get_or, Contains-push}
pub use Rattle.std.proofs.lemmas.List.FromFn.{get_or-map-range_with_len, length-map-range_with_len, length-range_with_len, map-range_with_len_more}
pub use Rattle.std.proofs.lemmas.Map.Made.{AllPairs-from_IsDistinct, IsDistinct-from_AllPairs}
pub use Rattle.std.proofs.lemmas.Option.{get_or_from_slice_get, slice_get-get_or, slice_get_within}
pub use Rattle.std.proofs.lemmas.Slice.Zip.{get_or-zip, length-zip, zip_end, zip_turn}
pub use Rattle.std.specs.Cmp.Lexicographic.{bytes_decides}
pub use Rattle.std.specs.Iterator.Adapters.{zip_first, zip_second}
pub use Rattle.std.specs.List.{flat_map, range_with_len, zip}
pub use Rattle.std.specs.Prelude.{All, AllPairs, Contains, slice_get, slice_index_or}
pub use Rattle.std.specs.Slice.Iter.{iter_rest}
pub use Rattle.std.specs.declared.iter.Zip.{Zip}
pub use Rattle.std.specs.declared.slice.Iter.{Iter}
pub use Rattle.ncl_bank.specs.BankParts.{AreBankParts, CanBeBank, IsTreeCell, TreeReads, bank_pins, register_pins}
pub use Rattle.ncl_bank.specs.BankPlan.{AddsCells, IsCompletion, IsNetOf, Unnamed, ack_of, cell_at, name_at, named_from, names_of_nets, nets_below, nets_of_gate, register_with, tree_cell_of}
pub use Rattle.ncl_bank.specs.declared.parts.BankParts.{BankParts}
pub use Rattle.ncl_base.proofs.Growing.{cut_at, map_push}
pub use Rattle.ncl_base.proofs.Lists.{pairs-head, pairs-tail}
pub use Rattle.ncl_base.proofs.Members.{All-from_members, Contains-from_Member, Member, Member-append_cases, Member-from_Contains, Member-map, here, member_cases, member_of_map, slice_get-from_Contains, there}
pub use Rattle.ncl_base.proofs.Places.{slice_get-append_left}
pub use Rattle.ncl_base.proofs.Ranges.{below_of_range}
pub use Rattle.ncl_base.proofs.Tests.{AllPairs-append}
pub use Rattle.ncl_gates.specs.Cell.{pins_of}
pub use Rattle.ncl_gates.specs.Gate.{arity_of}
pub use Rattle.ncl_gates.specs.declared.cell_kind.CellKind.TheVariants.{Ack, Gate, Register}
pub use Rattle.ncl_gates.specs.declared.kind.Kind.{Kind}
pub use Rattle.ncl_netlist.specs.Names.{AllDiffer}
pub use Rattle.ncl_netlist.specs.Parts.{HasAllPins, input_names, output_name}
pub use Rattle.ncl_netlist.specs.declared.ids.NetId.{NetId}
pub use Rattle.ncl_netlist.specs.declared.parts.NamePair.{NamePair}
pub use Rattle.ncl_netlist.specs.declared.parts.PartCell.{PartCell}
pub use Rattle.ncl_shape.specs.declared.stage.StageCell.{StageCell}
pub use Rattle.ncl_tree.proofs.PartNameLaws.{cell_is_no_net, cell_name-IsPartName, net_name-IsPartName, same_cell, same_net}
pub use Rattle.ncl_tree.proofs.TreeLaws.{IsRead, gate_reads, gates_are_of_family, outs_of, root_is_last, root_or_read}
pub use Rattle.ncl_tree.specs.GateTree.{GateTree, IsFamilyGate, IsOfFamily, all_four, all_three, all_two}
pub use Rattle.ncl_tree.specs.Gates.{AreNumbered, GatesData}
pub use Rattle.ncl_tree.specs.NamePairs.{IsFreeOf, pair_list, pair_names}
pub use Rattle.ncl_tree.specs.PartNames.{IsPartName, cell_name_of, digits_36, most_parts, net_name_of}
pub use Rattle.ncl_tree.specs.declared.tree.Family.TheVariants.{All as Conjunctions}
