-- What the proofs of this crate take from the library, the crates below and its own definitions, passed on.
pub use Rattle.std.proofs.Common.{All, Bool, Bor, EachIndex, Err, List, None, Ok, Option, Result, Some, [], ap, append_assoc, arith, cond, count_by, false, filter, get_or, if◌then◌else◌, inl, inr, length, map, nat_eq, not, option_map, refl, rules, slice_get, slice_index, subst, suc, sym, take, true, true≢false, unwrap_or, zero, ℕ, ◌&&◌, ◌*◌, ◌++◌, ◌+◌, ◌-◌, ◌<◌, ◌^◌, ◌||◌, ◌∙◌, ◌∷◌, ◌≡◌, ◌≤◌, ◌⊎◌}
pub use Rattle.std.proofs.lemmas.Bool.{cases_lt, eq-eqb, eqb-true}
pub use Rattle.std.proofs.lemmas.Grind.{common_steps}
pub use Rattle.std.proofs.lemmas.Iterator.Adapters.{YieldsList-from_vec}
pub use Rattle.std.proofs.lemmas.Iterator.Consumers.{YieldsList-end}
pub use Rattle.std.proofs.lemmas.List.{append-nil, flat_map_more, get_or-take, get_or_at, get_or_past, length-append, length-map, length-take, length_push, map-append, map-id, map_more, take-map, take_all, take_at}
pub use Rattle.std.proofs.lemmas.List.Elements.{All-cons, All-from_get_or, All-head, All-map, All-nil, All-tail, All-take}
pub use Rattle.std.proofs.lemmas.List.Folds.{Any-from_list_any, list_any-append, list_any_at}
pub use Rattle.std.proofs.lemmas.List.Sums.{fold-append, fold_push, passes_at_first, position_or_len_is, sum_by-cons}
pub use Rattle.std.proofs.lemmas.Map.Keys.{IsDistinct-head, IsDistinct-push, IsDistinct-tail, apart_from_distinct}
pub use Rattle.std.proofs.lemmas.Option.{get_or_from_slice_get, none-some, same_Some, slice_get-get_or, slice_get-map, slice_get_read, slice_get_within, unwrap_or-slice_get}
pub use Rattle.std.specs.Cmp.{IsEquivalence, nat_eq_equiv}
pub use Rattle.std.specs.Cmp.Lexicographic.{lists_equiv, same_text}
pub use Rattle.std.specs.Iterator.{Yields}
pub use Rattle.std.specs.List.{AllByRecursion, flat_map, list_any}
pub use Rattle.std.specs.Result.{IfErr, IsErrAnd}
pub use Rattle.std.specs.Vec.Iter.{into_iter_items, into_iter_len, into_iter_steps}
pub use Rattle.std.specs.declared.vec.IntoIter.{IntoIter}
pub use Rattle.arrayvec.specs.ArrayVec.{ArrayVec}
pub use Rattle.indexmap.specs.IndexSet.{insert_all, insert_key}
pub use Rattle.ncl_base.proofs.Growing.{map_push}
pub use Rattle.ncl_gates.proofs.PinLaws.{pins_of-few, pins_of-some}
pub use Rattle.ncl_netlist.specs.Faults.{AreCounts, HasFewCells, HasNoTwoDrivers, HasOwnCellNames, IsFaultOf, IsFaultOfCounts, IsFaultless, drivers_at}
pub use Rattle.ncl_netlist.specs.Names.{AllDiffer, IsFirstWhere, Repeats, name_number, once_each, same_name}
pub use Rattle.ncl_netlist.specs.Netlist.{CellFits, IsNetlist, NetlistData, drivers_of, drives, pin_names}
pub use Rattle.ncl_netlist.specs.Parts.{HasAllPins, cell_names, cell_of, input_names, net_of, netlist_of, nets_of, output_name, part_of, parts_said, port_names}
pub use Rattle.ncl_netlist.specs.declared.build_fault.BuildFault.{BuildFault}
pub use Rattle.ncl_netlist.specs.declared.build_fault.BuildFault.TheVariants.{Memory, NoDriver, SameName, TooMany, TwoDrivers}
pub use Rattle.ncl_netlist.specs.declared.cell.Cell.{Cell}
pub use Rattle.ncl_netlist.specs.declared.ids.NetId.{NetId}
pub use Rattle.ncl_netlist.specs.declared.parts.PartCell.{PartCell}
pub use Rattle.ncl_netlist.specs.declared.parts.Parts.{Parts}
pub use Rattle.ncl_netlist.specs.declared.port.Port.{Port}
