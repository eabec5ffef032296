-- What the proofs of this crate take from the library, the crates below and its own definitions, passed on.
pub use Rattle.std.proofs.Common.{Bool, List, None, Option, Some, [], ap, arith, below_more, cond, drop, false, get_or, get_or-set_other, get_or-set_same, if◌then◌else◌, inl, inr, is_some, length, length-append, length-set, map, not, refl, replicate, set, subst, subst₂, suc, sym, take, true, zero, ℕ, ◌&&◌, ◌*◌, ◌++◌, ◌+◌, ◌<◌, ◌^◌, ◌||◌, ◌∙◌, ◌∷◌, ◌≡◌, ◌≢◌, ◌≤◌, ◌⊎◌}
pub use Rattle.std.proofs.Math.Bool.{or-false}
pub use Rattle.std.proofs.Math.Seq.{get_or-append_seam}
pub use Rattle.std.proofs.lemmas.Bool.{OnTrue_at, and_from, and_parts, both_ways, cases_Bool, cases_eq, cases_lt, eq-eqb, eqb-true, false_from_ne_true, false≢true, ne_eqb, or_right}
pub use Rattle.std.proofs.lemmas.Grind.{common_steps}
pub use Rattle.std.proofs.lemmas.Iterator.Adapters.{position_from-zero}
pub use Rattle.std.proofs.lemmas.List.{get_or-map, get_or-replicate, get_or-take, get_or_append_left, get_or_default, get_or_past, get_or_read, length-map, length-replicate, length-take, take_all, take_at, take_more}
pub use Rattle.std.proofs.lemmas.List.Elements.{All-contains, All-filter, All-from_recursion, All-map, All-push, Contains-append_left, filter_passes}
pub use Rattle.std.proofs.lemmas.List.Folds.{list_any_more}
pub use Rattle.std.proofs.lemmas.List.FromFn.{get_or-range_with_len, length-range_with_len}
pub use Rattle.std.proofs.lemmas.List.Quantifiers.{position-Some}
pub use Rattle.std.proofs.lemmas.List.Sums.{count_by-le-length, fails_before_first, get_or-le-sum_by, passes_at_first, sum_by-cons, sum_by-le, sum_by-le-sum_by, sum_by-take-le, sum_by_more}
pub use Rattle.std.proofs.lemmas.Option.{get_or_from_slice_get, slice_get-get_or, slice_get_within}
pub use Rattle.std.specs.List.{AllByRecursion, filter_map, list_any, position_from, position_or_len, range_with_len}
pub use Rattle.std.specs.Option.{option_or}
pub use Rattle.std.specs.Prelude.{All, AllPairs, Contains, filter, nat_eq, nat_lt, position, slice_get, sum_by, ◌==◌}
pub use Rattle.ncl_base.proofs.Growing.{Contains-filter_map, Contains-filter_map_of, Contains-last, cut_at, filter_map-more, from_push, map_push, position_from-found, position_from-more}
pub use Rattle.ncl_base.proofs.Members.{All-from_members, Contains-from_Member, Contains-from_slice_get, Member, Member-filter, Member-from_Contains, count_from_member, first_passing, here, list_any-from_member, member_from_count, member_from_list_any, place_is_one, slice_get-from_Contains, slice_get-some, there}
pub use Rattle.ncl_base.proofs.Ranges.{range_with_len-more}
pub use Rattle.ncl_base.proofs.Tests.{same_unless}
pub use Rattle.ncl_cell_rules.specs.CellOrder.{AreSources, AreSourcesOf, IsCellOrder, IsDrivenBefore, StandsLater}
pub use Rattle.ncl_cell_rules.specs.CellTests.{bank_test, data_test, gate_reads_test, has_net, is_gate, reads_test, register_test}
pub use Rattle.ncl_cell_rules.specs.Free.{AtCell, FailsFirst, IsFree}
pub use Rattle.ncl_cell_rules.specs.GateGraph.{AreDrivers, AreDriversBelow, Drives, IsDataBehind, IsRegisterBehind, arcs, arcs_of, driver_at, gate_graph}
pub use Rattle.ncl_cell_rules.specs.Origin.{A, AckOf, AcksBank, B, CellAt, ComesFrom, FromPort, HasOnlyOrigin, HaveSameOrigins, IsAck, IsCell, IsDataBank, IsDataRegister, IsGate, IsInputPort, IsOfBank, IsRegister, IsTreeKind, LeadsTo, OnPin, Origin, RST, RailOf, ReadsNet, ack, gate, more, one, port, rail, th22, th33, th44}
pub use Rattle.ncl_cell_rules.specs.Origins.{AreOffCycles, ArePaired, ArePortsRead, AreUnmixed, IsAsFirst}
pub use Rattle.ncl_cell_rules.specs.Rules.{IsFirstOfBank, IsFromOneAck, IsFromOneRail, IsOffCycles, IsPaired, IsReadByGate, IsReadPort, IsRegisterOfOne, IsRequest, IsTied, IsUnmixed, ReadsData, ReadsOneBit, ack_pins, ack_pins_of, pins_with}
pub use Rattle.ncl_cell_rules.specs.Sources.{HasOnly, HasTwo, IsJoin, IsSourceOf, IsSummary, OfNets, source_at}
pub use Rattle.ncl_cell_rules.specs.Tables.{AreDataBanks, AreFirsts, AreGateReads, AreReads, IsTable, first_at}
pub use Rattle.ncl_cell_rules.specs.declared.source.Source.{Source}
pub use Rattle.ncl_cell_rules.specs.declared.source.Source.TheVariants.{Many, Port, Rail}
pub use Rattle.ncl_gates.proofs.PinLaws.{pins_of-few}
pub use Rattle.ncl_gates.proofs.RegisterLaws.{data_is_register, register_no_ack, register_no_gate, register_pins_of}
pub use Rattle.ncl_gates.specs.Cell.{is_data_register, is_register, pins_of}
pub use Rattle.ncl_gates.specs.Gate.{arity_of}
pub use Rattle.ncl_gates.specs.declared.cell_kind.CellKind.{CellKind}
pub use Rattle.ncl_gates.specs.declared.cell_kind.CellKind.TheVariants.{Ack, Gate, Register, RegisterData}
pub use Rattle.ncl_gates.specs.declared.kind.Kind.{Kind}
pub use Rattle.ncl_gates.specs.declared.kind.Kind.TheVariants.{Th22, Th33, Th44}
pub use Rattle.ncl_graph.proofs.Orders.{acyclic_has_order, order_excludes_cycles, stands_below}
pub use Rattle.ncl_graph.proofs.Paths.{Leads-push}
pub use Rattle.ncl_graph.specs.Graph.{IsGraph, IsOnCycle, IsOrder, Leads, arc, further, successors}
pub use Rattle.ncl_netlist.proofs.NetlistLaws.{ports-le-nets}
pub use Rattle.ncl_netlist.specs.Netlist.{CellFits, IsNetlist, NetlistData, drivers_of, drives, most_cells}
pub use Rattle.ncl_netlist.specs.declared.cell.Cell.{Cell}
pub use Rattle.ncl_netlist.specs.declared.ids.NetId.{NetId}
