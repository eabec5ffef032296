-- What the proofs of this crate take from the library, the crates below and its own definitions, passed on.
pub use Rattle.std.proofs.Common.{Bool, List, Some, [], ap, append_assoc, arith, drop, false, get_or, inl, inr, length, length-append, map, nat_eq, not, refl, subst, suc, sym, take, true, zero, ℕ, ◌&&◌, ◌*◌, ◌++◌, ◌+◌, ◌<◌, ◌||◌, ◌∙◌, ◌∷◌, ◌≡◌, ◌≤◌, ◌⊎◌}
pub use Rattle.std.proofs.Math.Dec.{eqb-suc-zero}
pub use Rattle.std.proofs.lemmas.Bool.{and_left, and_parts, and_right, both_ways, cases_lt, eqb-true, false_from_ne_true, not-true, or_cases, true_from_ne_false}
pub use Rattle.std.proofs.lemmas.List.{append-nil, drop_all, drop_more, get_or_append_left, get_or_push, length-map, length-take-le, length_push, map-append, take_all, take_more}
pub use Rattle.std.proofs.lemmas.List.Elements.{All-contains, All-push}
pub use Rattle.std.proofs.lemmas.Nat.{one_shl}
pub use Rattle.std.proofs.lemmas.Nat.Bits.{bit_at-zero, shr_and_one}
pub use Rattle.std.specs.Bool.{beq}
pub use Rattle.std.specs.Prelude.{All, Contains, if◌then◌else◌, slice_get}
pub use Rattle.ncl_base.proofs.Members.{All-from_members, Contains-from_Member, Member, Member-append_cases, Member-append_left, Member-append_right, Member-from_Contains, Member-get_or, Member-map, here, member_cases, member_of_map, there}
pub use Rattle.ncl_decomp.proofs.EachWord.{at_each_first}
pub use Rattle.ncl_decomp.specs.Split.{cost_of_inputs}
pub use Rattle.ncl_decomp.specs.Words.{word_of}
pub use Rattle.ncl_faults.specs.Values.{holds}
pub use Rattle.ncl_gates.proofs.GateLaws.{set_of-monotone}
pub use Rattle.ncl_gates.specs.Bits.{is_set}
pub use Rattle.ncl_gates.specs.Gate.{arity_of, set_of}
pub use Rattle.ncl_netlist.specs.declared.ids.NetId.{NetId}
pub use Rattle.ncl_shape.specs.Closure.{pin_values}
pub use Rattle.ncl_shape.specs.Nets.{IsBelow, Nets}
pub use Rattle.ncl_shape.specs.Stage.{IsInOrder, nets_of, out_of, rail_nets}
pub use Rattle.ncl_shape.specs.declared.rails.Rails.{Rails}
pub use Rattle.ncl_shape.specs.declared.stage.StageCell.{StageCell}
pub use Rattle.ncl_template.specs.Among.{AddsAmong, IsTemplateAmong}
pub use Rattle.ncl_template.specs.Formed.{AddsTemplate, IsFormed}
pub use Rattle.ncl_template.specs.Forms.{AddsForm, AddsInner, AreInner, Fits, FitsAt, FitsWord, IsBehind, IsForm, IsFormGate, IsFormPin, IsGateOf, behind_bit, gate_bit, inner_bits, more, no_net, no_pair, none, pin_bit, pin_net}
pub use Rattle.ncl_template.specs.Joint.{FitsJointly, IsGateAmong, IsPairAmong, WaitsJointly, joint_bit, joint_pin}
pub use Rattle.ncl_template.specs.PairGates.{A0, A1, AddsGate, B0, B1, IsTwoGate, Wire, two_kind, two_pins, wire_net}
pub use Rattle.ncl_template.specs.Tables.{choice, difference_row, difference_table, differs, inverse_row, row_of, row_value, table_of, table_value}
pub use Rattle.ncl_template.specs.Template.{IsCase, IsNull, IsTemplate, Obeys, ShowWord, Shows, node_function}
pub use Rattle.ncl_template.specs.Waits.{all_inputs, mask_of, no_inputs, waits_at, waits_once, word_number}
pub use Rattle.ncl_template.specs.declared.form.Form.{Form}
pub use Rattle.ncl_template.specs.declared.form.FormGate.{FormGate}
pub use Rattle.ncl_template.specs.declared.form.FormPin.{FormPin}
pub use Rattle.ncl_template.specs.declared.form.FormPin.TheVariants.{Inner, One, Zero}
pub use Rattle.ncl_template.specs.declared.table.Table.{Table}
pub use Rattle.ncl_template.specs.declared.table.TableRow.{TableRow}
pub use Rattle.ncl_template.specs.declared.waits.Waits.{Waits}
pub use Rattle.ncl_tree.specs.Gates.{nets_so_far}
pub use borrow.Author.Count.{below_more}
