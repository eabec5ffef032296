-- What the proofs of this crate take from the library, the crates below and its own definitions, passed on.
pub use Rattle.std.proofs.Common.{Bool, List, None, Option, Some, [], ap, append_assoc, arith, cond, decimal, drop, eqb, false, get_or, inl, inr, length, map, not, refl, subst, suc, sym, take, true, zero, ℕ, ◌&&◌, ◌*◌, ◌++◌, ◌+◌, ◌-◌, ◌/◌, ◌<◌, ◌^◌, ◌∙◌, ◌∷◌, ◌≡◌, ◌≢◌, ◌≤◌}
pub use Rattle.std.proofs.lemmas.Bool.{and_parts, both_ways, cases_eq, cases_lt, eq-eqb, eqb-true, ne_eqb, not-true}
pub use Rattle.std.proofs.lemmas.Bool.Decides.{nat_tests}
pub use Rattle.std.proofs.lemmas.Fmt.{decimal_is_IsNumeral}
pub use Rattle.std.proofs.lemmas.List.{append-nil, drop_more, get_or-map, length-map, length-take-le, take_more}
pub use Rattle.std.proofs.lemmas.List.Concat.{flat_map-append}
pub use Rattle.std.proofs.lemmas.List.Elements.{All-head, All-tail}
pub use Rattle.std.proofs.lemmas.List.FromFn.{get_or-range_with_len, length-range_with_len, map-range_with_len_more}
pub use Rattle.std.proofs.lemmas.List.Sums.{take_while-cons}
pub use Rattle.std.specs.Char.{digit_value}
pub use Rattle.std.specs.List.{AllByRecursion, flat_map, list_all, range_with_len, take_while}
pub use Rattle.std.specs.Prelude.{All, IfSome, codes, nat_eq, nat_le, nat_lt}
pub use Rattle.std.specs.Str.Parse.{AllDigits}
pub use Rattle.ncl_delay.specs.Delays.{DelaysData}
pub use Rattle.ncl_delay.specs.declared.fired.Fired.{Fired}
pub use Rattle.ncl_insensitivity.proofs.SamePipelineLaws.{other-is, step-same, with_stages}
pub use Rattle.ncl_machine.proofs.AtWorkLaws.{with_net-elsewhere}
pub use Rattle.ncl_machine.proofs.EnabledItems.{item_in_range}
pub use Rattle.ncl_machine.specs.Held.{InRange, IsFor, meaning}
pub use Rattle.ncl_machine.specs.OneChange.{net_of_step}
pub use Rattle.ncl_machine.specs.Run.{IsRunFrom, after}
pub use Rattle.ncl_machine.specs.State.{State, reset}
pub use Rattle.ncl_machine.specs.Steps.{enabled, step}
pub use Rattle.ncl_netlist.specs.Netlist.{NetlistData}
pub use Rattle.ncl_reader.specs.GraphicNames.{IsGraphicName}
pub use Rattle.ncl_shape.proofs.ShapeLaws.{shape_is_one}
pub use Rattle.ncl_shape.specs.Pipeline.{PipelineData}
pub use Rattle.ncl_shape.specs.Shape.{Shape}
pub use Rattle.ncl_shape.specs.Stage.{StageData}
pub use Rattle.ncl_shape.specs.declared.item.Item.{Item}
pub use Rattle.ncl_shape.specs.declared.item.Item.TheVariants.{Cell as Fire, Lower, Raise, Ready, Take}
pub use Rattle.ncl_sim.proofs.Locality.{enabled-net, step-value}
pub use Rattle.ncl_sim.proofs.Looks.{due-looked}
pub use Rattle.ncl_sim.proofs.Times.{fresh_or_old, last_time-more, not-after}
pub use Rattle.ncl_sim.specs.Numbers.{item_number}
pub use Rattle.ncl_sim.specs.TimedRun.{IsNext, due_after, items_in, last_time, state_after}
pub use Rattle.ncl_token.specs.Bytes.{is_graphic}
pub use Rattle.ncl_vcd.specs.Codes.{characters_left, identifier_code}
pub use Rattle.ncl_vcd.specs.Dump.{ValueChange, change_lines, declaration_lines, dump_lines, dump_text, initial_lines, line, time_line, time_lines, value_line, value_lines, variable_line, variable_lines}
pub use Rattle.ncl_vcd.specs.Level.{from_time, is_after, is_later, is_line, is_time, level, lines_from, lines_of, time_of, told, told_by}
pub use Rattle.ncl_vcd.specs.RunDump.{change_by, changes_of, dump_of, until_time, values_in}
