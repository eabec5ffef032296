-- What the proofs of this crate take from the library, the crates below and its own definitions, passed on.
pub use Rattle.std.proofs.Common.{Bool, Bor, List, None, Option, Some, [], ap, append_assoc, arith, codes, cond, drop, eqb, false, filter, get_or, inl, inr, length, ltb, map, max, nat_eq, not, refl, rules, slice_get, slice_set, subst, suc, sum_by, sym, take, true, unwrap_or, zero, zero-add, ℕ, ⊎_elim, ◌&&◌, ◌++◌, ◌+◌, ◌-◌, ◌<◌, ◌==◌, ◌^◌, ◌||◌, ◌∙◌, ◌∷◌, ◌≡◌, ◌≢◌, ◌≤◌, ◌⊎◌}
pub use Rattle.std.proofs.Math.Seq.{drop-append_seam, get_or-append_seam, take-append_seam}
pub use Rattle.std.proofs.lemmas.Bool.{and_parts, cases_Bool, cases_eq, cases_lt, cond-false, cond-true, eq-eqb, eqb-true, false_from_ne_true, false≢true, le-ltb, lt-ltb, ltb-false, ltb-true, ne_eqb, not-false, or_cases, or_from, or_left, or_parts}
pub use Rattle.std.proofs.lemmas.Grind.{common_steps}
pub use Rattle.std.proofs.lemmas.Iterator.Adapters.{YieldsList-from_vec, position_from-zero}
pub use Rattle.std.proofs.lemmas.Iterator.Consumers.{YieldsList-end, YieldsList-turn}
pub use Rattle.std.proofs.lemmas.Iterator.Splits.{YieldsList-from_slice_split}
pub use Rattle.std.proofs.lemmas.List.{append-nil, at_drop_more, drop-drop, drop-map, drop_all, drop_more, get_or-append-add, get_or-map, get_or-take, get_or_append_left, get_or_default, length-append, length-drop, length-map, length-take, length_push, map-append, map_more, map_push, set_at, take-append-drop, take-append-le, take-map, take_all, take_more, take_rest}
pub use Rattle.std.proofs.lemmas.List.Concat.{flat_map-append}
pub use Rattle.std.proofs.lemmas.List.Elements.{All-contains, All-from_recursion, All-map, All-more, All-nil, Contains-append_cases, Contains-append_left, Contains-append_right, Contains-get_or, Contains-push_cases, filter-append, recursion_from_All}
pub use Rattle.std.proofs.lemmas.List.Folds.{length-flat_map-take, list_any-append}
pub use Rattle.std.proofs.lemmas.List.FromFn.{get_or-range_with_len, length-range_with_len}
pub use Rattle.std.proofs.lemmas.List.Splits.{slice_split_first}
pub use Rattle.std.proofs.lemmas.List.Sums.{count_by-le-length, length-filter, position_or_len_is, prefix_len-le-length, sum_by-append, sum_by-cons, sum_by_more_le, sum_by_push, take_while-cons}
pub use Rattle.std.proofs.lemmas.Map.Keys.{IsDistinct-cons, IsDistinct-from_apart, apart_from_distinct}
pub use Rattle.std.proofs.lemmas.Map.Views.{list_any-from_Contains}
pub use Rattle.std.proofs.lemmas.Option.{get_or_from_slice_get, slice_get-get_or, slice_get_within}
pub use Rattle.std.proofs.lemmas.Result.{MatchResult-weaker, err_from_is_err_and}
pub use Rattle.std.proofs.lemmas.Simd.{map-map}
pub use Rattle.std.proofs.lemmas.Slice.Eq.{bytes_eq-Decides}
pub use Rattle.std.specs.BTreeMap.{get}
pub use Rattle.std.specs.Cmp.Lexicographic.{nat_list_eq_equiv}
pub use Rattle.std.specs.List.{AllByRecursion, IsDistinct, after_first, before_first, filter_map, find, flat_map, last_or, list_all, list_any, onto_first, position, position_from, position_or_len, prefix_len, range_with_len, slice_split, take_while}
pub use Rattle.std.specs.Option.{is_some, option_map, option_or}
pub use Rattle.std.specs.Ordering.{nat_cmp}
pub use Rattle.std.specs.Prelude.{All, Contains, MatchResult}
pub use Rattle.std.specs.Str.{bytes_eq}
pub use Rattle.std.specs.Str.Lines.{lines, lines_of_parts, strip_carriage_return}
pub use Rattle.ncl_base.proofs.Growing.{All-filter_map, Contains-filter_map, Contains-filter_map_of, cut_at, filter_map-more, last_of, length-le-sum_by, option_or_stays, position_from-found, position_from-more, position_from-push, split_at}
pub use Rattle.ncl_base.proofs.Ranges.{range_with_len-more}
pub use Rattle.ncl_base.proofs.Tests.{option_or-none}
pub use Rattle.ncl_base.specs.TextLines.{NumberedText, fields_of, is_blank}
pub use Rattle.ncl_base.specs.declared.source.TheConstants.{MOST_BYTES}
pub use Rattle.ncl_blif.specs.Answer.{HasBits, IsCyclic, IsFaultless, IsFirstCycle, IsFirstModelFault, IsModelFault, IsRead, IsRefused, cycle, lesser, line, model, models_said, no_bits, reads_undriven, undriven, undriven_line, unjoined_model, width}
pub use Rattle.ncl_blif.specs.Body.{AreDriversKept, said_by}
pub use Rattle.ncl_blif.specs.Commands.{field_of}
pub use Rattle.ncl_blif.specs.Counted.{AreCounted, count_of}
pub use Rattle.ncl_blif.specs.Dependence.{dependency_graph, driver_place}
pub use Rattle.ncl_blif.specs.Drivers.{driver_among, driver_at}
pub use Rattle.ncl_blif.specs.Examples.{half, rest}
pub use Rattle.ncl_blif.specs.Line.{LineData}
pub use Rattle.ncl_blif.specs.LineFaults.{first_line_fault, first_part_fault, first_row_fault, first_section_fault, has_ended, has_twins, head_fault, is_literal, is_malformed, is_row_of, is_value, part_fault, row_fault, rows_fault, signals_driven}
pub use Rattle.ncl_blif.specs.Lines.{blank_at_end, in_fields, is_continued, joined, lines_of, put_before, uncommented}
pub use Rattle.ncl_blif.specs.Meaning.{Computes, Fits, Gives, cover_value, width_of}
pub use Rattle.ncl_blif.specs.Model.{AreJoined, AreModels, Depends, IsModel, most_size, reads, signals_of, size_of_model, through, weight_of_rows}
pub use Rattle.ncl_blif.specs.Named.{NamedCover, NamedModel, NamedOutput, cover_ins, cover_of, cover_out, covers_said, drivers_of, front_fields, inputs_said, is_on, last_field, later_fields, lists_on, lit_of, lits_of, named_model, outputs_said, pattern_of, size_of_named}
pub use Rattle.ncl_blif.specs.Numbered.{is_driven, numbered_cover, numbered_model, rowless_covers, signal_number, without_rows}
pub use Rattle.ncl_blif.specs.Parts.{PartData, begins_model, first_field, is_command, is_end, is_inputs, is_names, is_outputs, is_row, named_sections, parts_of, sections_of, unnamed_section, up_to_model}
pub use Rattle.ncl_blif.specs.declared.command.Command.{Command}
pub use Rattle.ncl_blif.specs.declared.command.Command.TheVariants.{End, Inputs, Names, Outputs}
pub use Rattle.ncl_blif.specs.declared.draft_body.DraftBody.{DraftBody}
pub use Rattle.ncl_blif.specs.declared.drivers.Driver.{Driver}
pub use Rattle.ncl_blif.specs.declared.drivers.Driver.TheVariants.{Input}
pub use Rattle.ncl_blif.specs.declared.fault.BlifFault.{BlifFault}
pub use Rattle.ncl_blif.specs.declared.fault.BlifFault.TheVariants.{BadRow, Cycle, Memory as OutOfMemory, MixedCover, NoBits, Syntax, TwoDrivers, Undriven, Unsupported, Width}
pub use Rattle.ncl_blif.specs.declared.line.Count.{Count}
pub use Rattle.ncl_blif.specs.declared.model.Cover.{Cover}
pub use Rattle.ncl_blif.specs.declared.model.Lit.{Lit}
pub use Rattle.ncl_blif.specs.declared.model.Model.{Model}
pub use Rattle.ncl_graph.proofs.FirstCycles.{first_or_none}
pub use Rattle.ncl_graph.proofs.Ranking.{leads_within}
pub use Rattle.ncl_graph.specs.Graph.{IsGraph, IsOnCycle, IsOrder, Leads, arc, further, successors}
pub use mathlib.Core.Bool.{beq}
