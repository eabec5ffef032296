-- What the proofs of this crate take from the library, the crates below and its own definitions, passed on.
pub use Rattle.std.proofs.Common.{Bool, Bor, List, None, Option, Some, [], ap, arith, cond, drop, false, filter, get_or, if◌then◌else◌, inl, inr, length, ltb, map, not, refl, reverse, rules, set, subst, suc, sym, take, true, ℕ, ⊎_elim, ◌&&◌, ◌++◌, ◌+◌, ◌<◌, ◌^◌, ◌||◌, ◌∙◌, ◌∷◌, ◌≡◌, ◌≤◌}
pub use Rattle.std.proofs.Math.Nat.{pow-le-pow_right}
pub use Rattle.std.proofs.lemmas.Int.Digits.{digits_more, digits_value-lt, digits_value_more}
pub use Rattle.std.proofs.lemmas.Iterator.{YieldsList}
pub use Rattle.std.proofs.lemmas.Iterator.Consumers.{YieldsList-end, YieldsList-from_enumerate, YieldsList-so_far, YieldsList-turn}
pub use Rattle.std.proofs.lemmas.Iterator.Splits.{YieldsList-from_slice_split}
pub use Rattle.std.proofs.lemmas.List.{length-map, length-take-le, map-append, take-append-drop, take_all, take_more}
pub use Rattle.std.proofs.lemmas.List.Elements.{filter-append}
pub use Rattle.std.proofs.lemmas.List.Folds.{list_all_more}
pub use Rattle.std.proofs.lemmas.Map.Keys.{IsDistinct-head, IsDistinct-tail}
pub use Rattle.std.proofs.lemmas.Result.{err_from_is_err_and}
pub use Rattle.std.proofs.lemmas.Simd.{splat_is_map}
pub use Rattle.std.proofs.lemmas.Str.{digit_value_digit}
pub use Rattle.std.specs.Char.{digit_value, is_ascii_digit}
pub use Rattle.std.specs.Iterator.{Yields}
pub use Rattle.std.specs.List.{AllByRecursion, enumerate_from, list_all, list_any, slice_split}
pub use Rattle.std.specs.Option.{option_or}
pub use Rattle.std.specs.Prelude.{unwrap_or}
pub use Rattle.std.specs.Str.Parse.{AllDigits, digits_value}
pub use Rattle.indexmap.specs.IndexSet.{insert_all}
pub use Rattle.ncl_base.specs.TextLines.{NumberedText, fields_of, is_blank}
pub use Rattle.ncl_base.specs.Words.{text_of}
pub use Rattle.ncl_delay.specs.DelayText.{cell_names, cell_text, edges_text, fault_in, is_known, line_fault, said, said_in, said_of, same_subject, stated, stated_delays, statement_fault, stating, subject_text, unit_edges}
pub use Rattle.ncl_delay.specs.Delays.{DelaysData}
pub use Rattle.ncl_delay.specs.Lines.{from_first, is_feed, numbered, tells, told_lines, trimmed}
pub use Rattle.ncl_delay.specs.Put.{put_edges, unstated}
pub use Rattle.ncl_delay.specs.WordText.{word_fault, words_fault}
pub use Rattle.ncl_delay.specs.declared.delays.Edges.{Edges}
pub use Rattle.ncl_delay.specs.declared.fault.DelayFault.{DelayFault}
pub use Rattle.ncl_delay.specs.declared.fault.DelayFault.TheVariants.{UnknownCell}
pub use Rattle.ncl_delay.specs.declared.fault.WordsFault.{WordsFault}
pub use Rattle.ncl_delay.specs.declared.statement.Statement.{Statement}
pub use Rattle.ncl_delay.specs.declared.statement.Subject.{Subject}
pub use Rattle.ncl_delay.specs.declared.statement.Subject.TheVariants.{Cell, Default, Sink, Source}
pub use Rattle.ncl_netlist.proofs.NameLists.{equal_names, insert_all-none, insert_all-turn, once_each-AllDiffer}
pub use Rattle.ncl_netlist.specs.Names.{AllDiffer, name_number, same_name}
