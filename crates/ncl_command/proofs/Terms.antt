-- What the proofs of this crate take from the library, the crates below and its own definitions, passed on.
pub use Rattle.std.proofs.Common.{Bool, Bor, IfOk, List, None, Ok, Option, Result, Some, [], ap, append-nil, ap₂, arith, codes, cond, eqb-true, false, get_or, if◌then◌else◌, inl, inr, is_some, length, lit<, map, min, nat_le, nat_lt, not, refl, rules, slice_get, subst, sym, take, true, true≢false, ℕ, ◌&&◌, ◌++◌, ◌+◌, ◌<◌, ◌==◌, ◌||◌, ◌∙◌, ◌∷◌, ◌≡◌, ◌≢◌, ◌≤◌}
pub use Rattle.std.proofs.Math.Bool.{and-false, or-false, or-true}
pub use Rattle.std.proofs.Math.Nat.{min-eq_left}
pub use Rattle.std.proofs.Math.Path.{fun_ext}
pub use Rattle.std.proofs.Math.Seq.{take-length}
pub use Rattle.std.proofs.lemmas.Bool.{and_parts, eq-eqb, eqb-false, leb-true, ne_eqb, or_parts}
pub use Rattle.std.proofs.lemmas.List.{append_assoc, length-append, length-map, map-append, map_more}
pub use Rattle.std.proofs.lemmas.Slice.Eq.{bytes_eq-Decides}
pub use Rattle.std.proofs.lemmas.Str.Parse.{IsNumeralModel, digits_value_short, numerals_by_value, parse_gives}
pub use Rattle.std.proofs.lemmas.Str.Pattern.{strip_prefix_char}
pub use Rattle.std.specs.Char.{is_ascii_digit}
pub use Rattle.std.specs.List.{after_first, before_first, count_by, find, fold, list_all, list_any, position_or_len}
pub use Rattle.std.specs.Option.{option_map_or}
pub use Rattle.std.specs.Prelude.{option_and_then, option_map, unwrap_or}
pub use Rattle.std.specs.Result.{result_ok}
pub use Rattle.std.specs.Str.{bytes_eq}
pub use Rattle.std.specs.Str.Parse.{ParsesUnsigned, digits_value}
pub use Rattle.clap.proofs.WalkLemmas.{first_value-rows}
pub use Rattle.clap.specs.Facts.{explicit_source}
pub use Rattle.clap.specs.Faults.{built_fault, bundle_fault, check_fault, default_fault, defaults_fault, entered_fault, fault_of, flag_word_fault, given_default_fault, has_free_rules, is_free_app, is_simple_and_free, level_fault, long_fault, other_fault, positional_fault, settle_fault, step_fault, stray_fault, turn_fault, use_fault, word_fault}
pub use Rattle.clap.specs.Kinds.{HasKind, IsAmong, Kinds, check_kinds, or_else}
pub use Rattle.clap.specs.Lexer.{long_of, short_of, usize_max}
pub use Rattle.clap.specs.Matches.{found_of}
pub use Rattle.clap.specs.Simple.{App, Shape, app_of, app_of_fields, built, entered, filled, filled_from, is_buildable, is_in_order, is_ready, is_ready_leaf, is_simple, matches_of, names_of, new_shape, on_top, with_index, with_rule}
pub use Rattle.clap.specs.Takes.{is_given as is_used}
pub use Rattle.clap.specs.Walk.{Held, Row, Rule, Step, Waiting, Walk, after_flag, after_step, arg_by_id, arg_by_index, arg_by_long, at_row, default_rows, finished, first_of, has_row, idle, is_early_multiple, is_pending, long_met, long_or_other, long_word, more_values, next, nothing_held, option, option_word, plain_word, pushed, rows_after, rows_of, settled as settled_held, settled_rows, short_or_plain, subcommand_met, subcommand_or_other, to_positional, trailing, used, used_by_id, value as to_place, value, walked, with_default, with_values, word_met}
pub use Rattle.clap.specs.declared.builder.action.ArgAction.TheVariants.{Set, SetTrue}
pub use Rattle.clap.specs.declared.builder.value_parser.Reading.TheVariants.{AsWritten}
pub use Rattle.clap.specs.declared.error.Error.{Error}
pub use Rattle.clap.specs.declared.error.kind.ErrorKind.{ErrorKind}
pub use Rattle.clap.specs.declared.error.kind.ErrorKind.TheVariants.{OutOfMemory}
pub use Rattle.clap.specs.declared.parser.matches.ArgMatches.{ArgMatches}
pub use Rattle.clap.specs.declared.parser.matches.ValueSource.TheVariants.{CommandLine, DefaultValue}
pub use Rattle.ncl_base.proofs.Tests.{position_or_len-none}
pub use Rattle.ncl_command.specs.Command.{Command, is_number, number_said}
pub use Rattle.ncl_command.specs.Meaning.{form_meant, form_read, option_meant, values_found}
pub use Rattle.ncl_command.specs.Reading.{ArgumentKind, Arguments, Form, FormOption, Named, NamedValue, Plain, Reading, Refused, Text, Valued, after_argument, after_kind, after_name, after_value, dashed_kind, first_given, given_flag, has_needed, has_option, is_apart, is_equals, is_flag, is_given, is_refused, is_refused_kind, kind_of, missing_flag, nothing_read, option_kind, option_named, put_next, put_value, read_arguments, read_on, settled, value_given, value_kind, valued, values_of, with_value, with_waiting}
pub use Rattle.ncl_command.specs.Rules.{app_for, app_with, option_rule, place_rule}
