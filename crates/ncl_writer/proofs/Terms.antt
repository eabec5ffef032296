-- What the proofs of this crate take from the library, the crates below and its own definitions, passed on.
pub use Rattle.std.proofs.Common.{All, Bool, Contains, List, None, Option, Some, [], ap, append_assoc, arith, drop, false, get_or, inl, inr, length, map, not, refl, subst, suc, sym, take, true, unwrap_or, zero, ℕ, ◌&&◌, ◌++◌, ◌+◌, ◌-◌, ◌<◌, ◌||◌, ◌∙◌, ◌∷◌, ◌≡◌, ◌≢◌, ◌≤◌, ◌⊎◌}
pub use Rattle.std.proofs.Math.Nat.{suc-add}
pub use Rattle.std.proofs.lemmas.Bool.{and_from, and_parts, both_ways, cases_lt, eqb-true, leb-true, or_cases, or_left, or_right}
pub use Rattle.std.proofs.lemmas.Grind.{common_steps}
pub use Rattle.std.proofs.lemmas.List.{append-nil, drop_at, get_or-map, get_or-take, get_or_default, get_or_past, length-append, length-map, length-take, length_push, map-append, map_push, take_at, take_more}
pub use Rattle.std.proofs.lemmas.List.Concat.{flat_map-append}
pub use Rattle.std.proofs.lemmas.List.Elements.{All-drop, All-head, All-map, All-push, All-tail, All-take, All-weaker, recursion_from_All}
pub use Rattle.std.proofs.lemmas.Map.Keys.{IsDistinct-from_apart, IsDistinct-head, IsDistinct-tail, apart_from_distinct}
pub use Rattle.std.specs.Char.{is_ascii_alphanumeric, is_ascii_uppercase}
pub use Rattle.std.specs.Int.{is_in_range}
pub use Rattle.std.specs.List.{AllByRecursion, find, flat_map, join_with_byte, list_all, list_any, zip}
pub use Rattle.std.specs.Prelude.{codes, if◌then◌else◌, is_none, nat_eq, nat_le, slice_range, ◌==◌, ◌↔◌}
pub use Rattle.std.specs.Str.{bytes_eq}
pub use Rattle.ncl_gates.proofs.PinLaws.{cell_name_of-capital, pins_of-capital, pins_of-differ, pins_of-some}
pub use Rattle.ncl_gates.specs.Cell.{pins_of}
pub use Rattle.ncl_gates.specs.Name.{cell_name_of, is_capital_word}
pub use Rattle.ncl_gates.specs.declared.cell_kind.CellKind.{CellKind}
pub use Rattle.ncl_netlist.proofs.NameLists.{same_itself}
pub use Rattle.ncl_netlist.proofs.Said.{faultless-parts_said, netlist_of-parts_said}
pub use Rattle.ncl_netlist.specs.Faults.{IsFaultless}
pub use Rattle.ncl_netlist.specs.Names.{AllDiffer, same_name}
pub use Rattle.ncl_netlist.specs.Netlist.{CellFits, IsNetlist, NetlistData, pin_names}
pub use Rattle.ncl_netlist.specs.Parts.{netlist_of, part_of, parts_said}
pub use Rattle.ncl_netlist.specs.declared.cell.Cell.{Cell}
pub use Rattle.ncl_netlist.specs.declared.ids.NetId.{NetId}
pub use Rattle.ncl_netlist.specs.declared.parts.Parts.{Parts}
pub use Rattle.ncl_netlist.specs.declared.port.Port.{Port}
pub use Rattle.ncl_reader.proofs.WholeRules.{whole_rules}
pub use Rattle.ncl_reader.specs.Grammar.{Ansi, Conn, Declares, Direction, Gives, Group, Head, Item, Joins, Lead, Listing, Names, Plain, Row, Text, Wires, all_of, conn_phrase, group_names, groups_of, head_phrase, header_of, item_phrase, name_phrase, row_phrase, text_phrase, with_commas}
pub use Rattle.ncl_reader.specs.Lexemes.{End, Lexeme, Mark, Name, Placed, Word, lexemes}
pub use Rattle.ncl_reader.specs.Reads.{Reads, placed_in, placed_of, stop_of}
pub use Rattle.ncl_reader.specs.Rules.{NoneBreaks, directed_by, directed_in}
pub use Rattle.ncl_reader.specs.Says.{AreCellsOf, Joined, Said, Says, joined_in, net_on, ports_of, said_by, said_in, said_in_header, way_output}
pub use Rattle.ncl_reader.specs.Whole.{AreScalar, AreWhole, IsInstanceOf, IsPlain, KeepsRules}
pub use Rattle.ncl_reader.specs.Words.{keyword_of, left_out, lexeme_of, word_lexeme}
pub use Rattle.ncl_reader.specs.declared.keyword.Keyword.{Keyword}
pub use Rattle.ncl_reader.specs.declared.keyword.Keyword.TheVariants.{EndModule, LeftOut, Module, Way as word_of, Wire}
pub use Rattle.ncl_reader.specs.declared.keyword.Way.{Way}
pub use Rattle.ncl_reader.specs.declared.keyword.Way.TheVariants.{Input, Output}
pub use Rattle.ncl_reader.specs.declared.lexeme.Sign.TheVariants.{Comma, Dot, LParen, RParen, Semi}
pub use Rattle.ncl_token.proofs.Following.{next_here, white_then}
pub use Rattle.ncl_token.specs.Bytes.{begins_word, continues_word, is_graphic, is_white}
pub use Rattle.ncl_token.specs.Following.{leaves}
pub use Rattle.ncl_token.specs.Reading.{name_of}
pub use Rattle.ncl_token.specs.Spaces.{no_space}
pub use Rattle.ncl_token.specs.Tokens.{AreTokens, End as at_end, IsToken, is_comma, is_dot, is_escaped, is_left_parenthesis, is_right_parenthesis, is_semicolon, is_word, then_token}
pub use Rattle.ncl_token.specs.declared.token.Token.{Token}
pub use Rattle.ncl_token.specs.declared.token.TokenKind.{TokenKind}
pub use Rattle.ncl_writer.specs.Names.{IsWritable, IsWritableName, is_plain, spelled_name}
pub use Rattle.ncl_writer.specs.Text.{cell_line, closed, opened, pin_text, port_line, text_of, wire_line}
