-- What the proofs of this crate take from the library and the terms that they speak of, passed on.
pub use Rattle.std.proofs.Common.{Bool, Bor, Contains, Err, List, MatchOption, None, Ok, Option, Result, Some, [], ap, append-nil, append_assoc, arith, cond, drop, drop-cons, false, get_or, inl, inr, length, map, not, refl, rules, slice_range, subst, suc, sum, sym, take, true, unwrap_or, vec_len, zero, ℕ, ◌%◌, ◌&&◌, ◌*◌, ◌++◌, ◌+◌, ◌-◌, ◌/◌, ◌<◌, ◌^◌, ◌||◌, ◌∙◌, ◌∷◌, ◌≡◌, ◌≢◌, ◌≤◌, ◌⊎◌}
pub use Rattle.std.proofs.Math.Bool.{or-false}
pub use Rattle.std.proofs.Math.Nat.{mul-suc, pow-le-pow_right}
pub use Rattle.std.proofs.lemmas.Bool.{and_from, and_parts, cases_eq, cases_lt, false≢true, le-leb, leb-true}
pub use Rattle.std.proofs.lemmas.Bool.Decides.{nat_tests}
pub use Rattle.std.proofs.lemmas.Fmt.{decimal-digits_value, decimal_digit, decimal_injective, decimal_is_IsNumeral, first_decimal, length-decimal-le}
pub use Rattle.std.proofs.lemmas.Grind.{flat_map-append}
pub use Rattle.std.proofs.lemmas.Int.Digits.{digits_more, digits_value-lt, digits_value_more}
pub use Rattle.std.proofs.lemmas.List.{drop_all, flat_map_more, get_or-map, length-append, length-drop, length-map, length-take-le, map-append, map_push, same_from_push, take-append-drop, take_all, take_at, take_more, take_rest}
pub use Rattle.std.proofs.lemmas.List.Elements.{All-append, All-cons, All-filter, All-head, All-nil, All-tail, Contains-append_cases, Contains-append_left, Contains-append_right}
pub use Rattle.std.proofs.lemmas.List.Folds.{find-append, list_any-append}
pub use Rattle.std.proofs.lemmas.List.Sums.{sum-map, sum_by-append, sum_by-cons}
pub use Rattle.std.proofs.lemmas.Map.Keys.{IsDistinct-cons, IsDistinct-from_apart, IsDistinct-head, IsDistinct-push, IsDistinct-tail, apart_from_distinct}
pub use Rattle.std.proofs.lemmas.Map.Text.{btree_map_updates_str}
pub use Rattle.std.proofs.lemmas.Option.{none-some, same_Some}
pub use Rattle.std.proofs.lemmas.Slice.Eq.{bytes_eq-Decides}
pub use Rattle.std.proofs.lemmas.Str.{digit_value_digit}
pub use Rattle.std.proofs.lemmas.Str.Parse.{IsNumeralModel, digit_from_value}
pub use Rattle.std.specs.BTreeMap.{get_by}
pub use Rattle.std.specs.Bool.{Decides}
pub use Rattle.std.specs.Char.{digit_value, is_ascii_digit}
pub use Rattle.std.specs.Cmp.{nat_eq_equiv}
pub use Rattle.std.specs.Cmp.Lexicographic.{lists_equiv, slice_cmp}
pub use Rattle.std.specs.Fmt.{digit_glyph, digits_onto}
pub use Rattle.std.specs.List.{AllByRecursion, find, flat_map, list_all, list_any, sum_by}
pub use Rattle.std.specs.Option.{option_map, option_or}
pub use Rattle.std.specs.Ordering.{nat_cmp}
pub use Rattle.std.specs.Prelude.{All, IfOk, codes, decimal, if◌then◌else◌, is_some, nat_le, nat_lt, option_and_then, slice_index, ◌==◌}
pub use Rattle.std.specs.Str.{bytes_eq}
pub use Rattle.std.specs.Str.Parse.{AllDigits, digits_value, digits_value_after}
pub use Rattle.ncl_base.proofs.Growing.{Contains-last, split_push}
pub use Rattle.ncl_base.proofs.Joined.{member_of_flat_map}
pub use Rattle.ncl_base.proofs.Members.{All-from_members, Contains-from_Member, Member, Member-append_cases, Member-from_Contains, here, list_any-from_member, member_from_list_any, member_of_map, recursion_from_members, there}
pub use Rattle.ncl_gates.proofs.NameLaws.{cell_name_of-distinct, cell_or_none}
pub use Rattle.ncl_gates.specs.Cell.{pins_of}
pub use Rattle.ncl_gates.specs.Name.{cell_name_of}
pub use Rattle.ncl_gates.specs.declared.cell_kind.CellKind.{CellKind}
pub use Rattle.ncl_netlist.specs.Names.{AllDiffer, once_each, same_name}
pub use Rattle.ncl_netlist.specs.Parts.{HasAllPins, cell_of, netlist_of, nets_of, port_names}
pub use Rattle.ncl_netlist.specs.declared.cell.Cell.{Cell}
pub use Rattle.ncl_netlist.specs.declared.parts.PartCell.{PartCell}
pub use Rattle.ncl_netlist.specs.declared.parts.Parts.{Parts}
pub use Rattle.ncl_netlist.specs.declared.port.Port.{Port}
pub use Rattle.ncl_reader.specs.BitNames.{HasBracketAt}
pub use Rattle.ncl_reader.specs.Draft.{HoldsAt, HoldsBy, IsBody, IsBodyAnd, IsBodyWith, IsDeclaredNext, IsEarly, IsGrouped, IsGroupedWith, IsHeadedNext, IsListed, IsRead, SaysAt, Takes, TakesOrBreaks, cell_in, is_ansi, name_in, said_with}
pub use Rattle.ncl_reader.specs.Forms.{IsAtClose, IsAtConn, IsAtIndex, IsAtItem, IsAtNet, IsAtPin, IsBehindNet, IsDeclaring, at_declared, in_ansi}
pub use Rattle.ncl_reader.specs.Grammar.{Ansi, BeginsShaped, Conn, Declares, Direction, Empty, Gives, Group, Head, Item, Joins, Lead, Listing, Names, Net, Plain, Range, Row, Spec, Text, Wired, Wires, all_of, body_phrase, conn_phrase, direction_phrase, group_names, group_phrase, groups_of, head_phrase, header_of, header_phrase, item_phrase, lead_phrase, listing_phrase, name_phrase, names_in, range_phrase, row_phrase, spec_phrase, text_phrase, with_commas}
pub use Rattle.ncl_reader.specs.GraphicNames.{HasGraphicNames, IsGraphicName}
pub use Rattle.ncl_reader.specs.Header.{AllDirected, AreDeclared, IsHeader, LacksWay, bit_port, bits_said, names_said, ports_at, ports_by, said_at, span_width, way_by, way_of}
pub use Rattle.ncl_reader.specs.Instance.{AreJoins, Closes, Joint, MayJoin, joint_in, joint_of, picked_name, pins_in}
pub use Rattle.ncl_reader.specs.KeptBits.{IsStanding, numbers_at}
pub use Rattle.ncl_reader.specs.Known.{KeepsNames}
pub use Rattle.ncl_reader.specs.Lead.{IsLed, IsSaid, IsSpanOf, IsValue, LeadTakes, direction_output, lead_output, takes_name}
pub use Rattle.ncl_reader.specs.Lexemes.{Bad, End, Lexeme, Mark, Name, Number, Placed, Word, lexemes}
pub use Rattle.ncl_reader.specs.Meant.{meant}
pub use Rattle.ncl_reader.specs.NameSet.{has_name}
pub use Rattle.ncl_reader.specs.Next.{MayStand, after_sign, takes_name_alone, takes_plain, takes_sign}
pub use Rattle.ncl_reader.specs.Partial.{GroupPart, ItemPart, LeadPart, Partial, at_item, begun, bracketed, celled, closed, coloned, conn_spelled, declaring, direction_place, done, dotted, ended, firsted, going, group_spelled, headed, header_spelled, heading, indexed, indexing, inside, joined, joining, lasted, lead_place, lead_spelled, leading, led, listed, listing, named, naming, netted, opened, part_spelled, picked, pinned, place_of, ranged, spelled, start, titled, word_place}
pub use Rattle.ncl_reader.specs.Ranges.{IsRanges, kept_as, range_at, vector_at}
pub use Rattle.ncl_reader.specs.Reads.{IsLexed, IsReadFault, IsRefused, Reads, ReadsTokens, placed_in, placed_of, stop_of}
pub use Rattle.ncl_reader.specs.Refusals.{HasBadPins, IsFaultAt, IsLeftOut, IsMisread, IsRefusedAt, IsUnknown}
pub use Rattle.ncl_reader.specs.Rules.{Breaks, BreaksRule, Clashes, Crowds, IsOutside, IsTooLong, NoneBreaks, Redeclares, directed_by, directed_in, group_bits, item_bits}
pub use Rattle.ncl_reader.specs.Says.{AreCellsOf, IsCellOf, Joined, Said, Says, bits_of, is_output, joined_in, net_name, net_on, ports_of, ports_said, said_by, said_in, said_in_header, said_of}
pub use Rattle.ncl_reader.specs.Uses.{IsUses}
pub use Rattle.ncl_reader.specs.Vectors.{Covers, IsBit, IsClear, IsDeclared, IsTooLarge, IsUsed, IsVector, MOST_PORT_BITS, MOST_VECTOR_BITS, Stands, bit_name, down_from, numbers_of, range_width, span_of, up_from, width}
pub use Rattle.ncl_reader.specs.Whole.{AreScalar, AreWhole, IsInstanceOf, IsPlain, IsScalar, KeepsRules}
pub use Rattle.ncl_reader.specs.Words.{keyword_of, left_out, lexeme_of, may_be_reserved, word_lexeme}
pub use Rattle.ncl_reader.specs.declared.draft.Draft.{Draft}
pub use Rattle.ncl_reader.specs.declared.header.Header.{Header}
pub use Rattle.ncl_reader.specs.declared.instance.Join.{Join}
pub use Rattle.ncl_reader.specs.declared.kept_bits.KeptBits.{KeptBits}
pub use Rattle.ncl_reader.specs.declared.keyword.Keyword.{Keyword}
pub use Rattle.ncl_reader.specs.declared.keyword.Keyword.TheVariants.{EndModule, LeftOut, Module, Wire, Way as word_of}
pub use Rattle.ncl_reader.specs.declared.keyword.Way.{Way}
pub use Rattle.ncl_reader.specs.declared.keyword.Way.TheVariants.{Input, Output}
pub use Rattle.ncl_reader.specs.declared.known.Known.{Known}
pub use Rattle.ncl_reader.specs.declared.lead.Lead.{Lead as Led}
pub use Rattle.ncl_reader.specs.declared.lexeme.Lexeme.{Lexeme as Read}
pub use Rattle.ncl_reader.specs.declared.lexeme.Sign.{Sign}
pub use Rattle.ncl_reader.specs.declared.lexeme.Sign.TheVariants.{Colon, Comma, Dot, LBracket, LParen, Other, RBracket, RParen, Semi}
pub use Rattle.ncl_reader.specs.declared.name_set.NameSet.{NameSet}
pub use Rattle.ncl_reader.specs.declared.net_fault.NetFault.{NetFault}
pub use Rattle.ncl_reader.specs.declared.net_fault.NetFault.TheVariants.{BadPins, Build, Memory, Syntax, UnknownCell, Unsupported}
pub use Rattle.ncl_reader.specs.declared.place.LeadPlace.{LeadPlace}
pub use Rattle.ncl_reader.specs.declared.place.Place.{Place}
pub use Rattle.ncl_reader.specs.declared.ranges.Ranges.{Ranges}
pub use Rattle.ncl_reader.specs.declared.span.Span.{Span}
pub use Rattle.ncl_token.proofs.InOrder.{tokens_in_text}
pub use Rattle.ncl_token.proofs.Left.{next_left, tokens_few}
pub use Rattle.ncl_token.proofs.OneList.{list_once}
pub use Rattle.ncl_token.proofs.SomeList.{some_list}
pub use Rattle.ncl_token.specs.Bytes.{begins_word, continues_word, is_graphic}
pub use Rattle.ncl_token.specs.Reading.{IsAnswer, IsTokenOf, TokensData, name_of, place_after}
pub use Rattle.ncl_token.specs.Spaces.{IsSpace}
pub use Rattle.ncl_token.specs.Tokens.{AreTokens, IsBadByte, IsNextToken, IsToken, Stop, TokensOf, Bad as at_bad, at_bad_byte, End as at_end, is_escaped, is_word, at_end as none_left}
pub use Rattle.ncl_token.specs.declared.token.Token.{Token}
pub use Rattle.ncl_token.specs.declared.token.TokenFault.{TokenFault}
pub use Rattle.ncl_token.specs.declared.token.TokenFault.TheVariants.{BadByte}
pub use Rattle.ncl_token.specs.declared.token.TokenKind.{TokenKind}
