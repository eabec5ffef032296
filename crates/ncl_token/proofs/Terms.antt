-- What the proofs of this crate take from the library, the crates below and its own definitions, passed on.
pub use Rattle.std.proofs.Common.{Bool, Bor, Err, List, None, Ok, Option, Result, Some, [], ap, arith, cond, drop, eq-eqb, eqb, false, get_or, inl, inr, length, not, refl, rules, subst, suc, sym, take, true, unwrap_or, zero, ℕ, ◌&&◌, ◌++◌, ◌+◌, ◌-◌, ◌<◌, ◌∙◌, ◌∷◌, ◌≡◌, ◌≢◌, ◌≤◌, ◌⊎◌}
pub use Rattle.std.proofs.lemmas.Bool.{and_from, and_parts, both_ways, cases_eq, cases_lt, eqb-true, false≢true, ne_eqb, or_cases, or_from, or_left, or_parts, or_right}
pub use Rattle.std.proofs.lemmas.Bool.Decides.{Decides-eqb, nat_tests}
pub use Rattle.std.proofs.lemmas.List.{append-nil, append_assoc, drop-drop, drop-take, drop_all, drop_at, length-append, length-drop, length-take, length-take-le, nil_from_length, take-append-drop, take-take, take_all, take_at, take_rest}
pub use Rattle.std.proofs.lemmas.List.Elements.{All-from_recursion}
pub use Rattle.std.proofs.lemmas.List.FromFn.{get_or-map-range_with_len}
pub use Rattle.std.proofs.lemmas.List.Sums.{prefix_len-le-length}
pub use Rattle.std.proofs.lemmas.Slice.Eq.{strip_prefix_is}
pub use Rattle.std.specs.List.{AllByRecursion, list_all, prefix_len, slice_index_or}
pub use Rattle.std.specs.Prelude.{All, MatchOption, codes, is_some, slice_range}
pub use Rattle.ncl_token.specs.Bytes.{begins_gap as gap_test, begins_number, begins_number as number_test, begins_token, begins_white, begins_word, begins_word as word_test, continues_number, continues_word, is_among, is_digit, is_graphic, is_mark, is_single, is_white, is_white as white_test}
pub use Rattle.ncl_token.specs.Following.{leaves}
pub use Rattle.ncl_token.specs.Fronts.{BeginsWithLine, BeginsWithToken, HasGap, HasSpace, IsFirstAt, IsUngapped, may_gap, may_open, number_kind}
pub use Rattle.ncl_token.specs.Reading.{IsAnswer, IsReader, IsTokenOf, TellsToken, TokensData, left_of, name_of, place_after}
pub use Rattle.ncl_token.specs.Spaces.{BeginsWith, IsClosed, IsGap, IsLineEnd, IsSpace, Lacks, OpensGap, is_attribute, is_blank, is_block_comment, is_line_comment, no_space, then_space}
pub use Rattle.ncl_token.specs.Tokens.{AreInOrder, AreTokens, Bad, BreaksAt, End, IsBadByte, IsFirstToken, IsNextToken, IsToken, Stop, TokensOf, at_bad_byte, at_byte_in_name, at_end, at_end_of_name, at_stray_byte, at_white_for_name, in_open_attribute, in_open_comment, in_open_string, is_colon, is_comma, is_constant, is_dot, is_escaped, is_left_bracket, is_left_parenthesis, is_number, is_one_mark, is_right_bracket, is_right_parenthesis, is_semicolon, is_string, is_word, then_token}
pub use Rattle.ncl_token.specs.declared.token.Token.{Token}
pub use Rattle.ncl_token.specs.declared.token.TokenFault.{TokenFault}
pub use Rattle.ncl_token.specs.declared.token.TokenFault.TheVariants.{BadByte}
pub use Rattle.ncl_token.specs.declared.token.TokenKind.{TokenKind}
pub use Rattle.ncl_token.specs.declared.token.TokenKind.TheVariants.{Colon, Comma, Dot, Escaped, LBracket, LParen, Number, Other, RBracket, RParen, Semi, Word}
pub use borrow.Author.Count.{below_more}
