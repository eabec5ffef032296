-- What the proofs of this crate take from the library, the crates below and its own definitions, passed on.
pub use Rattle.std.proofs.Common.{Bool, Err, IsTrue, List, None, Ok, Option, Result, Some, [], ap, arith, cond, drop, false, get_or, if◌then◌else◌, inl, inr, length, length-append, map, nat_eq, nat_le, nat_lt, not, refl, slice_get, slice_index_or, subst, suc, sym, take, true, zero, ℕ, ◌%◌, ◌&&◌, ◌*◌, ◌++◌, ◌+◌, ◌-◌, ◌/◌, ◌<◌, ◌^◌, ◌||◌, ◌∙◌, ◌∷◌, ◌≡◌, ◌≤◌, ◌⊎◌}
pub use Rattle.std.proofs.Math.Nat.{mul-le-mul_left, mul-suc, mul-zero, mul_comm}
pub use Rattle.std.proofs.Math.Path.{fun_ext}
pub use Rattle.std.proofs.Math.Pow.{pow_mono, pow_pos}
pub use Rattle.std.proofs.Math.Seq.{drop-append_seam, take-append_seam, take-length}
pub use Rattle.std.proofs.lemmas.Bool.{and_from, and_parts, both_ways, cases_lt, false_from_ne_true, le-ltb, lt-ltb, ltb-true, ne_eqb, or_cases, or_left, or_parts, or_right}
pub use Rattle.std.proofs.lemmas.Bool.Decides.{nat_tests}
pub use Rattle.std.proofs.lemmas.Cmp.{eq_by_cmp_equiv}
pub use Rattle.std.proofs.lemmas.Grind.{common_steps}
pub use Rattle.std.proofs.lemmas.List.{ext_get_or, get_or-append_right, get_or-map, get_or-take, get_or_append_left, get_or_default, get_or_past, get_or_push, length-drop, length-map, length-take, length-take-le, length_push, map-append, map_more, same_lists, take-append-drop, take-append-le, take-take, take_more}
pub use Rattle.std.proofs.lemmas.List.Concat.{flat_map-cons}
pub use Rattle.std.proofs.lemmas.List.Elements.{All-append, All-cons, All-head, All-nil, All-tail}
pub use Rattle.std.proofs.lemmas.List.Folds.{find-append, list_any-append}
pub use Rattle.std.proofs.lemmas.List.FromFn.{get_or-map-range_with_len, length-map-range_with_len}
pub use Rattle.std.proofs.lemmas.List.Sorted.{list_any-IsPermutation}
pub use Rattle.std.proofs.lemmas.Map.Made.{length-le_from_is_member}
pub use Rattle.std.proofs.lemmas.Nat.{mul-add-lt, one_shl, pow-add}
pub use Rattle.std.proofs.lemmas.Nat.Bits.{bit_at-lt, bit_at-trailing_zeros, bit_at_above, bit_at_cat_high, bit_at_cat_low, bit_at_not, bit_at_ones, bit_at_ones_above, same_from_bits_below, shr_and_one}
pub use Rattle.std.specs.Cmp.{IsEquivalence, IsTotalOrder, bool_cmp_total}
pub use Rattle.std.specs.Cmp.Lexicographic.{lists_total, slice_cmp}
pub use Rattle.std.specs.FinMap.{IsAntisymmetric, slice_cmp-IsAntisymmetric}
pub use Rattle.std.specs.Int.{bit_at, trailing_zeros, w64}
pub use Rattle.std.specs.List.{All, AllByRecursion, find, flat_map, list_all, list_any, range_with_len}
pub use Rattle.std.specs.List.Sorted.{IsPermutation}
pub use Rattle.std.specs.Option.{option_map, option_or}
pub use Rattle.std.specs.Ordering.{bool_cmp, eq_by_cmp}
pub use Rattle.std.specs.Prelude.{IfOk, IsErrAnd, OnErr, OnOk}
pub use Rattle.std.specs.Set.{is_member}
pub use Rattle.ncl_base.proofs.Members.{Member, Member-append_cases, Member-append_left, Member-append_right, Member-map, here, member_cases, there}
pub use Rattle.ncl_base.proofs.Tests.{or-assoc, same_from_both}
pub use Rattle.ncl_gates.proofs.BitLaws.{is_set-and}
pub use Rattle.ncl_gates.proofs.GateLaws.{set_of-low}
pub use Rattle.ncl_gates.specs.Bits.{is_set}
pub use Rattle.ncl_gates.specs.Gate.{A, B, C, D, Pin, at_pin, products, set_of, some_high}
pub use Rattle.ncl_gates.specs.declared.kind.Kind.{Kind}
pub use Rattle.ncl_space.specs.Beads.{Beads, bead_count, beads_of, distinct_beads, high_half, is_bead, is_same, low_half}
pub use Rattle.ncl_space.specs.Bits.{word_of}
pub use Rattle.ncl_space.specs.Bounds.{Agree, IsMarked, LooksAt, Marked, is_free, small_tables, weight, weights, width_of}
pub use Rattle.ncl_space.specs.Functions.{at, constant_table, gate_table, is_value, least, rail_table}
pub use Rattle.ncl_space.specs.Making.{HaveTables, IsNamed, MakesAll}
pub use Rattle.ncl_space.specs.Plain.{AreTables, EndsAt, Holds, IsFirst, IsRow, PlainData, plain_space, row_table, stride_of, table_at, tables_in, value_in}
pub use Rattle.ncl_space.specs.Space.{Adds, IsLive, IsSpace, Keeps, Makes, MarksNow, Releases, SpaceData, Within, fits, is_within, with_tables}
pub use Rattle.ncl_space.specs.Table.{table_of, word_number, words}
pub use Rattle.ncl_space.specs.declared.space.Mark.{Mark}
pub use Rattle.ncl_space.specs.declared.space.Ref.{Ref}
pub use Rattle.ncl_space.specs.declared.space.SpaceFault.{SpaceFault}
pub use Rattle.ncl_space.specs.declared.space.SpaceFault.TheVariants.{Full}
pub use Rattle.ncl_space.specs.declared.values.TheConstants.{MASKS}
