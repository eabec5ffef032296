-- What the proofs of this crate take from the library, the crates below and its own definitions, passed on.
pub use Rattle.std.proofs.Common.{All, Bool, IfSome, IsTrue, List, None, Option, Some, [], ap, append_assoc, arith, cond, drop, eqb, false, get_or, inl, inr, is_some, length, length-append, length-drop, map, nat_eq, not, option_map, refl, replicate, rules, set, subst, suc, sum_by, sym, take, true, vec_len, zero, ℕ, ◌++◌, ◌+◌, ◌-◌, ◌<◌, ◌||◌, ◌∙◌, ◌∷◌, ◌≡◌, ◌≢◌, ◌≤◌, ◌⊎◌}
pub use Rattle.std.proofs.Math.Seq.{drop-append_seam, take-add}
pub use Rattle.std.proofs.lemmas.Bool.{and_parts, both_ways, cases_Bool, cases_eq, cases_lt, cond-false, cond-true, cond_both, eqb-true, false≢true, ne_eqb, or_cases, or_left, or_parts, or_right}
pub use Rattle.std.proofs.lemmas.Bool.Decides.{Decides-eqb}
pub use Rattle.std.proofs.lemmas.Grind.{common_steps}
pub use Rattle.std.proofs.lemmas.List.{append-nil, drop_more, get_or-set_other, get_or-set_same, get_or_append_left, get_or_push, length-set, length-take-le, length_push, map_more, map_push, take-append-drop, take_all, take_more}
pub use Rattle.std.proofs.lemmas.List.Elements.{All-append, All-cons, All-contains, All-head, All-nil, All-push, All-tail, Contains-append_left, filter_map-append}
pub use Rattle.std.proofs.lemmas.List.Kept.{AllPairs-cons}
pub use Rattle.std.proofs.lemmas.List.Sorted.{Contains-permutation, IsPermutation-cons, IsPermutation-refl, IsPermutation-remove, IsPermutation-trans, length_permutation}
pub use Rattle.std.proofs.lemmas.List.Sums.{sum_by-cons}
pub use Rattle.std.proofs.lemmas.Map.Made.{IsDistinct-from_AllPairs, is_member-Decides}
pub use Rattle.std.proofs.lemmas.Map.Steps.{le-length_from_below, length-le_from_distinct_below}
pub use Rattle.std.proofs.lemmas.Option.{get_or_from_slice_get, same_Some, slice_get-get_or, slice_get-map, slice_get_within}
pub use Rattle.std.specs.List.{AllByRecursion, AllZip, cons_option, filter_map, find, flat_map, join_with_byte, list_all, list_any, position_from, position_or_len, range_with_len, remove}
pub use Rattle.std.specs.List.Sorted.{IsPermutation}
pub use Rattle.std.specs.Option.{option_or}
pub use Rattle.std.specs.Prelude.{AllPairs, Contains, count_by, filter, slice_get, ◌↔◌}
pub use Rattle.std.specs.Set.{is_member}
pub use Rattle.std.specs.Str.{bytes_eq}
pub use Rattle.ncl_base.specs.Files.{Files, Grew, GrewWithin, bytes_of, raised}
pub use Rattle.ncl_base.specs.Held.{bytes_at, files_of, has_file}
pub use Rattle.ncl_base.specs.Members.{Member, here, there}
pub use Rattle.ncl_base.specs.ListTables.{Grows, items_at, put_into}
pub use Rattle.ncl_base.specs.Words.{character_of, text_of}
pub use Rattle.ncl_base.specs.declared.mem_file.MemFile.{MemFile}
pub use Rattle.ncl_base.specs.declared.source.TheConstants.{MOST_BYTES}
