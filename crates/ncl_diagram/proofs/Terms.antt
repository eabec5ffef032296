-- What the proofs of this crate take from the library, the crates below and its own definitions, passed on.
pub use Rattle.std.proofs.Common.{Bool, IsTrue, List, None, Option, Some, [], ap, append-nil, append_assoc, arith, cond, false, get_or, if◌then◌else◌, inl, inr, length, length-append, map, min, nat_eq, nat_le, nat_lt, not, refl, replicate, set, slice_get, slice_index_or, subst, suc, sym, take, true, zero, ℕ, ◌%◌, ◌&&◌, ◌*◌, ◌++◌, ◌+◌, ◌-◌, ◌/◌, ◌<◌, ◌^◌, ◌||◌, ◌∙◌, ◌∷◌, ◌≡◌, ◌≢◌, ◌≤◌, ◌⊎◌}
pub use Rattle.std.proofs.Math.Nat.{mul-one, mul_assoc}
pub use Rattle.std.proofs.lemmas.Bool.{and_parts, cases_lt, lt-ltb, ltb-true, or_parts}
pub use Rattle.std.proofs.lemmas.Bool.Decides.{nat_tests}
pub use Rattle.std.proofs.lemmas.Cmp.{and_equiv, nat_eq_equiv, on_equiv}
pub use Rattle.std.proofs.lemmas.Grind.{common_steps}
pub use Rattle.std.proofs.lemmas.List.{get_or-set_same, length-map, length-take-le, length_push}
pub use Rattle.std.proofs.lemmas.List.Folds.{list_any-append}
pub use Rattle.std.proofs.lemmas.List.Quantifiers.{position-Some}
pub use Rattle.std.proofs.lemmas.Map.Keys.{IsDistinct-push}
pub use Rattle.std.proofs.lemmas.Map.Made.{length-le_from_is_member}
pub use Rattle.std.proofs.lemmas.Nat.{and_le_r, and_mask, mul-le, or_shifted, shr_split}
pub use Rattle.std.proofs.lemmas.Option.{slice_get-get_or, slice_get_cases, slice_get_within}
pub use Rattle.std.specs.Cmp.{IsEquivalence}
pub use Rattle.std.specs.Cmp.Lexicographic.{slice_cmp}
pub use Rattle.std.specs.List.{All, IsDistinct, find, flat_map, list_all, list_any}
pub use Rattle.std.specs.Option.{option_map, option_or}
pub use Rattle.std.specs.Ordering.{bool_cmp, eq_by_cmp}
pub use Rattle.std.specs.Prelude.{Err, IfOk, IsErrAnd, IsErrOf, Ok, OnErr, OnOk, Result, bit_and, ⊤}
pub use Rattle.ncl_base.proofs.Places.{push_cases, slice_get-end, slice_get-kept}
pub use Rattle.ncl_base.proofs.Tests.{option_or-none, same_from_both}
pub use Rattle.ncl_diagram.specs.Diagram.{Applies, DiagramData, IsDiagram, diagram_space}
pub use Rattle.ncl_diagram.specs.Finding.{AddsBeads, HasNoRoom, IsAnswer, IsBeadOf, Joins, Lacks, Leads}
pub use Rattle.ncl_diagram.specs.Holding.{Held, HoldsOnly, HoldsWith, IsTooMuch, beads_from, held_of}
pub use Rattle.ncl_diagram.specs.Kept.{AreKept, AreLeft, Has, HasMore, HasNone, HasSlots, IsAnswerKept, is_below}
pub use Rattle.ncl_diagram.specs.Keys.{ArePut, AreWithin, EndsAt, IsFree, IsTable, KeepsTaken, hash_of, home_of, next, past}
pub use Rattle.ncl_diagram.specs.Leaves.{Leaves}
pub use Rattle.ncl_diagram.specs.Memo.{AreAnswers, AreLarger, IsKeyPut, KeepsKeys, MayAdd, Settles, is_key, places, size_of}
pub use Rattle.ncl_diagram.specs.Nodes.{Grown, IsCanonical, bead_of, bit_or, branch, child, constant_place, is_node, level_of, node_at, table_from}
pub use Rattle.ncl_diagram.specs.Operands.{Above, IsFilled, IsStop, Least, There, gate_from, only_one}
pub use Rattle.ncl_diagram.specs.Running.{Finds, FindsFull, IsSound, MayRun, Runs}
pub use Rattle.ncl_diagram.specs.Slot.{AreWords, Entry, are_below, below_answer, entry_at, first_of, first_word, second_word}
pub use Rattle.ncl_diagram.specs.Steps.{AddsKeys, Reaches, ReachesKey, along, here, operand_bound, product, reach_of}
pub use Rattle.ncl_diagram.specs.declared.answers.Answers.{Answers}
pub use Rattle.ncl_diagram.specs.declared.keys.Bucket.{Bucket}
pub use Rattle.ncl_diagram.specs.declared.keys.End.{End}
pub use Rattle.ncl_diagram.specs.declared.keys.End.TheVariants.{Found, Free}
pub use Rattle.ncl_diagram.specs.declared.memo.Key.{Key}
pub use Rattle.ncl_diagram.specs.declared.memo.Memo.{Memo}
pub use Rattle.ncl_diagram.specs.declared.nodes.Node.{Node}
pub use Rattle.ncl_diagram.specs.declared.operation.Engine.{Engine}
pub use Rattle.ncl_diagram.specs.declared.operation.Operation.{Operation}
pub use Rattle.ncl_diagram.specs.declared.slot.TheConstants.{MOST_PLACES}
pub use Rattle.ncl_gates.proofs.BitLaws.{is_set-masked, is_set-masked_off}
pub use Rattle.ncl_gates.proofs.GateLaws.{set_of-monotone}
pub use Rattle.ncl_gates.specs.Gate.{Pin, place_of, products, set_of}
pub use Rattle.ncl_gates.specs.GateLaw.{IsBelow}
pub use Rattle.ncl_gates.specs.contracts.kind.Kind.{the_type}
pub use Rattle.ncl_gates.specs.declared.kind.Kind.{Kind}
pub use Rattle.ncl_gates.specs.declared.kind.Kind.TheVariants.{Th12}
pub use Rattle.ncl_space.proofs.BeadLaws.{contains-distinct_beads, distinct_count, len-from_list, one_set, one_table, table_order, table_ties}
pub use Rattle.ncl_space.proofs.BoundLaws.{is_same_only}
pub use Rattle.ncl_space.proofs.CountedMarks.{CountsMarks, from_nat_le, from_nat_lt, nat_le-from, nat_lt-from, releases_to}
pub use Rattle.ncl_space.proofs.SpaceLaws.{len_grows}
pub use Rattle.ncl_space.proofs.TableLaws.{at-high, at-low, at_table, find-same, find-words, high_half-append, is_same-self, length-table_of, low_half-append, pow_suc, table_of-halves, table_of-same}
pub use Rattle.ncl_space.specs.Beads.{Beads, bead_count, beads_of, distinct_beads, is_bead, is_same}
pub use Rattle.ncl_space.specs.Functions.{at, constant_table, gate_table, is_value, least, rail_table}
pub use Rattle.ncl_space.specs.Space.{Adds, IsLive, IsNew, IsSpace, Keeps, Makes, Releases, SpaceData, Within, fits}
pub use Rattle.ncl_space.specs.Table.{table_of, words}
pub use Rattle.ncl_space.specs.declared.space.Mark.{Mark}
pub use Rattle.ncl_space.specs.declared.space.Ref.{Ref}
pub use Rattle.ncl_space.specs.declared.space.SpaceFault.{SpaceFault}
pub use Rattle.ncl_space.specs.declared.space.SpaceFault.TheVariants.{Full}
pub use denote.Enum.Declared.{tag_of}
