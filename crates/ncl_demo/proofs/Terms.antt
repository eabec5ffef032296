-- What the proofs of this crate take from the library, the crates below and its own definitions, passed on.
pub use Rattle.std.proofs.Common.{Bool, List, Ok, [], ap, arith, codes, cond, decimal, drop, eqb, false, get_or, inl, inr, length, ltb, map, min, nat_eq, refl, subst, suc, sym, take, true, zero, ℕ, ⊎_elim, ◌%◌, ◌*◌, ◌++◌, ◌+◌, ◌-◌, ◌/◌, ◌<◌, ◌==◌, ◌^◌, ◌∙◌, ◌∷◌, ◌≡◌, ◌≢◌, ◌≤◌, ◌⊎◌}
pub use Rattle.std.proofs.lemmas.Bool.{cases_lt, eq-eqb, le-ltb, lt-ltb, ne_eqb}
pub use Rattle.std.proofs.lemmas.Iterator.{YieldsList-from_range, items_from_collect}
pub use Rattle.std.proofs.lemmas.List.{append-nil, append_assoc, drop-drop, drop_at, get_or-append-add, get_or-drop, get_or-take, get_or_append_left, get_or_at, get_or_push, length-append, length-drop, length-take-le, length_push, map-append, take_all, take_at}
pub use Rattle.std.proofs.lemmas.List.Concat.{flat_map-append}
pub use Rattle.std.proofs.lemmas.List.Elements.{All-append, All-cons, All-contains, All-from_recursion, All-push, All-weaker}
pub use Rattle.std.proofs.lemmas.List.FromFn.{get_or-range_with_len, length-map-range_with_len, length-range_with_len, map-range_with_len_more}
pub use Rattle.std.proofs.lemmas.List.Sums.{sum_by-cons, sum_by-le}
pub use Rattle.std.proofs.lemmas.Map.Keys.{IsDistinct-from_apart}
pub use Rattle.std.proofs.lemmas.Nat.{shr-shr, shr_below}
pub use Rattle.std.specs.List.{HoldsAt, IsDistinct, flat_map, range_with_len}
pub use Rattle.std.specs.Prelude.{All, Contains, sum, sum_by}
pub use Rattle.std.specs.declared.alloc.AllocError.{AllocError}
pub use Rattle.ncl_base.proofs.Ranges.{range_with_len-more}
pub use Rattle.ncl_blif.proofs.Fitting.{map-agree_on, map-range}
pub use Rattle.ncl_blif.specs.Meaning.{Computes, Gives, cover_value}
pub use Rattle.ncl_blif.specs.Model.{AreJoined, AreModels, Depends, IsModel, reads, signals_of, size_of_model, through, weight_of_rows}
pub use Rattle.ncl_blif.specs.declared.model.Cover.{Cover}
pub use Rattle.ncl_blif.specs.declared.model.Lit.{Lit}
pub use Rattle.ncl_blif.specs.declared.model.Model.{Model}
pub use Rattle.ncl_network.specs.Size.{CanBeCompiled, widths_of}
pub use Rattle.ncl_demo.specs.Adder.{IsAdder, IsStage}
pub use Rattle.ncl_demo.specs.Adding.{bit_value, bits_in, carry_of, ones_of, stage_answer, sum_of}
pub use Rattle.ncl_demo.specs.Covers.{covers_of}
pub use Rattle.ncl_demo.specs.Offered.{bit_of, carry_and_sums, demo_word, in_turn}
pub use Rattle.ncl_demo.specs.declared.covers.TheConstants.{FULL_CARRY, FULL_SUM, HALF_CARRY, HALF_SUM}
pub use Rattle.ncl_network.specs.Network.{weight_of_model}
