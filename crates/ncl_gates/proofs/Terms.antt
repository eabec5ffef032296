-- What the proofs of this crate take from the library, the crates below and its own definitions, passed on.
pub use Rattle.std.proofs.Common.{All, Bool, IfNone, IfSome, List, None, Option, Some, [], ap, arith, bit_and, codes, cond, false, get_or, if◌then◌else◌, inl, inr, length, ltb, map, max, min, nat_eq, not, refl, slice_index_or, subst, suc, sym, take, true, zero, ℕ, ◌&&◌, ◌*◌, ◌++◌, ◌+◌, ◌<◌, ◌^◌, ◌||◌, ◌∙◌, ◌∷◌, ◌≡◌, ◌≢◌, ◌≤◌, ◌⊎◌}
pub use Rattle.std.proofs.lemmas.Bool.{and_from, and_left, and_parts, both_ways, eq-eqb, ltb-true, ne_eqb, or_cases, or_left, or_parts, or_right}
pub use Rattle.std.proofs.lemmas.List.Elements.{All-from_recursion}
pub use Rattle.std.proofs.lemmas.List.Folds.{list_any_at, list_any_none}
pub use Rattle.std.proofs.lemmas.List.Sums.{AllPass-from_list_all, list_all-from_AllPass}
pub use Rattle.std.proofs.lemmas.Nat.{pow_pos}
pub use Rattle.std.proofs.lemmas.Nat.Bits.{and_pow, bit_at-lt, bit_at_and, bit_at_or}
pub use Rattle.std.proofs.lemmas.Slice.Eq.{bytes_eq-Decides}
pub use Rattle.std.proofs.Math.Bool.{and-true, beq, or-false}
pub use Rattle.std.specs.Cmp.{booleans_Decides}
pub use Rattle.std.specs.Int.{bit_at}
pub use Rattle.std.specs.List.{AllByRecursion, find, list_all, list_any}
pub use Rattle.std.specs.Prelude.{IsTrue, bit_or}
pub use Rattle.std.specs.Str.{bytes_eq}
pub use Rattle.ncl_gates.specs.Bits.{at_all, is_set}
pub use Rattle.ncl_gates.specs.Cell.{input_pins, is_data_register, is_register, next_of_cell, pins_of}
pub use Rattle.ncl_gates.specs.Dual.{IsDual, crossed, dual_of, dual_pins, is_crossed}
pub use Rattle.ncl_gates.specs.Gate.{A, B, C, D, Pin, arity_of, at_pin, place_of, products, set_of, some_high}
pub use Rattle.ncl_gates.specs.GateLaw.{HasHysteresis, HasProducts, IsConjunction, IsDisjunction, IsMonotone, IsProductWithin, all_high}
pub use Rattle.ncl_gates.specs.Name.{cell_name_of, is_capital_word, name_of}
pub use Rattle.ncl_gates.specs.NextWord.{IsNextWord, is_next_at, is_next_word}
pub use Rattle.ncl_gates.specs.declared.cell_kind.CellKind.{CellKind}
pub use Rattle.ncl_gates.specs.declared.cell_kind.CellKind.TheVariants.{Ack, Gate, Register, RegisterData}
pub use Rattle.ncl_gates.specs.declared.kind.Kind.{Kind}
pub use Rattle.ncl_gates.specs.declared.kind.Kind.TheVariants.{Th12, Th13, Th14, Th22, Th23, Th23w2, Th33, Th33w2, Th44}
pub use Rattle.ncl_gates.specs.declared.kind.TheConstants.{KINDS}
