-- What the proofs of this crate take from the library, the crates below and its own definitions, passed on.
pub use Rattle.std.proofs.Common.{Bool, Err, List, None, Option, Some, [], ap, arith, below_more, false, get_or, length, map, rules, subst, sym, true, ℕ, ◌++◌, ◌<◌, ◌∙◌, ◌∷◌, ◌≡◌, ◌≤◌}
pub use Rattle.std.proofs.lemmas.List.{get_or-map, length-map}
pub use Rattle.std.proofs.lemmas.List.Elements.{All-append}
pub use Rattle.std.specs.Option.{option_map}
pub use Rattle.std.specs.Prelude.{All, option_and_then}
pub use Rattle.ncl_complete.specs.RailFaults.{first_rail_fault_by, found_fault_by, rail_fault}
pub use Rattle.ncl_complete.specs.declared.rail_fault.RailFault.{RailFault}
pub use Rattle.ncl_faults.specs.Faults.{BothRails, Incomplete, NoRail, has_data, is_illegal}
pub use Rattle.ncl_faults.specs.Values.{val}
pub use Rattle.ncl_faults.specs.declared.variant.Variant.TheVariants.{Base, Bit}
pub use Rattle.ncl_gates.specs.declared.kind.Kind.TheVariants.{Th12, Th22}
pub use Rattle.ncl_shape.specs.Stage.{IsStage, StageData, nets_of}
pub use Rattle.ncl_shape.specs.declared.rails.Rails.{Rails}
pub use Rattle.ncl_space.proofs.MakingLaws.{handed_on, have-at, have-kept, have-length, held-along, named-all, tables-kept, too_much-after, with_tables-live}
pub use Rattle.ncl_space.proofs.SpaceLaws.{keeps_all, keeps_along, too_much_by_front}
pub use Rattle.ncl_space.specs.Functions.{least}
pub use Rattle.ncl_space.specs.Making.{HaveTables, IsNamed, MakesAll}
pub use Rattle.ncl_space.specs.Space.{IsSpace, Keeps, SpaceData, fits, with_tables}
pub use Rattle.ncl_space.specs.Table.{table_of}
pub use Rattle.ncl_space.specs.declared.space.Ref.{Ref}
pub use Rattle.ncl_stage.proofs.ChangedLaws.{values-width}
pub use Rattle.ncl_stage.proofs.LeastLaws.{both-shown, first_below-none, first_below-some, incomplete-shown, least-hidden, least-shown, none-shown, outputs-grouped, tables_of-parts}
pub use Rattle.ncl_stage.proofs.OutputLaws.{data-tables, front-tables, illegal-tables, outputs-within, shared-tables, values_at}
pub use Rattle.ncl_stage.specs.BitOrder.{IsOrderOf, placed, words_by}
pub use Rattle.ncl_stage.specs.LeastWords.{below, first_of, least_word_by}
pub use Rattle.ncl_stage.specs.StageTables.{AreValues, ValuesData, front_tables, net_table_by, net_tables_by, pair_table}
pub use Rattle.ncl_stage.specs.Tables.{all_data_function, data_fronts, data_functions, function_tables_by, illegal_functions, tables_by}
pub use Rattle.ncl_stage.specs.Wiring.{WiringData}
