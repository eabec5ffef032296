-- What the proofs of this crate take from the library, the crates below and its own definitions, passed on.
pub use Rattle.std.proofs.Common.{Bool, List, Some, [], arith, false, inl, inr, length, refl, subst, suc, true, zero, ℕ, ◌∷◌, ◌≡◌}
pub use Rattle.std.proofs.lemmas.List.Elements.{All-from_recursion}
pub use Rattle.std.proofs.lemmas.Option.{same_Some}
pub use Rattle.std.specs.Prelude.{All, codes, slice_get}
pub use Rattle.ncl_assembly.proofs.AssembledShape.{Shape-from_assembled}
pub use Rattle.ncl_assembly.proofs.WrittenBanks.{bank_of_one, bank_of_two, numbered_one, numbered_two, one_bit_shape, one_bit_stage, one_wired, two_wired, wired, wired_bit}
pub use Rattle.ncl_assembly.specs.Assembled.{HasGate, IsWiredBank, IsWiredStage, WiredBank, WiredBit}
pub use Rattle.ncl_base.proofs.Members.{All-from_members, member_cases}
pub use Rattle.ncl_faults.proofs.StageTest.{IsStage-from_test, is_stage}
pub use Rattle.ncl_faults.specs.Examples.{stage}
pub use Rattle.ncl_faults.specs.Faults.{BothRails, Incomplete, IsSound, NoRail, Orphan, StageFault, shows}
pub use Rattle.ncl_faulty.specs.Examples.{differing, doubling, eager_netlist, eager_stage, gate_netlist, gate_stage, twins, twins_netlist, with_both_rails, with_dead_rail, with_eager_and, with_gate, with_orphan}
pub use Rattle.ncl_gates.specs.declared.cell_kind.CellKind.TheVariants.{Gate}
pub use Rattle.ncl_gates.specs.declared.kind.Kind.{Kind}
pub use Rattle.ncl_gates.specs.declared.kind.Kind.TheVariants.{Th12, Th22}
pub use Rattle.ncl_hazard.specs.Trying.{HasNoDataBank}
pub use Rattle.ncl_hazard.specs.Why.{brings}
pub use Rattle.ncl_insensitivity.proofs.ByComputation.{condition_of-other, other_faults}
pub use Rattle.ncl_insensitivity.proofs.Headline.{delay_insensitive}
pub use Rattle.ncl_insensitivity.proofs.WiresSound.{wires_sound}
pub use Rattle.ncl_insensitivity.proofs.WrittenNetlists.{netlist_from_tests}
pub use Rattle.ncl_machine.specs.DelayInsensitive.{IsDelayInsensitive}
pub use Rattle.ncl_machine.specs.SoundAt.{IsSoundAt}
pub use Rattle.ncl_netlist.specs.Netlist.{IsNetlist}
pub use Rattle.ncl_refusal.proofs.Converse.{refused-wrong, wrong-insensitive}
pub use Rattle.ncl_refusal.proofs.Exact.{reached-insensitive}
pub use Rattle.ncl_refusal.specs.Reached.{GoesWrong, IsSoundWhereReached}
pub use Rattle.ncl_shape.specs.Examples.{bit, cell, net_id, rails, wires, wires_pipeline}
pub use Rattle.ncl_shape.specs.Pipeline.{PipelineData}
pub use Rattle.ncl_shape.specs.Shape.{Shape}
pub use Rattle.ncl_shape.specs.Stage.{StageData}
pub use Rattle.ncl_verdict.proofs.Computed.{judgement-computes}
