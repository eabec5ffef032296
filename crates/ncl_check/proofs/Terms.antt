-- What the proofs of this crate take from the library, the crates below and its own definitions, passed on.
pub use Rattle.std.proofs.Common.{Bool, Err, IfOk, List, Ok, Result, Some, [], ap, arith, false, inl, inr, length, refl, subst, sym, true, ℕ, ◌++◌, ◌+◌, ◌-◌, ◌<◌, ◌∙◌, ◌≡◌, ◌≢◌, ◌≤◌}
pub use Rattle.std.proofs.lemmas.List.{append-nil}
pub use Rattle.std.proofs.lemmas.Option.{slice_get_within}
pub use Rattle.std.proofs.lemmas.Result.{IfOk-weaker}
pub use Rattle.std.specs.Prelude.{All, codes, slice_get}
pub use Rattle.ncl_base.proofs.Members.{All-from_members, Contains-from_Member, slice_get-from_Contains, slice_get-some}
pub use Rattle.ncl_base.specs.declared.memory.Memory.{Memory}
pub use Rattle.ncl_base.specs.declared.source.TheConstants.{MOST_BYTES}
pub use Rattle.ncl_check.specs.Headline.{IsDelayInsensitiveText}
pub use Rattle.ncl_check.specs.Refusal.{IsWrongText}
pub use Rattle.ncl_check.specs.Refusals.{TellsLine}
pub use Rattle.ncl_check.specs.Reply.{IsCheckReply, IsVerdictText, judged, outcome_of, refused, verdict_on, verdict_text}
pub use Rattle.ncl_check.specs.Text.{IsNetlistText, IsPipelineText, IsRefusedText, IsShapeless, shapeless, too_long, unbuilt, unread}
pub use Rattle.ncl_check.specs.declared.reply.Outcome.{Outcome}
pub use Rattle.ncl_check.specs.declared.reply.Outcome.TheVariants.{Accepted, NoPipeline, Refused}
pub use Rattle.ncl_check.specs.declared.reply.Reply.{Reply}
pub use Rattle.ncl_check.specs.declared.text.Refusal.{Refusal}
pub use Rattle.ncl_hazard.proofs.OrphanPlaces.{judged-orphan}
pub use Rattle.ncl_insensitivity.proofs.Headline.{delay_insensitive}
pub use Rattle.ncl_lines.proofs.NamedPlaces.{names_cell_of, names_place_of}
pub use Rattle.ncl_lines.proofs.WrittenSteps.{names_items}
pub use Rattle.ncl_lines.specs.Line.{line}
pub use Rattle.ncl_lines.specs.NetText.{net_line}
pub use Rattle.ncl_lines.specs.ShapeText.{shape_line}
pub use Rattle.ncl_lines.specs.VerdictText.{NamesCellOf, verdict_line}
pub use Rattle.ncl_lines.specs.WhyText.{IsOrphanText, IsWhyText, data_banks, explained, past_limit}
pub use Rattle.ncl_machine.specs.DelayInsensitive.{IsDelayInsensitive}
pub use Rattle.ncl_netlist.proofs.FaultLaws.{IsFaultOf-excludes, IsFaultOf-unique}
pub use Rattle.ncl_netlist.specs.Faults.{IsFaultOf}
pub use Rattle.ncl_netlist.specs.Netlist.{IsNetlist, NetlistData}
pub use Rattle.ncl_netlist.specs.Parts.{netlist_of}
pub use Rattle.ncl_netlist.specs.declared.build_fault.BuildFault.{BuildFault}
pub use Rattle.ncl_netlist.specs.declared.parts.Parts.{Parts}
pub use Rattle.ncl_reader.proofs.OneAnswer.{fault_once, never_both, parts_once}
pub use Rattle.ncl_reader.specs.Reads.{IsNetFault, Reads}
pub use Rattle.ncl_reader.specs.declared.net_fault.NetFault.{NetFault}
pub use Rattle.ncl_reader.specs.declared.net_fault.NetFault.TheVariants.{Build, Memory as OutOfMemory}
pub use Rattle.ncl_refusal.proofs.TellsLaws.{first-sensitive, refused-at, told-sensitive}
pub use Rattle.ncl_refusal.specs.Told.{Tells, both_rails, incomplete, no_rail, orphan}
pub use Rattle.ncl_shape.proofs.FaultLaws.{first_broken_is_one, shape_is_unbroken}
pub use Rattle.ncl_shape.proofs.ShapeLaws.{shape_is_one}
pub use Rattle.ncl_shape.specs.Pipeline.{PipelineData}
pub use Rattle.ncl_shape.specs.SamePipeline.{IsSamePipeline}
pub use Rattle.ncl_shape.specs.Shape.{IsShapeFault, Shape}
pub use Rattle.ncl_shape.specs.Stage.{IsStage, StageData}
pub use Rattle.ncl_shape.specs.declared.fault.ShapeFault.{ShapeFault}
pub use Rattle.ncl_shape.specs.declared.fault.ShapeFault.TheVariants.{CellRule, NoChain, TooLong, TooWide}
pub use Rattle.ncl_verdict.proofs.SameJudgement.{same_judgement}
pub use Rattle.ncl_verdict.proofs.Sound.{judgement-sound}
pub use Rattle.ncl_verdict.specs.declared.verdict.Verdict.{Verdict}
