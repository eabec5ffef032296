-- What the proofs of this crate take from the library, the crates below and its own definitions, passed on.
pub use Rattle.std.proofs.Common.{Bool, Err, IfOk, IsFalse, IsTrue, List, None, Ok, OnOk, Option, Result, Some, [], ap, append_assoc, arith, false, map, refl, rules, subst, sym, ℕ, ◌++◌, ◌∙◌, ◌∷◌, ◌≡◌, ◌≤◌}
pub use Rattle.std.proofs.lemmas.List.{append-nil}
pub use Rattle.std.proofs.lemmas.Result.{IfOk-weaker}
pub use Rattle.ncl_base.proofs.Members.{All-from_members}
pub use Rattle.ncl_base.proofs.Places.{no_entry}
pub use Rattle.ncl_base.specs.Files.{Files, Grew, bytes_of}
pub use Rattle.ncl_base.specs.declared.memory.Memory.{Memory}
pub use Rattle.ncl_check.proofs.Refusing.{shapeless_told}
pub use Rattle.ncl_check.proofs.Replying.{pipeline_text, refused_reply}
pub use Rattle.ncl_check.specs.Headline.{IsDelayInsensitiveText}
pub use Rattle.ncl_check.specs.Text.{IsPipelineText, too_long}
pub use Rattle.ncl_check.specs.declared.reply.Outcome.{Outcome}
pub use Rattle.ncl_check.specs.declared.reply.Outcome.TheVariants.{Accepted, Refused, Unjudged}
pub use Rattle.ncl_check.specs.declared.reply.Reply.{Reply}
pub use Rattle.ncl_command.specs.Command.{Arguments, check, command_of}
pub use Rattle.ncl_faults.specs.Faults.{StageFault}
pub use Rattle.ncl_hazard.specs.Trying.{HasNoDataBank}
pub use Rattle.ncl_insensitivity.proofs.Headline.{delay_insensitive}
pub use Rattle.ncl_lines.proofs.NamedPlaces.{names_below}
pub use Rattle.ncl_lines.proofs.WrittenSteps.{run-in_range}
pub use Rattle.ncl_lines.specs.VerdictText.{NamesCellOf}
pub use Rattle.ncl_lines.specs.WhyText.{step_lines}
pub use Rattle.ncl_machine.proofs.EnabledItems.{item_in_range}
pub use Rattle.ncl_machine.specs.DelayInsensitive.{IsDelayInsensitive}
pub use Rattle.ncl_machine.specs.Run.{after}
pub use Rattle.ncl_machine.specs.State.{reset}
pub use Rattle.ncl_netlist.specs.declared.ids.CellId.{CellId}
pub use Rattle.ncl_reach_top.specs.Answered.{Asks, IsReachAnswered, IsReachedFile, SaysReached, no_memory, not_understood, read_failed, replied}
pub use Rattle.ncl_reach_top.specs.Reply.{IsPipelineReply, IsReachReply, IsWrongFor, IsWrongForInput, NamesItemsOf, end_line, held, line_on, never, past, refused, run_lines, shown, sound, with_input}
pub use Rattle.ncl_reaching.proofs.ReachingLaws.{shown-sensitive}
pub use Rattle.ncl_reaching.specs.Answers.{GoesWrongBy, IsShown}
pub use Rattle.ncl_reaching.specs.declared.breaking.WrongRun.{WrongRun}
pub use Rattle.ncl_refusal.proofs.Exact.{reached-insensitive}
pub use Rattle.ncl_refusal.specs.Breaks.{BreaksBy, gate_loses, illegal_output, register_loses, stop_while_full}
pub use Rattle.ncl_reply.proofs.Refusals.{Replies-long}
pub use Rattle.ncl_reply.proofs.Statuses.{accepted_by_status, refused_by_status}
pub use Rattle.ncl_reply.specs.Devices.{CameOut, SinkState, SourceState, cut_short, whole}
pub use Rattle.ncl_reply.specs.Replies.{Gives, Refuses}
pub use Rattle.ncl_reply.specs.declared.reply.Reply.TheVariants.{Fixed, Made}
pub use Rattle.ncl_shape.specs.Pipeline.{PipelineData}
pub use Rattle.ncl_shape.specs.Shape.{Shape}
pub use Rattle.ncl_shape.specs.Stage.{StageData}
pub use Rattle.ncl_shape.specs.declared.item.Item.{Item}
pub use Rattle.ncl_shape.specs.declared.item.Item.TheVariants.{Cell as Fire}
pub use Rattle.ncl_verdict.proofs.NamedCell.{names_of_fault}
pub use Rattle.ncl_verdict.proofs.Sound.{judgement-sound}
pub use Rattle.ncl_verdict.specs.declared.verdict.Verdict.{Verdict}
