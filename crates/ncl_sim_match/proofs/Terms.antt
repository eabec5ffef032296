-- What the proofs of this crate take from the library, the crates below and its own definitions, passed on.
pub use Rattle.std.proofs.Common.{Bool, Err, List, None, Ok, Option, Result, Some, [], ap, arith, false, if◌then◌else◌, inl, inr, length, map, refl, subst, sym, true, ℕ, ◌+◌, ◌<◌, ◌==◌, ◌∙◌, ◌∷◌, ◌≡◌, ◌≢◌, ◌≤◌, ◌⊎◌}
pub use Rattle.std.proofs.lemmas.Bool.Decides.{nat_tests}
pub use Rattle.std.proofs.lemmas.List.{length-map}
pub use Rattle.std.specs.List.{AllByRecursion, list_all}
pub use Rattle.std.specs.Prelude.{IsErrAnd, codes, nat_lt}
pub use Rattle.ncl_base.proofs.Tests.{option_or-none}
pub use Rattle.ncl_base.specs.Files.{Files}
pub use Rattle.ncl_base.specs.TextLines.{NumberedText}
pub use Rattle.ncl_base.specs.Words.{character_of, text_of}
pub use Rattle.ncl_base.specs.declared.source.TheConstants.{MOST_BYTES}
pub use Rattle.ncl_base.specs.declared.word.TheConstants.{MOST_BITS}
pub use Rattle.ncl_blif.proofs.AnswerLaws.{one_refusal, read_is_not_refused}
pub use Rattle.ncl_blif.specs.Answer.{IsRefused}
pub use Rattle.ncl_blif.specs.declared.fault.BlifFault.TheVariants.{Memory, Memory as OutOfMemory}
pub use Rattle.ncl_blif.specs.declared.fault.BlifFault.{BlifFault}
pub use Rattle.ncl_blif.specs.declared.model.Model.{Model}
pub use Rattle.ncl_cell_roles.proofs.LaidOut.{laid_out_of}
pub use Rattle.ncl_check.proofs.OneReply.{one_pipeline, refused_is_none, refused_once}
pub use Rattle.ncl_check.proofs.Refusing.{TellsLine-weaker}
pub use Rattle.ncl_check.proofs.Replying.{pipeline_text}
pub use Rattle.ncl_check.specs.Refusals.{TellsLine}
pub use Rattle.ncl_check.specs.Text.{IsNetlistText, IsPipelineText, IsRefusedText, IsShapeless, shapeless}
pub use Rattle.ncl_check.specs.declared.text.Refusal.{Refusal}
pub use Rattle.ncl_delay.specs.DelayText.{cell_names, fault_in}
pub use Rattle.ncl_delay.specs.Delays.{DelaysData}
pub use Rattle.ncl_delay.specs.Lines.{told_lines}
pub use Rattle.ncl_delay.specs.WordText.{is_bit, word_fault, words_fault}
pub use Rattle.ncl_delay.specs.declared.fault.DelayFault.TheVariants.{Memory as DelayMemory}
pub use Rattle.ncl_delay.specs.declared.fault.DelayFault.{DelayFault}
pub use Rattle.ncl_delay.specs.declared.fault.WordsFault.TheVariants.{Memory as WordsMemory}
pub use Rattle.ncl_delay.specs.declared.fault.WordsFault.{WordsFault}
pub use Rattle.ncl_delay.specs.declared.word_text.TheConstants.{MOST_WORDS}
pub use Rattle.ncl_lines.specs.Line.{line, out_of_memory}
pub use Rattle.ncl_machine.specs.Run.{AreWordsOf}
pub use Rattle.ncl_match.proofs.AnswerLaws.{one_whole}
pub use Rattle.ncl_match.specs.Answer.{IsAnswer}
pub use Rattle.ncl_match.specs.Circuit.{Circuit, circuit_of}
pub use Rattle.ncl_match.specs.declared.answer.CompareFault.TheVariants.{Full}
pub use Rattle.ncl_match.specs.declared.answer.CompareFault.{CompareFault}
pub use Rattle.ncl_match.specs.declared.answer.Compared.TheVariants.{Differ, Same, Widths}
pub use Rattle.ncl_match.specs.declared.answer.Compared.{Compared}
pub use Rattle.ncl_netlist.specs.Netlist.{NetlistData}
pub use Rattle.ncl_reader.proofs.GraphicNames.{graphic_names}
pub use Rattle.ncl_reader.specs.GraphicNames.{HasGraphicNames}
pub use Rattle.ncl_reply.proofs.Reading.{IsReadReply-alike, IsReadReply-refused}
pub use Rattle.ncl_reply.proofs.Refusals.{IfErr-long, Refuses-weaker, Replies-long, Replies-told}
pub use Rattle.ncl_reply.specs.Given.{ComesFrom}
pub use Rattle.ncl_reply.specs.Replies.{Gives, IsReadReply, Replies, fault_of, no_reading, reading}
pub use Rattle.ncl_reply.specs.declared.fault.Fault.{Fault}
pub use Rattle.ncl_reply.specs.declared.reply.Reply.TheVariants.{Fixed, Made}
pub use Rattle.ncl_reply.specs.declared.reply.Reply.{Reply}
pub use Rattle.ncl_report.proofs.NamedItems.{names_item}
pub use Rattle.ncl_report.specs.BlifText.{blif_line}
pub use Rattle.ncl_report.specs.DelayText.{delay_line, words_line}
pub use Rattle.ncl_report.specs.TraceText.{trace_lines}
pub use Rattle.ncl_shape.proofs.ShapeLaws.{shape_is_one}
pub use Rattle.ncl_shape.specs.Held.{data_banks}
pub use Rattle.ncl_shape.specs.Pipeline.{PipelineData}
pub use Rattle.ncl_shape.specs.SamePipeline.{IsSamePipeline}
pub use Rattle.ncl_shape.specs.Shape.{Shape}
pub use Rattle.ncl_sim.proofs.Oneness.{one_run}
pub use Rattle.ncl_sim.proofs.SameRuns.{same_runs}
pub use Rattle.ncl_sim.proofs.WordsDue.{few_due}
pub use Rattle.ncl_sim.specs.TimedRun.{IsTimedRun, TraceData, words_due}
pub use Rattle.ncl_sim_match.specs.Matching.{IsMatchReply, IsMatched, IsModelsMatched, differ_line, differs, full, limit_line, same, widths, widths_line}
pub use Rattle.ncl_sim_match.specs.ModelsText.{AreModelsText, AreRefusedModels, too_long, unread}
pub use Rattle.ncl_sim_match.specs.Simulating.{AreDelaysText, AreRefusedDelays, AreRefusedWords, AreWordsText, IsDelaysReply, IsRunReply, IsSimReply, IsWordsReply, broken_delays, broken_words, end_status, long_delays, long_words, run_status, run_text}
pub use Rattle.ncl_vcd.proofs.SameDumps.{same_dump}
