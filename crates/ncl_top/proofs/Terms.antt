-- What the proofs of this crate take from the library, the crates below and its own definitions, passed on.
pub use Rattle.std.proofs.Common.{Bool, Err, IfOk, IsTrue, List, None, Ok, Option, Some, [], ap, arith, false, get_or, inl, inr, length, map, min, not, refl, rules, subst, sym, true, ℕ, ◌*◌, ◌++◌, ◌+◌, ◌-◌, ◌<◌, ◌==◌, ◌∙◌, ◌∷◌, ◌≡◌, ◌≢◌, ◌≤◌, ◌⊎◌}
pub use Rattle.std.proofs.lemmas.Bool.Decides.{nat_tests}
pub use Rattle.std.proofs.lemmas.Bool.{and_from, and_parts, both_ways, cases_Bool, eqb-true}
pub use Rattle.std.proofs.lemmas.List.Elements.{All-contains, recursion_from_All}
pub use Rattle.std.proofs.lemmas.List.FromFn.{length-range_with_len}
pub use Rattle.std.proofs.lemmas.List.{ext_get_or, length-map}
pub use Rattle.std.proofs.lemmas.Option.{slice_get_within}
pub use Rattle.std.specs.List.{AllByRecursion, AllZip, list_all, list_any, range_with_len}
pub use Rattle.std.specs.Prelude.{All, Contains, filter, nat_eq}
pub use Rattle.ncl_base.proofs.Members.{All-from_members, Contains-from_Member, Contains-from_slice_get, Member, Member-filter, Member-from_Contains, Member-map, here, member_cases, member_from_list_any, member_of_map, recursion_from_members, slice_get-from_Contains, slice_get-some, there}
pub use Rattle.ncl_base.specs.Files.{Files, Grew, Rose, bytes_of}
pub use Rattle.ncl_blif.proofs.Composing.{computes_some}
pub use Rattle.ncl_blif.specs.Meaning.{Computes, width_of}
pub use Rattle.ncl_blif.specs.Model.{AreModels, IsModel}
pub use Rattle.ncl_blif.specs.declared.model.Model.{Model}
pub use Rattle.ncl_cell_rules.proofs.Drivers.{same_driver}
pub use Rattle.ncl_check.proofs.Accepted.{text_works}
pub use Rattle.ncl_check.proofs.OneReply.{one_verdict, outcome_is, same_reply}
pub use Rattle.ncl_check.proofs.Refusing.{shape_told}
pub use Rattle.ncl_check.proofs.Wrong.{text_wrong}
pub use Rattle.ncl_check.specs.Headline.{IsDelayInsensitiveText}
pub use Rattle.ncl_check.specs.Refusal.{IsWrongText}
pub use Rattle.ncl_check.specs.Reply.{IsCheckReply, outcome_of, refused, verdict_on}
pub use Rattle.ncl_check.specs.Text.{IsPipelineText, IsRefusedText}
pub use Rattle.ncl_check.specs.declared.reply.Outcome.TheVariants.{Accepted, NoPipeline, Refused, Unjudged}
pub use Rattle.ncl_check.specs.declared.reply.Outcome.{Outcome}
pub use Rattle.ncl_command.specs.Command.{Arguments, Command, check, command_of, compile, demo, matching, sim}
pub use Rattle.ncl_command.specs.Meaning.{command_meant}
pub use Rattle.ncl_command.specs.declared.command.TheConstants.{MOST_NODES as LIMIT, MOST_NODES}
pub use Rattle.ncl_compile.proofs.NoWordsHeld.{no_words_held}
pub use Rattle.ncl_compile.specs.Compiled.{Compiled, ComputesModel, IsPlain, net_named}
pub use Rattle.ncl_compile.specs.Ports.{names_of_rails}
pub use Rattle.ncl_compile.specs.TooLarge.{IsCompileFault}
pub use Rattle.ncl_compile.specs.declared.fault.CompileFault.TheVariants.{TooLong, TooMany, TooWide}
pub use Rattle.ncl_compile.specs.declared.fault.CompileFault.{CompileFault}
pub use Rattle.ncl_delay.specs.Delays.{DelaysData}
pub use Rattle.ncl_demo.specs.Adder.{IsAdder, IsStage}
pub use Rattle.ncl_demo.specs.Offered.{demo_words}
pub use Rattle.ncl_faults.specs.Values.{val}
pub use Rattle.ncl_faults.specs.declared.variant.Variant.TheVariants.{Base}
pub use Rattle.ncl_gates.specs.Cell.{is_data_register}
pub use Rattle.ncl_insensitivity.proofs.Headline.{delay_insensitive}
pub use Rattle.ncl_lines.specs.VerdictText.{verdict_line}
pub use Rattle.ncl_machine.specs.Run.{AreWordsOf}
pub use Rattle.ncl_match.specs.Answer.{DiffersAt, HaveWidths, IsAnswer, bit_of, outputs_of}
pub use Rattle.ncl_match.specs.Circuit.{Circuit, circuit_of, closed, computed}
pub use Rattle.ncl_match.specs.Runs.{Agree}
pub use Rattle.ncl_match.specs.declared.answer.Compared.TheVariants.{Same}
pub use Rattle.ncl_merge.proofs.Keeping.{same-function}
pub use Rattle.ncl_merge.specs.Choice.{is_stage_cell}
pub use Rattle.ncl_merge.specs.Merged.{IsMergedStage, Keeps, Merged, standing}
pub use Rattle.ncl_netlist.specs.Netlist.{NetlistData}
pub use Rattle.ncl_netlist.specs.Parts.{netlist_of, part_of}
pub use Rattle.ncl_netlist.specs.declared.cell.Cell.{Cell}
pub use Rattle.ncl_netlist.specs.declared.ids.NetId.{NetId}
pub use Rattle.ncl_netlist.specs.declared.parts.PartCell.{PartCell}
pub use Rattle.ncl_network.specs.Size.{CanBeCompiled, IsSlim}
pub use Rattle.ncl_reader.proofs.GraphicNames.{graphic_more, graphic_word}
pub use Rattle.ncl_reply.proofs.Reading.{IsReadReply-alike, IsReadReply-each, IsReadReply-refused, IsReadReply-said}
pub use Rattle.ncl_reply.proofs.Refusals.{Replies-long}
pub use Rattle.ncl_reply.proofs.Statuses.{accepted_by_status, refused_by_status}
pub use Rattle.ncl_reply.specs.Devices.{CameOut, SinkState, SourceState, cut_short, whole}
pub use Rattle.ncl_reply.specs.Given.{ComesFrom}
pub use Rattle.ncl_reply.specs.Replies.{Gives, IsReadReply, Refuses, reading}
pub use Rattle.ncl_reply.specs.Status.{status_of}
pub use Rattle.ncl_reply.specs.declared.reply.Reply.TheVariants.{Fixed, Made}
pub use Rattle.ncl_reply.specs.declared.reply.Reply.{Reply}
pub use Rattle.ncl_report.proofs.NamedItems.{names_item}
pub use Rattle.ncl_report.specs.DemoText.{demo_lines}
pub use Rattle.ncl_shape.proofs.FaultLaws.{shape_is_unbroken}
pub use Rattle.ncl_shape.proofs.ShapeLaws.{shape_is_one}
pub use Rattle.ncl_shape.specs.Closure.{close, function_of}
pub use Rattle.ncl_shape.specs.Nets.{among}
pub use Rattle.ncl_shape.specs.Pipeline.{PipelineData}
pub use Rattle.ncl_shape.specs.SamePipeline.{IsSamePipeline, IsSameStage}
pub use Rattle.ncl_shape.specs.Shape.{IsShapeFault, Shape}
pub use Rattle.ncl_shape.specs.Stage.{StageData, named_rails}
pub use Rattle.ncl_shape.specs.declared.fault.ShapeFault.TheVariants.{Memory as ShapeMemory}
pub use Rattle.ncl_shape.specs.declared.fault.ShapeFault.{ShapeFault}
pub use Rattle.ncl_shape.specs.declared.rails.Rails.{Rails}
pub use Rattle.ncl_shape.specs.declared.stage.StageCell.{StageCell}
pub use Rattle.ncl_sim.proofs.Existence.{some_run}
pub use Rattle.ncl_sim.proofs.Quiet.{sound-delivers, sound-ends_quiet}
pub use Rattle.ncl_sim.specs.TimedRun.{DeliversAll, IsTimedRun, TraceData, words_due}
pub use Rattle.ncl_sim.specs.declared.trace.End.TheVariants.{Hazard, Over, Quiet}
pub use Rattle.ncl_sim.specs.declared.trace.End.{End}
pub use Rattle.ncl_sim_match.specs.Matching.{IsMatchReply, IsMatched, IsModelsMatched, differs, full, same, widths}
pub use Rattle.ncl_sim_match.specs.ModelsText.{AreModelsText, AreRefusedModels}
pub use Rattle.ncl_sim_match.specs.Simulating.{AreDelaysText, AreRefusedDelays, AreRefusedWords, AreWordsText, IsDelaysReply, IsRunReply, IsWordsReply, end_status, run_status, run_text}
pub use Rattle.ncl_token.specs.Bytes.{begins_word, continues_word, is_graphic}
pub use Rattle.ncl_top.specs.Answer.{AcceptsWhatWorks, Answer, AnswersExactly, AnswersUnlessFaults, CompilesWhatWorks, HaveOneFunction, IsFileReply, IsMergedText, IsReply, MatchesWhatIsSame, Ran, RefusesWhatIsWrong, Says, SimulatesWhatWorks, WorksAndIsAccepted, answered, arguments_determine_status, arguments_determine_text, determines_status, determines_text, no_memory, not_understood, read_failed, replied}
pub use Rattle.ncl_top.specs.Answered.{IsAnswered}
pub use Rattle.ncl_top.specs.Compiling.{IsCompiledFile, IsCompiledText, IsModelsReply, compiled, merged, plain, too_large}
pub use Rattle.ncl_top.specs.Demonstrating.{IsDemoNetlist, IsDemoPipeline, IsDemoReply, IsDemoRun, IsUnit, shown}
pub use Rattle.ncl_verdict.proofs.Accepting.{sound_verdict}
pub use Rattle.ncl_verdict.proofs.Sound.{judgement-sound}
pub use Rattle.ncl_writer.proofs.ReadsBack.{reads_again}
pub use Rattle.ncl_writer.specs.Names.{IsWritable, IsWritableName}
