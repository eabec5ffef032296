use Rattle.ncl_reach_top.proofs.Terms.{GoesWrongBy, IsPipelineReply, Refused, Some, ap, append-nil, line_on, no_entry, run_lines, shown, subst, sym, with_input, ◌++◌, ◌∙◌}
use Rattle.ncl_reach_top.proofs.Named.{names_run, names_shown}
use Rattle.ncl_reach_top.proofs.replying.shown.Goals.{in-Some+in_ok-push_run, in_default}
use Rattle.ncl_reach_top.proofs.replying.shown.Goals as goal

pub verdict_text-requires : goal.verdict_text-requires
verdict_text-requires c = names_shown c.args.pipeline.now c.facts.ensures c.args.wrong.now.input c.args.wrong.now.verdict c.requires.answers

pub push_run-requires : goal.push_run-requires
push_run-requires c =
    names_run c.args.pipeline.now c.args.wrong.now.input c.args.wrong.now.verdict c.in-Some.run' (subst (GoesWrongBy c.args.pipeline.now c.args.wrong.now.input c.args.wrong.now.verdict) c.in-Some.is c.requires.wrong)

pub returns : goal.returns
returns c =
    let p = c.args.pipeline.now in
    let input = c.args.wrong.now.input in
    let v = c.args.wrong.now.verdict in
    let first = c.in_ok-text.ensures ∙ ap (λ line. with_input line input) c.in_ok-line.ensures in
    subst (IsPipelineReply c.args.limit p Refused) (sym (elim c.match-wrong.branch [
      | in-Some+in_ok-push_run w ↦ ap (λ text. text.items) w.text-is ∙ w.in_ok-push_run.ensures ∙ ap (λ xs. xs ++ run_lines p.netlist v (Some w.in-Some.run')) first
          ∙ ap (λ o. with_input (line_on c.args.limit p v) input ++ run_lines p.netlist v o) (sym w.in-Some.is)
      | in_default w ↦ ap (λ text. text.items) w.text-is ∙ first ∙ sym (append-nil (with_input (line_on c.args.limit p v) input))
          ∙ ap (λ o. with_input (line_on c.args.limit p v) input ++ run_lines p.netlist v o) (sym (no_entry c.args.wrong.now.run w.in_default.not-Some))
    ]))
    (shown input v c.args.wrong.now.run c.requires.answers c.requires.wrong)
