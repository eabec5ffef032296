use Rattle.ncl_reach_top.proofs.Terms.{Err, None, Ok, OnOk, Result, ap, append_assoc, end_line, step_lines, sym, ◌++◌, ◌∙◌}
use Rattle.ncl_reach_top.proofs.replying.push_run.Goals as goal

on_ok : {A E P Q : Type 0} (r : Result A E) → (P → Q) → OnOk r P → OnOk r Q
on_ok (Ok x) f h = f h
on_ok (Err e) f h = tt

pub returns-in-None : goal.returns-in-None
returns-in-None c =
    let n = c.args.pipeline.now.netlist in
    let v = c.args.verdict.now in
    let text = c.args.text.now.items in
    let steps = c.args.run.now.steps in
    on_ok c.push_end.result (λ ends.
    ends
    ∙ ap (λ xs. xs ++ end_line n v None) (c.in_ok-push_steps.ensures ∙ ap (λ items. text ++ step_lines n 1 items) c.items.ensures)
    ∙ append_assoc text (step_lines n 1 steps) (end_line n v None)
    ∙ ap (λ o. text ++ (step_lines n 1 steps ++ end_line n v o)) (sym c.in-None.is))
    (c.push_end.ensures n)
