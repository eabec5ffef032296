use Rattle.ncl_match.proofs.Terms.{AreNeeded, ap, length, subst, sym, ◌∙◌, ◌≡◌, take-written}
use Rattle.ncl_match.proofs.needed.needed_signals.Goals as goal

pub returns : goal.returns
returns c =
    let same : length c.mark_needed.new.marks ≡ length c.in_ok-marks.marks.items = c.mark_needed.auto.marks ∙ ap length c.deref_mut.ensures.value in
    subst (λ marks. AreNeeded c.args.inputs c.args.steps.now c.args.root marks 0) (sym (take-written c.in_ok-marks.marks.len c.mark_needed.new.marks c.in_ok-marks.marks.items c.in_ok-marks.marks.ok.0 same)) c.mark_needed.ensures
