use Rattle.ncl_top.proofs.Terms.{AreWordsOf, DeliversAll, IsDemoReply, IsTimedRun, LIMIT, ap, demo_lines, judgement-sound, length, names_item, shown, subst, sym, ◌*◌, ◌∙◌}
use Rattle.ncl_top.proofs.Demonstrated.{all_of_width, demo_width, demo_run}
use Rattle.ncl_top.proofs.demonstrating.shown.Goals as goal

pub simulate-requires-clause-wide : goal.simulate-requires-clause-wide
simulate-requires-clause-wide c =
    let p = c.args.demo.now.pipeline in
    subst (AreWordsOf p) (sym c.deref.ensures.value)
    (all_of_width (2 * c.args.demo.now.bits) c.in_ok-words.words.items c.in_ok-words.ensures.wide (length p.inputs) (demo_width c.args.demo.now.bits p c.requires.pipeline c.requires.bits.0))

pub demo_text-requires : goal.demo_text-requires
demo_text-requires c = names_item c.args.demo.now.pipeline c.unit-delays.result c.deref.result.now c.in_ok-trace.trace c.in_ok-trace.ensures.run

pub returns : goal.returns
returns c =
    let p = c.args.demo.now.pipeline in
    let t = c.in_ok-trace.trace in
    let words = c.deref.ensures.value ∙ c.in_ok-words.ensures.words in
    let sound = judgement-sound LIMIT p.stages c.requires.accepted in
    let run = demo_run c.args.demo.now.bits p c.requires.pipeline t c.unit-delays.result c.unit-delays.ensures
    (subst (λ offered. IsTimedRun p c.unit-delays.result offered t) words c.in_ok-trace.ensures.run)
    (c.in_ok-trace.ensures.quiet sound)
    (subst (λ offered. DeliversAll p offered t) words (c.in_ok-trace.ensures.delivered sound)) in
    subst (IsDemoReply c.args.demo.now.bits 0) (sym (c.in_ok-text.ensures ∙ ap (demo_lines c.args.demo.now.bits p t) (c.deref-2.ensures.value ∙ c.in_ok-words.ensures.words)))
    (shown p c.requires.pipeline c.requires.accepted t run)
